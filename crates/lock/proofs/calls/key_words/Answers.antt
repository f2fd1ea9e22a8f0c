-- `lock::calls::key_words`: each word is that of its two bytes.
use Rattle.std.proofs.Common.{◌+◌, ◌*◌, rules, get_or}
use Rattle.chip.proofs.Made.{made_by}
use Rattle.lock.proofs.calls.key_words.Goals as goal

pub returns : goal.returns
returns c =
    let key = c.args.key.now in
    made_by _ _ (λ i. get_or key (2 * i) 0 + 256 * get_or key (2 * i + 1) 0) 8 c.from_fn.result 0
    (λ i x f' h k. (search rules, search rules)) c.from_fn.ensures.items
