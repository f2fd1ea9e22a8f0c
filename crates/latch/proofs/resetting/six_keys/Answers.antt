-- `latch::resetting::six_keys` meets its contract: each key is the one that the rows hold.
-- Assumes nothing.
use borrow.Author.Rules.{rules}
use Prim.Native.Nat.{◌+◌}
use Rattle.chip.specs.States.{zero_key}
use Rattle.chip.proofs.Made.{made_by}
use Rattle.latch.specs.Resetting.{latched_key}
use Rattle.latch.proofs.resetting.six_keys.Goals as goal

pub returns : goal.returns
returns c =
    made_by _ _ (λ i. latched_key c.args.rows.now (i + 1)) 6 c.from_fn.result zero_key (λ i x f' h k. (search rules, search rules)) c.from_fn.ensures.items
