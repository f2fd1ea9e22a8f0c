-- `latch::resetting::tallies_of` meets its contract: each tally is the set bits of its page's rows.
-- Assumes nothing.
use borrow.Author.Rules.{rules}
use Rattle.chip.specs.Tallies.{page_rows, bits_of, tallies_of}
use Rattle.chip.proofs.Made.{made_by}
use Rattle.latch.proofs.resetting.tallies_of.Goals as goal

pub returns : goal.returns
unfolding tallies_of
returns c =
    made_by _ _ (λ page. bits_of (page_rows c.args.rows.now page)) 64 c.from_fn.result 0 (λ i x f' h k. (search rules, search rules)) c.from_fn.ensures.items
