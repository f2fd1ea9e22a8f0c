-- `splash::writing::put_card` meets its contract: the head, and one entry after the other.
use borrow.Author.Tests.{eq-eqb, ne_eqb}
use Rattle.form.specs.Writing.{with_entries}
use Rattle.splash.specs.Writing.{card_entries}
use Rattle.splash.proofs.writing.put_card.Goals as goal

pub returns-then-card-eq2 : goal.returns-then-card-eq2
unfolding with_entries card_entries
returns-then-card-eq2 c =
    rw (
      c.put_value-then-card-eq2.ensures,
      c.put_value-5.ensures,
      c.put_value-4.ensures,
      c.put_value-3.ensures,
      c.put_value-2.ensures,
      c.put_value.ensures,
      c.put_head.ensures,
      c.entry_count.ensures,
      eq-eqb _ _ c.if-card-eq2.true,
    )

pub returns-else-card-eq2 : goal.returns-else-card-eq2
unfolding with_entries card_entries
returns-else-card-eq2 c =
    rw (
      c.put_value-5.ensures,
      c.put_value-4.ensures,
      c.put_value-3.ensures,
      c.put_value-2.ensures,
      c.put_value.ensures,
      c.put_head.ensures,
      c.entry_count.ensures,
      ne_eqb _ _ c.if-card-eq2.false,
    )
