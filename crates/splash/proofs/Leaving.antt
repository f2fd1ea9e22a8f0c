-- What the writing of a card leaves, once its number is known.
-- Assumes nothing.
use mathlib.Core.List.{List}
use mathlib.Core.Path.{◌≡◌}
use Prim.Native.Nat.{ℕ}
use borrow.Author.Tests.{eq-eqb, ne_eqb}
use lib.ListN.{length}
use Rattle.answer.specs.Answers.{refused, told}
use Rattle.form.specs.Writing.{with_job}
use Rattle.splash.specs.Writing.{card_entries, card_bytes, write_number, written_as}
use Rattle.splash.specs.declared.cards.Card.{Card}

module _ (area : List ℕ) (card : Card) where
  pub write_refused : (number : ℕ) → number ≡ write_number card (length area) → (number ≡ 0 → ⊥) → written_as area card ≡ record { answer = refused number; area = area }
  write_refused number e h = rw (← e, ne_eqb number 0 h)

  pub write_done : write_number card (length area) ≡ 0 → written_as area card ≡ record { answer = told (card_bytes card); area = with_job area 1 (card_entries card) }
  write_done e = rw (eq-eqb (write_number card (length area)) 0 e)
