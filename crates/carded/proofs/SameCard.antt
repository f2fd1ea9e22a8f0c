-- Reads that say the same of the card's rows say the same card: two slices that agree on them, two chips that a plug-in may not tell apart, and a
-- card that has worn.
-- Assumes nothing.
use mathlib.Core.Bool.{Bool, true, false}
use mathlib.Core.List.{List, [], ◌∷◌}
use mathlib.Core.Logic.{◌⊎◌, inl, inr}
use mathlib.Core.Path.{◌≡◌, refl, sym, ap, subst}
use Prim.Native.Nat.{ℕ, ◌≤◌}
use native.Mathlib.Omega.{arith}
use borrow.Author.Tests.{eqb-true}
use lib.Dec.{eqb}
use lib.ListN.{length}
use Rattle.answer.specs.Answers.{done}
use Rattle.std.specs.Prelude.{if◌then◌else◌}
use Rattle.answer.specs.declared.answers.Answer.{Answer}
use Rattle.chip.specs.Slices.{row_at}
use Rattle.chip.specs.declared.state.State.{State}
use Rattle.access.specs.Judging.{row_rungs, call_rungs}
use Rattle.access.specs.Reads.{read_ecc}
use Rattle.splash.specs.Reading.{line_row, line_read, card_rungs, read_as, read_card}
use Rattle.laws.specs.Calls.{Chip, Call, an_ecc_read, perform, perform_all, answers_of}
use Rattle.merging.specs.Settings.{◌among◌}
use Rattle.plugins.specs.Plugins.{Agree, ByNonsecure}
use Rattle.plugins.proofs.Plugins.{nothing_learnt}
use Rattle.carded.specs.Looking.{OnlyCardRows, CardNothingLearnt}
use Rattle.carded.proofs.Saying.{answered_by}

-- two reads with the same number and the same value
abbrev pub Alike : Answer → Answer → Type 0
Alike a b = (a.number ≡ b.number) × (a.value ≡ b.value)

module _ (read other : ℕ → Answer) (five : (row : ℕ) → 0x0c0 ≤ row → row ≤ 0x0c4 → Alike (read row) (other row))
    (sixth : (read 0x0c2).value ≡ 2 → Alike (read 0x0c5) (other 0x0c5)) where
  line : Alike (line_read read) (line_read other)
  line = subst (λ (v : ℕ). Alike (line_read read) (other (line_row v))) (five 0x0c2 (omega arith) (omega arith)).1 (go (eqb (read 0x0c2).value 2) refl)
    where
      go : (t : Bool) → eqb (read 0x0c2).value 2 ≡ t → Alike (read (if t then 0x0c5 else 0x0c3)) (other (if t then 0x0c5 else 0x0c3))
      go true two = sixth (eqb-true (read 0x0c2).value 2 two)
      go false one = five 0x0c3 (omega arith) (omega arith)

  pub alike : answered_by read ≡ answered_by other
  unfolding card_rungs
  alike =
      let one = five 0x0c0 (omega arith) (omega arith) in
      let two = five 0x0c1 (omega arith) (omega arith) in
      let three = five 0x0c2 (omega arith) (omega arith) in
      let four = five 0x0c3 (omega arith) (omega arith) in
      let last = five 0x0c4 (omega arith) (omega arith) in
      rw (line.0, line.1, one.0, one.1, two.0, two.1, three.0, three.1, four.0, four.1, last.0, last.1)

-- ---- the same rows

same_row : (rows other : List ℕ) (state : State) (row : ℕ) → length rows ≡ length other → row_at rows row ≡ row_at other row
    → read_as rows state row ≡ read_as other state row
unfolding read_ecc call_rungs row_rungs
same_row rows other state row long same = rw (long, same)

both : {a b : Answer} → a ≡ b → Alike a b
both e = (ap (λ (a : Answer). a.number) e, ap (λ (a : Answer). a.value) e)

pub only_card_rows : OnlyCardRows
unfolding read_card
only_card_rows rows other state long same =
    alike (read_as rows state) (read_as other state) (λ row low high. both (same_row rows other state row long (same.0 row low high)))
    (λ two. both (same_row rows other state 0x0c5 long (same.1 two)))

-- ---- the same to a plug-in

-- the answer to the only call
only_one : List Answer → Answer
only_one [] = done
only_one (answer ∷ others) = answer

-- one ECC read as Non-secure
read_alike : (a b : Chip) → Agree a b → (row : ℕ) → read_as a.rows a.state row ≡ read_as b.rows b.state row
unfolding answers_of perform only_one ◌among◌
read_alike a b agree row = ap only_one (nothing_learnt a b (an_ecc_read 1 row ∷ []) by agree).0
  where
    by : (call : Call) → (call ≡ an_ecc_read 1 row) ⊎ ⊥ → ByNonsecure call
    by call (inl is) = subst ByNonsecure (sym is) ByNonsecure.ecc_read
    by call (inr never) = absurd never

pub card_nothing_learnt : CardNothingLearnt
unfolding read_card
card_nothing_learnt a b calls by agree =
    let after = (nothing_learnt a b calls by agree).1 in
    let same = read_alike (perform_all a calls) (perform_all b calls) after in
    alike _ _ (λ row low high. both (same row)) (λ two. both (same 0x0c5))
