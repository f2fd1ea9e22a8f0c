-- A worn flag bit of a plain key row changes no latched key.
-- Assumes nothing.
use mathlib.Core.Bool.{Bool, true, false}
use mathlib.Core.Path.{◌≡◌, refl, sym, ap, ◌∙◌}
use Prim.Native.Nat.{ℕ}
use native.Mathlib.Omega.{arith}
use borrow.Author.Tests.{eqb-true, eqb-false}
use lib.Dec.{eqb}
use lib.ListN.{set}
use lib.Seq.{get_or-set_same, get_or-set_other}
use Rattle.decode.specs.Reading.{flipped_at, decoded}
use Rattle.answer.specs.declared.answers.Answer.{Answer}
use Rattle.chip.specs.Slices.{row_at}
use Rattle.laws.specs.Conditions.{ReadAlike, WornKeyLatches}
use Rattle.laws.specs.Reads.{looked}
use Rattle.laws.proofs.Conditions.{old_read_stays}
use Rattle.laws.proofs.Latches.{keys_by_reading}
use Rattle.laws.proofs.Flags.{looked_plain, looked_worn}

-- rows of which the same bits are looked at read alike
looked_alike : (a b : ℕ) → looked a ≡ looked b → ReadAlike a b
looked_alike a b e =
    let same = old_read_stays a ∙ ap decoded e ∙ sym (old_read_stays b) in
    (ap (λ (old : Answer). old.number) same, ap (λ (old : Answer). old.value) same)

pub worn_key_latches : WornKeyLatches
worn_key_latches rows row flag long low high small above below =
    keys_by_reading rows (set rows row worn) (λ k from. alike k (eqb k row) refl) (λ k from. other k (λ e. omega arith))
  where
    worn : ℕ
    worn = flipped_at flag (row_at rows row)

    other : (k : ℕ) → (k ≡ row → ⊥) → row_at (set rows row worn) k ≡ row_at rows k
    other k different = get_or-set_other rows row k worn 0 different

    alike : (k : ℕ) (t : Bool) → eqb k row ≡ t → ReadAlike (row_at (set rows row worn) k) (row_at rows k)
    alike k true e =
        rw (eqb-true k row e, get_or-set_same rows row worn 0 (omega arith))
        (looked_alike worn (row_at rows row) (looked_worn (row_at rows row) flag small above below ∙ sym (looked_plain (row_at rows row) small)))
    alike k false e = rw (other k (eqb-false k row e)) (refl, refl)
