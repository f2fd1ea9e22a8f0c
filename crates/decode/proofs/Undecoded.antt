-- What a read of a row itself refuses: 8, as the rung of the call says it.
-- Assumes nothing.
use mathlib.Core.List.{[], ◌∷◌}
use mathlib.Core.Logic.{◌⊎◌, inl, inr}
use mathlib.Core.Path.{◌≡◌, refl}
use Prim.Native.Nat.{ℕ, zero, suc, ◌%◌, ◌^◌}
use Rattle.answer.specs.Answers.{refused}
use Rattle.decode.specs.Reading.{is_code, flipped_at, repaired_below, decoded, upright, said_of, read_row, undecodable}
use Rattle.answer.specs.Rungs.{◌when◌, first_of}
use Rattle.answer.specs.declared.answers.Answer.{Answer}
use Rattle.answer.proofs.Choices.{both_ways}

abbrev Settled : Answer → Type 0
Settled answer = (answer.number ≡ 0) ⊎ (answer ≡ refused 8)

settled_below : (places bits : ℕ) → Settled (repaired_below places bits)
unfolding repaired_below
settled_below zero bits = inr refl
settled_below (suc place) bits = both_ways Settled (is_code (flipped_at place bits)) _ _ (inl refl) (settled_below place bits)

settled : (bits : ℕ) → Settled (decoded bits)
unfolding decoded
settled bits = both_ways Settled (is_code bits) _ _ (inl refl) (settled_below 22 bits)

-- a row is read, or refused with 8
pub read_or_8 : (row : ℕ) → Settled (read_row row)
read_or_8 row = go (settled (upright row % 2 ^ 22))
  where
    go : {held : Answer} → Settled held → Settled (said_of row held)
    go (inl done) = inl (rw done)
    go (inr eight) = inr (rw eight)

-- 8 is given exactly where no value has a code within one bit
pub eight : (row : ℕ) → (read_row row).number ≡ first_of (8 when undecodable row ∷ [])
eight row = go (read_or_8 row)
  where
    go : ((read_row row).number ≡ 0) ⊎ (read_row row ≡ refused 8) → (read_row row).number ≡ first_of (8 when undecodable row ∷ [])
    go (inl e) = rw e
    go (inr e) = rw e
