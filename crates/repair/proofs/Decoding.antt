-- A row decodes, or is refused with 8: the one test of the definition, and the one of the code.
-- Assumes nothing.
use Prim.Native.Nat.{ℕ}
use mathlib.Core.Bool.{true, false}
use mathlib.Core.Logic.{◌⊎◌, inl, inr}
use mathlib.Core.Path.{◌≡◌}
use Rattle.answer.specs.Answers.{refused}
use Rattle.decode.specs.Reading.{read_row, undecodable}
use Rattle.decode.proofs.Undecoded.{read_or_8}

pub not_decoded : (row : ℕ) → ((read_row row).number ≡ 0 → ⊥) → undecodable row ≡ true
not_decoded row some = go (read_or_8 row)
  where
    go : ((read_row row).number ≡ 0) ⊎ (read_row row ≡ refused 8) → undecodable row ≡ true
    go (inl none) = absurd (some none)
    go (inr eight) = rw eight

pub decodes : (row : ℕ) → (read_row row).number ≡ 0 → undecodable row ≡ false
decodes row none = rw none
