-- Whether all rows of a key decode, looked at one after the other.
-- Assumes nothing.
use mathlib.Core.Path.{◌≡◌, refl, ap₂, ◌∙◌}
use mathlib.Core.Bool.{Bool, true, false, ◌&&◌}
use mathlib.Core.List.{List, [], ◌∷◌}
use Prim.Native.Nat.{ℕ, zero, suc, ◌+◌}
use lib.Dec.{eqb}
use Rattle.std.specs.List.{list_all}
use Rattle.std.proofs.lemmas.List.Folds.{list_all-append}
use Rattle.answer.specs.declared.answers.Answer.{Answer}
use Rattle.decode.specs.Reading.{read_row}
use Rattle.chip.specs.Lists.{listed}
use Rattle.chip.specs.Slices.{row_at}
use Rattle.latch.specs.Resetting.{all_decode}

-- a read is no refusal
abbrev pub read : Answer → Bool
read answer = eqb answer.number 0

and_true : (t : Bool) → (t && true) ≡ t
and_true true = refl
and_true false = refl

-- all of the answers of some rows are reads exactly if all the rows decode
pub all_decoded : (rows : List ℕ) (first n : ℕ) → list_all read (listed n (λ i. read_row (row_at rows (first + i)))) ≡ all_decode rows first n
unfolding listed all_decode
all_decoded rows first zero = refl
all_decoded rows first (suc n) =
    list_all-append read (listed n (λ i. read_row (row_at rows (first + i)))) (read_row (row_at rows (first + n)) ∷ [])
    ∙ ap₂ ◌&&◌ (all_decoded rows first n) (and_true (read (read_row (row_at rows (first + n)))))
