-- Lists by their places: what the definitions of the chip are written with.
use Rattle.std.specs.Prelude.{ℕ, zero, suc, Bool, true, false, ◌&&◌, List, [], ◌∷◌, ◌++◌, eqb}

-- what a rule gives at 0, at 1 and so on, for the places below a number
unfoldable pub listed {ℓ} : {A : Type ℓ} → ℕ → (ℕ → A) → List A
listed zero rule = []
listed (suc place) rule = listed place rule ++ (rule place ∷ [])

-- two lists of numbers are the same
unfoldable pub same : List ℕ → List ℕ → Bool
same [] [] = true
same [] (b ∷ bs) = false
same (a ∷ firsts) [] = false
same (a ∷ firsts) (b ∷ bs) = eqb a b && same firsts bs
