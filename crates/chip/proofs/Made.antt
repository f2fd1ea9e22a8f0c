-- An array that a closure makes place by place: it holds at each what a rule gives there, where each call does.
-- Assumes nothing.
use mathlib.Core.List.{List, [], ◌∷◌, ◌++◌, map}
use mathlib.Core.Path.{◌≡◌, refl, sym, ap, subst, ◌∙◌}
use Prim.Native.Nat.{ℕ, zero, suc, ◌+◌, ◌≤◌, ◌<◌}
use native.Mathlib.Nat.{zero-add, not-suc-le-zero}
use native.Mathlib.Numerals.{add-one}
use native.Mathlib.Omega.{arith}
use denote.Param.Members.{Mut, Called}
use lib.ListN.{length, get_or}
use Rattle.std.specs.Array.{IsFromFnResult, IsFromFnResultFrom}
use Rattle.std.specs.List.{range_with_len}
use Rattle.std.proofs.lemmas.List.FromFn.{map-range_with_len_more, fill_by_all}
use Rattle.chip.specs.Lists.{listed}

module _ {X : Type 0} (rule : ℕ → X) where
  listed_is : (n : ℕ) → listed n rule ≡ map rule (range_with_len 0 n)
  unfolding listed
  listed_is zero = refl
  listed_is (suc n) =
      ap (λ (front : List X). front ++ (rule n ∷ [])) (listed_is n)
      ∙ sym (map-range_with_len_more rule 0 n n (zero-add n))
      ∙ ap (λ (m : ℕ). map rule (range_with_len 0 m)) (add-one n)

  -- a list that holds at each place what the rule gives there
  pub by_place : (xs : List X) (n : ℕ) (d : X) → length xs ≡ n → ((k : ℕ) → k < n → get_or xs k d ≡ rule k) → xs ≡ listed n rule
  by_place xs n d long each = fill_by_all rule xs n d long each ∙ sym (listed_is n)

-- each call leaves the closure as it was, and gives what the rule gives
module _ {F X : Type 0} (g : Mut F (ℕ × Unit {0}) X) (f : F) (rule : ℕ → X) (size : ℕ) where
  abbrev pub Gives : Type 0
  Gives = (i : ℕ) (x : X) (f' : F) → i < size → Called g f (i, tt) x f' → (f' ≡ f) × (x ≡ rule i)

  at_each : (xs : List X) (d : X) → Gives → (n i k j : ℕ) → i + n ≤ size → i + k ≡ j → k < n → IsFromFnResultFrom g f xs i n
      → get_or xs j d ≡ rule j
  at_each xs d gives zero i k j within e h made = absurd (not-suc-le-zero h)
  at_each xs d gives (suc n) i zero j within e h made =
      let here : i ≡ j = omega arith in
      subst (λ (m : ℕ). get_or xs m d ≡ rule m) here (made.2.1 d ∙ (gives i made.1 made.0 (omega arith) made.3).1)
  at_each xs d gives (suc n) i (suc k) j within e h made =
      at_each xs d gives n (i + 1) k j (omega arith) (omega arith) (omega arith)
      (subst (λ (f' : F). IsFromFnResultFrom g f' xs (i + 1) n) (gives i made.1 made.0 (omega arith) made.3).0 made.4)

  pub made_by : (xs : List X) (d : X) → Gives → IsFromFnResult g f xs size → xs ≡ listed size rule
  made_by xs d gives made =
      by_place rule xs size d made.long (λ k h. at_each xs d gives size 0 k k (omega arith) (omega arith) h made.each)
