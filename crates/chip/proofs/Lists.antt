-- Lists by their places: what an array that is filled place by place holds, what stands at a place, and when two lists are the same.
-- Assumes nothing.
use mathlib.Core.Path.{◌≡◌, refl, sym, ap, ◌∙◌}
use mathlib.Core.Bool.{Bool, true, false}
use mathlib.Core.List.{List, [], ◌∷◌, ◌++◌}
use Prim.Native.Nat.{ℕ, zero, suc, ◌+◌, ◌<◌}
use native.Mathlib.Nat.{le_of_suc-le-suc, not-suc-le-zero, le_of_eq}
use native.Mathlib.Numerals.{add-one}
use native.Mathlib.Omega.{arith}
use borrow.Author.Tests.{eq-eqb, ne_eqb, eqb-true, eqb-false}
use lib.Dec.{eqb}
use lib.ListN.{get_or-append, length, get_or, take, drop, set, length-append, length-set}
use lib.Seq.{get_or-append_seam, take-suc-set, take_all, drop-cons, drop-length}
use Rattle.chip.specs.Lists.{listed, same}

-- what stands at a place of a list is the same whatever stands past it
pub get_or-in {ℓ} : {A : Type ℓ} (l : List A) (k : ℕ) (d e : A) → k < length l → get_or l k d ≡ get_or l k e
get_or-in [] k d e h = absurd (not-suc-le-zero h)
get_or-in (x ∷ l) zero d e h = refl
get_or-in (x ∷ l) (suc k) d e h = get_or-in l k d e (le_of_suc-le-suc h)

module _ {ℓ} {A : Type ℓ} (rule : ℕ → A) where
  pub length_listed : (n : ℕ) → length (listed n rule) ≡ n
  unfolding listed
  length_listed zero = refl
  length_listed (suc n) = length-append (listed n rule) (rule n ∷ []) ∙ ap (λ (m : ℕ). m + 1) (length_listed n) ∙ add-one n

  -- one place more is filled
  pub listed_more : (l : List A) (i : ℕ) → i < length l → take i l ≡ listed i rule → take (i + 1) (set l i (rule i)) ≡ listed (i + 1) rule
  unfolding listed
  listed_more l i h e = rw add-one (take-suc-set l i (rule i) h ∙ ap (λ (front : List A). front ++ (rule i ∷ [])) e)

  -- all places are filled
  pub listed_all : (n : ℕ) (l : List A) → length l ≡ n → take n l ≡ listed n rule → l ≡ listed n rule
  listed_all n l h e = sym (take_all n l (le_of_eq h)) ∙ e

  -- what stands at a place that is filled
  pub listed_at : (n k : ℕ) (d : A) → k < n → get_or (listed n rule) k d ≡ rule k
  unfolding listed
  listed_at zero k d h = absurd (not-suc-le-zero h)
  listed_at (suc n) k d h = go (eqb k n) refl (listed_at n k d)
    where
      go : (t : Bool) → eqb k n ≡ t → (k < n → get_or (listed n rule) k d ≡ rule k) → get_or (listed n rule ++ (rule n ∷ [])) k d ≡ rule k
      go true same below =
          let last : k ≡ length (listed n rule) = eqb-true k n same ∙ sym (length_listed n) in
          ap (λ (at : ℕ). get_or (listed n rule ++ (rule n ∷ [])) at d) last ∙ get_or-append_seam (listed n rule) (rule n) [] d
          ∙ ap rule (sym (eqb-true k n same))
      go false other below =
          let before : k < n = omega (arith, eqb-false k n other) in
          get_or-append (listed n rule) (rule n ∷ []) d k (rw (length_listed n) before) ∙ below before

-- an array whose places below some are filled by a rule
abbrev pub Filled {ℓ} : {A : Type ℓ} → ℕ → (ℕ → A) → ℕ → List A → Type ℓ
Filled size rule places l = (length l ≡ size) × (take places l ≡ listed places rule)

module _ {ℓ} {A : Type ℓ} (size : ℕ) (rule : ℕ → A) (l : List A) where
  pub filled_more : (i : ℕ) (value : A) → i < size → value ≡ rule i → Filled size rule i l → Filled size rule (i + 1) (set l i value)
  filled_more i value h e filled =
      rw e (length-set l i (rule i) ∙ filled.0, listed_more rule l i (rw filled.0 h) filled.1)

  pub filled_all : (i : ℕ) → i ≡ size → Filled size rule i l → l ≡ listed size rule
  filled_all i all filled = listed_all rule size l filled.0 (rw all at filled.1)

-- the words compared one after the other
pub same_next : (a b : List ℕ) (i : ℕ) → i < length a → i < length b → get_or a i 0 ≡ get_or b i 0
    → same (drop i a) (drop i b) ≡ same (drop (i + 1) a) (drop (i + 1) b)
unfolding same
same_next a b i ha hb e =
    rw (add-one, drop-cons a i 0 ha, drop-cons b i 0 hb, eq-eqb (get_or a i 0) (get_or b i 0) e)

pub same_not : (a b : List ℕ) (i : ℕ) → i < length a → i < length b → (get_or a i 0 ≡ get_or b i 0 → ⊥)
    → same (drop i a) (drop i b) ≡ false
unfolding same
same_not a b i ha hb e = rw (drop-cons a i 0 ha, drop-cons b i 0 hb, ne_eqb (get_or a i 0) (get_or b i 0) e)

pub same_end : (a b : List ℕ) → same (drop (length a) a) (drop (length b) b) ≡ true
unfolding same
same_end a b = rw (drop-length a, drop-length b)
