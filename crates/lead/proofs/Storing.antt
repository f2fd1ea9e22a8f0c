-- A chunk's bytes stored over a part of the area, as bytes that are put one after the other.
-- Assumes nothing.
use mathlib.Core.Path.{◌≡◌, refl, sym, ap, ◌∙◌}
use mathlib.Core.List.{List, [], ◌∷◌}
use Prim.Native.Nat.{ℕ, zero, suc, ◌+◌, ◌≤◌, ◌<◌, min}
use native.Mathlib.Omega.{arith}
use lib.ListN.{length, length-take, get_or, take, set}
use lib.Seq.{length-take-le, take-suc, take_all, paste, paste-zero, paste-suc}
use borrow.Rule.Slice.PartMut.{put_mid}
use Rattle.std.proofs.lemmas.Slice.{put_mid-paste}
use Rattle.form.specs.Writing.{with_bytes}
use Rattle.form.proofs.Putting.{then_bytes}

module _ (area : List ℕ) (at : ℕ) (bytes : List ℕ) where
  -- one byte more
  pub one_more : (i : ℕ) → i < length bytes → set (with_bytes area at (take i bytes)) (at + i) (get_or bytes i 0) ≡ with_bytes area at (take (suc i) bytes)
  unfolding with_bytes
  one_more i h =
      rw (take-suc bytes i 0 h, then_bytes area at (take i bytes) (get_or bytes i 0 ∷ []), length-take-le i bytes (omega arith))

  pasted : (n : ℕ) → n ≤ length bytes → at + n ≤ length area → paste area at bytes n ≡ with_bytes area at (take n bytes)
  unfolding with_bytes
  pasted zero few room = sym (paste-zero area at bytes)
  pasted (suc n) few room =
      sym (paste-suc area at bytes n 0 (omega arith) (omega arith))
      ∙ ap (λ (area : List ℕ). set area (at + n) (get_or bytes n 0)) (pasted n (omega arith) (omega arith)) ∙ one_more n (omega arith)

  -- all of them
  pub all_put : (size : ℕ) → size ≡ length bytes → at + length bytes ≤ length area → (new : List ℕ) → new ≡ bytes
      → put_mid at size area new ≡ with_bytes area at bytes
  all_put size is room new e =
      put_mid-paste at size area new bytes (length bytes) e (sym is) refl ∙ pasted (length bytes) (omega arith) room
      ∙ ap (with_bytes area at) (take_all (length bytes) bytes (omega arith))

-- as many bytes as a front has are that front
pub front_again : (n : ℕ) (l : List ℕ) → take (length (take n l)) l ≡ take n l
front_again zero l = refl
front_again (suc n) [] = refl
front_again (suc n) (byte ∷ l) = ap (λ (front : List ℕ). byte ∷ front) (front_again n l)

-- those of a chunk that fit
pub fitting : (room : ℕ) (chunk : List ℕ) → take (min (length chunk) room) chunk ≡ take room chunk
fitting room chunk =
    let few : min (length chunk) room ≡ length (take room chunk) = omega (arith, length-take room chunk) in
    ap (λ (n : ℕ). take n chunk) few ∙ front_again room chunk
