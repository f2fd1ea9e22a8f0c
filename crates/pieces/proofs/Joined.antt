-- Chunks one after the other: what is kept after them follows any file in which their bytes stand.
-- Assumes nothing.
use mathlib.Core.Path.{◌≡◌, refl, sym, ap, subst, ◌∙◌}
use mathlib.Core.List.{List, [], ◌∷◌, ◌++◌, append_assoc}
use Prim.Native.Nat.{ℕ, ◌+◌, ◌≤◌, ◌<◌}
use native.Mathlib.Omega.{arith}
use lib.ListN.{length, length-append, get_or-append}
use lib.Seq.{get_or-append-add}
use Rattle.form.specs.Entries.{byte_at}
use Rattle.pieces.specs.Pieces.{Kept, begin, after, after_all, joined}
use Rattle.pieces.proofs.Following.{Follows, Stands, at_first, follow}

-- the joined bytes of some chunks and then of others
pub then_joined : (first others : List (List ℕ)) → joined (first ++ others) ≡ joined first ++ joined others
unfolding joined
then_joined [] others = refl
then_joined (chunk ∷ first) others = ap (λ (l : List ℕ). chunk ++ l) (then_joined first others) ∙ sym (append_assoc chunk (joined first) (joined others))

pub stands_itself : (l : List ℕ) → Stands l l 0
stands_itself l i h = ap (byte_at l) (omega arith)

-- what stands first in a file, and what stands behind it
pub stands_first : (first others : List ℕ) → Stands first (first ++ others) 0
stands_first first others i h = sym (get_or-append first others 0 i h) ∙ ap (byte_at (first ++ others)) (omega arith)

module _ (chunk : List ℕ) (others file : List ℕ) (n : ℕ) (stands : Stands (chunk ++ others) file n) where
  pub front_stands : Stands chunk file n
  front_stands i h = sym (get_or-append chunk others 0 i h) ∙ stands i (rw (length-append chunk others) (omega arith))

  pub rest_stands : Stands others file (n + length chunk)
  rest_stands i h =
      let there : length chunk + i < length (chunk ++ others) = rw (length-append chunk others) (omega arith) in
      let same : n + (length chunk + i) ≡ n + length chunk + i = omega arith in
      sym (get_or-append-add chunk others i 0) ∙ stands (length chunk + i) there ∙ ap (byte_at file) same

-- every chunk taken, its bytes have come
pub follow_all : (chunks : List (List ℕ)) (file : List ℕ) (n : ℕ) (kept : Kept) → Follows file n kept → Stands (joined chunks) file n
    → Follows file (n + length (joined chunks)) (after_all kept chunks)
unfolding joined after_all
follow_all [] file n kept follows stands = subst (λ (m : ℕ). Follows file m kept) (omega arith) follows
follow_all (chunk ∷ others) file n kept follows stands =
    let next = follow file n kept chunk follows (front_stands chunk (joined others) file n stands) in
    let same : n + length chunk + length (joined others) ≡ n + length (chunk ++ joined others) = rw (length-append chunk (joined others)) (omega arith) in
    subst (λ (m : ℕ). Follows file m (after_all (after kept chunk) others)) same
    (follow_all others file (n + length chunk) (after kept chunk) next (rest_stands chunk (joined others) file n stands))

-- from a fresh note
pub follow_from_fresh : (area file : List ℕ) (chunks : List (List ℕ)) → 3079 ≤ length area → Stands (joined chunks) file 0
    → Follows file (length (joined chunks)) (after_all (begin area) chunks)
follow_from_fresh area file chunks room stands =
    subst (λ (m : ℕ). Follows file m (after_all (begin area) chunks)) (omega arith)
    (follow_all chunks file 0 (begin area) (at_first file area room) stands)

-- a chunk among others: what came before it, and its own bytes, stand in the file
module _ (before later : List (List ℕ)) (chunk : List ℕ) where
  abbrev file : List ℕ
  file = joined (before ++ chunk ∷ later)

  split : file ≡ joined before ++ (chunk ++ joined later)
  unfolding joined
  split = then_joined before (chunk ∷ later)

  pub before_stands : Stands (joined before) file 0
  before_stands = subst (λ (l : List ℕ). Stands (joined before) l 0) (sym split) (stands_first (joined before) (chunk ++ joined later))

  pub chunk_stands : Stands chunk file (length (joined before))
  chunk_stands =
      let all = subst (λ (l : List ℕ). Stands (joined before ++ (chunk ++ joined later)) l 0) (sym split) (stands_itself (joined before ++ (chunk ++ joined later))) in
      front_stands chunk (joined later) file (length (joined before))
      (subst (Stands (chunk ++ joined later) file) (omega arith) (rest_stands (joined before) (chunk ++ joined later) file 0 all))

  pub chunk_within : length (joined before) + length chunk ≤ length file
  chunk_within =
      omega (
        arith,
        ap (λ (l : List ℕ). length l) split,
        length-append (joined before) (chunk ++ joined later),
        length-append chunk (joined later),
      )

  -- what is kept when this chunk comes
  pub chunk_follows : (area : List ℕ) → 3079 ≤ length area → Follows file (length (joined before)) (after_all (begin area) before)
  chunk_follows area room = follow_from_fresh area file before room before_stands
