-- Bytes put into a job: two runs of bytes are one, what then stands at a place, and what stays as it was.
-- Assumes nothing.
use mathlib.Core.Path.{◌≡◌, refl, ap, ◌∙◌}
use mathlib.Core.List.{List, [], ◌∷◌, ◌++◌}
use Prim.Native.Nat.{ℕ, zero, suc, ◌+◌, ◌*◌, ◌/◌, ◌%◌, ◌≤◌, ◌<◌}
use native.Mathlib.Nat.{add-zero, not-suc-le-zero, le_of_suc-le-suc}
use native.Mathlib.Omega.{arith}
use lib.ListN.{length, get_or, take, set, length-set}
use lib.Seq.{get_or-set_same, get_or-set_other}
use Rattle.form.specs.Entries.{byte_at}
use Rattle.form.specs.Writing.{two_bytes, three_bytes, with_bytes, with_head, with_entry}
use Rattle.form.specs.declared.entries.Entry.{Entry}

-- some bytes, and then others
pub then_bytes : (job : List ℕ) (at : ℕ) (first others : List ℕ)
    → with_bytes job at (first ++ others) ≡ with_bytes (with_bytes job at first) (at + length first) others
unfolding with_bytes
then_bytes job at [] others = rw add-zero
then_bytes job at (byte ∷ first) others =
    let more : at + 1 + length first ≡ at + suc (length first) = omega arith in
    then_bytes (set job at byte) (at + 1) first others ∙ ap (λ (n : ℕ). with_bytes (with_bytes (set job at byte) (at + 1) first) n others) more

-- ---- numbers, a head and an entry: part after part, as the code puts them

module _ (job : List ℕ) where
  pub two_parts : (at number : ℕ) → with_bytes job at (two_bytes number) ≡ set (set job at (number % 256)) (at + 1) (number / 256 % 256)
  unfolding with_bytes
  two_parts at number = refl

  pub three_parts : (at number : ℕ) → with_bytes job at (three_bytes number) ≡ set (with_bytes job at (two_bytes number)) (at + 2) (number / 65536 % 256)
  unfolding with_bytes
  three_parts at number = then_bytes job at (two_bytes number) (number / 65536 % 256 ∷ [])

  pub head_parts : (version count : ℕ)
      → with_head job version count
      ≡ with_bytes (with_bytes (set (set (set job 0 0x4f) 1 0x54) 2 0x4a) 3 (two_bytes version)) 5 (two_bytes count)
  unfolding with_bytes
  head_parts version count = refl

  pub entry_parts : (i : ℕ) (entry : Entry)
      → with_entry job i entry
      ≡ with_bytes (set (with_bytes job (7 + 6 * i) (two_bytes entry.row)) (7 + 6 * i + 2) (entry.kind % 256)) (7 + 6 * i + 3) (three_bytes entry.value)
  unfolding with_bytes
  entry_parts i entry =
      let at = 7 + 6 * i in
      let third : at + 2 + 1 ≡ at + 3 = omega arith in
      then_bytes job at (two_bytes entry.row) (entry.kind % 256 ∷ three_bytes entry.value)
      ∙ ap (λ (n : ℕ). with_bytes (set (with_bytes job at (two_bytes entry.row)) (at + 2) (entry.kind % 256)) n (three_bytes entry.value)) third

-- ---- what stands at a place, and what stays

-- a job is as long as it was
pub length_stays : (job : List ℕ) (at : ℕ) (bytes : List ℕ) → length (with_bytes job at bytes) ≡ length job
unfolding with_bytes
length_stays job at [] = refl
length_stays job at (byte ∷ others) = length_stays (set job at byte) (at + 1) others ∙ length-set job at byte

-- the bytes before those that are put stay
pub before_stays : (job : List ℕ) (at : ℕ) (bytes : List ℕ) (place : ℕ) → place < at → byte_at (with_bytes job at bytes) place ≡ byte_at job place
unfolding with_bytes
before_stays job at [] place h = refl
before_stays job at (byte ∷ others) place h =
    before_stays (set job at byte) (at + 1) others place (omega arith) ∙ get_or-set_other job at place byte 0 (λ e. omega arith)

-- and the bytes after them
pub after_stays : (job : List ℕ) (at : ℕ) (bytes : List ℕ) (place : ℕ) → at + length bytes ≤ place
    → byte_at (with_bytes job at bytes) place ≡ byte_at job place
unfolding with_bytes
after_stays job at [] place h = refl
after_stays job at (byte ∷ others) place h =
    after_stays (set job at byte) (at + 1) others place (omega arith) ∙ get_or-set_other job at place byte 0 (λ e. omega arith)

-- each byte that is put stands at its place
pub put_stands : (job : List ℕ) (at : ℕ) (bytes : List ℕ) (k : ℕ) (place : ℕ) → place ≡ at + k → k < length bytes → at + length bytes ≤ length job
    → byte_at (with_bytes job at bytes) place ≡ get_or bytes k 0
unfolding with_bytes
put_stands job at [] k place e h room = absurd (not-suc-le-zero h)
put_stands job at (byte ∷ others) zero place e h room =
    let first : place ≡ at = omega arith in
    rw first (before_stays (set job at byte) (at + 1) others at (omega arith) ∙ get_or-set_same job at byte 0 (omega arith))
put_stands job at (byte ∷ others) (suc k) place e h room =
    put_stands (set job at byte) (at + 1) others k place (omega arith) (le_of_suc-le-suc h) (omega (arith, length-set job at byte))

-- ---- the front of a slice

set_front : (n : ℕ) (job : List ℕ) (at byte : ℕ) → take n (set job at byte) ≡ set (take n job) at byte
set_front zero job at byte = refl
set_front (suc n) [] at byte = refl
set_front (suc n) (first ∷ job) zero byte = refl
set_front (suc n) (first ∷ job) (suc at) byte = ap (λ (l : List ℕ). first ∷ l) (set_front n job at byte)

-- in the front of a longer slice bytes are put as into a job of that length
pub bytes_front : (n : ℕ) (job : List ℕ) (at : ℕ) (bytes : List ℕ) → take n (with_bytes job at bytes) ≡ with_bytes (take n job) at bytes
unfolding with_bytes
bytes_front n job at [] = refl
bytes_front n job at (byte ∷ others) =
    bytes_front n (set job at byte) (at + 1) others ∙ ap (λ (front : List ℕ). with_bytes front (at + 1) others) (set_front n job at byte)
