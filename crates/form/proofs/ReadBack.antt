-- What was put into a job is what is read of it, and all else stays as it was.
-- Assumes nothing.
use mathlib.Core.Path.{◌≡◌, refl}
use mathlib.Core.Bool.{Bool, true, false}
use mathlib.Core.List.{List}
use mathlib.Core.Logic.{◌⊎◌, inl, inr}
use Prim.Native.Nat.{ℕ, ◌+◌, ◌*◌, ◌≤◌, ◌<◌}
use native.Mathlib.Omega.{arith}
use borrow.Author.Tests.{ltb-true, ltb-false}
use lib.Dec.{ltb}
use lib.ListN.{length}
use Rattle.form.specs.Entries.{byte_at, two_at, three_at, version_of, count_of, entry_at}
use Rattle.form.specs.Faults.{marked}
use Rattle.form.specs.Writing.{head_bytes, entry_bytes, with_head, with_entry}
use Rattle.form.specs.declared.entries.Entry.{Entry}
use Rattle.form.proofs.Putting.{before_stays, after_stays, put_stands}

-- an entry whose numbers fit their places
abbrev pub Fits : Entry → Type 0
Fits entry = (entry.row ≤ 65535) × (entry.kind ≤ 255) × (entry.value ≤ 16777215)

-- jobs that agree on six bytes agree on their entry
pub entry_alike : (a b : List ℕ) (k : ℕ) → ((place : ℕ) → 7 + 6 * k ≤ place → place < 7 + 6 * k + 6 → byte_at a place ≡ byte_at b place)
    → entry_at a k ≡ entry_at b k
unfolding entry_at
entry_alike a b k same =
    let at = 7 + 6 * k in
    rw (
      same at (omega arith) (omega arith),
      same (at + 1) (omega arith) (omega arith),
      same (at + 2) (omega arith) (omega arith),
      same (at + 3) (omega arith) (omega arith),
      same (at + 3 + 1) (omega arith) (omega arith),
      same (at + 3 + 2) (omega arith) (omega arith),
    )

-- jobs that agree on seven bytes agree on their head
pub head_alike : (a b : List ℕ) → ((place : ℕ) → place < 7 → byte_at a place ≡ byte_at b place)
    → (marked a ≡ marked b) × (version_of a ≡ version_of b) × (count_of a ≡ count_of b)
head_alike a b same = (
  rw (same 0 (omega arith), same 1 (omega arith), same 2 (omega arith)),
  rw (same 3 (omega arith), same 4 (omega arith)),
  rw (same 5 (omega arith), same 6 (omega arith)),
)

-- ---- an entry

module _ (job : List ℕ) (i : ℕ) (entry : Entry) where
  -- an entry that was put is the entry that is read
  pub entry_back : Fits entry → 7 + 6 * i + 6 ≤ length job → entry_at (with_entry job i entry) i ≡ entry
  unfolding entry_at
  entry_back fits room =
      let at = 7 + 6 * i in
      let stands = put_stands job at (entry_bytes entry) in
      let row : two_at (with_entry job i entry) at ≡ entry.row =
      omega (arith, stands 0 at (omega arith) (omega arith) room, stands 1 (at + 1) refl (omega arith) room) in
      let kind : byte_at (with_entry job i entry) (at + 2) ≡ entry.kind = omega (arith, stands 2 (at + 2) refl (omega arith) room) in
      let value : three_at (with_entry job i entry) (at + 3) ≡ entry.value =
      omega (
        arith,
        stands 3 (at + 3) refl (omega arith) room,
        stands 4 (at + 3 + 1) (omega arith) (omega arith) room,
        stands 5 (at + 3 + 2) (omega arith) (omega arith) room,
      ) in
      rw (row, kind, value)

  -- every byte before the entry and after it stays
  pub bytes_stay : (place : ℕ) → (place < 7 + 6 * i) ⊎ (7 + 6 * i + 6 ≤ place) → byte_at (with_entry job i entry) place ≡ byte_at job place
  bytes_stay place (inl before) = before_stays job (7 + 6 * i) (entry_bytes entry) place before
  bytes_stay place (inr after) = after_stays job (7 + 6 * i) (entry_bytes entry) place after

  -- every other entry stays
  pub others_stay_lem : (k : ℕ) → (k ≡ i → ⊥) → entry_at (with_entry job i entry) k ≡ entry_at job k
  others_stay_lem k other = go (ltb k i) refl
    where
      go : (t : Bool) → ltb k i ≡ t → entry_at (with_entry job i entry) k ≡ entry_at job k
      go true below =
          entry_alike (with_entry job i entry) job k (λ place low high. bytes_stay place (inl (omega (arith, ltb-true k i below))))
      go false above =
          entry_alike (with_entry job i entry) job k (λ place low high. bytes_stay place (inr (omega (arith, ltb-false k i above, other))))

  -- the head stays
  pub head_stays : (marked (with_entry job i entry) ≡ marked job) × (version_of (with_entry job i entry) ≡ version_of job)
      × (count_of (with_entry job i entry) ≡ count_of job)
  head_stays = head_alike (with_entry job i entry) job (λ place h. bytes_stay place (inl (omega arith)))

-- ---- a head

module _ (job : List ℕ) (version count : ℕ) where
  -- a head that was put is the head that is read
  pub head_back : version ≤ 65535 → count ≤ 65535 → 7 ≤ length job
      → (marked (with_head job version count) ≡ true) × (version_of (with_head job version count) ≡ version)
      × (count_of (with_head job version count) ≡ count)
  head_back v n room =
      let stands = put_stands job 0 (head_bytes version count) in
      let version-stands : version_of (with_head job version count) ≡ version =
      omega (arith, stands 3 3 refl (omega arith) room, stands 4 4 refl (omega arith) room) in
      let count-stands : count_of (with_head job version count) ≡ count =
      omega (arith, stands 5 5 refl (omega arith) room, stands 6 6 refl (omega arith) room) in
      (rw (stands 0 0 refl (omega arith) room, stands 1 1 refl (omega arith) room, stands 2 2 refl (omega arith) room), version-stands, count-stands)

  -- every byte after the head stays
  pub after_head : (place : ℕ) → 7 ≤ place → byte_at (with_head job version count) place ≡ byte_at job place
  after_head place h = after_stays job 0 (head_bytes version count) place h

  -- every entry stays
  pub all_stay : (k : ℕ) → entry_at (with_head job version count) k ≡ entry_at job k
  all_stay k = entry_alike (with_head job version count) job k (λ place low high. after_head place (omega arith))
