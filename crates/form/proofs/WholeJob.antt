-- A job put whole: the head of so many entries, and each entry in order. Its entries are read back as the list of them.
-- Assumes nothing.
use mathlib.Core.Path.{◌≡◌, refl, ap, ◌∙◌}
use mathlib.Core.Bool.{true}
use mathlib.Core.List.{List, [], ◌∷◌}
use mathlib.Core.Logic.{inl, inr}
use Prim.Native.Nat.{ℕ, ◌+◌, ◌*◌, ◌≤◌, ◌<◌}
use native.Mathlib.Numerals.{add-one}
use native.Mathlib.Omega.{arith}
use borrow.Author.Tests.{le-ltb, eq-eqb}
use lib.ListN.{length, take, replicate}
use Rattle.form.specs.Entries.{byte_at, version_of, count_of, entry_at, entries_from, entries_of}
use Rattle.form.specs.Faults.{marked, head_fault, Sound}
use Rattle.form.specs.Writing.{head_bytes, entry_bytes, with_bytes, with_head, with_entry, with_entries, with_job}
use Rattle.form.specs.declared.entries.Entry.{Entry}
use Rattle.form.proofs.Putting.{length_stays, bytes_front}
use Rattle.form.proofs.ReadBack.{Fits, entry_alike, head_alike, entry_back, bytes_stay, head_back}

-- entries whose numbers fit their places
unfoldable pub AllFit : List Entry → Type 0
AllFit [] = Unit {0}
AllFit (entry ∷ others) = Fits entry × AllFit others

-- a job is as long as it was
pub entries_length : (entries : List Entry) (job : List ℕ) (i : ℕ) → length (with_entries job i entries) ≡ length job
unfolding with_entries
entries_length [] job i = refl
entries_length (entry ∷ others) job i =
    entries_length others (with_entry job i entry) (i + 1) ∙ length_stays job (7 + 6 * i) (entry_bytes entry)

-- what stands before the entries stays
pub before_entries : (entries : List Entry) (job : List ℕ) (i place : ℕ) → place < 7 + 6 * i → byte_at (with_entries job i entries) place ≡ byte_at job place
unfolding with_entries
before_entries [] job i place h = refl
before_entries (entry ∷ others) job i place h =
    before_entries others (with_entry job i entry) (i + 1) place (omega arith) ∙ bytes_stay job i entry place (inl h)

-- and what stands after them
pub after_entries : (entries : List Entry) (job : List ℕ) (i place : ℕ) → 7 + 6 * (i + length entries) ≤ place
    → byte_at (with_entries job i entries) place ≡ byte_at job place
unfolding with_entries
after_entries [] job i place h = refl
after_entries (entry ∷ others) job i place h =
    after_entries others (with_entry job i entry) (i + 1) place (omega arith) ∙ bytes_stay job i entry place (inr (omega arith))

-- in the front of a longer slice they are put as into a job of that length
pub entries_front : (entries : List Entry) (n : ℕ) (job : List ℕ) (i : ℕ) → take n (with_entries job i entries) ≡ with_entries (take n job) i entries
unfolding with_entries
entries_front [] n job i = refl
entries_front (entry ∷ others) n job i =
    entries_front others n (with_entry job i entry) (i + 1)
    ∙ ap (λ (front : List ℕ). with_entries front (i + 1) others) (bytes_front n job (7 + 6 * i) (entry_bytes entry))

-- entries that were put are the entries that are read
pub entries_back : (entries : List Entry) (job : List ℕ) (i : ℕ) → AllFit entries → 7 + 6 * (i + length entries) ≤ length job
    → entries_from (with_entries job i entries) i (length entries) ≡ entries
unfolding with_entries entries_from AllFit
entries_back [] job i fit room = refl
entries_back (entry ∷ others) job i fit room =
    let next = with_entry job i entry in
    let first : entry_at (with_entries next (i + 1) others) i ≡ entry =
    entry_alike (with_entries next (i + 1) others) next i (λ place low high. before_entries others next (i + 1) place (omega arith))
    ∙ entry_back job i entry fit.0 (omega arith) in
    let rest : entries_from (with_entries next (i + 1) others) (i + 1) (length others) ≡ others =
    entries_back others next (i + 1) fit.1 (omega (arith, length_stays job (7 + 6 * i) (entry_bytes entry))) in
    rw (first, ← add-one i, rest)

-- ---- head and entries

module _ (job : List ℕ) (version : ℕ) (entries : List Entry) (v : version ≤ 65535) (n : length entries ≤ 65535)
    (room : 7 + 6 * length entries ≤ length job) where
  -- its head is read back
  pub job_head : (marked (with_job job version entries) ≡ true) × (version_of (with_job job version entries) ≡ version)
      × (count_of (with_job job version entries) ≡ length entries)
  job_head =
      let head = with_head job version (length entries) in
      let stays = head_alike (with_entries head 0 entries) head (λ place h. before_entries entries head 0 place h) in
      let back = head_back job version (length entries) v n (omega arith) in
      (stays.0 ∙ back.0, stays.1 ∙ back.1, stays.2 ∙ back.2)

  -- and so are its entries
  pub job_entries : AllFit entries → entries_of (with_job job version entries) ≡ entries
  job_entries fit =
      let head = with_head job version (length entries) in
      rw job_head.2 (entries_back entries head 0 fit (omega (arith, length_stays job 0 (head_bytes version (length entries)))))

-- the front of a slice into which a job was put is that job put into the front
pub job_front : (n : ℕ) (job : List ℕ) (version : ℕ) (entries : List Entry) → take n (with_job job version entries) ≡ with_job (take n job) version entries
job_front n job version entries =
    entries_front entries n (with_head job version (length entries)) 0
    ∙ ap (λ (front : List ℕ). with_entries front 0 entries) (bytes_front n job 0 (head_bytes version (length entries)))

-- ---- a head without a fault

head_whole : (version : ℕ) (job : List ℕ) → marked job ≡ true → version_of job ≡ version → count_of job ≤ 512 → length job ≡ 7 + 6 * count_of job
    → head_fault version job ≡ Sound
unfolding head_fault
head_whole version job mark own count long =
    rw (
      le-ltb (length job) 7 (omega arith),
      mark,
      eq-eqb (version_of job) version own,
      le-ltb 512 (count_of job) count,
      eq-eqb (length job) (7 + 6 * count_of job) long,
    )

-- at most 512 entries that fill the job, under a version that has room
pub job_sound : (job : List ℕ) (version : ℕ) (entries : List Entry) → version ≤ 65535 → length entries ≤ 512 → length job ≡ 7 + 6 * length entries
    → head_fault version (with_job job version entries) ≡ Sound
job_sound job version entries v few filled =
    let head = job_head job version entries v (omega arith) (omega arith) in
    let long = entries_length entries (with_head job version (length entries)) 0 ∙ length_stays job 0 (head_bytes version (length entries)) ∙ filled in
    head_whole version (with_job job version entries) head.0 head.1 (rw head.2 few) (rw head.2 long)

-- ---- the job of document 01: one ECC entry, row 0x0c0, value 1

pub written : with_job (replicate 13 0xff) 1 (record { row = 0x0c0; kind = 0; value = 1 } ∷ [])
    ≡ 0x4f ∷ 0x54 ∷ 0x4a ∷ 0x01 ∷ 0x00 ∷ 0x01 ∷ 0x00 ∷ 0xc0 ∷ 0x00 ∷ 0x00 ∷ 0x01 ∷ 0x00 ∷ 0x00 ∷ []
unfolding with_bytes with_entries
written = refl
