-- The file so far, byte by byte: the entry begun stands as the note has it, and all else as the area has it.
-- Assumes nothing.
use mathlib.Core.Path.{◌≡◌, refl, sym, ap, ◌∙◌}
use mathlib.Core.Bool.{Bool, true, false}
use mathlib.Core.List.{List}
use mathlib.Core.Logic.{◌⊎◌, inl, inr}
use Prim.Native.Nat.{ℕ, ◌+◌, ◌*◌, ◌≤◌, ◌<◌}
use native.Mathlib.Omega.{arith}
use borrow.Author.Tests.{ltb-true, ltb-false}
use lib.Dec.{ltb}
use lib.ListN.{length, length-take, take}
use lib.Seq.{get_or-take}
use Rattle.chip.proofs.Lists.{listed_at}
use Rattle.form.specs.Entries.{byte_at, version_of, count_of, entry_from, entry_at}
use Rattle.form.specs.Faults.{marked}
use Rattle.form.proofs.Putting.{before_stays, after_stays, put_stands}
use Rattle.form.proofs.ReadBack.{entry_alike, head_alike}
use Rattle.lead.specs.Notes.{begun_before, Fits, over, so_far, part_byte, part_from}
use Rattle.lead.specs.declared.notes.Note.{Note}
use Rattle.lead.specs.declared.so_far.Begun.{Begun}
use Rattle.lead.proofs.Counts.{before_fits}

module _ (area : List ℕ) (begun : Begun) (fits : Fits area begun) where
  abbrev first : ℕ
  first = 7 + 6 * begun.index

  abbrev bytes : List ℕ
  bytes = take begun.bytes begun.part

  few : length bytes ≤ begun.bytes
  few = omega (arith, length-take begun.bytes begun.part)

  -- the bytes of the entry begun are those of the note
  pub byte_begun : (place i : ℕ) → length begun.part ≡ 8 → place ≡ first + i → i < begun.bytes
      → byte_at (over area begun) place ≡ byte_at begun.part i
  byte_begun place i long e h =
      let there : i < length bytes = omega (arith, long, fits.0, length-take begun.bytes begun.part) in
      put_stands area first bytes i place e there (omega (arith, few, fits.2)) ∙ get_or-take begun.bytes begun.part i 0 h

  -- every other byte is the area's
  pub byte_else : (place : ℕ) → (place < first) ⊎ (first + begun.bytes ≤ place) → byte_at (over area begun) place ≡ byte_at area place
  byte_else place (inl before) = before_stays area first bytes place before
  byte_else place (inr after) = after_stays area first bytes place (omega (arith, few))

  -- so is every other entry
  pub entry_else : (i : ℕ) → (i ≡ begun.index → ⊥) → entry_at (over area begun) i ≡ entry_at area i
  entry_else i other = go (ltb i begun.index) refl
    where
      go : (t : Bool) → ltb i begun.index ≡ t → entry_at (over area begun) i ≡ entry_at area i
      go true below =
          let lower = ltb-true i begun.index below in
          entry_alike (over area begun) area i (λ place low high. byte_else place (inl (omega arith)))
      go false not-below =
          let above = ltb-false i begun.index not-below in
          entry_alike (over area begun) area i (λ place low high. byte_else place (inr (omega (arith, other, fits.0))))

  -- and the head
  pub head_else : (marked (over area begun) ≡ marked area) × (version_of (over area begun) ≡ version_of area) × (count_of (over area begun) ≡ count_of area)
  head_else = head_alike (over area begun) area (λ place low. byte_else place (inl (omega arith)))

-- of an area with room the same, by the entry begun before a chunk
module _ (area : List ℕ) (note : Note) (room : 3079 ≤ length area) (begun : Begun) (is : begun ≡ begun_before area note) where
  begun_fits : Fits area begun
  begun_fits = rw is (before_fits area note room)

  same_file : over area begun ≡ so_far area note
  same_file = ap (over area) is

  pub byte_of_note : (place i : ℕ) → length begun.part ≡ 8 → place ≡ 7 + 6 * begun.index + i → i < begun.bytes
      → byte_at (so_far area note) place ≡ byte_at begun.part i
  byte_of_note place i long e h = ap (λ (file : List ℕ). byte_at file place) (sym same_file) ∙ byte_begun area begun begun_fits place i long e h

  pub byte_of_area : (place : ℕ) → (place < 7 + 6 * begun.index) ⊎ (7 + 6 * begun.index + begun.bytes ≤ place)
      → byte_at (so_far area note) place ≡ byte_at area place
  byte_of_area place else = ap (λ (file : List ℕ). byte_at file place) (sym same_file) ∙ byte_else area begun begun_fits place else

  pub entry_of_area : (i : ℕ) → (i ≡ begun.index → ⊥) → entry_at (so_far area note) i ≡ entry_at area i
  entry_of_area i other = ap (λ (file : List ℕ). entry_at file i) (sym same_file) ∙ entry_else area begun begun_fits i other

-- six bytes that are taken out of a file begin with the entry that they were
pub entry_taken : (job : List ℕ) (i : ℕ) → entry_from (part_from job (7 + 6 * i) 6) 0 ≡ entry_at job i
unfolding entry_at
entry_taken job i =
    let at = 7 + 6 * i in
    let stands : (k : ℕ) → k < 8 → byte_at (part_from job at 6) k ≡ part_byte job at 6 k = λ k low. listed_at (part_byte job at 6) 8 k 0 low in
    let first : at + 0 ≡ at = omega arith in
    let fifth : at + 4 ≡ at + 3 + 1 = omega arith in
    let last : at + 5 ≡ at + 3 + 2 = omega arith in
    simp (
      stands 0 (omega arith),
      stands 1 (omega arith),
      stands 2 (omega arith),
      stands 3 (omega arith),
      stands 4 (omega arith),
      stands 5 (omega arith),
      first,
      fifth,
      last,
    )
