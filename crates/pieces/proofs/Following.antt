-- What is kept between chunks follows the file: the area has the bytes that came, and the note the rest.
-- Assumes nothing.
use mathlib.Core.Path.{◌≡◌, refl, sym, ap, subst, ◌∙◌}
use mathlib.Core.Bool.{Bool, true, false}
use mathlib.Core.List.{List}
use mathlib.Core.Logic.{inl, inr}
use Prim.Native.Nat.{ℕ, ◌+◌, ◌-◌, ◌*◌, ◌≤◌, ◌<◌, min}
use native.Mathlib.Omega.{arith}
use borrow.Author.Tests.{ltb-true, ltb-false, eqb-true, eqb-false, ne_eqb, lt-ltb, le-ltb}
use lib.Dec.{eqb, ltb}
use lib.ListN.{length, length-take, take}
use lib.Seq.{get_or-take}
use Rattle.std.specs.Prelude.{if◌then◌else◌}
use Rattle.answer.proofs.Choices.{both_ways}
use Rattle.chip.proofs.Lists.{length_listed, listed_at}
use Rattle.form.specs.Entries.{byte_at, count_of, entry_at}
use Rattle.form.specs.Faults.{fault_number, Sound}
use Rattle.form.proofs.Putting.{length_stays, before_stays, put_stands}
use Rattle.lead.specs.Early.{brought}
use Rattle.lead.specs.Notes.{start_of, stop_of, stored, begun_before, Fits, so_far, ended_in, begun_in, part_byte, part_of, noted}
use Rattle.lead.specs.Taking.{Took, take_chunk, took_in}
use Rattle.lead.specs.declared.notes.Note.{Note}
use Rattle.lead.specs.declared.so_far.Begun.{Begun}
use Rattle.lead.proofs.Counts.{bounded, ended_grows, grown, stop_later, before_fits}
use Rattle.lead.proofs.SoFar.{byte_begun, byte_else}
use Rattle.lead.proofs.Takes.{taken}
use Rattle.pieces.specs.Pieces.{Kept, begin, after}
use Rattle.pieces.specs.Words.{least_at}
use Rattle.pieces.proofs.Agreeing.{Agree, begun_below, none_ended, none_begun, ended_same, begun_same, brought_same, least_same}

-- where a count of bytes stands in a note
abbrev pub counted : ℕ → ℕ
counted n = min n 3080

-- n bytes of a file have come
pub record Follows (file : List ℕ) (n : ℕ) (kept : Kept) : Type 0 where
  pub room : 3079 ≤ length kept.area
  pub count : kept.note.counted ≡ counted n
  pub bytes : Agree kept.area file n
  pub least : kept.note.least ≡ least_at file (ended_in file (counted n))
  pub long : length kept.note.part ≡ 8
  pub part : (i : ℕ) → i < begun_in file (counted n) → byte_at kept.note.part i ≡ byte_at file (7 + 6 * ended_in file (counted n) + i)

-- from a fresh note, whatever the area holds
pub at_first : (file area : List ℕ) → 3079 ≤ length area → Follows file 0 (begin area)
at_first file area room = record {
  room = room;
  count = refl;
  bytes = λ place below few. absurd (omega arith);
  least = sym (ap (least_at file) (none_ended (count_of file) 0 (omega arith)));
  long = refl;
  part = λ i below. absurd (omega (arith, none_begun (count_of file) 0 (omega arith)));
}

-- the bytes of a chunk stand in the file from a place on
abbrev pub Stands : List ℕ → List ℕ → ℕ → Type 0
Stands chunk file n = (i : ℕ) → i < length chunk → byte_at chunk i ≡ byte_at file (n + i)

module _ (file : List ℕ) (n : ℕ) (kept : Kept) (chunk : List ℕ) (follows : Follows file n kept) (stands : Stands chunk file n) where
  abbrev note : Note
  note = kept.note

  abbrev start : ℕ
  start = start_of note

  abbrev stop : ℕ
  stop = stop_of note chunk

  abbrev area : List ℕ
  area = stored kept.area note chunk

  abbrev job : List ℕ
  job = so_far area note

  start_is : start ≡ counted n
  start_is = rw follows.count (omega arith)

  pub stop_is : stop ≡ counted (n + length chunk)
  stop_is = rw start_is (omega arith)

  room : 3079 ≤ length area
  room = rw (length_stays kept.area start (take (3079 - start) chunk)) follows.room

  -- the area has the bytes of the file
  area_agrees : Agree area file (n + length chunk)
  area_agrees place below few = go (ltb place n) refl
    where
      go : (t : Bool) → ltb place n ≡ t → byte_at area place ≡ byte_at file place
      go true before =
          let earlier = ltb-true place n before in
          before_stays kept.area start (take (3079 - start) chunk) place (rw start_is (omega arith)) ∙ follows.bytes place earlier few
      go false later =
          let from = ltb-false place n later in
          let same : start ≡ n = start_is ∙ omega arith in
          let i = place - n in
          let here : place ≡ start + i = omega (arith, same) in
          let there : i < length (take (3079 - start) chunk) = omega (arith, same, length-take (3079 - start) chunk) in
          let fits : start + length (take (3079 - start) chunk) ≤ length kept.area =
          omega (arith, same, follows.room, length-take (3079 - start) chunk) in
          let back : n + i ≡ place = omega arith in
          put_stands kept.area start (take (3079 - start) chunk) i place here there fits
          ∙ get_or-take (3079 - start) chunk i 0 (omega (arith, same)) ∙ stands i (omega arith) ∙ ap (byte_at file) back

  -- within what a note counts
  counted_agrees : (a : List ℕ) → Agree a file (n + length chunk) → Agree a file stop
  counted_agrees a same place below few = same place (omega (arith, stop_is)) few

  low : stop ≤ 3080
  low = omega arith

  later : start ≤ stop
  later = stop_later note chunk

  -- the file so far has the bytes of the file
  job_agrees : Agree job file stop
  job_agrees place below few = go (ltb place first) refl (ltb place (first + begun.bytes)) refl
    where
      begun : Begun
      begun = begun_before area note

      fits : Fits area begun
      fits = before_fits area note room

      first : ℕ
      first = 7 + 6 * begun.index

      in_area : byte_at area place ≡ byte_at file place
      in_area = counted_agrees area area_agrees place below few

      -- as many entries have ended before, and as many bytes are begun
      index_is : begun.index ≡ ended_in file (counted n)
      index_is = ended_same area file stop low (counted_agrees area area_agrees) start later ∙ ap (ended_in file) start_is

      bytes_are : begun.bytes ≡ begun_in file (counted n)
      bytes_are = begun_same area file stop low (counted_agrees area area_agrees) start later ∙ ap (begun_in file) start_is

      go : (t : Bool) → ltb place first ≡ t → (u : Bool) → ltb place (first + begun.bytes) ≡ u → byte_at job place ≡ byte_at file place
      go true before u inside = byte_else area begun fits place (inl (ltb-true place first before)) ∙ in_area
      go false not-before false outside = byte_else area begun fits place (inr (ltb-false place (first + begun.bytes) outside)) ∙ in_area
      go false not-before true inside =
          let i = place - first in
          let from = ltb-false place first not-before in
          let to = ltb-true place (first + begun.bytes) inside in
          let here : place ≡ first + i = omega (arith, from) in
          let few_bytes : i < begun_in file (counted n) = subst (λ (m : ℕ). i < m) bytes_are (omega (arith, from, to)) in
          let back : 7 + 6 * ended_in file (counted n) + i ≡ place = ap (λ (m : ℕ). 7 + 6 * m + i) (sym index_is) ∙ sym here in
          byte_begun area begun fits place i follows.long here (omega (arith, from, to)) ∙ follows.part i few_bytes ∙ ap (byte_at file) back

  -- so the chunk brings to an end what these bytes of the file do
  pub brings : brought note.least job start stop
      ≡ brought (least_at file (ended_in file (counted n))) file (counted n) (counted (n + length chunk))
  brings =
      brought_same job file stop low job_agrees start later note.least
      ∙ rw (follows.least, stop_is, start_is)

  -- what taking the chunk leaves
  took : take_chunk kept.area note chunk ≡ took_in area note chunk
  took = taken kept.area note chunk (le-ltb (length kept.area) 3079 follows.room)

  -- the word is the number of what it brings to an end
  pub word_is : (take_chunk kept.area note chunk).taken.answer.value
      ≡ (if eqb (length chunk) 0 then 0
      else fault_number (brought (least_at file (ended_in file (counted n))) file (counted n) (counted (n + length chunk))))
  word_is =
      ap (λ (t : Took). t.taken.answer.value) took
      ∙ rw (le-ltb (length area) 3079 room) (go (eqb (length chunk) 0))
    where
      go : (t : Bool) → fault_number (if t then Sound else brought note.least job start stop)
          ≡ (if t then 0 else fault_number (brought (least_at file (ended_in file (counted n))) file (counted n) (counted (n + length chunk))))
      go true = refl
      go false = ap fault_number brings

  -- the lowest row that may come next
  least_is : (noted job note chunk).least ≡ least_at file (ended_in file stop)
  least_is = least_same job file stop low job_agrees start later note.least ∙ go (eqb (ended_in file start) (ended_in file stop)) refl
    where
      before : note.least ≡ least_at file (ended_in file start)
      before = follows.least ∙ ap (λ (m : ℕ). least_at file (ended_in file m)) (sym start_is)

      go : (t : Bool) → eqb (ended_in file start) (ended_in file stop) ≡ t
          → (if t then note.least else (entry_at file (ended_in file stop - 1)).row + 1) ≡ least_at file (ended_in file stop)
      go true none = before ∙ ap (least_at file) (eqb-true (ended_in file start) (ended_in file stop) none)
      go false some =
          let last = grown (ended_in file start) (ended_in file stop) (ended_grows (count_of file) start stop later) (eqb-false (ended_in file start) (ended_in file stop) some) in
          rw (ne_eqb (ended_in file stop) 0 (λ none. omega (arith, last, none)))

  -- the bytes of the entry begun
  part_is : (i : ℕ) → i < begun_in file stop → byte_at (noted job note chunk).part i ≡ byte_at file (7 + 6 * ended_in file stop + i)
  part_is i below = go (eqb start stop) refl
    where
      Right : List ℕ → Type 0
      Right part = byte_at part i ≡ byte_at file (7 + 6 * ended_in file stop + i)

      bounds : (begun_in file stop ≤ 5) × (ended_in file stop ≤ 512) × (7 + 6 * ended_in file stop + begun_in file stop ≤ 3079)
      bounds = bounded (count_of file) stop low

      ended : ended_in job stop ≡ ended_in file stop
      ended = ended_same job file stop low job_agrees stop (omega arith)

      begun : begun_in job stop ≡ begun_in file stop
      begun = begun_same job file stop low job_agrees stop (omega arith)

      go : (t : Bool) → eqb start stop ≡ t → Right (if t then note.part else part_of job stop)
      go true still =
          let same : counted n ≡ stop = sym start_is ∙ eqb-true start stop still in
          subst (λ (m : ℕ). i < begun_in file m → byte_at note.part i ≡ byte_at file (7 + 6 * ended_in file m + i)) same (follows.part i) below
      go false moved =
          listed_at (part_byte job (7 + 6 * ended_in job stop) (begun_in job stop)) 8 i 0 (omega (arith, below, bounds.0))
          ∙ rw (lt-ltb i (begun_in job stop) (rw begun below), ended)
          (job_agrees (7 + 6 * ended_in file stop + i) (begun_below (count_of file) stop i below) (omega (arith, below, bounds.2)))

  long_is : length (noted job note chunk).part ≡ 8
  long_is = both_ways (λ (part : List ℕ). length part ≡ 8) (eqb start stop) note.part (part_of job stop) follows.long (length_listed _ 8)

  -- as many bytes more have come
  pub follow : Follows file (n + length chunk) (after kept chunk)
  follow =
      subst (λ (t : Took). Follows file (n + length chunk) (record { area = t.area; note = t.taken.note })) (sym took) record {
        room = room;
        count = stop_is;
        bytes = area_agrees;
        least = least_is ∙ ap (λ (m : ℕ). least_at file (ended_in file m)) stop_is;
        long = long_is;
        part =
            subst (λ (m : ℕ). (i : ℕ) → i < begun_in file m → byte_at (noted job note chunk).part i ≡ byte_at file (7 + 6 * ended_in file m + i)) stop_is
            part_is;
      }
