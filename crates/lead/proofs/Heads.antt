-- Heads that agree are at fault alike; and the head of the file so far is the area's, so that what a chunk brings is told by the area's head.
-- Assumes nothing.
use mathlib.Core.Path.{◌≡◌, refl, ap, ◌∙◌}
use mathlib.Core.Bool.{Bool, true, false, not, ◌&&◌}
use mathlib.Core.List.{List}
use mathlib.Core.Logic.{inl}
use Prim.Native.Nat.{ℕ, ◌+◌, ◌-◌, ◌≤◌, ◌<◌}
use native.Mathlib.Omega.{arith}
use borrow.Author.Tests.{ltb-true, le-ltb}
use lib.Dec.{eqb, ltb, leb}
use lib.ListN.{length}
use Rattle.std.specs.Prelude.{if◌then◌else◌}
use Rattle.form.specs.Entries.{byte_at, two_at, count_of, entries_from}
use Rattle.form.specs.Faults.{Sound, ◌otherwise◌, rule_of, Fault}
use Rattle.form.specs.Said.{found}
use Rattle.form.specs.declared.faults.Fault.{Fault as Found}
use Rattle.form.proofs.Judged.{stops, goes_on}
use Rattle.lead.specs.Early.{came, spoils, unknown_version, large_count, head_brought, entry_faults, past_brought, brought, early_fault}
use Rattle.lead.specs.Notes.{start_of, stop_of, begun_before, so_far, ended_in}
use Rattle.lead.specs.declared.notes.Note.{Note}
use Rattle.lead.proofs.Counts.{before_fits}
use Rattle.lead.proofs.SoFar.{byte_else, head_else}

-- a test of what came needs only what came
came_and : (start stop place : ℕ) (t u : Bool) → (place < stop → t ≡ u) → (came start stop place && t) ≡ (came start stop place && u)
came_and start stop place t u same = go (leb start place) (ltb place stop) refl
  where
    go : (l s : Bool) → ltb place stop ≡ s → ((l && s) && t) ≡ ((l && s) && u)
    go false s is = refl
    go true false is = refl
    go true true is = same (ltb-true place stop is)

-- files that agree on what came of seven bytes agree on the faults of their heads
module _ (a b : List ℕ) (start stop : ℕ) (same : (place : ℕ) → place < 7 → place < stop → byte_at a place ≡ byte_at b place) where
  mark_same : (place byte : ℕ) → place < 7 → spoils a start stop place byte ≡ spoils b start stop place byte
  mark_same place byte few = came_and start stop place _ _ (λ below. ap (λ (n : ℕ). not (eqb n byte)) (same place few below))

  number_same : (at : ℕ) → at < 6 → at + 1 < stop → two_at a at ≡ two_at b at
  number_same at few below = rw (same at (omega arith) (omega arith), same (at + 1) (omega arith) below)

  unknown_same : unknown_version a start stop ≡ unknown_version b start stop
  unknown_same =
      came_and start stop 4 _ _ (λ below. ap (λ (n : ℕ). not (eqb n (if eqb n 2 then 2 else 1))) (number_same 3 (omega arith) below))

  large_same : large_count a start stop ≡ large_count b start stop
  large_same = came_and start stop 6 _ _ (λ below. ap (ltb 512) (number_same 5 (omega arith) below))

  pub head_same : head_brought a start stop ≡ head_brought b start stop
  unfolding head_brought
  head_same =
      rw (mark_same 0 0x4f (omega arith), mark_same 1 0x54 (omega arith), mark_same 2 0x4a (omega arith), unknown_same, large_same)

-- of a chunk that is not empty, and an area with room
pub judged : (area : List ℕ) (note : Note) (chunk : List ℕ) → 3079 ≤ length area → eqb (length chunk) 0 ≡ false
    → early_fault area note chunk ≡ brought note.least (so_far area note) (start_of note) (stop_of note chunk)
judged area note chunk room some = rw (le-ltb (length area) 3079 room, some)

module _ (area : List ℕ) (note : Note) (room : 3079 ≤ length area) (least start stop : ℕ) where
  abbrev job : List ℕ
  job = so_far area note

  -- by the head of the area and the entries of the file so far
  abbrev head : Fault
  head = head_brought area start stop

  abbrev entries : Fault
  entries = entry_faults (rule_of area) (ended_in area start) least (entries_from job (ended_in area start) (ended_in area stop - ended_in area start))

  abbrev past : Fault
  past = past_brought (count_of area) stop

  by_area : brought least job start stop ≡ (head otherwise entries otherwise past)
  unfolding brought
  by_area =
      let fits = before_fits area note room in
      let same = head_else area (begun_before area note) fits in
      rw (
        head_same job area start stop (λ place few below. byte_else area (begun_before area note) fits place (inl (omega arith))),
        same.1,
        same.2,
      )

  pub head_stops : (fault : Found) → found fault ≡ head → brought least job start stop ≡ found fault
  head_stops fault some = by_area ∙ stops fault head (entries otherwise past) some

  module _ (none : Sound ≡ head) where
    pub entries_stop : (fault : Found) → found fault ≡ entries → brought least job start stop ≡ found fault
    entries_stop fault some = by_area ∙ goes_on head (entries otherwise past) none ∙ stops fault entries past some

    pub past_answers : Sound ≡ entries → brought least job start stop ≡ past
    past_answers no_fault = by_area ∙ goes_on head (entries otherwise past) none ∙ goes_on entries past no_fault
