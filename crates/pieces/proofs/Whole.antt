-- A file in pieces is the file.
-- Assumes nothing.
use mathlib.Core.Path.{◌≡◌, refl, sym, ap, ◌∙◌}
use mathlib.Core.Bool.{Bool, true, false, not}
use mathlib.Core.List.{List}
use Prim.Native.Nat.{ℕ, ◌+◌, ◌*◌, ◌≤◌, ◌<◌}
use native.Mathlib.Omega.{arith}
use borrow.Author.Tests.{lt-ltb, le-ltb, ltb-true, ltb-false, ne_eqb}
use lib.Dec.{eqb, ltb}
use lib.ListN.{length, take}
use lib.Seq.{ext_get_or, length-take-le, get_or-take}
use Rattle.std.specs.Prelude.{if◌then◌else◌}
use Rattle.chip.specs.declared.state.State.{State}
use Rattle.burn.specs.Burning.{kept}
use Rattle.form.specs.Entries.{version_of, count_of}
use Rattle.form.specs.Faults.{fault_number, marked, head_fault, rule_of, fault_of, Sound, Mark, Version, Count, Length}
use Rattle.judge.specs.Verdicts.{verdict_of}
use Rattle.job.specs.Jobs.{run_job}
use Rattle.lead.specs.Ending.{end_job}
use Rattle.lead.specs.Notes.{no_room}
use Rattle.lead.proofs.Ends.{not_whole_lem, too_long, runs}
use Rattle.pieces.specs.Pieces.{Kept, begin, after_all, joined, PiecesAreTheFile}
use Rattle.pieces.proofs.Following.{Follows}
use Rattle.pieces.proofs.Parts.{bad_head}
use Rattle.pieces.proofs.Joined.{stands_itself, follow_from_fresh}

-- ---- a file of more than 3,079 bytes

long_head : (version : ℕ) (file : List ℕ) → 3079 < length file → fault_number (head_fault version file) ≡ 10
unfolding head_fault
long_head version file long =
    rw (le-ltb (length file) 7 (omega arith)) (go (marked file) (eqb (version_of file) version) (ltb 512 (count_of file)) refl)
  where
    go : (m v c : Bool) → ltb 512 (count_of file) ≡ c
        → fault_number (if not m then Mark else if not v then Version else if c then Count
        else if not (eqb (length file) (7 + 6 * count_of file)) then Length else Sound) ≡ 10
    go false v c few = refl
    go true false c few = refl
    go true true true few = refl
    go true true false few =
        let bound = ltb-false 512 (count_of file) few in
        rw (ne_eqb (length file) (7 + 6 * count_of file) (λ e. omega (arith, e, bound, long)))

pub long_malformed : (file : List ℕ) → 3079 < length file → fault_number (fault_of file) ≡ 10
long_malformed file long = bad_head file (long_head (rule_of file) file long)

module _ (rows : List ℕ) (state : State) (file : List ℕ) (long : 3079 < length file) where
  long_runs : (t : Bool) → eqb (length rows) 4096 ≡ t → run_job rows state file ≡ kept state rows (if t then 10 else 1) 0
  unfolding run_job verdict_of
  long_runs true whole = rw (whole, long_malformed file long)
  long_runs false part = rw part

-- ---- any file

module _ (rows : List ℕ) (state : State) (file : List ℕ) (at : Kept) (follows : Follows file (length file) at) where
  -- one that fits is in the area
  kept_whole : length file ≤ 3079 → take at.note.counted at.area ≡ file
  kept_whole fits =
      let all : at.note.counted ≡ length file = follows.count ∙ omega arith in
      let room = follows.room in
      rw all
      (ext_get_or 0 (take (length file) at.area) file (length-take-le (length file) at.area (omega arith))
      (λ i below.
      let there : i < length file = rw (length-take-le (length file) at.area (omega arith)) at below in
      get_or-take (length file) at.area i 0 there ∙ follows.bytes i there (omega arith)))

  pub ends_as : end_job rows state at.area at.note ≡ run_job rows state file
  ends_as = go (ltb 3079 (length file)) refl
    where
      room : no_room at.area ≡ false
      room = le-ltb (length at.area) 3079 follows.room

      too_many : 3079 < length file → (t : Bool) → eqb (length rows) 4096 ≡ t → end_job rows state at.area at.note ≡ run_job rows state file
      too_many long true whole =
          let past : 3079 < at.note.counted = omega (arith, follows.count, long) in
          too_long rows state at.area at.note whole room (lt-ltb 3079 at.note.counted past) ∙ sym (long_runs rows state file long true whole)
      too_many long false part = not_whole_lem rows state at.area at.note part ∙ sym (long_runs rows state file long false part)

      go : (t : Bool) → ltb 3079 (length file) ≡ t → end_job rows state at.area at.note ≡ run_job rows state file
      go true past = too_many (ltb-true 3079 (length file) past) (eqb (length rows) 4096) refl
      go false within =
          let fits = ltb-false 3079 (length file) within in
          let few : at.note.counted ≤ 3079 = omega (arith, follows.count, fits) in
          runs rows state at.area at.note room (le-ltb 3079 at.note.counted few) ∙ ap (run_job rows state) (kept_whole fits)

pub pieces_are_the_file : PiecesAreTheFile
pieces_are_the_file rows state area chunks room =
    ends_as rows state (joined chunks) (after_all (begin area) chunks) (follow_from_fresh area (joined chunks) chunks room (stands_itself (joined chunks)))
