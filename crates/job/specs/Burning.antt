-- What a job and a rehearsal burn (document 01, "Jobs"; request 2026-07).
use Rattle.std.specs.Prelude.{ℕ, ◌+◌, ◌-◌, List, [], ◌∷◌, leb, set}
use Rattle.std.specs.Prelude.{if◌then◌else◌}
use Rattle.row.specs.Upward.{burnt_upward}
use Rattle.row.specs.Writing.{Written}
use Rattle.chip.specs.Slices.{row_at}
use Rattle.chip.specs.Tallies.{Gain, ◌gains◌}
use Rattle.form.specs.declared.entries.Entry.{Entry}
use Rattle.judge.specs.Verdicts.{entry_written}

-- what writing an entry over its row gives
abbrev pub written_over : List ℕ → Entry → Written
written_over rows e = entry_written (row_at rows e.row) e

-- the rows with an entry's row burnt
abbrev pub with_entry : List ℕ → Entry → List ℕ
with_entry rows e = set rows e.row (written_over rows e).row

-- each entry written in turn
unfoldable pub all_written : List ℕ → List Entry → List ℕ
all_written rows [] = rows
all_written rows (e ∷ others) = all_written (with_entry rows e) others

-- the bits newly set by that
unfoldable pub all_pulses : List ℕ → List Entry → ℕ
all_pulses rows [] = 0
all_pulses rows (e ∷ others) = (written_over rows e).pulses + all_pulses (with_entry rows e) others

-- the bits that each entry's row gains by that
unfoldable pub all_gained : List ℕ → List Entry → List Gain
all_gained rows [] = []
all_gained rows (e ∷ others) = e.row gains (written_over rows e).pulses ∷ all_gained (with_entry rows e) others

-- where the pulses end: the row of the first entry left gains the last bits, and the rows of the others none
unfoldable pub cut_gained : ℕ → List Entry → List Gain
cut_gained bits [] = []
cut_gained bits (e ∷ others) = e.row gains bits ∷ cut_gained 0 others

-- how far a rehearsal came: its rows, the bits that each entry's row gained, the pulses spent, the leading entries whose bits all stand
pub record Progress : Type 0 where
  pub rows : List ℕ
  pub gained : List Gain
  pub pulses : ℕ
  pub place : ℕ

-- one entry more stands, for as many pulses as its row gained bits
abbrev pub after : Gain → Progress → Progress
after gain p = record { rows = p.rows; gained = gain ∷ p.gained; pulses = gain.bits + p.pulses; place = 1 + p.place }

-- entries burnt in order until the pulses of the limit are spent
unfoldable pub rehearsed : List ℕ → ℕ → List Entry → Progress
rehearsed rows limit [] = record { rows = rows; gained = []; pulses = 0; place = 0 }
rehearsed rows limit (e ∷ others) =
    if leb (written_over rows e).pulses limit
    then after (e.row gains (written_over rows e).pulses) (rehearsed (with_entry rows e) (limit - (written_over rows e).pulses) others)
    else record {
      rows = set rows e.row (burnt_upward limit (row_at rows e.row) (written_over rows e).row);
      gained = cut_gained limit (e ∷ others);
      pulses = limit;
      place = 0;
    }
