-- What the screens tell of a row: what each caller may do with it, and the levels that decide it (document 01, "Keys", "Permission").
use Rattle.std.specs.Prelude.{ℕ}
use Rattle.std.specs.Prelude.{if◌then◌else◌}
use Rattle.permit.specs.Keys.{hidden}
use Rattle.permit.specs.Permission.{may_read, may_write, caller_level, row_key_level}
use Rattle.chip.specs.declared.state.State.{State}
use Rattle.wording.specs.declared.levels.Levels.{Levels}
use Rattle.wording.specs.declared.rights.May.{May}
use Rattle.wording.specs.declared.rights.May.TheVariants.{Nothing, Read, ReadAndWrite}
use Rattle.wording.specs.declared.rights.Rights.{Rights}

-- read and write, read, or nothing
abbrev pub allowed : State → ℕ → ℕ → May
allowed state caller row = if may_write state caller row then ReadAndWrite else if may_read state caller row then Read else Nothing

-- a row of a valid key answers nobody
abbrev pub rights_of : State → ℕ → Rights
rights_of state row =
    if hidden state row then record { secure = Nothing; nonsecure = Nothing; bootloader = Nothing }
    else record { secure = allowed state 0 row; nonsecure = allowed state 1 row; bootloader = allowed state 2 row }

-- the caller's level, Secure's, and the key level
abbrev pub levels_of : State → ℕ → ℕ → Levels
levels_of state caller row = record { own = caller_level state caller row; secure = caller_level state 0 row; key = row_key_level state row }
