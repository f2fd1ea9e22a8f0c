-- The latched state: what is counted of it, and how one part of it is changed (document 01, "The numbers we answer with").
use Rattle.std.specs.Prelude.{ℕ, min, Bool, false, List, get_or, replicate, eqb}
use Rattle.std.specs.Prelude.{if◌then◌else◌}
use Rattle.answer.specs.Answers.{refused}
use Rattle.chip.specs.declared.state.Key.{Key}
use Rattle.chip.specs.declared.state.State.{State}
use Rattle.chip.specs.declared.state.Outcome.{Outcome}

-- a latched level above 2 counts as 2; where there is no page, nothing is allowed
abbrev pub counted_level : List ℕ → ℕ → ℕ
counted_level levels page = min (get_or levels page 2) 2

-- a latched key index above 7 counts as 7
abbrev pub counted_index : List ℕ → ℕ → ℕ
counted_index indexes page = min (get_or indexes page 0) 7

-- the no-key state of a page
abbrev pub counted_no_key : List Bool → ℕ → Bool
counted_no_key nokeys page = get_or nokeys page false

-- a key of zeros, neither valid nor whole
abbrev pub zero_key : Key
zero_key = record { words = replicate 8 0; valid = false; whole = false }

-- the state of zeros, which latches nothing: what a reset may be given where there is no state yet
abbrev pub zeros : State
zeros = record {
  secure = replicate 64 0;
  nonsecure = replicate 64 0;
  bootloader = replicate 64 0;
  writekey = replicate 64 0;
  readkey = replicate 64 0;
  nokey = replicate 64 false;
  keys = replicate 6 zero_key;
  entered = replicate 8 0;
  tallies = replicate 64 0;
}

-- the state with other soft locks, another entered key and other tallies: all that a call other than reset can change
abbrev pub changed : State → List ℕ → List ℕ → List ℕ → List ℕ → State
changed s secure nonsecure entered tallies = record {
  secure = secure;
  nonsecure = nonsecure;
  bootloader = s.bootloader;
  writekey = s.writekey;
  readkey = s.readkey;
  nokey = s.nokey;
  keys = s.keys;
  entered = entered;
  tallies = tallies;
}

-- the state with other Secure levels
abbrev pub with_secure : State → List ℕ → State
with_secure s levels = changed s levels s.nonsecure s.entered s.tallies

-- the state with other Non-secure levels
abbrev pub with_nonsecure : State → List ℕ → State
with_nonsecure s levels = changed s s.secure levels s.entered s.tallies

-- the state with another key entered
abbrev pub with_entered : State → List ℕ → State
with_entered s words = changed s s.secure s.nonsecure words s.tallies

-- the state with other tallies
abbrev pub with_tallies : State → List ℕ → State
with_tallies s tallies = changed s s.secure s.nonsecure s.entered tallies

-- a refusal leaves the state as it was
abbrev pub refusal : ℕ → State → Outcome
refusal number state = record { answer = refused number; state = state }

-- number 0 is done; any other is a refusal
abbrev pub outcome : ℕ → State → Outcome → Outcome
outcome number state done = if eqb number 0 then done else refusal number state
