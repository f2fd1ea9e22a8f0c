-- What a verdict sees of a state: what Secure may write. Two states that agree on it judge every job alike.
-- Assumes nothing.
use mathlib.Core.List.{List, [], ◌∷◌}
use mathlib.Core.Path.{◌≡◌, refl}
use Prim.Native.Nat.{ℕ, ◌+◌}
use Rattle.permit.specs.Keys.{matches, key_level}
use Rattle.chip.specs.Pages.{key_page}
use Rattle.permit.specs.Permission.{may_write}
use Rattle.chip.specs.States.{with_tallies}
use Rattle.chip.specs.declared.state.State.{State}
use Rattle.form.specs.Entries.{entries_of}
use Rattle.form.specs.declared.entries.Entry.{Entry}
use Rattle.judge.specs.Verdicts.{all_rungs, verdict_of}

-- the caller may write the same rows
abbrev pub AgreeToWrite : ℕ → State → State → Type 0
AgreeToWrite caller a b = (row : ℕ) → may_write a caller row ≡ may_write b caller row

-- what permission goes by: levels, key indexes, no-key states, keys and the entered key
pub record SameLocks (a b : State) : Type 0 where
  pub secure : a.secure ≡ b.secure
  pub nonsecure : a.nonsecure ≡ b.nonsecure
  pub bootloader : a.bootloader ≡ b.bootloader
  pub writekey : a.writekey ≡ b.writekey
  pub readkey : a.readkey ≡ b.readkey
  pub nokey : a.nokey ≡ b.nokey
  pub keys : a.keys ≡ b.keys
  pub entered : a.entered ≡ b.entered

same_level : {a b : State} → SameLocks a b → (page : ℕ) → key_level a page ≡ key_level b page
unfolding key_level matches
same_level s page = rw (s.writekey, s.readkey, s.nokey, s.keys, s.entered)

pub locks_agree : {a b : State} → SameLocks a b → (caller : ℕ) → AgreeToWrite caller a b
unfolding may_write
locks_agree s caller row = rw (same_level s (key_page row), s.secure, s.nonsecure, s.bootloader)

-- permission goes by no tally
pub tallies_agree : (state : State) (tallies : List ℕ) (caller : ℕ) → AgreeToWrite caller (with_tallies state tallies) state
tallies_agree state tallies =
    locks_agree record {
      secure = refl;
      nonsecure = refl;
      bootloader = refl;
      writekey = refl;
      readkey = refl;
      nokey = refl;
      keys = refl;
      entered = refl;
    }

module _ (rows : List ℕ) (a b : State) (agree : AgreeToWrite 0 a b) where
  same_rungs : (i : ℕ) (es : List Entry) → all_rungs rows a i es ≡ all_rungs rows b i es
  unfolding all_rungs
  same_rungs i [] = refl
  same_rungs i (e ∷ others) = rw (agree e.row, same_rungs (i + 1) others)

  pub same_verdict : (job : List ℕ) → verdict_of rows a job ≡ verdict_of rows b job
  unfolding verdict_of
  same_verdict job = rw (same_rungs 0 (entries_of job))
