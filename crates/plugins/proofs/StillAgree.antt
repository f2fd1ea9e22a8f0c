-- Two chips that agree still do after a call that leaves their keys alone, lowers no level, and changes entries alike; and what was the
-- same of them still is.
-- Assumes nothing.
use mathlib.Core.Bool.{Bool, true, false, not, ◌&&◌, ◌||◌, and-eq-true_iff}
use mathlib.Core.List.{List}
use mathlib.Core.Path.{◌≡◌, refl}
use Prim.Native.Nat.{ℕ, ◌≤◌, max}
use native.Mathlib.Omega.{arith}
use borrow.Author.Tests.{leb-true, le-leb}
use lib.Dec.{leb}
use lib.ListN.{length}
use Rattle.chip.specs.Callers.{levels_of, shown_level}
use Rattle.permit.specs.Keys.{matches, key_level, hidden}
use Rattle.chip.specs.Pages.{is_lock_row, owner}
use Rattle.permit.specs.Permission.{row_key_level, may_read}
use Rattle.chip.specs.Slices.{row_at}
use Rattle.chip.specs.States.{changed}
use Rattle.chip.specs.declared.state.State.{State}
use Rattle.laws.specs.Calls.{Chip}
use Rattle.plugins.specs.Plugins.{knows, Agree, SameAsBefore}
use Rattle.answer.proofs.Choices.{both_ways}
use Rattle.laws.proofs.Raised.{asked}

-- ---- keys that stay

-- key indexes, no-key states, keys and the entered key are as before
pub record KeysStay (before after : State) : Type 0 where
  pub writekey : after.writekey ≡ before.writekey
  pub readkey : after.readkey ≡ before.readkey
  pub nokey : after.nokey ≡ before.nokey
  pub keys : after.keys ≡ before.keys
  pub entered : after.entered ≡ before.entered

-- the state with other levels and tallies
abbrev relocked : State → List ℕ → List ℕ → List ℕ → State
relocked state secure nonsecure tallies = changed state secure nonsecure state.entered tallies

pub keys_stay : (state : State) (secure nonsecure tallies : List ℕ) → KeysStay state (relocked state secure nonsecure tallies)
keys_stay state secure nonsecure tallies = record { writekey = refl; readkey = refl; nokey = refl; keys = refl; entered = refl }

pub asked_keeps : (s n : Bool) (state : State) (page level : ℕ) → KeysStay state (asked s n state page level)
asked_keeps s n state page level =
    both_ways (KeysStay state) s _ _ (keys_stay state _ _ _) (both_ways (KeysStay state) n _ _ (keys_stay state _ _ _) (keys_stay state _ _ _))

module _ (before after : State) (stay : KeysStay before after) where
  key_level_stays : (row : ℕ) → row_key_level after row ≡ row_key_level before row
  unfolding key_level matches
  key_level_stays row = rw (stay.writekey, stay.readkey, stay.nokey, stay.keys, stay.entered)

  hidden_stays : (row : ℕ) → hidden after row ≡ hidden before row
  unfolding hidden
  hidden_stays row = rw stay.keys

  -- levels that do not fall: what Non-secure may know afterwards it may know before
  known_before : ((domain page : ℕ) → shown_level before domain page ≤ shown_level after domain page)
      → (row : ℕ) → knows after row ≡ true → knows before row ≡ true
  unfolding may_read
  known_before rise row Knows-after = go (is_lock_row row) Knows-after
    where
      may_at : Bool → State → Bool
      may_at lock state = lock || leb (max (shown_level state 1 (owner row)) (row_key_level state row)) 1

      go : (lock : Bool) → (lock || may_at lock after && not (hidden after row)) ≡ true → (lock || may_at lock before && not (hidden before row)) ≡ true
      go true k = refl
      go false k =
          let parts = (and-eq-true_iff (may_at false after) (not (hidden after row))).0 k in
          let low = leb-true (max (shown_level after 1 (owner row)) (row_key_level after row)) 1 parts.0 in
          let may : may_at false before ≡ true = le-leb (max (shown_level before 1 (owner row)) (row_key_level before row)) 1 (omega (arith, low, rise 1 (owner row), key_level_stays row)) in
          rw (may, ← hidden_stays row) parts.1

-- ---- chips that still agree

module _ (a b : Chip) (agree : Agree a b) (rows-a rows-b : List ℕ) (state-a state-b : State)
    (stay-a : KeysStay a.state state-a) (stay-b : KeysStay b.state state-b) where
  abbrev LeftA : Chip
  LeftA = record { rows = rows-a; state = state-a }

  abbrev LeftB : Chip
  LeftB = record { rows = rows-b; state = state-b }

  -- their keys and lengths as they were, it is a matter of levels and entries
  pub still_agree : length rows-a ≡ length a.rows → length rows-b ≡ length b.rows
      → ((domain page : ℕ) → shown_level state-a domain page ≡ shown_level state-b domain page)
      → ((domain page : ℕ) → shown_level a.state domain page ≤ shown_level state-a domain page)
      → ((row : ℕ) → row_at a.rows row ≡ row_at b.rows row → row_at rows-a row ≡ row_at rows-b row)
      → Agree LeftA LeftB
  still_agree length-a length-b levels rise entries = record {
    lengths = rw (length-a, length-b) agree.lengths;
    levels = λ domain page. rw (levels domain page);
    write_keys = λ page. rw (stay-a.writekey, stay-b.writekey) (agree.write_keys page);
    read_keys = λ page. rw (stay-a.readkey, stay-b.readkey) (agree.read_keys page);
    flags = λ k. rw (stay-a.keys, stay-b.keys) (agree.flags k);
    key_levels = λ row. rw (key_level_stays a.state state-a stay-a row, key_level_stays b.state state-b stay-b row) (agree.key_levels row);
    entries = λ row low known. entries row (agree.entries row low (known_before a.state state-a stay-a rise row known));
  }

  -- of key indexes too nothing is left to say
  pub still_same : ((row : ℕ) → row_at a.rows row ≡ row_at b.rows row → row_at rows-a row ≡ row_at rows-b row)
      → ((domain : ℕ) → levels_of a.state domain ≡ levels_of b.state domain → levels_of state-a domain ≡ levels_of state-b domain)
      → SameAsBefore a b LeftA LeftB
  still_same entries levels = record {
    entries = λ row same. entries row same;
    levels = λ domain same. levels domain same;
    write_keys = λ same. rw (stay-a.writekey, stay-b.writekey) same;
    read_keys = λ same. rw (stay-a.readkey, stay-b.readkey) same;
  }

-- a call that changes neither chip
pub nothing_changes : (a b : Chip) → SameAsBefore a b a b
nothing_changes a b = record { entries = λ row same. same; levels = λ domain same. same; write_keys = λ same. same; read_keys = λ same. same }

-- one call after another
pub same_through : {a b a' b' a'' b'' : Chip} → SameAsBefore a b a' b' → SameAsBefore a' b' a'' b'' → SameAsBefore a b a'' b''
same_through first second = record {
  entries = λ row same. second.entries row (first.entries row same);
  levels = λ domain same. second.levels domain (first.levels domain same);
  write_keys = λ same. second.write_keys (first.write_keys same);
  read_keys = λ same. second.read_keys (first.read_keys same);
}
