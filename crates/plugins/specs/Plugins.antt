-- What a Non-secure plug-in can learn of a chip (request 2026-10): two chips that agree on what Non-secure may know answer all its calls
-- alike. This is about answers; it says nothing of the time that they take.
use Rattle.std.specs.Prelude.{ℕ, ◌≤◌, Bool, true, false, not, ◌&&◌, ◌||◌, List, ◌∷◌, ◌≡◌, length, replicate, set}
use Rattle.chip.specs.Callers.{levels_of, shown_level}
use Rattle.permit.specs.Keys.{key_at, hidden}
use Rattle.chip.specs.Pages.{is_lock_row}
use Rattle.permit.specs.Permission.{row_key_level, may_read}
use Rattle.chip.specs.Slices.{row_at, too_large}
use Rattle.chip.specs.States.{counted_index, zero_key}
use Rattle.chip.specs.declared.state.State.{State}
use Rattle.laws.specs.Calls.{Chip, Call, a_raw_read, an_ecc_read, a_vote, a_raw_write, an_ecc_write, an_advance, a_show, perform_all, answers_of}
use Rattle.merging.specs.Settings.{◌among◌}

-- Non-secure may know what a row holds: a lock row, or a row that it may read and that is no row of a latched valid key
abbrev pub knows : State → ℕ → Bool
knows state row = is_lock_row row || (may_read state 1 row && not (hidden state row))

-- two chips agree; all else differs at will: every other entry, too large ones too, key words and whether all rows of a key decoded, no-key
-- states, the entered key, tallies
pub record Agree (a b : Chip) : Type 0 where
  -- row slices of the same length
  pub lengths : length a.rows ≡ length b.rows
  -- the same levels in all domains, as they count
  pub levels : (domain page : ℕ) → shown_level a.state domain page ≡ shown_level b.state domain page
  -- the same key indexes, as they count
  pub write_keys : (page : ℕ) → counted_index a.state.writekey page ≡ counted_index b.state.writekey page
  pub read_keys : (page : ℕ) → counted_index a.state.readkey page ≡ counted_index b.state.readkey page
  -- the same valid flags
  pub flags : (k : ℕ) → (key_at a.state k).valid ≡ (key_at b.state k).valid
  -- the same key level at every row, so on every page and every lock row
  pub key_levels : (row : ℕ) → row_key_level a.state row ≡ row_key_level b.state row
  -- the same entry wherever Non-secure may know it
  pub entries : (row : ℕ) → row ≤ 4095 → knows a.state row ≡ true → row_at a.rows row ≡ row_at b.rows row

-- the calls of a plug-in: reads, votes, writes, advances and shows as Non-secure, with any other arguments, refused or done
pub data ByNonsecure : Call → Type 0 where
  raw_read : {row : ℕ} → ByNonsecure (a_raw_read 1 row)
  ecc_read : {row : ℕ} → ByNonsecure (an_ecc_read 1 row)
  vote : {row count : ℕ} → ByNonsecure (a_vote 1 row count)
  raw_write : {row value : ℕ} → ByNonsecure (a_raw_write 1 row value)
  ecc_write : {row value : ℕ} → ByNonsecure (an_ecc_write 1 row value)
  advance : {domain page level : ℕ} → ByNonsecure (an_advance 1 domain page level)
  show : {domain page : ℕ} → ByNonsecure (a_show 1 domain page)

-- what was the same of two chips still is, of what is left of them, whatever Non-secure may know by then: each entry, and each latched
-- array of levels and of key indexes
pub record SameAsBefore (a b left_a left_b : Chip) : Type 0 where
  pub entries : (row : ℕ) → row_at a.rows row ≡ row_at b.rows row → row_at left_a.rows row ≡ row_at left_b.rows row
  pub levels : (domain : ℕ) → levels_of a.state domain ≡ levels_of b.state domain → levels_of left_a.state domain ≡ levels_of left_b.state domain
  pub write_keys : a.state.writekey ≡ b.state.writekey → left_a.state.writekey ≡ left_b.state.writekey
  pub read_keys : a.state.readkey ≡ b.state.readkey → left_a.state.readkey ≡ left_b.state.readkey

-- nothing else is learnt: any list of such calls is answered alike by two chips that agree, they agree again afterwards, and what was the
-- same of them still is
abbrev pub NothingLearnt : Type 0
NothingLearnt =
    (a b : Chip) (calls : List Call) → ((call : Call) → call among calls → ByNonsecure call) → Agree a b
    → (answers_of a calls ≡ answers_of b calls) × Agree (perform_all a calls) (perform_all b calls)
    × SameAsBefore a b (perform_all a calls) (perform_all b calls)

-- ---- two chips that agree, and differ in all that may differ

-- page 2 is closed to Non-secure; key 1 is valid and whole, is page 3's write key and has been entered; key 2 is not valid, and may be whole
abbrev pub keyed : ℕ → Bool → ℕ → State
keyed word flag tally = record {
  secure = replicate 64 0;
  nonsecure = set (replicate 64 0) 2 2;
  bootloader = replicate 64 0;
  writekey = set (replicate 64 0) 3 1;
  readkey = replicate 64 0;
  nokey = set (replicate 64 false) 3 flag;
  keys = record { words = word ∷ replicate 7 0; valid = true; whole = true }
      ∷ record { words = replicate 8 0; valid = false; whole = flag } ∷ replicate 4 zero_key;
  entered = word ∷ replicate 7 0;
  tallies = set (replicate 64 0) 2 tally;
}

-- blank rows but for the first two of page 2 and the first of key 1
abbrev pub written : ℕ → ℕ → ℕ → List ℕ
written locked next secret = set (set (set (replicate 4096 0) 0x080 locked) 0x081 next) 0xf48 secret

abbrev pub one_chip : Chip
one_chip = record { rows = written 0x230001 0 0x230001; state = keyed 1 false 4 }

abbrev pub other_chip : Chip
other_chip = record { rows = written 0xdcfffe 0xffffffff 0x250002; state = keyed 2 true 1536 }

-- they agree
abbrev pub TheyAgree : Type 0
TheyAgree = Agree one_chip other_chip

-- they differ in a locked row, a too large entry and a hidden key row
abbrev pub RowsDiffer : Type 0
RowsDiffer =
    (may_read one_chip.state 1 0x080 ≡ false) × (row_at one_chip.rows 0x080 ≡ row_at other_chip.rows 0x080 → ⊥)
    × (too_large one_chip.rows 0x081 ≡ false) × (too_large other_chip.rows 0x081 ≡ true)
    × (hidden one_chip.state 0xf48 ≡ true) × (row_at one_chip.rows 0xf48 ≡ row_at other_chip.rows 0xf48 → ⊥)

-- and in the words of a valid key, whether a key is whole, a no-key state, the entered key and a tally
abbrev pub StatesDiffer : Type 0
StatesDiffer =
    ((key_at one_chip.state 1).words ≡ (key_at other_chip.state 1).words → ⊥)
    × ((key_at one_chip.state 2).whole ≡ (key_at other_chip.state 2).whole → ⊥)
    × (one_chip.state.nokey ≡ other_chip.state.nokey → ⊥) × (one_chip.state.entered ≡ other_chip.state.entered → ⊥)
    × (one_chip.state.tallies ≡ other_chip.state.tallies → ⊥)
