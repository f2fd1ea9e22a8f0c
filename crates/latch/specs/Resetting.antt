-- Reset, and what it latches of the rows (document 01, "Locks" and "Keys"; request 2026-07).
use Rattle.std.specs.Prelude.{ℕ, zero, suc, ◌+◌, ◌%◌, Bool, true, not, ◌&&◌, List, [], ◌∷◌, eqb, leb}
use Rattle.answer.specs.Answers.{done}
use Rattle.decode.specs.Reading.{read_row}
use Rattle.answer.specs.Rungs.{◌when◌, first_of}
use Rattle.permit.specs.Keys.{key_row, valid_row, no_key}
use Rattle.chip.specs.Lists.{listed}
use Rattle.chip.specs.Pages.{low_lock_row, high_lock_row}
use Rattle.chip.specs.Slices.{row_at, not_whole}
use Rattle.chip.specs.States.{outcome}
use Rattle.chip.specs.Tallies.{tallies_of}
use Rattle.chip.specs.declared.state.Key.{Key}
use Rattle.chip.specs.declared.state.State.{State}
use Rattle.chip.specs.declared.state.Outcome.{Outcome}
use Rattle.latch.specs.declared.resetting.LockWord.{LockWord}
use Rattle.latch.specs.Locks.{voted_byte, write_key_field, read_key_field, no_key_field, secure_field, nonsecure_field, bootloader_field, level_of}

-- no entry is above 16,777,215
unfoldable pub all_in_range : List ℕ → Bool
all_in_range [] = true
all_in_range (row ∷ rows) = leb row 16777215 && all_in_range rows

-- the word that is latched of a key row: its value, or 0 where it does not decode, which is the value of a refusal
abbrev pub word_of : ℕ → ℕ
word_of row = (read_row row).value

-- whether all rows from one on decode
unfoldable pub all_decode : List ℕ → ℕ → ℕ → Bool
all_decode rows first zero = true
all_decode rows first (suc n) = all_decode rows first n && eqb (read_row (row_at rows (first + n))).number 0

-- what reset latches of key k: its words, low 16 bits first; its flag, set if at least two of bits 0, 8 and 16 are; whether all rows decoded
abbrev pub latched_key : List ℕ → ℕ → Key
latched_key rows k = record {
  words = listed 8 (λ i. word_of (row_at rows (key_row k + i)));
  valid = eqb (voted_byte (row_at rows (valid_row k)) % 2) 1;
  whole = all_decode rows (key_row k) 8;
}

-- what the two rows of a lock word say
abbrev pub lock_word : ℕ → ℕ → LockWord
lock_word low high = record {
  secure = level_of (secure_field high);
  nonsecure = level_of (nonsecure_field high);
  bootloader = level_of (bootloader_field high);
  writekey = write_key_field low;
  readkey = read_key_field low;
  nokey = no_key_field low;
}

-- what the lock word of a page says
abbrev pub lock_word_of : List ℕ → ℕ → LockWord
lock_word_of rows page = lock_word (row_at rows (low_lock_row page)) (row_at rows (high_lock_row page))

-- reset latches levels, key indexes, no-key states, keys and valid flags, clears the entered key, and fills the tallies
unfoldable pub latched : List ℕ → State
latched rows = record {
  secure = listed 64 (λ page. level_of (secure_field (row_at rows (high_lock_row page))));
  nonsecure = listed 64 (λ page. level_of (nonsecure_field (row_at rows (high_lock_row page))));
  bootloader = listed 64 (λ page. level_of (bootloader_field (row_at rows (high_lock_row page))));
  writekey = listed 64 (λ page. write_key_field (row_at rows (low_lock_row page)));
  readkey = listed 64 (λ page. read_key_field (row_at rows (low_lock_row page)));
  nokey = listed 64 (λ page. no_key_field (row_at rows (low_lock_row page)));
  keys = listed 6 (λ i. latched_key rows (i + 1));
  entered = no_key;
  tallies = tallies_of rows;
}

-- reset reads every row
abbrev pub reset_number : List ℕ → ℕ
reset_number rows = first_of (1 when not_whole rows ∷ 3 when not (all_in_range rows) ∷ [])

unfoldable pub reset : List ℕ → State → Outcome
reset rows state = outcome (reset_number rows) state (record { answer = done; state = latched rows })
