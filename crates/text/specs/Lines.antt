-- What a line of a job's text says of an entry: nothing, the entry, or that one of its words, counted from 0, is wrong.
use Rattle.std.specs.Prelude.{ℕ, min, Bool, not, ◌&&◌, List, [], ◌∷◌, eqb, ltb, Option, Some, None}
use Rattle.std.specs.Prelude.{if◌then◌else◌}
use Rattle.chip.specs.Lists.{same}
use Rattle.typed.specs.Numbers.{number_of}
use Rattle.typed.specs.Words.{word_at, word_of}
use Rattle.text.specs.Line.{Line, Empty, Entry, Wrong}
use Rattle.text.specs.Whys as why

-- a line has a word, counted from 0
abbrev pub has_word : List ℕ → ℕ → Bool
has_word line n = ltb (word_at line n).from (word_at line n).to

-- the number that a word spells
abbrev pub number_at : List ℕ → ℕ → Option ℕ
number_at line n = number_of (word_of line n)

-- the names of the kinds, "ecc" and "raw"
abbrev pub ecc : List ℕ
ecc = 101 ∷ 99 ∷ 99 ∷ []

abbrev pub raw : List ℕ
raw = 114 ∷ 97 ∷ 119 ∷ []

-- a raw value above 24 bits
abbrev pub is_cut : ℕ → ℕ → Bool
is_cut kind value = eqb kind 1 && ltb 0xffffff value

-- an entry has room for a row of 16 bits and a value of 24. For a larger one the largest stands, in which either version's rule finds the
-- same fault; but in a raw value of 24 bits it finds none, so a larger one is wrong here
unfoldable pub entry_of : ℕ → ℕ → ℕ → Line
entry_of row kind value =
    if is_cut kind value then Wrong 2 why.RawValue
    else Entry (record { row = min row 0xffff; kind = kind; value = min value 0xffffff })

-- a row and a kind, with the value that a word spells
abbrev pub with_value : ℕ → ℕ → Option ℕ → Line
with_value row kind None = Wrong 2 why.Number
with_value row kind (Some value) = entry_of row kind value

-- a row, with the kind that the second word names and the value that the third spells: ecc is 0, raw is 1
unfoldable pub with_kind : List ℕ → ℕ → Line
with_kind line row =
    if same (word_of line 1) ecc then with_value row 0 (number_at line 2)
    else if same (word_of line 1) raw then with_value row 1 (number_at line 2)
    else Wrong 1 why.Kind

-- the row that a word spells, with the words after it
abbrev pub with_row : List ℕ → Option ℕ → Line
with_row line None = Wrong 0 why.Number
with_row line (Some row) = with_kind line row

-- a line has three words or none: a row, a kind and a value
unfoldable pub line_of : List ℕ → Line
line_of line =
    if not (has_word line 0) then Empty
    else if not (has_word line 1) then Wrong 0 why.Missing
    else if not (has_word line 2) then Wrong 1 why.Missing
    else if has_word line 3 then Wrong 3 why.Extra
    else with_row line (number_at line 0)
