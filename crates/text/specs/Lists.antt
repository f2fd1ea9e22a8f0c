-- A list of rows from a text, line by line (request 2026-11). A line has a row alone, or nothing; the rest is as in a job's text.
use Rattle.std.specs.Prelude.{ℕ, zero, suc, ◌+◌, not, List, [], ◌∷◌, ◌++◌, set, Option, Some, None}
use Rattle.std.specs.Prelude.{if◌then◌else◌}
use Rattle.typed.specs.Words.{line_at}
use Rattle.text.specs.Jobs.{Reading, begun, passed, stopped, goes_on, most_lines}
use Rattle.text.specs.Lines.{has_word, number_at}
use Rattle.text.specs.Whys as why

-- what a line says: nothing, a row, or that one of its words, counted from 0, is wrong
pub data Listed : Type 0 where
  Empty : Listed
  Row : (row : ℕ) → Listed
  Wrong : (word : ℕ) (why : why.Why) → Listed

-- the row that a word spells
abbrev pub row_said : Option ℕ → Listed
row_said None = Wrong 0 why.Number
row_said (Some row) = Row row

-- what a line says
unfoldable pub listed_by : List ℕ → Listed
listed_by line =
    if not (has_word line 0) then Empty
    else if has_word line 1 then Wrong 1 why.Extra
    else row_said (number_at line 0)

-- the line that comes next
abbrev pub next_listed : List ℕ → Reading → Listed
next_listed text reading = listed_by (line_at text reading.next)

-- one line more, by what it says
abbrev pub list_by : List ℕ → Reading → Listed → Reading
list_by text reading Empty = passed text reading reading.first reading.version reading.count
list_by text reading (Row row) = passed text reading reading.first reading.version (reading.count + 1)
list_by text reading (Wrong word why) = stopped reading word why

-- its row, where it has one
abbrev pub row_by : Listed → List ℕ
row_by Empty = []
row_by (Row row) = row ∷ []
row_by (Wrong word why) = []

-- how far a text is read from here, in so many lines at most
unfoldable pub list_from : ℕ → List ℕ → ℕ → Reading → Reading
list_from zero text most reading = reading
list_from (suc lines) text most reading =
    if goes_on text most reading then list_from lines text most (list_by text reading (next_listed text reading)) else reading

-- and the rows that it gives from here
unfoldable pub rows_from : ℕ → List ℕ → ℕ → Reading → List ℕ
rows_from zero text most reading = []
rows_from (suc lines) text most reading =
    if goes_on text most reading
    then row_by (next_listed text reading) ++ rows_from lines text most (list_by text reading (next_listed text reading))
    else []

-- how far a text is read
abbrev pub list_reading : List ℕ → ℕ → Reading
list_reading text most = list_from most_lines text most begun

-- the rows that it gives
abbrev pub rows_of : List ℕ → ℕ → List ℕ
rows_of text most = rows_from most_lines text most begun

-- a list with rows put one after the other from a place on; past its end nothing is kept
unfoldable pub with_rows : List ℕ → ℕ → List ℕ → List ℕ
with_rows list at [] = list
with_rows list at (row ∷ others) = with_rows (set list at row) (at + 1) others
