-- A job from a text, line by line.
use Rattle.std.specs.Prelude.{ℕ, zero, suc, ◌+◌, Bool, true, false, ◌&&◌, List, [], ◌∷◌, ◌++◌, ltb, length}
use Rattle.std.specs.Prelude.{if◌then◌else◌}
use Rattle.form.specs.declared.entries.Entry as form
use Rattle.text.specs.Versions.{said_by}
use Rattle.typed.specs.Words.{line_at, next_line}
use Rattle.text.specs.Line.{Line, Empty, Version, Entry, Wrong}
use Rattle.text.specs.Whys.{Why}
use Rattle.text.specs.Whys as why

-- how far a text is read: the line that was read last, where it and the next begin, whether no line has said anything yet, the version and
-- the entries so far, and what is wrong with which word of the line. Once `going` is false, nothing more is read
pub record Reading : Type 0 where
  pub line : ℕ
  pub start : ℕ
  pub next : ℕ
  pub first : Bool
  pub version : ℕ
  pub count : ℕ
  pub going : Bool
  pub word : ℕ
  pub why : Why

-- nothing is read yet: the version is 1 where no line says another
abbrev pub begun : Reading
begun = record { line = 0; start = 0; next = 0; first = true; version = 1; count = 0; going = true; word = 0; why = why.Nothing }

-- a line is read: whether no line has said anything yet, the version, and how many entries there are now
unfoldable pub passed : List ℕ → Reading → Bool → ℕ → ℕ → Reading
passed text reading first version count = record {
  line = reading.line + 1;
  start = reading.next;
  next = next_line text reading.next;
  first = first;
  version = version;
  count = count;
  going = true;
  word = 0;
  why = why.Nothing;
}

-- a line is wrong: it is the last that is read
unfoldable pub stopped : Reading → ℕ → Why → Reading
stopped reading word why = record {
  line = reading.line + 1;
  start = reading.next;
  next = reading.next;
  first = reading.first;
  version = reading.version;
  count = reading.count;
  going = false;
  word = word;
  why = why;
}

-- the line that comes next
abbrev pub next_of : List ℕ → Reading → Line
next_of text reading = said_by reading.first (line_at text reading.next)

-- one line more, by what it says
abbrev pub read_by : List ℕ → Reading → Line → Reading
read_by text reading Empty = passed text reading reading.first reading.version reading.count
read_by text reading (Version version) = passed text reading false version reading.count
read_by text reading (Entry entry) = passed text reading false reading.version (reading.count + 1)
read_by text reading (Wrong word why) = stopped reading word why

-- its entry, where it is one
abbrev pub entry_by : Line → List form.Entry
entry_by Empty = []
entry_by (Version version) = []
entry_by (Entry entry) = entry ∷ []
entry_by (Wrong word why) = []

-- a text is read as far as so many entries, its end or a wrong line
abbrev pub goes_on : List ℕ → ℕ → Reading → Bool
goes_on text most reading = reading.going && ltb reading.count most && ltb reading.next (length text)

-- how far it is read from here, in so many lines at most
unfoldable pub read_from : ℕ → List ℕ → ℕ → Reading → Reading
read_from zero text most reading = reading
read_from (suc lines) text most reading =
    if goes_on text most reading then read_from lines text most (read_by text reading (next_of text reading)) else reading

-- and the entries that it gives from here
unfoldable pub entries_from : ℕ → List ℕ → ℕ → Reading → List form.Entry
entries_from zero text most reading = []
entries_from (suc lines) text most reading =
    if goes_on text most reading
    then entry_by (next_of text reading) ++ entries_from lines text most (read_by text reading (next_of text reading))
    else []

-- more lines than a text of 65,536 bytes has
abbrev pub most_lines : ℕ
most_lines = 65537

-- how far a text is read
abbrev pub reading_of : List ℕ → ℕ → Reading
reading_of text most = read_from most_lines text most begun

-- the entries that it gives
abbrev pub entries_of : List ℕ → ℕ → List form.Entry
entries_of text most = entries_from most_lines text most begun
