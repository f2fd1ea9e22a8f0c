-- The version of a text's job: the first line that says anything may be "version 1" or "version 2".
use Rattle.std.specs.Prelude.{ℕ, Bool, not, List, [], ◌∷◌}
use Rattle.std.specs.Prelude.{if◌then◌else◌}
use Rattle.chip.specs.Lists.{same}
use Rattle.typed.specs.Words.{word_of}
use Rattle.text.specs.Lines.{has_word, line_of}
use Rattle.text.specs.Line.{Line, Version, Wrong}
use Rattle.text.specs.Whys as why

-- the word "version", and the names of the versions, "1" and "2"
abbrev pub version : List ℕ
version = 118 ∷ 101 ∷ 114 ∷ 115 ∷ 105 ∷ 111 ∷ 110 ∷ []

abbrev pub one : List ℕ
one = 49 ∷ []

abbrev pub two : List ℕ
two = 50 ∷ []

-- the version that the second word names
unfoldable pub version_named : List ℕ → Line
version_named line =
    if same (word_of line 1) one then Version 1
    else if same (word_of line 1) two then Version 2
    else Wrong 1 why.Version

-- what a line says, which is the first that says anything or a later one: a version line is the first, and has two words
unfoldable pub said_by : Bool → List ℕ → Line
said_by first line =
    if not (same (word_of line 0) version) then line_of line
    else if not first then Wrong 0 why.NotFirst
    else if not (has_word line 1) then Wrong 0 why.Version
    else if has_word line 2 then Wrong 2 why.Version
    else version_named line
