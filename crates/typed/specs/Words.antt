-- A text as lines and words.
use Rattle.std.specs.Prelude.{ℕ, zero, suc, ◌+◌, ◌-◌, min, Bool, not, ◌||◌, List, [], ◌∷◌, eqb, leb, length, take, drop}
use Rattle.std.specs.Prelude.{if◌then◌else◌}
use Rattle.typed.specs.declared.words.Span.{Span}

-- a line ends with a line feed
abbrev pub ends_line : ℕ → Bool
ends_line byte = eqb byte 10

-- a comment begins with #
abbrev pub begins_comment : ℕ → Bool
begins_comment byte = eqb byte 35

-- blanks part words: a space, a tab, or the carriage return before a line feed
abbrev pub is_blank : ℕ → Bool
is_blank byte = eqb byte 32 || eqb byte 9 || eqb byte 13

abbrev pub is_written : ℕ → Bool
is_written byte = not (is_blank byte)

-- what stands before the first byte of a kind, and all where there is none
unfoldable pub up_to : (ℕ → Bool) → List ℕ → List ℕ
up_to kind [] = []
up_to kind (byte ∷ others) = if kind byte then [] else byte ∷ up_to kind others

-- the place of the first byte of a kind from a place on, and the end of the text where there is none
unfoldable pub place_of : (ℕ → Bool) → List ℕ → ℕ → ℕ
place_of kind text from = min from (length text) + length (up_to kind (drop from text))

-- a part of a text, and nothing where the text is shorter
abbrev pub part_of : List ℕ → ℕ → ℕ → List ℕ
part_of text from to = if leb to (length text) then take (to - from) (drop from text) else []

-- what the line that begins at a place says: all before its comment
abbrev pub line_at : List ℕ → ℕ → List ℕ
line_at text start = up_to begins_comment (up_to ends_line (drop start text))

-- the next line begins past the end of this one, and nowhere past the end of the text
abbrev pub next_line : List ℕ → ℕ → ℕ
next_line text start = min (place_of ends_line text start + 1) (length text)

-- the first word from a place on: from what is no blank to the next blank
unfoldable pub word_from : List ℕ → ℕ → Span
word_from line from = record {
  from = place_of is_written line from;
  to = place_of is_blank line (place_of is_written line from);
}

-- a word of a line, counted from 0. It is empty where there is none
unfoldable pub word_at : List ℕ → ℕ → Span
word_at line zero = word_from line 0
word_at line (suc n) = word_from line (word_at line n).to

-- the bytes of a word
abbrev pub word_of : List ℕ → ℕ → List ℕ
word_of line n = part_of line (word_at line n).from (word_at line n).to
