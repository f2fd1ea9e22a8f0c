-- What the code says of a line, as the definitions have it: one to one.
use Rattle.std.specs.Prelude.{ℕ, Option, Some, None, Result, Ok, Err}
use Rattle.form.specs.declared.entries.Entry as form
use Rattle.text.specs.Line as line
use Rattle.text.specs.Lists as lists
use Rattle.text.specs.Whys as whys
use Rattle.text.specs.declared.entries.Why.{Why}
use Rattle.text.specs.declared.entries.Why.TheVariants.{Missing, Extra, Number, Kind, RawValue, Version, NotFirst}
use Rattle.text.specs.declared.entries.WrongWord.{WrongWord}
use Rattle.text.specs.declared.versions.Said.{Said}
use Rattle.text.specs.declared.versions.Said.TheVariants as said

-- why a word is wrong
abbrev pub reason : Why → whys.Why
reason Missing = whys.Missing
reason Extra = whys.Extra
reason Number = whys.Number
reason Kind = whys.Kind
reason RawValue = whys.RawValue
reason Version = whys.Version
reason NotFirst = whys.NotFirst

-- nothing, an entry, or a wrong word
abbrev pub entry_said : Result (Option form.Entry) WrongWord → line.Line
entry_said (Ok None) = line.Empty
entry_said (Ok (Some entry)) = line.Entry entry
entry_said (Err wrong) = line.Wrong wrong.word (reason wrong.why)

-- the same, or the version
abbrev pub line_said : Result (Option Said) WrongWord → line.Line
line_said (Ok None) = line.Empty
line_said (Ok (Some (said.Version version))) = line.Version version
line_said (Ok (Some (said.Entry entry))) = line.Entry entry
line_said (Err wrong) = line.Wrong wrong.word (reason wrong.why)

-- nothing, a row, or a wrong word
abbrev pub row_said_as : Result (Option ℕ) WrongWord → lists.Listed
row_said_as (Ok None) = lists.Empty
row_said_as (Ok (Some row)) = lists.Row row
row_said_as (Err wrong) = lists.Wrong wrong.word (reason wrong.why)
