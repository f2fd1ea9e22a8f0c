-- What a command takes, put together.
use Rattle.std.specs.Prelude.{ℕ, true, false}
use Rattle.console.specs.declared.takes.Role.{Role}
use Rattle.console.specs.declared.takes.Role.TheVariants.{Image, Other}
use Rattle.console.specs.declared.takes.Takes.{Takes}

-- so many words, and no option
abbrev pub words : Role → Role → ℕ → ℕ → Takes
words one two fewest greatest = record {
  first = one;
  second = two;
  third = Other;
  least = fewest;
  most = greatest;
  key = false;
  save = false;
  replace = false;
  ways = false;
  rows = false;
}

-- an image, so many words with it, and a key to enter
abbrev pub on_image : Role → ℕ → ℕ → Takes
on_image two fewest greatest = record (words Image two fewest greatest) { key = true }

-- besides, what a third word is
abbrev pub with_third : Takes → Role → Takes
with_third takes three = record takes { third = three }

-- besides, what a read is asked with
abbrev pub with_ways : Takes → Takes
with_ways takes = record takes { ways = true }

-- besides, a text with a list of rows
abbrev pub with_rows : Takes → Takes
with_rows takes = record takes { rows = true }

-- besides, leave to write over a file
abbrev pub with_replace : Takes → Takes
with_replace takes = record takes { replace = true }

-- besides, a name to save under, and leave to write over a file
abbrev pub with_save : Takes → Takes
with_save takes = record takes { save = true; replace = true }
