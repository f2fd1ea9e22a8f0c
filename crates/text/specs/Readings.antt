-- How far the code has read a text, as the definitions have it, one to one; and a text that is read line by line, whatever a line says.
use Rattle.std.specs.Prelude.{ℕ, zero, suc, true, false, List, Result, Ok, Err}
use Rattle.std.specs.Prelude.{if◌then◌else◌}
use Rattle.text.specs.Jobs as jobs
use Rattle.text.specs.Said.{reason}
use Rattle.text.specs.Whys as whys
use Rattle.text.specs.declared.reading.Reading.{Reading}
use Rattle.text.specs.declared.reading.Wrong.{Wrong}

-- no line was wrong yet
abbrev pub going : Reading → jobs.Reading
going reading = record {
  line = reading.line;
  start = reading.start;
  next = reading.next;
  first = reading.first;
  version = reading.version;
  count = reading.count;
  going = true;
  word = 0;
  why = whys.Nothing;
}

-- the last line was wrong
abbrev pub ended : Wrong → jobs.Reading
ended wrong = record (going wrong.reading) { going = false; word = wrong.word; why = reason wrong.why }

abbrev pub read_as : Result Reading Wrong → jobs.Reading
read_as (Ok reading) = going reading
read_as (Err wrong) = ended wrong

module _ (by : List ℕ → jobs.Reading → jobs.Reading) where
  -- how far a text is read from here, in so many lines at most
  unfoldable pub walk : ℕ → List ℕ → ℕ → jobs.Reading → jobs.Reading
  walk zero text most reading = reading
  walk (suc lines) text most reading = if jobs.goes_on text most reading then walk lines text most (by text reading) else reading

  -- and what its lines make of what is kept
  unfoldable pub walk_puts : {A : Type 0} → (List ℕ → jobs.Reading → List A → List A) → ℕ → List ℕ → ℕ → jobs.Reading → List A → List A
  walk_puts puts zero text most reading kept = kept
  walk_puts puts (suc lines) text most reading kept =
      if jobs.goes_on text most reading then walk_puts puts lines text most (by text reading) (puts text reading kept) else kept
