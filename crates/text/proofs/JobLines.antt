-- A job's text that is read line by line is read as its definitions say, and its entries are put where they say.
-- Assumes nothing.
use mathlib.Core.Path.{◌≡◌, refl}
use mathlib.Core.List.{List, ◌++◌}
use Prim.Native.Nat.{ℕ, ◌+◌}
use native.Mathlib.Omega.{arith}
use lib.ListN.{length}
use Rattle.form.specs.Writing.{with_entries}
use Rattle.form.specs.declared.entries.Entry as form
use Rattle.text.specs.Jobs.{Reading, passed, stopped, next_of, read_by, entry_by, read_from, entries_from}
use Rattle.text.specs.Line.{Line, Empty, Version, Entry, Wrong}
use Rattle.text.specs.Readings.{walk, walk_puts}
use Rattle.text.proofs.LineByLine.{walked, counted, put_all}

abbrev by : List ℕ → Reading → Reading
by text reading = read_by text reading (next_of text reading)

abbrev puts : List ℕ → Reading → List ℕ → List ℕ
puts text reading job = with_entries job reading.count (entry_by (next_of text reading))

-- a line's entry is counted, and put in before the others
module _ (text : List ℕ) (reading : Reading) where
  count_by : (line : Line) → (read_by text reading line).count ≡ reading.count + length (entry_by line)
  unfolding passed stopped
  count_by Empty = omega arith
  count_by (Version version) = omega arith
  count_by (Entry entry) = refl
  count_by (Wrong word why) = omega arith

  put_first : (job : List ℕ) (line : Line) (others : List form.Entry)
      → with_entries job reading.count (entry_by line ++ others) ≡ with_entries (with_entries job reading.count (entry_by line)) (read_by text reading line).count others
  unfolding passed stopped with_entries
  put_first job Empty others = refl
  put_first job (Version version) others = refl
  put_first job (Entry entry) others = refl
  put_first job (Wrong word why) others = refl

module _ (text : List ℕ) (most : ℕ) where
  abbrev gives : Reading → List form.Entry
  gives reading = entry_by (next_of text reading)

  pub job_walk : (lines : ℕ) (reading : Reading) → walk by lines text most reading ≡ read_from lines text most reading
  unfolding read_from entries_from
  job_walk = walked text most by gives (λ n r. read_from n text most r) (λ r. refl) (λ n r. refl) (λ n r. entries_from n text most r) (λ r. refl) (λ n r. refl)

  pub job_counted : (lines : ℕ) (reading : Reading) → (read_from lines text most reading).count ≡ reading.count + length (entries_from lines text most reading)
  unfolding read_from entries_from
  job_counted =
      counted text most by gives (λ n r. read_from n text most r) (λ r. refl) (λ n r. refl) (λ n r. entries_from n text most r) (λ r. refl) (λ n r. refl)
      (λ r. count_by text r (next_of text r))

  pub job_puts : (lines : ℕ) (reading : Reading) (job : List ℕ)
      → walk_puts by puts lines text most reading job ≡ with_entries job reading.count (entries_from lines text most reading)
  unfolding read_from entries_from with_entries
  job_puts =
      put_all text most by gives (λ n r. read_from n text most r) (λ r. refl) (λ n r. refl) (λ n r. entries_from n text most r) (λ r. refl) (λ n r. refl)
      puts with_entries (λ job at. refl) (λ r job others. put_first text r job (next_of text r) others)
