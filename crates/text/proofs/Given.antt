-- The job that a text gives: as many entries as are counted, each within its places. So the job says what the text says.
-- Assumes nothing.
use mathlib.Core.Path.{◌≡◌, refl, sym, ap, ◌∙◌}
use mathlib.Core.Bool.{Bool, not}
use mathlib.Core.List.{List, [], ◌∷◌, ◌++◌}
use Prim.Native.Nat.{ℕ, zero, suc, ◌+◌, ◌*◌, ◌≤◌, ◌<◌}
use native.Mathlib.Nat.{zero-add}
use native.Mathlib.Omega.{arith}
use lib.ListN.{length, set}
use lib.Seq.{set_comm}
use Rattle.std.specs.Prelude.{Option, Some, None}
use Rattle.answer.proofs.Choices.{both_ways}
use Rattle.chip.specs.Lists.{same}
use Rattle.form.specs.Entries as form
use Rattle.form.specs.Writing.{head_bytes, entry_bytes, with_bytes, with_head, with_entry, with_entries}
use Rattle.form.specs.declared.entries.Entry as entry
use Rattle.form.proofs.WholeJob.{AllFit, job_entries}
use Rattle.text.specs.Lines.{is_cut, number_at, ecc, raw, entry_of, with_value, with_kind, with_row, has_word, line_of}
use Rattle.typed.specs.Words.{word_of}
use Rattle.text.specs.Versions.{version, one, two, version_named, said_by}
use Rattle.text.specs.Jobs.{Reading, begun, next_of, read_by, entry_by, goes_on, entries_from, most_lines, reading_of, entries_of}
use Rattle.text.proofs.JobLines.{job_counted}
use Rattle.text.specs.Line.{Line, Empty, Version, Entry, Wrong}
use Rattle.text.specs.Whys as why

-- ---- as many entries as are counted

pub counted : (text : List ℕ) (most : ℕ) → (reading_of text most).count ≡ length (entries_of text most)
counted text most = job_counted text most most_lines begun ∙ zero-add (length (entries_of text most))

-- ---- each within its places

abbrev Fit : Line → Type 0
Fit line = AllFit (entry_by line)

fit_entry : (row kind value : ℕ) → kind ≤ 1 → Fit (entry_of row kind value)
unfolding entry_of AllFit
fit_entry row kind value known =
    both_ways Fit (is_cut kind value) (Wrong 2 why.RawValue) (Entry _) tt ((omega arith, omega arith, omega arith), tt)

fit_value : (row kind : ℕ) (number : Option ℕ) → kind ≤ 1 → Fit (with_value row kind number)
unfolding AllFit
fit_value row kind None known = tt
fit_value row kind (Some value) known = fit_entry row kind value known

fit_kind : (line : List ℕ) (row : ℕ) → Fit (with_kind line row)
unfolding with_kind AllFit
fit_kind line row =
    both_ways Fit (same (word_of line 1) ecc) (with_value row 0 (number_at line 2)) _
    (fit_value row 0 (number_at line 2) (omega arith))
    (both_ways Fit (same (word_of line 1) raw) (with_value row 1 (number_at line 2)) (Wrong 1 why.Kind)
    (fit_value row 1 (number_at line 2) (omega arith))
    tt)

fit_row : (line : List ℕ) (number : Option ℕ) → Fit (with_row line number)
unfolding AllFit
fit_row line None = tt
fit_row line (Some row) = fit_kind line row

fit_line : (line : List ℕ) → Fit (line_of line)
unfolding line_of AllFit
fit_line line =
    both_ways Fit (not (has_word line 0)) Empty _ tt
    (both_ways Fit (not (has_word line 1)) (Wrong 0 why.Missing) _ tt
    (both_ways Fit (not (has_word line 2)) (Wrong 1 why.Missing) _ tt
    (both_ways Fit (has_word line 3) (Wrong 3 why.Extra) (with_row line (number_at line 0)) tt (fit_row line (number_at line 0)))))

fit_named : (line : List ℕ) → Fit (version_named line)
unfolding version_named AllFit
fit_named line = both_ways Fit (same (word_of line 1) one) (Version 1) _ tt (both_ways Fit (same (word_of line 1) two) (Version 2) (Wrong 1 why.Version) tt tt)

fit_said : (first : Bool) (line : List ℕ) → Fit (said_by first line)
unfolding said_by AllFit
fit_said first line =
    both_ways Fit (not (same (word_of line 0) version)) (line_of line) _ (fit_line line)
    (both_ways Fit (not first) (Wrong 0 why.NotFirst) _ tt
    (both_ways Fit (not (has_word line 1)) (Wrong 0 why.Version) _ tt
    (both_ways Fit (has_word line 2) (Wrong 2 why.Version) (version_named line) tt (fit_named line))))

fit_more : (line : Line) (others : List entry.Entry) → Fit line → AllFit others → AllFit (entry_by line ++ others)
unfolding AllFit
fit_more Empty others fit rest = rest
fit_more (Version number) others fit rest = rest
fit_more (Entry entry) others fit rest = (fit.0, rest)
fit_more (Wrong word why) others fit rest = rest

fit_from : (text : List ℕ) (most lines : ℕ) (reading : Reading) → AllFit (entries_from lines text most reading)
unfolding entries_from AllFit
fit_from text most zero reading = tt
fit_from text most (suc lines) reading =
    both_ways AllFit (goes_on text most reading) _ []
    (fit_more (next_of text reading) _ (fit_said reading.first _) (fit_from text most lines (read_by text reading (next_of text reading))))
    tt

-- ---- a head that is put after the entries

set_first : (bytes : List ℕ) (job : List ℕ) (at i byte : ℕ) → i < at → with_bytes (set job i byte) at bytes ≡ set (with_bytes job at bytes) i byte
unfolding with_bytes
set_first [] job at i byte h = refl
set_first (first ∷ others) job at i byte h =
    ap (λ (own : List ℕ). with_bytes own (at + 1) others) (set_comm job i at byte first (λ e. omega arith))
    ∙ set_first others (set job at first) (at + 1) i byte (omega arith)

bytes_first : (front : List ℕ) (bytes job : List ℕ) (at to : ℕ) → at + length front ≤ to
    → with_bytes (with_bytes job at front) to bytes ≡ with_bytes (with_bytes job to bytes) at front
unfolding with_bytes
bytes_first [] bytes job at to h = refl
bytes_first (first ∷ others) bytes job at to h =
    bytes_first others bytes (set job at first) (at + 1) to (omega arith)
    ∙ ap (λ (own : List ℕ). with_bytes own (at + 1) others) (set_first bytes job to at first (omega arith))

head_last : (entries : List entry.Entry) (job : List ℕ) (i version count : ℕ)
    → with_head (with_entries job i entries) version count ≡ with_entries (with_head job version count) i entries
unfolding with_entries
head_last [] job i version count = refl
head_last (first ∷ others) job i version count =
    head_last others (with_entry job i first) (i + 1) version count
    ∙ ap (λ (own : List ℕ). with_entries own (i + 1) others) (sym (bytes_first (head_bytes version count) (entry_bytes first) job 0 (7 + 6 * i) (omega arith)))

-- ---- the job says what the text says

-- a text is read into a job that has room for its entries, then the head is put: the job's entries are the text's
pub given : (text job : List ℕ) (most version : ℕ) → version ≤ 65535 → length (entries_of text most) ≤ 65535
    → 7 + 6 * length (entries_of text most) ≤ length job
    → form.entries_of (with_head (with_entries job 0 (entries_of text most)) version (reading_of text most).count) ≡ entries_of text most
given text job most version v n room =
    rw (counted text most, head_last (entries_of text most) job 0 version (length (entries_of text most)))
    (job_entries job version (entries_of text most) v n room (fit_from text most most_lines begun))
