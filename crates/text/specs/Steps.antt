-- One line more is one line, and at most one entry or row.
use Rattle.std.specs.Prelude.{◌≡◌, ℕ, ◌+◌, ◌≤◌, List, refl}
use Rattle.std.proofs.Math.Nat.{le_refl, le-add_right}
use Rattle.text.specs.Jobs.{Reading, passed, stopped, read_by}
use Rattle.text.specs.Line as line
use Rattle.text.specs.Lists as lists

module _ (text : List ℕ) (reading : Reading) where
  -- of a job's text
  pub job_line : (line : line.Line) → (read_by text reading line).line ≡ reading.line + 1
  unfolding passed stopped
  job_line line.Empty = refl
  job_line (line.Version version) = refl
  job_line (line.Entry entry) = refl
  job_line (line.Wrong word why) = refl

  pub job_entry : (line : line.Line) → (read_by text reading line).count ≤ reading.count + 1
  unfolding passed stopped
  job_entry line.Empty = le-add_right reading.count 1
  job_entry (line.Version version) = le-add_right reading.count 1
  job_entry (line.Entry entry) = le_refl (reading.count + 1)
  job_entry (line.Wrong word why) = le-add_right reading.count 1

  -- of a list's
  pub list_line : (line : lists.Listed) → (lists.list_by text reading line).line ≡ reading.line + 1
  unfolding passed stopped
  list_line lists.Empty = refl
  list_line (lists.Row row) = refl
  list_line (lists.Wrong word why) = refl

  pub list_row : (line : lists.Listed) → (lists.list_by text reading line).count ≤ reading.count + 1
  unfolding passed stopped
  list_row lists.Empty = le-add_right reading.count 1
  list_row (lists.Row row) = le_refl (reading.count + 1)
  list_row (lists.Wrong word why) = le-add_right reading.count 1
