-- What a line of a job's text says: nothing, the job's version, an entry, or that one of its words, counted from 0, is wrong.
use Rattle.std.specs.Prelude.{ℕ}
use Rattle.form.specs.declared.entries.Entry as form
use Rattle.text.specs.Whys as why

pub data Line : Type 0 where
  Empty : Line
  Version : (version : ℕ) → Line
  Entry : (entry : form.Entry) → Line
  Wrong : (word : ℕ) (why : why.Why) → Line
