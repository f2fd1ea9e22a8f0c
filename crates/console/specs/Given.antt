-- What the words of a command can be. They come from outside: so a definition speaks of some word, whichever was given.
use Rattle.std.specs.Prelude.{ℕ, ◌≤◌, List, Result, Ok, Err, is_some}
use Rattle.std.specs.Prelude.{if◌then◌else◌}
use Rattle.console.specs.declared.ended.Stop.{Stop}
use Rattle.console.specs.declared.options.Words.{Words}
use Rattle.console.specs.declared.takes.Takes.{Takes}

-- something that is so of some word
pub record SomeWord (holds : List ℕ → Type 0) : Type 0 where
  pub word : List ℕ
  pub so : holds word

-- how many words follow no option
abbrev pub count_of : Words → ℕ
count_of words =
    if is_some words.third then 3
    else if is_some words.second then 2
    else if is_some words.first then 1
    else 0

-- as many of them as a command takes
abbrev pub Enough : Takes → Words → Type 0
Enough takes words = (takes.least ≤ count_of words) × (count_of words ≤ takes.most)

-- words that fit are enough
abbrev pub Judged : Takes → Words → Result Unit Stop → Type 0
Judged takes words (Ok _) = Enough takes words
Judged takes words (Err _) = Unit

-- words that a command goes on with are enough for it
abbrev pub Fits : Takes → Result Words Stop → Type 0
Fits takes (Ok words) = Enough takes words
Fits takes (Err _) = Unit
