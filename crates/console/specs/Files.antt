-- What loading can answer. What a file holds, and whether the system lets it be read, comes from outside.
use Rattle.std.specs.Prelude.{ℕ, List, ◌≡◌, Result, Ok, Err}
use Rattle.image.specs.Images.{rows_of}
use Rattle.console.specs.declared.ended.Stop.{Stop}
use Rattle.console.specs.Given.{SomeWord}

-- the rows of some bytes, or none
abbrev pub Image : Result Unit Stop → List ℕ → Type 0
Image (Ok _) rows = SomeWord (λ bytes. rows ≡ rows_of bytes)
Image (Err _) rows = Unit
