-- The number of a call: a list of rungs in the order of document 01's table ("Given exactly when"), of which the first whose test holds
-- answers.
use Rattle.std.specs.Prelude.{ℕ, Bool, List, [], ◌∷◌, eqb}
use Rattle.std.specs.Prelude.{if◌then◌else◌}

-- a number, the test that gives it, and the place that goes with it
pub record Rung : Type 0 where
  pub number : ℕ
  pub test : Bool
  pub place : ℕ

-- a number given when a test holds
abbrev pub ◌when◌ : ℕ → Bool → Rung
number when test = record { number = number; test = test; place = 0 }

infix 70 ◌when◌
-- a rung of a job's entry, whose index is the answer's place
abbrev pub ◌of_entry◌ : Rung → ℕ → Rung
rung of_entry i = record { number = rung.number; test = rung.test; place = i }

infix 68 ◌of_entry◌
-- the number of the first test that holds, and 0 where none does
abbrev pub first_of : List Rung → ℕ
first_of [] = 0
first_of (rung ∷ others) = if rung.test then rung.number else first_of others

-- the place that goes with it
abbrev pub place_of : List Rung → ℕ
place_of [] = 0
place_of (rung ∷ others) = if rung.test then rung.place else place_of others

-- a number, and where it is 0 the next
abbrev pub or_else : ℕ → ℕ → ℕ
or_else number next = if eqb number 0 then next else number
