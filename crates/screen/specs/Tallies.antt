-- How many answers were compared, and how many of them differ.
use Rattle.std.specs.Prelude.{ℕ, ◌+◌, ◌-◌, Bool, not, ltb}
use Rattle.std.specs.Prelude.{if◌then◌else◌}
use Rattle.screen.specs.declared.tally.Tally.{Tally}

-- the sum of two counts; where one is past what a run can reach, it stops there
abbrev pub sum : ℕ → ℕ → ℕ
sum count more =
    if ltb 1000000 count then 1000000
    else if ltb 1000000 more then 1000000
    else count + more

-- one more where a test holds
abbrev pub one_more : ℕ → Bool → ℕ
one_more count holds = if holds then sum count 1 else count

-- nothing was compared
abbrev pub nothing_yet : Tally
nothing_yet = record { compared = 0; differ = 0 }

-- one comparison more
abbrev pub compared : Tally → Bool → Tally
compared tally right = record { compared = sum tally.compared 1; differ = one_more tally.differ (not right) }

-- several comparisons more, of which so many are right
abbrev pub compared_many : Tally → ℕ → ℕ → Tally
compared_many tally right of = record { compared = sum tally.compared of; differ = sum tally.differ (of - right) }
