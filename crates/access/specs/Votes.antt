-- Reading a vote (document 01, "Votes").
use Rattle.std.specs.Prelude.{ℕ, zero, suc, ◌+◌, ◌-◌, not, ◌||◌, List, [], ◌∷◌, ◌++◌, eqb, ltb, take, drop, replicate}
use Rattle.answer.specs.Answers.{told, answered}
use Rattle.answer.specs.Rungs.{Rung, ◌when◌, first_of}
use Rattle.answer.specs.declared.answers.Answer.{Answer}
use Rattle.vote.specs.Voting.{threshold, vote}
use Rattle.chip.specs.Callers.{no_caller}
use Rattle.permit.specs.Permission.{may_read}
use Rattle.chip.specs.Slices.{not_whole}
use Rattle.chip.specs.declared.state.State.{State}
use Rattle.access.specs.Judging.{row_rungs}

-- the rows are taken upward, and the first that meets 6, 7 or 3 answers
unfoldable pub group_rungs : List ℕ → State → ℕ → ℕ → ℕ → List Rung
group_rungs rows state caller row zero = []
group_rungs rows state caller row (suc others) =
    row_rungs rows state (may_read state caller row) row ++ group_rungs rows state caller (suc row) others

-- read a vote: a group that runs past row 4,095, 2; one with any lock row, 5
abbrev pub read_vote_number : List ℕ → State → ℕ → ℕ → ℕ → ℕ
read_vote_number rows state caller row count =
    first_of
    (1 when not_whole rows ∷ 4 when no_caller caller ∷ 4 when not (eqb count 3 || eqb count 8)
    ∷ 2 when ltb 4096 (row + count) ∷ 5 when ltb 0xf80 (row + count)
    ∷ group_rungs rows state caller row count)

-- the rows of a group
abbrev pub group : List ℕ → ℕ → ℕ → List ℕ
group rows row count = take count (drop row rows)

-- eight rows, of which the first few are judged: those of a group, and zeros behind them
abbrev pub gathered : List ℕ → ℕ → ℕ → List ℕ
gathered rows row count = group rows row count ++ replicate (8 - count) 0

unfoldable pub read_vote : List ℕ → State → ℕ → ℕ → ℕ → Answer
read_vote rows state caller row count =
    answered (read_vote_number rows state caller row count) (told (vote (threshold count) (group rows row count)))
