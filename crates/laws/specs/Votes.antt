-- What is promised of votes, over any number of rows and any threshold (document 01, "Votes").
use Rattle.std.specs.Prelude.{List, [], ◌∷◌, ◌↔◌, ◌≡◌, ℕ, ◌^◌, ◌≤◌, ◌<◌, length}
use Rattle.row.specs.Code.{bit_at}
use Rattle.vote.specs.Voting.{holders, vote}
use Rattle.laws.specs.Writes.{In}

-- a bit is set exactly if at least the threshold's number of rows have it
abbrev pub VotedBit : Type 0
VotedBit =
    (threshold : ℕ) (rows : List ℕ) (place : ℕ) → place < 24
    → (bit_at place (vote threshold rows) ≡ 1) ↔ (threshold ≤ holders place rows)

-- a vote is a row
abbrev pub VoteIsRow : Type 0
VoteIsRow = (threshold : ℕ) (rows : List ℕ) → vote threshold rows < 2 ^ 24

-- each of the rows is this one
pub data Each : ℕ → List ℕ → Type 0 where
  none : {row : ℕ} → Each row []
  more : {row : ℕ} {rows : List ℕ} → Each row rows → Each row (row ∷ rows)

-- a vote of equal rows is that row
abbrev pub VoteOfEqual : Type 0
VoteOfEqual =
    (threshold row : ℕ) (rows : List ℕ) → row < 2 ^ 24 → 1 ≤ threshold → threshold ≤ length rows → Each row rows
    → vote threshold rows ≡ row

-- each row's bits are in the row at the same place of the other list
pub data EachIn : List ℕ → List ℕ → Type 0 where
  none : EachIn [] []
  more : {old new : ℕ} {olds news : List ℕ} → In old new → EachIn olds news → EachIn (old ∷ olds) (new ∷ news)

-- burning rows clears no bit of their vote
abbrev pub VoteKeepsBits : Type 0
VoteKeepsBits = (threshold : ℕ) (olds news : List ℕ) → EachIn olds news → In (vote threshold olds) (vote threshold news)
