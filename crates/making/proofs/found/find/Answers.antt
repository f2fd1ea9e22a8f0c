-- `making::found::find` meets its contract: each row adds to what was found, and the first of those found is the first of all.
-- Assumes nothing.
use Rattle.std.proofs.Common.{◌≡◌, ℕ, ◌+◌, ◌≤◌, Bool, true, false, List, refl, ap, ◌∙◌, add-one, arith}
use Rattle.chip.specs.Slices.{row_at}
use Rattle.making.specs.Found.{such, with_row, found_below}
use Rattle.making.specs.declared.found.Found.{Found}
use Rattle.making.specs.declared.found.Why.{Why}
use Rattle.making.proofs.Firsts.{first}
use Rattle.making.proofs.found.find.Goals as goal

pub loop-row-init : goal.loop-row-init
unfolding found_below
loop-row-init c = (omega arith, refl)

-- what the rows below a number have, with one row more
more : (why : Why) (present wanted : List ℕ) (row : ℕ)
    → with_row (found_below why present wanted row) row (such why row (row_at present row) (row_at wanted row)) ≡ found_below why present wanted (row + 1)
unfolding found_below
more why present wanted row = rw (add-one row)

-- a row adds one at most
few : (found : Found) (row : ℕ) (holds : Bool) → (with_row found row holds).rows ≤ found.rows + 1
few found row true = omega arith
few found row false = omega arith

pub loop-row-preserved : goal.loop-row-preserved
loop-row-preserved c =
    let a = c.args in
    let l = c.loop-row in (
      omega (arith, ap (λ (f : Found). f.rows) c.with_row-found.ensures, few l.found l.row c.stands-holds.result),
      cc (more a.why a.present.now a.wanted.now l.row),
    )

pub returns-clause-value : goal.returns-clause-value
returns-clause-value c =
    let a = c.args in
    let all : c.loop-row.row ≡ 4096 = omega arith in
    c.loop-row.invariant.1 ∙ ap (found_below a.why a.present.now a.wanted.now) all

pub returns-clause-first : goal.returns-clause-first
returns-clause-first c =
    let a = c.args in
    rw (returns-clause-value c) (first a.why a.present.now a.wanted.now)
