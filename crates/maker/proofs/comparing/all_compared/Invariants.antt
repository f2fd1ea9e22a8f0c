-- `maker::comparing::all_compared` meets its contract. The invariant: what is kept is what the rows so far show.
use Rattle.std.proofs.Common.{◌≡◌}
use Rattle.maker.specs.Comparing.{shown_below}
use Rattle.maker.proofs.comparing.all_compared.Given as goal

abbrev pub invariant-loop-row : goal.invariant-loop-row
invariant-loop-row l = l.shown ≡ shown_below l.present l.wanted l.row
