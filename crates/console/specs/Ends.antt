-- How a command ends.
use Rattle.std.specs.Prelude.{◌≡◌}
use Rattle.console.specs.declared.ended.End.{End}
use Rattle.console.specs.declared.ended.Stop.{Stop}

-- a command stops with this end
abbrev pub StopsWith : End → Stop → Type 0
StopsWith end stop = stop.0 ≡ end
