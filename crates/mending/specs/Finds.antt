-- What a report entry of the pass says.
use Rattle.std.specs.Prelude.{ℕ, ◌/◌, ◌%◌, eqb}
use Rattle.std.specs.Prelude.{if◌then◌else◌}
use Rattle.repair.specs.declared.finding.Found.{Found}
use Rattle.repair.specs.declared.finding.Found.TheVariants.{Clean, Mended, Worn, Damaged, NotPermitted}

-- what was found, by an entry, which is kind + 256 x bit
unfoldable pub found_by : ℕ → Found
found_by entry =
    if eqb (entry % 256) 0 then Clean
    else if eqb (entry % 256) 1 then Mended (entry / 256)
    else if eqb (entry % 256) 2 then Worn
    else if eqb (entry % 256) 3 then Damaged
    else NotPermitted
