-- A row burnt for some pulses only, bits upward (document 01, "Jobs").
use Rattle.std.specs.Prelude.{ℕ, zero, suc, ◌+◌, ◌*◌, ◌^◌, ltb}
use Rattle.std.specs.Int.Bits.{bit_and, bit_or}
use Rattle.std.specs.Int.Count.{ones_in}
use Rattle.std.specs.Prelude.{if◌then◌else◌}
use Rattle.row.specs.Code.{bit_at, flipped}

-- of some bits the n lowest, among those below `places`: a bit is among them if fewer than n are set below it
unfoldable pub lowest_below : ℕ → ℕ → ℕ → ℕ
lowest_below zero n bits = 0
lowest_below (suc place) n bits = lowest_below place n bits + (if ltb (ones_in place bits) n then bit_at place bits else 0) * 2 ^ place

-- a row burnt for n pulses, bits upward: the old bits, and the n lowest of those that it lacks
unfoldable pub burnt_upward : ℕ → ℕ → ℕ → ℕ
burnt_upward n old row = bit_or old (lowest_below 24 n (bit_and row (flipped old)))
