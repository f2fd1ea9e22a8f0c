-- The bytes so far are the key's, and their digits are digits.
use Rattle.std.proofs.Common.{ℕ, ◌*◌, ◌<◌, get_or}
use Rattle.chip.proofs.Lists.{Filled}
use Rattle.typed.specs.Numbers.{digit_of, key_byte}
use Rattle.typed.proofs.numbers.key_of.Given as goal

abbrev pub invariant-loop-i : goal.invariant-loop-i
invariant-loop-i l = record {
  digits : (k : ℕ) → k < 2 * l.i → digit_of (get_or l.text k 0) < 16;
  filled : Filled 16 (key_byte l.text) l.i l.byte-items;
}
