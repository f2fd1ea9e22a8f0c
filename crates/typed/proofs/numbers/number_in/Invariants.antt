-- The value so far, and what is left of the digits, make the number.
use Rattle.std.proofs.Common.{◌≡◌, ◌≤◌, drop}
use Rattle.typed.specs.Numbers.{number_in}
use Rattle.typed.proofs.Digits.{left}
use Rattle.typed.proofs.numbers.number_in.Given as goal

abbrev pub invariant-loop-byte : goal.invariant-loop-byte
invariant-loop-byte l = record { fits : l.value ≤ 4294967295; made : number_in l.base l.digits ≡ left l.base l.value (drop l.byte-index l.digits) }
