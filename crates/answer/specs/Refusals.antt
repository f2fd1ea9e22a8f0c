-- The numbers of the refusals (document 01, "The numbers we answer with").
use Rattle.std.specs.Prelude.{ℕ, Result, Ok, Err}
use Rattle.answer.specs.declared.refusals.Refusal.{Refusal}
use Rattle.answer.specs.declared.refusals.Refusal.TheVariants.{NotWhole, NoSuchRow, TooLarge, NoSuchNumber, LockRow, KeyRow, NotPermitted, NotDecoded, NeitherFits, Malformed, OutOfPlace, NoRoom, BitLost, TooMany, NoMark, NoSuchVersion, OutOfRange}

-- the number that each refusal has
abbrev pub refusal_number : Refusal → ℕ
refusal_number NotWhole = 1
refusal_number NoSuchRow = 2
refusal_number TooLarge = 3
refusal_number NoSuchNumber = 4
refusal_number LockRow = 5
refusal_number KeyRow = 6
refusal_number NotPermitted = 7
refusal_number NotDecoded = 8
refusal_number NeitherFits = 9
refusal_number Malformed = 10
refusal_number OutOfPlace = 11
refusal_number NoRoom = 12
refusal_number BitLost = 13
refusal_number TooMany = 14
refusal_number NoMark = 15
refusal_number NoSuchVersion = 16
refusal_number OutOfRange = 17

-- 0 where something is done, and else the number of its refusal
abbrev pub number_of : {A : Type 0} → Result A Refusal → ℕ
number_of (Ok value) = 0
number_of (Err refusal) = refusal_number refusal
