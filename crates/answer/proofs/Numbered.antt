-- No refusal has the number of what is done, or that of another refusal.
use mathlib.Core.Path.{ap}
use Rattle.std.specs.Prelude.{◌≡◌, ℕ, refl, false, Result, Ok, Err, eqb}
use Rattle.std.specs.Prelude.{if◌then◌else◌}
use Rattle.answer.specs.Refusals.{refusal_number, number_of}
use Rattle.answer.specs.declared.refusals.Refusal.{Refusal}
use Rattle.answer.specs.declared.refusals.Refusal.TheVariants.{NotWhole, NoSuchRow, TooLarge, NoSuchNumber, LockRow, KeyRow, NotPermitted, NotDecoded, NeitherFits, Malformed, OutOfPlace, NoRoom, BitLost, TooMany, NoMark, NoSuchVersion, OutOfRange}
use Rattle.answer.proofs.Telling.{told_apart}

pub not_done : (refusal : Refusal) → eqb (refusal_number refusal) 0 ≡ false
not_done NotWhole = refl
not_done NoSuchRow = refl
not_done TooLarge = refl
not_done NoSuchNumber = refl
not_done LockRow = refl
not_done KeyRow = refl
not_done NotPermitted = refl
not_done NotDecoded = refl
not_done NeitherFits = refl
not_done Malformed = refl
not_done OutOfPlace = refl
not_done NoRoom = refl
not_done BitLost = refl
not_done TooMany = refl
not_done NoMark = refl
not_done NoSuchVersion = refl
not_done OutOfRange = refl

-- the refusal that has a number, and the last where none has it
abbrev pub refusal_with : ℕ → Refusal
refusal_with number =
    if eqb number 1 then NotWhole
    else if eqb number 2 then NoSuchRow
    else if eqb number 3 then TooLarge
    else if eqb number 4 then NoSuchNumber
    else if eqb number 5 then LockRow
    else if eqb number 6 then KeyRow
    else if eqb number 7 then NotPermitted
    else if eqb number 8 then NotDecoded
    else if eqb number 9 then NeitherFits
    else if eqb number 10 then Malformed
    else if eqb number 11 then OutOfPlace
    else if eqb number 12 then NoRoom
    else if eqb number 13 then BitLost
    else if eqb number 14 then TooMany
    else if eqb number 15 then NoMark
    else if eqb number 16 then NoSuchVersion
    else OutOfRange

pub numbered : (refusal : Refusal) → refusal_with (refusal_number refusal) ≡ refusal
numbered NotWhole = refl
numbered NoSuchRow = refl
numbered TooLarge = refl
numbered NoSuchNumber = refl
numbered LockRow = refl
numbered KeyRow = refl
numbered NotPermitted = refl
numbered NotDecoded = refl
numbered NeitherFits = refl
numbered Malformed = refl
numbered OutOfPlace = refl
numbered NoRoom = refl
numbered BitLost = refl
numbered TooMany = refl
numbered NoMark = refl
numbered NoSuchVersion = refl
numbered OutOfRange = refl

pub refusal_number_tells : (a b : Refusal) → refusal_number a ≡ refusal_number b → a ≡ b
refusal_number_tells = told_apart refusal_number refusal_with numbered

-- so is a call that has nothing to tell but its number
abbrev answered_with : ℕ → Result (Unit {0}) Refusal
answered_with number = if eqb number 0 then Ok tt else Err (refusal_with number)

answered_so : (result : Result (Unit {0}) Refusal) → answered_with (number_of result) ≡ result
answered_so (Ok tt) = refl
answered_so (Err refusal) = rw (not_done refusal) (ap Err (numbered refusal))

pub number_of_tells : (a b : Result (Unit {0}) Refusal) → number_of a ≡ number_of b → a ≡ b
number_of_tells = told_apart number_of answered_with answered_so
