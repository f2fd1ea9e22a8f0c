-- What the code says of a job, as the definitions have it: one to one, a fault by its name, and what has none as sound.
use Rattle.std.specs.Prelude.{Result, Ok, Err}
use Rattle.answer.specs.declared.refusals.Refusal.{Refusal}
use Rattle.answer.specs.declared.refusals.Refusal.TheVariants.{Malformed, OutOfPlace}
use Rattle.form.specs.Faults as faults
use Rattle.form.specs.declared.faults.Fault.{Fault}
use Rattle.form.specs.declared.faults.Fault.TheVariants.{Short, Mark, Version, Count, Length, Kind, Value, High, Kept, Past, Coded, Late, Order}

-- a fault
abbrev pub found : Fault → faults.Fault
found Short = faults.Short
found Mark = faults.Mark
found Version = faults.Version
found Count = faults.Count
found Length = faults.Length
found (Kind i) = faults.Kind i
found (Value i) = faults.Value i
found (High i) = faults.High i
found (Kept i) = faults.Kept i
found (Past i) = faults.Past i
found (Coded i) = faults.Coded i
found (Late i) = faults.Late i
found (Order i) = faults.Order i

-- a fault, or none
abbrev pub said : Result (Unit {0}) Fault → faults.Fault
said (Ok sound) = faults.Sound
said (Err fault) = found fault

-- the refusal that a fault is answered with: 10 or 11
abbrev pub refusal_of : Fault → Refusal
refusal_of Short = Malformed
refusal_of Mark = Malformed
refusal_of Version = Malformed
refusal_of Count = Malformed
refusal_of Length = Malformed
refusal_of (Kind i) = Malformed
refusal_of (Value i) = Malformed
refusal_of (High i) = OutOfPlace
refusal_of (Kept i) = OutOfPlace
refusal_of (Past i) = OutOfPlace
refusal_of (Coded i) = OutOfPlace
refusal_of (Late i) = OutOfPlace
refusal_of (Order i) = OutOfPlace
