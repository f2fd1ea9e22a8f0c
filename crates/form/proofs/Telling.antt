-- What the code says of a job can be told from the fault that the definitions have.
-- Assumes nothing.
use mathlib.Core.Path.{◌≡◌, refl}
use Rattle.std.specs.Prelude.{Result, Ok, Err}
use Rattle.answer.proofs.Telling.{told_apart}
use Rattle.form.specs.Faults as faults
use Rattle.form.specs.Said.{said}
use Rattle.form.specs.declared.faults.Fault.{Fault}
use Rattle.form.specs.declared.faults.Fault.TheVariants.{Short, Mark, Version, Count, Length, Kind, Value, High, Kept, Past, Coded, Late, Order}

abbrev taken_back : faults.Fault → Result (Unit {0}) Fault
taken_back faults.Sound = Ok tt
taken_back faults.Short = Err Short
taken_back faults.Mark = Err Mark
taken_back faults.Version = Err Version
taken_back faults.Count = Err Count
taken_back faults.Length = Err Length
taken_back (faults.Kind i) = Err (Kind i)
taken_back (faults.Value i) = Err (Value i)
taken_back (faults.High i) = Err (High i)
taken_back (faults.Kept i) = Err (Kept i)
taken_back (faults.Past i) = Err (Past i)
taken_back (faults.Coded i) = Err (Coded i)
taken_back (faults.Late i) = Err (Late i)
taken_back (faults.Order i) = Err (Order i)

back : (judged : Result (Unit {0}) Fault) → taken_back (said judged) ≡ judged
back (Ok tt) = refl
back (Err Short) = refl
back (Err Mark) = refl
back (Err Version) = refl
back (Err Count) = refl
back (Err Length) = refl
back (Err (Kind i)) = refl
back (Err (Value i)) = refl
back (Err (High i)) = refl
back (Err (Kept i)) = refl
back (Err (Past i)) = refl
back (Err (Coded i)) = refl
back (Err (Late i)) = refl
back (Err (Order i)) = refl

pub said_tells : (a b : Result (Unit {0}) Fault) → said a ≡ said b → a ≡ b
said_tells = told_apart said taken_back back
