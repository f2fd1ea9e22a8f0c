-- 9 of an entry: exactly where it is an ECC entry of which neither polarity fits.
-- Assumes nothing.
use mathlib.Core.Bool.{Bool, true, false, ◌&&◌}
use mathlib.Core.List.{[], ◌∷◌}
use mathlib.Core.Path.{◌≡◌, refl}
use Prim.Native.Nat.{ℕ}
use lib.Dec.{eqb}
use Rattle.std.specs.Prelude.{if◌then◌else◌}
use Rattle.decode.specs.Reading.{data_of}
use Rattle.answer.specs.Rungs.{◌when◌, first_of}
use Rattle.row.specs.Writing.{ecc_written, raw_written, neither_fits}
use Rattle.row.proofs.Unfit.{nine}
use Rattle.form.specs.declared.entries.Entry.{Entry}
use Rattle.judge.specs.Verdicts.{entry_written, unfit}

pub entry_nine : (old : ℕ) (e : Entry) → (entry_written old e).number ≡ first_of (9 when unfit old e ∷ [])
unfolding entry_written
entry_nine old e = go (eqb e.kind 0)
  where
    go : (coded : Bool)
        → (if coded then ecc_written old (data_of e.value) else raw_written old e.value).number
        ≡ (if coded && neither_fits old (data_of e.value) then 9 else 0)
    go true = nine old (data_of e.value)
    go false = refl
