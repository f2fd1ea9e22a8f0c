-- One entry of a job written over a row: the bits it keeps, its pulses, its size, and that it can be written again.
-- Assumes nothing.
use mathlib.Core.Bool.{Bool, true, false}
use mathlib.Core.Path.{◌≡◌, refl, sym}
use Prim.Native.Nat.{ℕ, ◌^◌, ◌<◌}
use native.Mathlib.Nat.{mod-lt}
use native.Mathlib.Omega.{arith}
use lib.Bits.{or_lt, xor_lt}
use lib.Dec.{eqb}
use lib.Pow.{pow_pos}
use Rattle.std.specs.Prelude.{if◌then◌else◌}
use Rattle.row.specs.Code.{code}
use Rattle.decode.specs.Reading.{data_of}
use Rattle.row.specs.Writing.{pulses, ecc_written, raw_written}
use Rattle.row.specs.Writing.{Written}
use Rattle.row.proofs.Codes.{code_lt}
use Rattle.form.specs.declared.entries.Entry.{Entry}
use Rattle.judge.specs.Verdicts.{entry_written}
use Rattle.laws.specs.Reads.{Value}
use Rattle.laws.specs.Writes.{In}
use Rattle.row.specs.Upward.{burnt_upward}
use Rattle.row.proofs.Places.{and_or}
use Rattle.laws.proofs.Writes.{in_shared, Ecc, written, keeps_bits, same_ecc, same_raw, stands_already}

-- ---- an ECC write

pub ecc_pulses : (old value : ℕ) → (ecc_written old value).pulses ≡ pulses old (ecc_written old value).row
ecc_pulses old value = go (written old value)
  where
    go : {w : Written} → Ecc old value w → w.pulses ≡ pulses old w.row
    go (Ecc.as_plain p) = refl
    go (Ecc.as_inverted ¬p i) = refl
    go (Ecc.as_it_was ¬p ¬i) = sym (stands_already old)

pub ecc_small : (old value : ℕ) → Value value → old < 2 ^ 24 → (ecc_written old value).row < 2 ^ 24
ecc_small old value h small = go (written old value)
  where
    low : code value < 2 ^ 24
    low = omega (arith, code_lt value h)

    go : {w : Written} → Ecc old value w → w.row < 2 ^ 24
    go (Ecc.as_plain p) = low
    go (Ecc.as_inverted ¬p i) = xor_lt 24 (code value) 0xffffff low (omega arith)
    go (Ecc.as_it_was ¬p ¬i) = small

-- ---- an entry, whatever its kind

-- what holds of an ECC write of its data and of a raw write of its value holds of the entry
by_kind : (e : Entry) (P : (ℕ → Written) → Type 0)
    → P (λ old. ecc_written old (data_of e.value)) → P (λ old. raw_written old e.value) → P (λ old. entry_written old e)
unfolding entry_written
by_kind e P ecc raw = go (eqb e.kind 0)
  where
    go : (t : Bool) → P (λ old. if t then ecc_written old (data_of e.value) else raw_written old e.value)
    go true = ecc
    go false = raw

pub entry_keeps : (old : ℕ) (e : Entry) → In old (entry_written old e).row
entry_keeps old e =
    by_kind e (λ write. In old (write old).row) (keeps_bits old (data_of e.value)).0 (keeps_bits old e.value).1

pub entry_pulses : (old : ℕ) (e : Entry) → (entry_written old e).pulses ≡ pulses old (entry_written old e).row
entry_pulses old e =
    by_kind e (λ write. (write old).pulses ≡ pulses old (write old).row) (ecc_pulses old (data_of e.value)) refl

pub entry_small : (old : ℕ) (e : Entry) → old < 2 ^ 24 → e.value < 2 ^ 24 → (entry_written old e).row < 2 ^ 24
entry_small old e small h =
    by_kind e (λ write. (write old).row < 2 ^ 24)
    (ecc_small old (data_of e.value) (mod-lt e.value (pow_pos 16)) small) (or_lt 24 old e.value small h)

-- written again over any row between the old one and what the first write left: the same row
pub entry_again : (old between : ℕ) (e : Entry) → (entry_written old e).number ≡ 0 → In old between → In between (entry_written old e).row
    → ((entry_written between e).number ≡ 0) × ((entry_written between e).row ≡ (entry_written old e).row)
entry_again old between e =
    by_kind e
    (λ write. (write old).number ≡ 0 → In old between → In between (write old).row
    → ((write between).number ≡ 0) × ((write between).row ≡ (write old).row))
    (same_ecc old between (data_of e.value)) (λ done over under. (refl, same_raw old between e.value over under))

-- burnt for some of its pulses only, it keeps the old bits too
pub burnt_over_lem : (n old row : ℕ) → In old (burnt_upward n old row)
unfolding burnt_upward
burnt_over_lem n old row = in_shared old _ (and_or old _)
