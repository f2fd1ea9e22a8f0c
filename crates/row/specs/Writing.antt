-- What a write leaves in a row (document 01, "A row with ECC" and "Jobs").
use Rattle.std.specs.Prelude.{ℕ, Bool, Result, Ok, Err, not, ◌&&◌, eqb}
use Rattle.std.specs.Int.Bits.{bit_and, bit_or}
use Rattle.std.specs.Prelude.{if◌then◌else◌}
use Rattle.row.specs.Code.{set_bits, flipped, plain, inverted}
use Rattle.answer.specs.declared.refusals.Refusal.{Refusal}
use Rattle.answer.specs.Refusals.{refusal_number}
use Rattle.row.specs.declared.writing.Burnt.{Burnt}

-- what there is to say of a write: its number, the row that stands after it, and the pulses that it takes
pub record Written : Type 0 where
  pub number : ℕ
  pub row : ℕ
  pub pulses : ℕ

-- every bit already set is in the row
abbrev pub fits : ℕ → ℕ → Bool
fits old row = eqb (bit_and old row) old

-- pulses are the bits newly set: those that the row has and the old one lacks
unfoldable pub pulses : ℕ → ℕ → ℕ
pulses old row = set_bits (bit_and row (flipped old))

-- a row burnt over an old one
abbrev pub burnt_over : ℕ → ℕ → Written
burnt_over old row = record { number = 0; row = row; pulses = pulses old row }

-- a write that is refused leaves the old row, and takes no pulse
abbrev pub left_alone : ℕ → ℕ → Written
left_alone old number = record { number = number; row = old; pulses = 0 }

-- neither polarity of a value's row holds every bit already set
abbrev pub neither_fits : ℕ → ℕ → Bool
neither_fits old value = not (fits old (plain value)) && not (fits old (inverted value))

-- every bit already set is in the plain row: that is burnt; else in the inverted row: that; else 9
abbrev pub ecc_written : ℕ → ℕ → Written
ecc_written old value =
    if fits old (plain value) then burnt_over old (plain value)
    else if fits old (inverted value) then burnt_over old (inverted value)
    else left_alone old 9

-- a raw write leaves the old row or'ed with the value
abbrev pub raw_written : ℕ → ℕ → Written
raw_written old value = burnt_over old (bit_or old value)

-- a write that is done, as such a record
abbrev pub done_with : Burnt → Written
done_with burnt = record { number = 0; row = burnt.row; pulses = burnt.pulses }

-- a write as the code answers it, as such a record: one that is refused leaves the old row
abbrev pub written_by : ℕ → Result Burnt Refusal → Written
written_by old (Ok burnt) = done_with burnt
written_by old (Err refusal) = left_alone old (refusal_number refusal)
