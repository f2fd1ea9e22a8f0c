-- Reading a row with ECC (document 01, "A row with ECC"; request 2026-03 for what is said of polarity and wear).
use Rattle.std.specs.Prelude.{ℕ, zero, suc, ◌/◌, ◌%◌, ◌^◌, Bool, Option, Some, None, Result, Ok, Err, not, eqb}
use Rattle.std.specs.Int.Bits.{bit_xor}
use Rattle.std.specs.Prelude.{if◌then◌else◌}
use Rattle.answer.specs.Answers.{refused, found, found_in, answered}
use Rattle.row.specs.Code.{bit_at, code, flipped}
use Rattle.answer.specs.declared.answers.Answer.{Answer}
use Rattle.answer.specs.declared.answers.Condition.{Condition}
use Rattle.answer.specs.declared.answers.Condition.TheVariants.{Clean, Repaired, FlagWorn, FlagWornRepaired}
use Rattle.answer.specs.declared.answers.Polarity.{Polarity}
use Rattle.answer.specs.declared.answers.Polarity.TheVariants.{Plain, Inverted}
use Rattle.answer.specs.declared.refusals.Refusal.{Refusal}
use Rattle.answer.specs.Refusals.{refusal_number}
use Rattle.decode.specs.declared.reading.Held.{Held}

-- bits 23 and 22 are both set
abbrev pub both_set : ℕ → Bool
both_set row = eqb (row / 2 ^ 22 % 4) 3

-- both set: all 24 bits flipped; otherwise the row as it is
abbrev pub upright : ℕ → ℕ
upright row = if both_set row then flipped row else row

-- bits 15:0, the data
abbrev pub data_of : ℕ → ℕ
data_of bits = bits % 2 ^ 16

-- some bits are a code if they are the code of their data
abbrev pub is_code : ℕ → Bool
is_code bits = eqb bits (code (data_of bits))

-- the bits that differ from these in one place
abbrev pub flipped_at : ℕ → ℕ → ℕ
flipped_at place bits = bit_xor bits (2 ^ place)

-- a code that differs from the bits in one place below `places`: its value, repaired there; none: 8
unfoldable pub repaired_below : ℕ → ℕ → Answer
repaired_below zero bits = refused 8
repaired_below (suc place) bits =
    if is_code (flipped_at place bits) then found (data_of (flipped_at place bits)) (Repaired place)
    else repaired_below place bits

-- the value whose code differs from bits 21:0 in at most one place: in none, clean; in one, repaired; no such value: 8
unfoldable pub decoded : ℕ → Answer
decoded bits = if is_code bits then found (data_of bits) Clean else repaired_below 22 bits

-- which polarity a row is in: inverted exactly if bits 23 and 22 are both set
abbrev pub polarity_of : ℕ → Polarity
polarity_of row = if both_set row then Inverted else Plain

-- whether bits 23 and 22 disagree
abbrev pub disagree : ℕ → Bool
disagree row = not (eqb (bit_at 23 row) (bit_at 22 row))

-- no longer clean but flag worn, with the repaired bit if there was one
abbrev pub flag_worn : Condition → Condition
flag_worn Clean = FlagWorn
flag_worn (Repaired bit) = FlagWornRepaired bit
flag_worn FlagWorn = FlagWorn
flag_worn (FlagWornRepaired bit) = FlagWornRepaired bit

-- what is said of a row that holds this: its polarity, and flag worn where bits 23 and 22 disagree; a refusal says neither
abbrev pub said_of : ℕ → Answer → Answer
said_of row held =
    answered held.number
    (found_in (polarity_of row) held.value (if disagree row then flag_worn held.condition else held.condition))

-- a row read with ECC
abbrev pub read_row : ℕ → Answer
read_row row = said_of row (decoded (upright row % 2 ^ 22))

-- no value has a code within one bit
abbrev pub undecodable : ℕ → Bool
undecodable row = eqb (read_row row).number 8

-- repaired where a bit was, else clean
abbrev pub repaired_at : Option ℕ → Condition
repaired_at None = Clean
repaired_at (Some bit) = Repaired bit

-- what bits 21:0 hold, as such an answer
abbrev pub held_as : Held → Answer
held_as held = found held.value (repaired_at held.repaired)

-- and where they hold none, its refusal
abbrev pub held_by : Result Held Refusal → Answer
held_by (Ok held) = held_as held
held_by (Err refusal) = refused (refusal_number refusal)
