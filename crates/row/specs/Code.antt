-- A row with ECC: the code of a value, and the two rows that hold it (document 01, "A row with ECC"; datasheet 13.6).
use Rattle.std.specs.Prelude.{ℕ, suc, ◌*◌, ◌/◌, ◌%◌, ◌^◌, List, [], ◌∷◌}
use Rattle.std.specs.Int.Bits.{bit_and, bit_or, bit_xor}
use Rattle.std.specs.Int.Count.{ones_in}

-- the bit at a place of a row, 1 or 0
abbrev pub bit_at : ℕ → ℕ → ℕ
bit_at place row = row / 2 ^ place % 2

-- how many of a row's 24 bits are set
unfoldable pub set_bits : ℕ → ℕ
set_bits row = ones_in 24 row

-- in how many places two rows differ
abbrev pub distance : ℕ → ℕ → ℕ
distance a b = set_bits (bit_xor a b)

-- the even parity of some bits: 1 if an odd number of them is set, and otherwise 0
unfoldable pub parity : ℕ → ℕ
parity bits = set_bits bits % 2

-- the masks of check bits 0 to 5, over bits 21:0
unfoldable pub masks : List ℕ
masks = 0x00ad5b ∷ 0x00366d ∷ 0x00c78e ∷ 0x0007f0 ∷ 0x00f800 ∷ 0x1fffff ∷ []

-- a check bit put in at its place: the even parity of the bits that its mask names
unfoldable pub with_check : ℕ → ℕ → ℕ → ℕ
with_check mask place bits = bit_or bits (parity (bit_and bits mask) * 2 ^ place)

-- the check bits put in in order, the first of them at `place`
unfoldable pub with_checks : List ℕ → ℕ → ℕ → ℕ
with_checks [] place bits = bits
with_checks (mask ∷ rest) place bits = with_checks rest (suc place) (with_check mask place bits)

-- the code of a value: data in 15:0, the six check bits in 21:16
unfoldable pub code : ℕ → ℕ
code value = with_checks masks 16 value

-- all 24 bits of a row flipped
abbrev pub flipped : ℕ → ℕ
flipped row = bit_xor row 0xffffff

-- the plain row has zeros in 23:22
abbrev pub plain : ℕ → ℕ
plain value = code value

-- the inverted row is all 24 bits of the plain row flipped
abbrev pub inverted : ℕ → ℕ
inverted value = flipped (plain value)
