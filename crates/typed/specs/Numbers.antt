-- Numbers and keys as they are typed.
use Rattle.std.specs.Prelude.{ℕ, ◌+◌, ◌*◌, ◌-◌, Bool, true, ◌&&◌, ◌||◌, List, [], ◌∷◌, eqb, ltb, leb, length, get_or, drop, Option, Some, None}
use Rattle.std.specs.Prelude.{if◌then◌else◌}
use Rattle.chip.specs.Lists.{listed}

-- a byte is one of several that follow each other
abbrev pub within : ℕ → ℕ → ℕ → Bool
within first last byte = leb first byte && leb byte last

-- what a byte counts as a digit: 0 to 9, then a to f or A to F; 16 where it is no digit
unfoldable pub digit_of : ℕ → ℕ
digit_of byte =
    if within 48 57 byte then byte - 48
    else if within 97 102 byte then byte - 87
    else if within 65 70 byte then byte - 55
    else 16

-- what a digit counts, where it is one of a base
unfoldable pub digit_in : ℕ → ℕ → Option ℕ
digit_in base byte = if ltb (digit_of byte) base then Some (digit_of byte) else None

-- all bytes are digits below a base
unfoldable pub digits_below : ℕ → List ℕ → Bool
digits_below base [] = true
digits_below base (byte ∷ others) = ltb (digit_of byte) base && digits_below base others

-- what digits make of the value before them: each digit counts by itself, and all before it base times as much
unfoldable pub value_with : ℕ → ℕ → List ℕ → ℕ
value_with base value [] = value
value_with base value (byte ∷ others) = value_with base (value * base + digit_of byte) others

-- digits, one at least, spell a number where it is at most 4,294,967,295
unfoldable pub number_in : ℕ → List ℕ → Option ℕ
number_in base digits =
    if leb 1 (length digits) && digits_below base digits && leb (value_with base 0 digits) 4294967295
    then Some (value_with base 0 digits)
    else None

-- a text that begins with 0x or 0X
unfoldable pub hexadecimal : List ℕ → Bool
hexadecimal text = leb 2 (length text) && eqb (get_or text 0 0) 48 && (eqb (get_or text 1 0) 120 || eqb (get_or text 1 0) 88)

-- the number that a text spells: hexadecimal after 0x, and decimal otherwise
abbrev pub number_of : List ℕ → Option ℕ
number_of text = if hexadecimal text then number_in 16 (drop 2 text) else number_in 10 text

-- a key is spelled by 32 hexadecimal digits
abbrev pub spells_key : List ℕ → Bool
spells_key text = eqb (length text) 32 && digits_below 16 text

-- each byte of a key by two digits, the high one first
abbrev pub key_byte : List ℕ → ℕ → ℕ
key_byte text place = digit_of (get_or text (2 * place) 0) * 16 + digit_of (get_or text (2 * place + 1) 0)

-- the 16 bytes of a key, the first one first
unfoldable pub key_of : List ℕ → List ℕ
key_of text = listed 16 (key_byte text)

-- the key that a text spells
abbrev pub key_spelled : List ℕ → Option (List ℕ)
key_spelled text = if spells_key text then Some (key_of text) else None
