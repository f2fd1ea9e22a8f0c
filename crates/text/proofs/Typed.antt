-- Lines, numbers and a key as they are typed, and what the definitions make of them.
-- Assumes nothing.
use mathlib.Core.Path.{◌≡◌, refl}
use mathlib.Core.List.{List, [], ◌∷◌}
use Prim.Native.Nat.{ℕ}
use Rattle.chip.specs.Lists.{listed, same}
use Rattle.typed.specs.Numbers.{digit_of, digits_below, value_with, number_in, hexadecimal, number_of, key_of}
use Rattle.typed.specs.Words.{up_to, place_of, line_at, next_line, word_from, word_at}
use Rattle.text.specs.Lines.{entry_of, with_kind, line_of}
use Rattle.std.specs.Prelude.{Some, None}
use Rattle.text.specs.Line.{Entry, Wrong}
use Rattle.text.specs.Whys as why

-- two lines: "0x0c0 ecc 320 # a" and "1 RAW 3"
abbrev pub lines : List ℕ
lines = 48 ∷ 120 ∷ 48 ∷ 99 ∷ 48 ∷ 32 ∷ 101 ∷ 99 ∷ 99 ∷ 32 ∷ 51 ∷ 50 ∷ 48 ∷ 32 ∷ 35 ∷ 32 ∷ 97 ∷ 10 ∷ 49 ∷ 32 ∷ 82 ∷ 65 ∷ 87 ∷ 32 ∷ 51 ∷ []

pub first_line : line_of (line_at lines 0) ≡ Entry (record { row = 0x0c0; kind = 0; value = 320 })
unfolding line_of with_kind entry_of word_at word_from place_of up_to number_in hexadecimal digits_below value_with digit_of same
first_line = refl

pub second_line : line_of (line_at lines (next_line lines 0)) ≡ Wrong 1 why.Kind
unfolding line_of with_kind entry_of word_at word_from place_of up_to number_in hexadecimal digits_below value_with digit_of same
second_line = refl

-- "0XfF", "4294967295" and "4294967296"
pub hexadecimal_number : number_of (48 ∷ 88 ∷ 102 ∷ 70 ∷ []) ≡ Some 255
unfolding number_in hexadecimal digits_below value_with digit_of
hexadecimal_number = refl

pub largest_number : number_of (52 ∷ 50 ∷ 57 ∷ 52 ∷ 57 ∷ 54 ∷ 55 ∷ 50 ∷ 57 ∷ 53 ∷ []) ≡ Some 4294967295
unfolding number_in hexadecimal digits_below value_with digit_of
largest_number = refl

pub no_number : number_of (52 ∷ 50 ∷ 57 ∷ 52 ∷ 57 ∷ 54 ∷ 55 ∷ 50 ∷ 57 ∷ 54 ∷ []) ≡ None
unfolding number_in hexadecimal digits_below value_with digit_of
no_number = refl

-- "00112233445566778899aabbccddeeff"
pub key : key_of (48 ∷ 48 ∷ 49 ∷ 49 ∷ 50 ∷ 50 ∷ 51 ∷ 51 ∷ 52 ∷ 52 ∷ 53 ∷ 53 ∷ 54 ∷ 54 ∷ 55 ∷ 55 ∷ 56 ∷ 56 ∷ 57 ∷ 57 ∷ 97 ∷ 97 ∷ 98 ∷ 98 ∷ 99 ∷ 99 ∷ 100 ∷ 100 ∷ 101 ∷ 101 ∷ 102 ∷ 102 ∷ [])
    ≡ 0x00 ∷ 0x11 ∷ 0x22 ∷ 0x33 ∷ 0x44 ∷ 0x55 ∷ 0x66 ∷ 0x77 ∷ 0x88 ∷ 0x99 ∷ 0xaa ∷ 0xbb ∷ 0xcc ∷ 0xdd ∷ 0xee ∷ 0xff ∷ []
unfolding key_of listed digit_of
key = refl
