-- Lock rows: three copies, their fields, and levels (document 01, "Locks"; request 2026-05).
use Rattle.std.specs.Prelude.{ℕ, ◌/◌, ◌%◌, min, Bool, List, [], ◌∷◌, eqb}
use Rattle.vote.specs.Voting.{threshold, vote}

-- bytes 7:0, 15:8 and 23:16 of a row are three copies
abbrev pub copies : ℕ → List ℕ
copies row = row % 256 ∷ row / 256 % 256 ∷ row / 65536 % 256 ∷ []

-- the copies voted bit by bit
unfoldable pub voted_byte : ℕ → ℕ
voted_byte row = vote (threshold 3) (copies row)

-- low row: bits 2:0 write key index, 5:3 read key index, 6 no-key state
abbrev pub write_key_field : ℕ → ℕ
write_key_field row = voted_byte row % 8

abbrev pub read_key_field : ℕ → ℕ
read_key_field row = voted_byte row / 8 % 8

abbrev pub no_key_field : ℕ → Bool
no_key_field row = eqb (voted_byte row / 64 % 2) 1

-- high row: bits 1:0 Secure, 3:2 Non-secure, 5:4 bootloader
abbrev pub secure_field : ℕ → ℕ
secure_field row = voted_byte row % 4

abbrev pub nonsecure_field : ℕ → ℕ
nonsecure_field row = voted_byte row / 4 % 4

abbrev pub bootloader_field : ℕ → ℕ
bootloader_field row = voted_byte row / 16 % 4

-- field 0 is level 0 (read and write), 1 is level 1 (read only), 2 and 3 are level 2 (no access)
abbrev pub level_of : ℕ → ℕ
level_of field = min field 2
