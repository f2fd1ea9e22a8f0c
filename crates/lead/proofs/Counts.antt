-- How many entries have ended and how many bytes of one are begun: their bounds.
-- Assumes nothing.
use mathlib.Core.Path.{◌≡◌, refl}
use mathlib.Core.Bool.{Bool, true, false}
use mathlib.Core.List.{List}
use Prim.Native.Nat.{ℕ, ◌+◌, ◌-◌, ◌*◌, ◌/◌, ◌%◌, ◌≤◌, min}
use native.Mathlib.Omega.{arith}
use borrow.Author.Tests.{ltb-true}
use lib.Dec.{ltb}
use lib.ListN.{length}
use Rattle.std.specs.Prelude.{if◌then◌else◌}
use Rattle.form.specs.Entries.{count_of}
use Rattle.lead.specs.Notes.{start_of, stop_of, ended_of, begun_of, begun_before, Fits}
use Rattle.lead.specs.declared.notes.Note.{Note}

-- an entry begun has at most five bytes, and these end below 3,079
pub bounded : (count bytes : ℕ) → bytes ≤ 3080 → (begun_of count bytes ≤ 5) × (ended_of count bytes ≤ 512) × (7 + 6 * ended_of count bytes + begun_of count bytes ≤ 3079)
bounded count bytes low = go (ltb bytes (7 + 6 * min count 512)) refl
  where
    go : (t : Bool) → ltb bytes (7 + 6 * min count 512) ≡ t
        → ((if t then (bytes - 7) % 6 else 0) ≤ 5) × (ended_of count bytes ≤ 512) × (7 + 6 * ended_of count bytes + (if t then (bytes - 7) % 6 else 0) ≤ 3079)
    go true below =
        let under = ltb-true bytes (7 + 6 * min count 512) below in
        (omega arith, omega arith, omega arith)
    go false past = (omega arith, omega arith, omega arith)

-- with more bytes no fewer entries have ended
pub ended_grows : (count a b : ℕ) → a ≤ b → ended_of count a ≤ ended_of count b
ended_grows count a b h =
    let more : (a - 7) / 6 ≤ (b - 7) / 6 = omega arith in
    omega (arith, more)

-- more than some is at least one
pub grown : (m n : ℕ) → m ≤ n → (m ≡ n → ⊥) → 1 ≤ n
grown m n more other = omega (arith, more, other)

-- a chunk stops where it starts or later
pub stop_later : (note : Note) (chunk : List ℕ) → start_of note ≤ stop_of note chunk
stop_later note chunk = omega arith

-- so the entry begun before a chunk has its place in an area with room
pub before_fits : (area : List ℕ) (note : Note) → 3079 ≤ length area → Fits area (begun_before area note)
before_fits area note room =
    let bounds = bounded (count_of area) (start_of note) (omega arith) in
    (bounds.0, bounds.1, omega (arith, bounds.2))
