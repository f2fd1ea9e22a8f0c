-- A text that is read line by line, whatever a line says: the lines that are left.
-- Assumes nothing.
use mathlib.Core.Path.{◌≡◌, refl, sym, ◌∙◌}
use mathlib.Core.Bool.{Bool, true, false}
use mathlib.Core.List.{List, [], ◌++◌}
use Prim.Native.Nat.{ℕ, zero, suc, ◌+◌, ◌-◌, ◌≤◌, ◌<◌}
use native.Mathlib.Omega.{arith}
use lib.ListN.{length, length-append}
use Rattle.std.specs.Prelude.{if◌then◌else◌}
use Rattle.text.specs.Jobs.{Reading, goes_on, most_lines}
use Rattle.text.specs.Readings.{walk, walk_puts}

module _ {A : Type 0} (by : List ℕ → Reading → Reading) (puts : List ℕ → Reading → List A → List A) (text : List ℕ) (most : ℕ) (reading : Reading) where
  -- where reading ends, no line is left
  pub walk_ends : (lines : ℕ) → goes_on text most reading ≡ false → walk by lines text most reading ≡ reading
  unfolding walk
  walk_ends zero ends = refl
  walk_ends (suc lines) ends = rw ends

  pub puts_ends : (kept : List A) (lines : ℕ) → goes_on text most reading ≡ false → walk_puts by puts lines text most reading kept ≡ kept
  unfolding walk_puts
  puts_ends kept zero ends = refl
  puts_ends kept (suc lines) ends = rw ends

  -- nor is one after the last turn
  pub walk_last : (turn : ℕ) → most_lines ≤ turn → walk by (most_lines - turn) text most reading ≡ reading
  unfolding walk
  walk_last turn all = let none : most_lines - turn ≡ 0 = omega arith in rw none

  pub puts_last : (kept : List A) (turn : ℕ) → most_lines ≤ turn → walk_puts by puts (most_lines - turn) text most reading kept ≡ kept
  unfolding walk_puts
  puts_last kept turn all = let none : most_lines - turn ≡ 0 = omega arith in rw none

  -- and otherwise the next line, and those after it
  module _ (turn : ℕ) (h : turn < most_lines) (goes : goes_on text most reading ≡ true) (later : Reading) (next : later ≡ by text reading) where
    more : most_lines - turn ≡ suc (most_lines - (turn + 1))
    more = omega arith

    pub walk_next : walk by (most_lines - turn) text most reading ≡ walk by (most_lines - (turn + 1)) text most later
    unfolding walk
    walk_next = rw (more, goes, next)

    pub puts_next : (kept after : List A) → after ≡ puts text reading kept
        → walk_puts by puts (most_lines - turn) text most reading kept ≡ walk_puts by puts (most_lines - (turn + 1)) text most later after
    unfolding walk_puts
    puts_next kept after put = rw (more, goes, next, put)

-- a line that is wrong is the last
module _ {A : Type 0} (by : List ℕ → Reading → Reading) (puts : List ℕ → Reading → List A → List A) (text : List ℕ) (most : ℕ) (reading : Reading)
    (turn : ℕ) (h : turn < most_lines) (goes : goes_on text most reading ≡ true) (later : Reading) (next : later ≡ by text reading) (wrong : later.going ≡ false)
  where
    no_more : goes_on text most later ≡ false
    no_more = rw wrong

    pub walk_wrong : walk by (most_lines - turn) text most reading ≡ later
    walk_wrong = walk_next by puts text most reading turn h goes later next ∙ walk_ends by puts text most later (most_lines - (turn + 1)) no_more

    pub puts_wrong : (kept after : List A) → after ≡ puts text reading kept → walk_puts by puts (most_lines - turn) text most reading kept ≡ after
    puts_wrong kept after put =
        puts_next by puts text most reading turn h goes later next kept after put ∙ puts_ends by puts text most later after (most_lines - (turn + 1)) no_more

-- What a text gives, by definitions that go line by line as the walk does: how far it is read, and what its lines give.
module _ {Item : Type 0} (text : List ℕ) (most : ℕ) (by : List ℕ → Reading → Reading) (gives : Reading → List Item)
    (from : ℕ → Reading → Reading) (from_none : (r : Reading) → from 0 r ≡ r)
    (from_line : (n : ℕ) (r : Reading) → from (suc n) r ≡ (if goes_on text most r then from n (by text r) else r))
    (items : ℕ → Reading → List Item) (items_none : (r : Reading) → items 0 r ≡ [])
    (items_line : (n : ℕ) (r : Reading) → items (suc n) r ≡ (if goes_on text most r then gives r ++ items n (by text r) else []))
  where
    -- the walk reads as far
    pub walked : (n : ℕ) (r : Reading) → walk by n text most r ≡ from n r
    unfolding walk
    walked zero r = sym (from_none r)
    walked (suc n) r = rw (from_line n r, walked n (by text r))

    -- where each line counts what it gives, so does the text
    pub counted : ((r : Reading) → (by text r).count ≡ r.count + length (gives r)) → (n : ℕ) (r : Reading) → (from n r).count ≡ r.count + length (items n r)
    counted one zero r = rw (from_none r, items_none r) (omega arith)
    counted one (suc n) r = rw (from_line n r, items_line n r) (go (goes_on text most r) (counted one n (by text r)))
      where
        go : (t : Bool) → (from n (by text r)).count ≡ (by text r).count + length (items n (by text r))
            → (if t then from n (by text r) else r).count ≡ r.count + length (if t then gives r ++ items n (by text r) else [])
        go true rest = omega (arith, one r, length-append (gives r) (items n (by text r)))
        go false rest = omega arith

    -- where what a line gives is put before the rest, all is put one after the other
    pub put_all : {A : Type 0} (puts : List ℕ → Reading → List A → List A) (with : List A → ℕ → List Item → List A) → ((kept : List A) (at : ℕ) → with kept at [] ≡ kept)
        → ((r : Reading) (kept : List A) (others : List Item) → with kept r.count (gives r ++ others) ≡ with (puts text r kept) (by text r).count others)
        → (n : ℕ) (r : Reading) (kept : List A) → walk_puts by puts n text most r kept ≡ with kept r.count (items n r)
    unfolding walk_puts
    put_all {A} puts with none first zero r kept = rw (items_none r) (sym (none kept r.count))
    put_all {A} puts with none first (suc n) r kept =
        rw (items_line n r) (go (goes_on text most r) (put_all puts with none first n (by text r) (puts text r kept) ∙ sym (first r kept (items n (by text r)))))
      where
        go : (t : Bool) → walk_puts by puts n text most (by text r) (puts text r kept) ≡ with kept r.count (gives r ++ items n (by text r))
            → (if t then walk_puts by puts n text most (by text r) (puts text r kept) else kept) ≡ with kept r.count (if t then gives r ++ items n (by text r) else [])
        go true rest = rest
        go false rest = sym (none kept r.count)
