-- Places in a text: where a kind of byte is found first, the part before it, and the words of a line.
-- Assumes nothing.
use mathlib.Core.Path.{◌≡◌, refl, sym, ap, ap₂, ◌∙◌}
use mathlib.Core.Bool.{Bool, true, false, not, cond}
use mathlib.Core.List.{List, [], ◌∷◌}
use Prim.Native.Nat.{ℕ, zero, suc, ◌+◌, ◌-◌, ◌≤◌, ◌<◌, min}
use native.Mathlib.Numerals.{add-one}
use native.Mathlib.Omega.{arith}
use borrow.Author.Tests.{le-leb, lt-ltb, le-ltb, eqb-true, eqb-false, leb-true, leb-false, ltb-false}
use lib.Dec.{eqb, leb, ltb}
use lib.ListN.{length, take, drop, length-drop, drop_of_length-le}
use lib.Seq.{take_all, take-nil, drop-drop}
use Rattle.std.proofs.lemmas.List.Recursion.{is_position_or_len}
use Rattle.std.specs.List.{position_or_len}
use Rattle.std.specs.Option.{unwrap_or}
use Rattle.std.specs.Prelude.{Option, Some, None, if◌then◌else◌}
use Rattle.typed.specs.declared.words.Span.{Span}
use Rattle.typed.specs.Words.{is_blank, is_written, up_to, place_of, part_of, word_from, word_at, word_of}

module _ (kind : ℕ → Bool) where
  -- what stands before is no longer than the text
  pub up_to_short : (text : List ℕ) → length (up_to kind text) ≤ length text
  unfolding up_to
  up_to_short [] = omega arith
  up_to_short (byte ∷ others) = go (kind byte) (up_to_short others)
    where
      go : (t : Bool) → length (up_to kind others) ≤ length others → length (if t then [] else byte ∷ up_to kind others) ≤ suc (length others)
      go true rest = omega arith
      go false rest = omega arith

  -- and is the text's beginning
  pub up_to_first : (text : List ℕ) → take (length (up_to kind text)) text ≡ up_to kind text
  unfolding up_to
  up_to_first [] = refl
  up_to_first (byte ∷ others) = go (kind byte) (up_to_first others)
    where
      go : (t : Bool) → take (length (up_to kind others)) others ≡ up_to kind others → take (length (if t then [] else byte ∷ up_to kind others)) (byte ∷ others) ≡ (if t then [] else byte ∷ up_to kind others)
      go true rest = refl
      go false rest = ap (λ (bytes : List ℕ). byte ∷ bytes) rest

  up_to_none : (n : ℕ) → take n [] ≡ up_to kind []
  unfolding up_to
  up_to_none n = take-nil n

  -- its end is the place that `position` finds, or the text's end
  up_to_place : (text : List ℕ) → length (up_to kind text) ≡ position_or_len kind text
  unfolding up_to
  up_to_place = is_position_or_len (λ (text : List ℕ). length (up_to kind text)) kind refl (λ byte others. go byte others (kind byte))
    where
      go : (byte : ℕ) (others : List ℕ) (t : Bool) → length (if t then [] else byte ∷ up_to kind others) ≡ cond t 0 (1 + length (up_to kind others))
      go byte others true = refl
      go byte others false = omega arith

  pub found : (text : List ℕ) (place : Option ℕ)
      → place ≡ cond (ltb (position_or_len kind text) (length text)) (Some (position_or_len kind text)) None
      → unwrap_or place (length text) ≡ length (up_to kind text)
  found text place is = rw (is, ← up_to_place text) (go (ltb (length (up_to kind text)) (length text)) refl)
    where
      go : (t : Bool) → ltb (length (up_to kind text)) (length text) ≡ t
          → unwrap_or (cond t (Some (length (up_to kind text))) None) (length text) ≡ length (up_to kind text)
      go true inside = refl
      go false all = let past = ltb-false (length (up_to kind text)) (length text) all in omega (arith, up_to_short text)

  module _ (text : List ℕ) (from : ℕ) where
    -- a search stops in the text or at its end
    pub place_inside : place_of kind text from ≤ length text
    unfolding place_of
    place_inside = omega (arith, up_to_short (drop from text), length-drop from text)

    -- the part before the place where a search stops
    pub part_to : part_of text from (place_of kind text from) ≡ up_to kind (drop from text)
    unfolding place_of
    part_to = go (leb from (length text)) refl
      where
        go : (t : Bool) → leb from (length text) ≡ t → part_of text from (place_of kind text from) ≡ up_to kind (drop from text)
        go true inside =
            let fits : from ≤ length text = leb-true from (length text) inside in
            let own : min from (length text) + length (up_to kind (drop from text)) - from ≡ length (up_to kind (drop from text)) = omega arith in
            rw (le-leb (place_of kind text from) (length text) place_inside, own) (up_to_first (drop from text))
        go false outside =
            let past : length text < from = leb-false from (length text) outside in
            let none : drop from text ≡ [] = drop_of_length-le text {i = from} (omega arith) in
            rw (le-leb (place_of kind text from) (length text) place_inside, none) (up_to_none (min from (length text) + length (up_to kind []) - from))

    -- and what stands from there on
    pub rest_from : from ≤ length text → drop (length (up_to kind (drop from text))) (drop from text) ≡ drop (place_of kind text from) text
    unfolding place_of
    rest_from fits =
        let own : min from (length text) + length (up_to kind (drop from text)) ≡ from + length (up_to kind (drop from text)) = omega arith in
        rw own (drop-drop (length (up_to kind (drop from text))) from text)

-- all that is left after a place
pub rest_whole : (n : ℕ) (text : List ℕ) → take (length text - n) (drop n text) ≡ drop n text
rest_whole n text = take_all (length text - n) (drop n text) (rw (length-drop n text) (omega arith))

pub part_rest : (text : List ℕ) (start : ℕ) → part_of text start (length text) ≡ drop start text
part_rest text start = rw (le-leb (length text) (length text) (omega arith)) (rest_whole start text)

module _ (line : List ℕ) where
  -- a word begins and ends in the line
  pub word_begins : (n : ℕ) → (word_at line n).from ≤ length line
  unfolding word_at word_from
  word_begins zero = place_inside is_written line 0
  word_begins (suc n) = place_inside is_written line (word_at line n).to

  pub word_ends : (n : ℕ) → (word_at line n).to ≡ place_of is_blank line (word_at line n).from
  unfolding word_at word_from
  word_ends zero = refl
  word_ends (suc n) = refl

  -- the next begins past it
  pub word_after : (n : ℕ) (rest taken : List ℕ) → rest ≡ drop (word_at line n).from line → taken ≡ drop (length (up_to is_blank rest)) rest
      → drop (length (up_to is_written taken)) taken ≡ drop (word_at line (n + 1)).from line
  unfolding word_at word_from
  word_after n rest taken from past =
      let ends : (word_at line n).to ≤ length line = rw (word_ends n) (place_inside is_blank line (word_at line n).from) in
      let behind : taken ≡ drop (word_at line n).to line = rw (past, from, word_ends n) (rest_from is_blank line (word_at line n).from (word_begins n)) in
      rw (behind, add-one) (rest_from is_written line (word_at line n).to ends)

  -- it stands where that many bytes are left of the line, as far as the next blank
  pub word_stands : (n : ℕ) (rest : List ℕ) (span : Span) → rest ≡ drop (word_at line n).from line
      → span.from ≡ length line - length rest → span.to ≡ span.from + length (up_to is_blank rest) → span ≡ word_at line n
  unfolding place_of
  word_stands n rest span left from to =
      let long : length rest ≡ length line - (word_at line n).from = ap length left ∙ length-drop (word_at line n).from line in
      let first : span.from ≡ (word_at line n).from = omega (arith, word_begins n) in
      let past : span.to ≡ (word_at line n).from + length (up_to is_blank (drop (word_at line n).from line)) = rw (← left, ← first) to in
      let last : span.to ≡ (word_at line n).to = rw (word_ends n) (omega (arith, word_begins n)) in
      ap₂ (λ (from to : ℕ). record { from = from; to = to }) first last

  -- and is what stands there before the next blank
  pub word_is : (n : ℕ) → up_to is_blank (drop (word_at line n).from line) ≡ word_of line n
  word_is n = sym (rw (word_ends n) (part_to is_blank line (word_at line n).from))

  -- a line has a word where that is not empty
  pub word_some : (n : ℕ) → ltb (word_at line n).from (word_at line n).to ≡ not (eqb (length (word_of line n)) 0)
  unfolding place_of
  word_some n =
      rw (← word_is n, word_ends n) (go (eqb (length (up_to is_blank (drop (word_at line n).from line))) 0) refl)
    where
      go : (t : Bool) → eqb (length (up_to is_blank (drop (word_at line n).from line))) 0 ≡ t
          → ltb (word_at line n).from (place_of is_blank line (word_at line n).from) ≡ not t
      go true none =
          let empty = eqb-true (length (up_to is_blank (drop (word_at line n).from line))) 0 none in
          le-ltb (word_at line n).from (place_of is_blank line (word_at line n).from) (omega (arith, word_begins n))
      go false some =
          let more = eqb-false (length (up_to is_blank (drop (word_at line n).from line))) 0 some in
          lt-ltb (word_at line n).from (place_of is_blank line (word_at line n).from) (omega (arith, word_begins n))
