-- Rows that gain bits one after the other: what the tallies are left at, whatever they were, and that right ones stay right.
-- Assumes nothing.
use mathlib.Core.Bool.{Bool, true, false}
use mathlib.Core.List.{List, [], ◌∷◌}
use mathlib.Core.Logic.{◌⊎◌, inl, inr}
use mathlib.Core.Path.{◌≡◌, refl, sym, ap, ap₂, ◌∙◌, subst}
use Prim.Native.Nat.{ℕ, zero, suc, ◌+◌, ◌<◌, min}
use native.Mathlib.Nat.{min-eq_right}
use native.Mathlib.Omega.{arith}
use borrow.Author.Tests.{eqb-true, eqb-false}
use lib.Dec.{eqb}
use lib.ListN.{length, take, drop, set, length-set}
use lib.Seq.{get_or-set_same, get_or-set_other, ext_get_or}
use Rattle.row.specs.Writing.{pulses}
use Rattle.chip.specs.Pages.{first_row, page_of}
use Rattle.chip.specs.Slices.{row_at}
use Rattle.chip.specs.Tallies.{page_rows, bits_of, tallies_of, tally_at, Gain, ◌gains◌, with_gain, with_gains}
use Rattle.chip.proofs.Lists.{length_listed, listed_at}
use Rattle.chip.proofs.PageBits.{page_few, length_gains}
use Rattle.cuts.specs.Tallies.{new_in_page}
use Rattle.laws.specs.Votes.{EachIn}
use Rattle.laws.specs.Writes.{In}
use Rattle.laws.proofs.Between.{each_self, each_through, each_over, new_none, new_through}
use Rattle.cuts.proofs.PageRows.{new_in, new_out, bits_gained}

-- from some rows to those that are left, each of the gains in turn is what its row gained
pub data Gained : List ℕ → List Gain → List ℕ → Type 0 where
  none : {rows : List ℕ} → Gained rows [] rows
  more : {rows left : List ℕ} {others : List Gain} (row new bits : ℕ) → row < 4096 → In (row_at rows row) new
      → bits ≡ pulses (row_at rows row) new → Gained (set rows row new) others left → Gained rows (row gains bits ∷ others) left

pub gained_in : {rows left : List ℕ} {gained : List Gain} → Gained rows gained left → EachIn rows left
gained_in (Gained.none {rows}) = each_self rows
gained_in (Gained.more {rows} row new bits inside over is rest) = each_through (each_over rows row new over) (gained_in rest)

-- the rows of gains
abbrev pub rows_of : List Gain → List ℕ
rows_of [] = []
rows_of (gain ∷ others) = gain.row ∷ rows_of others

-- some row of the page is among these
abbrev pub Among : ℕ → List ℕ → Type 0
Among page [] = ⊥
Among page (row ∷ others) = (page_of row ≡ page) ⊎ Among page others

-- the rows of a page are each in those that are left
pub page_each : {rows left : List ℕ} (page : ℕ) → EachIn rows left → EachIn (page_rows rows page) (page_rows left page)
page_each page each = taken 64 (dropped (first_row page) each)
  where
    dropped : {a b : List ℕ} (n : ℕ) → EachIn a b → EachIn (drop n a) (drop n b)
    dropped zero each = each
    dropped (suc n) EachIn.none = EachIn.none
    dropped (suc n) (EachIn.more one rest) = dropped n rest

    taken : {a b : List ℕ} (n : ℕ) → EachIn a b → EachIn (take n a) (take n b)
    taken zero each = EachIn.none
    taken (suc n) EachIn.none = EachIn.none
    taken (suc n) (EachIn.more one rest) = EachIn.more one (taken n rest)

-- ---- one page

-- named, the page is left at the lesser of 1,536 and old plus new bits; else it gains none and is left as it was
abbrev Left : ℕ → List ℕ → List Gain → ℕ → Type 0
Left page tallies gained new =
    (Among page (rows_of gained) × (tally_at (with_gains tallies gained) page ≡ min 1536 (tally_at tallies page + new)))
    ⊎ ((Among page (rows_of gained) → ⊥) × (tally_at (with_gains tallies gained) page ≡ tally_at tallies page) × (new ≡ 0))

pub page_left : {rows left : List ℕ} {gained : List Gain} (page : ℕ) (tallies : List ℕ) → length rows ≡ 4096 → page < length tallies
    → Gained rows gained left → Left page tallies gained (new_in_page rows left page)
page_left page tallies whole below (Gained.none {rows}) = inr (λ none. none, refl, new_none (page_rows rows page))
page_left page tallies whole below (Gained.more {rows} {left} {others} row new bits inside over is rest) =
    go (eqb (page_of row) page) refl (page_left page next (length-set rows row new ∙ whole) (rw (length-set tallies _ _) below) rest)
  where
    next : List ℕ
    next = with_gain tallies (row gains bits)

    between : List ℕ
    between = set rows row new

    summed : new_in_page rows between page + new_in_page between left page ≡ new_in_page rows left page
    summed = new_through (page_each page (each_over rows row new over)) (page_each page (gained_in rest))

    go : (t : Bool) → eqb (page_of row) page ≡ t → Left page next others (new_in_page between left page)
        → Left page tallies (row gains bits ∷ others) (new_in_page rows left page)
    go true same after = inl (inl here, by after)
      where
        here : page_of row ≡ page
        here = eqb-true (page_of row) page same

        own : bits ≡ new_in_page rows between page
        own = is ∙ sym (subst (λ (p : ℕ). new_in_page rows between p ≡ pulses (row_at rows row) new) here (new_in rows row new inside whole))

        tally : tally_at next page ≡ min 1536 (tally_at tallies page + bits)
        tally = rw here (get_or-set_same tallies page (min 1536 (tally_at tallies page + bits)) 0 below)

        by : Left page next others (new_in_page between left page)
            → tally_at (with_gains next others) page ≡ min 1536 (tally_at tallies page + new_in_page rows left page)
        by (inl (named, left_at)) = left_at ∙ ap (λ (t : ℕ). min 1536 (t + new_in_page between left page)) tally ∙ twice
          where
            twice : min 1536 (min 1536 (tally_at tallies page + bits) + new_in_page between left page)
                ≡ min 1536 (tally_at tallies page + new_in_page rows left page)
            twice = omega (arith, own, summed)
        by (inr (unnamed, kept, no-new)) = kept ∙ tally ∙ ap (λ (n : ℕ). min 1536 (tally_at tallies page + n)) (omega (arith, own, summed, no-new))
    go false other after = by after
      where
        apart : page_of row ≡ page → ⊥
        apart = eqb-false (page_of row) page other

        tally : tally_at next page ≡ tally_at tallies page
        tally = get_or-set_other tallies (page_of row) page _ 0 (λ same. apart (sym same))

        same_new : new_in_page between left page ≡ new_in_page rows left page
        same_new = omega (arith, new_out rows row new page apart, summed)

        unnamed_too : (Among page (rows_of others) → ⊥) → Among page (row ∷ rows_of others) → ⊥
        unnamed_too unnamed (inl here) = apart here
        unnamed_too unnamed (inr later) = unnamed later

        by : Left page next others (new_in_page between left page) → Left page tallies (row gains bits ∷ others) (new_in_page rows left page)
        by (inl (named, left_at)) = inl (inr named, left_at ∙ ap₂ (λ (t n : ℕ). min 1536 (t + n)) tally same_new)
        by (inr (unnamed, kept, no-new)) = inr (unnamed_too unnamed, kept ∙ tally, sym same_new ∙ no-new)

-- ---- right tallies stay right

tallies_at : (rows : List ℕ) (page : ℕ) → page < 64 → tally_at (tallies_of rows) page ≡ bits_of (page_rows rows page)
unfolding tallies_of
tallies_at rows page = listed_at (λ p. bits_of (page_rows rows p)) 64 page 0

tallies_long : (rows : List ℕ) → length (tallies_of rows) ≡ 64
unfolding tallies_of
tallies_long rows = length_listed (λ p. bits_of (page_rows rows p)) 64

pub stay_right : {rows left : List ℕ} {gained : List Gain} → length rows ≡ 4096 → Gained rows gained left
    → with_gains (tallies_of rows) gained ≡ tallies_of left
stay_right {rows} {left} {gained} whole burnt =
    ext_get_or 0 (with_gains (tallies_of rows) gained) (tallies_of left) (long ∙ sym (tallies_long left)) at_page
  where
    long : length (with_gains (tallies_of rows) gained) ≡ 64
    long = length_gains (tallies_of rows) gained ∙ tallies_long rows

    at_page : (page : ℕ) → page < length (with_gains (tallies_of rows) gained) → tally_at (with_gains (tallies_of rows) gained) page ≡ tally_at (tallies_of left) page
    at_page page below =
        by (page_left page (tallies_of rows) whole (rw (tallies_long rows) low) burnt) ∙ sym (tallies_at left page low)
      where
        low : page < 64
        low = omega (arith, long)

        summed : bits_of (page_rows rows page) + new_in_page rows left page ≡ bits_of (page_rows left page)
        summed = bits_gained (page_each page (gained_in burnt))

        by : Left page (tallies_of rows) gained (new_in_page rows left page) → tally_at (with_gains (tallies_of rows) gained) page ≡ bits_of (page_rows left page)
        by (inl (named, left_at)) =
            left_at ∙ ap (λ (t : ℕ). min 1536 (t + new_in_page rows left page)) (tallies_at rows page low)
            ∙ ap (min 1536) summed ∙ min-eq_right (page_few left page)
        by (inr (unnamed, kept, no-new)) = kept ∙ tallies_at rows page low ∙ omega (arith, summed, no-new)
