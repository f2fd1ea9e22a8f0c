-- What is said of a row, exactly, and that a mended row reads clean.
-- Assumes nothing.
use mathlib.Core.Bool.{Bool, true, false}
use mathlib.Core.Logic.{◌⊎◌, inl, inr}
use mathlib.Core.Path.{◌≡◌, refl, sym, ap, ap₂, ◌∙◌, subst}
use Prim.Native.Nat.{ℕ, ◌^◌, ◌≤◌, ◌<◌}
use native.Mathlib.Omega.{arith}
use borrow.Author.Tests.{eq-eqb}
use lib.Bits.{xor_self}
use lib.Count.{ones_in}
use lib.Dec.{eqb, lit≤}
use Rattle.answer.specs.Answers.{found_in}
use Rattle.std.specs.Prelude.{if◌then◌else◌}
use Rattle.answer.specs.declared.answers.Condition.{Condition}
use Rattle.answer.specs.declared.answers.Condition.TheVariants as said
use Rattle.row.specs.Code.{bit_at, set_bits, code}
use Rattle.row.proofs.Digits.{zero_or_one}
use Rattle.row.proofs.Places.{bit_lt}
use Rattle.decode.specs.Reading.{flipped_at, disagree, polarity_of, read_row}
use Rattle.decode.proofs.Syndromes.{xor_cancel}
use Rattle.repair.specs.Finding.{found_read, found_of, kind_of, bit_of, left_by}
use Rattle.repair.specs.declared.finding.Found.{Found}
use Rattle.repair.specs.declared.finding.Found.TheVariants.{Clean, Mended, Worn, Damaged, NotPermitted}
use Rattle.repair.proofs.Decoding.{not_decoded, decodes}
use Rattle.laws.specs.Conditions.{FlippedAt, Agree, Says}
use Rattle.laws.specs.Reads.{Value, looked, Near}
use Rattle.laws.proofs.Conditions.{agree, apart, condition_exactly}
use Rattle.laws.proofs.Mending.{Seen, seen, burnt_flips}
use Rattle.laws.proofs.Reading.{decoded_code, decoded_flipped, one_away, sound, complete}
use Rattle.mended.specs.Rows.{Decodes, IsCode, WrongAt, OneTooMany, InWords, SaidExactly, OneOfFive, EntryTells, OneBitMore, MendedReadsClean}
use Rattle.mended.specs.Second.{found_next}
use Rattle.mended.proofs.Bits.{gained, others_held, same_polarity, looked_flipped}

-- ---- a value's code, whole or but for one bit, is within one bit

near_whole : (held value : ℕ) → Value value → looked held ≡ code value → Near held value
unfolding set_bits ones_in
near_whole held value v is = (v, rw (is, xor_self (code value)) (lit≤ tt))

near_flipped : (held value bit : ℕ) → Value value → FlippedAt held value bit → Near held value
near_flipped held value bit v off = (v, rw off.1 (one_away bit (code value) off.0))

-- ---- from what is found to its words

words : (may : Bool) (held : ℕ) → InWords may held (found_of may held)
words may held = go (seen may held)
  where
    go : {may : Bool} {found : Found} → Seen held may found → InWords may held found
    go Seen.closed = refl
    go (Seen.broken eight) = (refl, λ near. absurd (omega (arith, eight, (complete held near.0 near.1).0)))
    go (Seen.whole value v is same) = (refl, agree held same, (value, v, is))
    go (Seen.lost value bit v l off same none) = (refl, agree held same, (value, v, (l, off), none))
    go (Seen.many value bit v l off same some) =
        (refl, (value, near_flipped held value bit v (l, off)), inl (bit, (value, v, (l, off), one (zero_or_one (bit_at bit held) (bit_lt bit held)))))
      where
        one : (bit_at bit held ≡ 0) ⊎ (bit_at bit held ≡ 1) → bit_at bit held ≡ 1
        one (inl none) = absurd (some none)
        one (inr is) = is
    go (Seen.flag done worn) = (refl, ((read_row held).value, sound held done), inr (apart held worn))

-- ---- and back

module _ (held : ℕ) where
  -- a row that decodes is judged by the condition that its read says
  by_condition : (read_row held).number ≡ 0 → found_of true held ≡ found_read held (read_row held).condition
  unfolding found_of
  by_condition done = rw (decodes held done)

  -- as it is said of the value whose code is near
  says : (value : ℕ) → Near held value → ((read_row held).number ≡ 0) × Says held value (read_row held).condition
  says value near =
      let done = complete held value near in
      (done.0, subst (λ (v : ℕ). Says held v (read_row held).condition) done.1 (condition_exactly held done.0))

  clean_found : Agree held → IsCode held → found_of true held ≡ Clean
  clean_found same (value, v, is) =
      let s = says value (near_whole held value v is) in
      by_condition s.0 ∙ ap (found_read held) (s.1.clean.1 (is, same))

  repaired_found : Agree held → (bit digit : ℕ) → WrongAt held bit digit → found_of true held ≡ (if eqb digit 0 then Mended bit else Worn)
  repaired_found same bit digit (value, v, off, is) =
      let s = says value (near_flipped held value bit v off) in
      by_condition s.0 ∙ ap (found_read held) ((s.1.repaired bit).1 (off, same)) ∙ rw is

  worn_found : Decodes held → (Agree held → ⊥) → found_of true held ≡ Worn
  worn_found (value, near) differ =
      let s = says value near in
      by_condition s.0 ∙ go (read_row held).condition s.1
    where
      go : (condition : Condition) → Says held value condition → found_read held condition ≡ Worn
      go said.Clean s = absurd (differ (s.clean.0 refl).1)
      go (said.Repaired bit) s = absurd (differ ((s.repaired bit).0 refl).1)
      go said.FlagWorn s = refl
      go (said.FlagWornRepaired bit) s = refl

  flags : (t : Bool) → disagree held ≡ t → OneTooMany held → found_of true held ≡ Worn
  flags false same (bit, wrong) = repaired_found (agree held same) bit 1 wrong
  flags true worn (bit, (value, v, off, is)) = worn_found (value, near_flipped held value bit v off) (apart held worn)

  damaged_found : (Decodes held → ⊥) → found_of true held ≡ Damaged
  unfolding found_of
  damaged_found none = rw (not_decoded held (λ done. none ((read_row held).value, sound held done)))

unworded : (may : Bool) (held : ℕ) (found : Found) → InWords may held found → found_of may held ≡ found
unfolding found_of
unworded may held NotPermitted closed = rw closed
unworded may held Damaged (free, none) = rw free (damaged_found held none)
unworded may held Clean (free, same, is) = rw free (clean_found held same is)
unworded may held (Mended bit) (free, same, wrong) = rw free (repaired_found held same bit 0 wrong)
unworded may held Worn (free, near, inl many) = rw free (flags held (disagree held) refl many)
unworded may held Worn (free, near, inr differ) = rw free (worn_found held near differ)

pub said_exactly : SaidExactly
said_exactly may held found = (λ is. subst (InWords may held) is (words may held), unworded may held found)

pub one_of_five : OneOfFive
one_of_five may held = (found_of may held, words may held, λ other so. sym (unworded may held other so))

-- ---- a report entry

few : (found : Found) → kind_of found ≤ 4
few Clean = omega arith
few (Mended bit) = omega arith
few Worn = omega arith
few Damaged = omega arith
few NotPermitted = omega arith

-- the finding of a kind and a bit
of_kind : ℕ → ℕ → Found
of_kind kind bit =
    if eqb kind 0 then Clean
    else if eqb kind 1 then Mended bit
    else if eqb kind 2 then Worn
    else if eqb kind 3 then Damaged
    else NotPermitted

back : (found : Found) → of_kind (kind_of found) (bit_of found) ≡ found
unfolding of_kind
back Clean = refl
back (Mended bit) = refl
back Worn = refl
back Damaged = refl
back NotPermitted = refl

pub entry_tells : EntryTells
entry_tells a b e =
    let kinds : kind_of a ≡ kind_of b = omega (arith, e, few a, few b) in
    let bits : bit_of a ≡ bit_of b = omega (arith, e, few a, few b) in
    sym (back a) ∙ ap₂ of_kind kinds bits ∙ back b

-- ---- a mended row

module _ (held value bit : ℕ) (v : Value value) (low : bit < 22) (off : looked held ≡ flipped_at bit (code value)) (same : disagree held ≡ false)
    (none : bit_at bit held ≡ 0) where
  abbrev left : ℕ
  left = flipped_at bit held

  now_whole : looked left ≡ code value
  now_whole = looked_flipped held bit low ∙ ap (flipped_at bit) off ∙ xor_cancel (code value) (2 ^ bit)

  still_agree : disagree left ≡ false
  still_agree =
      rw (others_held held bit 23 (λ e. omega (arith, e, low)), others_held held bit 22 (λ e. omega (arith, e, low))) same

  one_more : OneBitMore bit held left
  one_more = (none, gained held bit none, λ place apart. others_held held bit place apart)

  reads_clean : read_row left ≡ found_in (polarity_of held) value said.Clean
  reads_clean = rw (now_whole, decoded_code value v, still_agree, same_polarity held bit low)

  -- as it read before, but for the bit
  read_before : read_row held ≡ found_in (polarity_of held) value (said.Repaired bit)
  read_before = rw (off, decoded_flipped value bit v low, same)

-- what is known of a row that is mended
module _ (may : Bool) (held bit : ℕ) (is : found_of may held ≡ Mended bit) where
  abbrev worded : InWords may held (Mended bit)
  worded = (said_exactly may held (Mended bit)).0 is

  abbrev value : ℕ
  value = worded.2.0

  abbrev v : Value value
  v = worded.2.1

  abbrev low : bit < 22
  low = worded.2.2.0

  abbrev off : looked held ≡ flipped_at bit (code value)
  off = worded.2.2.1

  abbrev none : bit_at bit held ≡ 0
  none = worded.2.3

  same : disagree held ≡ false
  same = rw (eq-eqb (bit_at 23 held) (bit_at 22 held) worded.1)

  pub mended_reads : (bit < 22) × OneBitMore bit held (left_by (Mended bit) held)
      × (read_row (left_by (Mended bit) held) ≡ found_in (read_row held).polarity (read_row held).value said.Clean)
  mended_reads =
      rw (burnt_flips held bit none, read_before held value bit v low off same none)
      (low, one_more held value bit v low off same none, reads_clean held value bit v low off same none)

  -- the next time it is clean
  pub mended_next : found_of may (left_by (Mended bit) held) ≡ Clean
  mended_next =
      rw (burnt_flips held bit none)
      (unworded may (flipped_at bit held) Clean
      (worded.0, agree (flipped_at bit held) (still_agree held value bit v low off same none), (value, v, now_whole held value bit v low off same none)))

pub mended_reads_clean : MendedReadsClean
mended_reads_clean = mended_reads

-- ---- what is found the next time

pub found_next_lem : (may : Bool) (held : ℕ) → found_of may (left_by (found_of may held) held) ≡ found_next (found_of may held)
found_next_lem may held = go (found_of may held) refl
  where
    go : (found : Found) → found_of may held ≡ found → found_of may (left_by found held) ≡ found_next found
    go Clean is = is
    go (Mended bit) is = mended_next may held bit is
    go Worn is = is
    go Damaged is = is
    go NotPermitted is = is

-- and by that nothing is left to mend
pub next_keeps : (found : Found) (held : ℕ) → left_by (found_next found) held ≡ held
next_keeps Clean held = refl
next_keeps (Mended bit) held = refl
next_keeps Worn held = refl
next_keeps Damaged held = refl
next_keeps NotPermitted held = refl
