-- Chunks that have no word to say: what of the file has then been found sound.
-- Assumes nothing.
use mathlib.Core.Path.{◌≡◌, refl, sym, subst, ◌∙◌}
use mathlib.Core.Bool.{Bool, true, false, ◌&&◌}
use mathlib.Core.List.{List}
use Prim.Native.Nat.{ℕ, ◌+◌, ◌-◌, ◌*◌, ◌≤◌, ◌<◌, min}
use native.Mathlib.Omega.{arith}
use borrow.Author.Tests.{eqb-true, eq-eqb, lt-ltb, le-ltb, le-leb, ltb-true, ltb-false, not-false}
use lib.Dec.{ltb}
use lib.ListN.{length}
use Rattle.answer.proofs.Ladders.{never_zero}
use Rattle.form.specs.Entries.{byte_at, version_of, count_of}
use Rattle.form.specs.Faults.{◌otherwise◌, head_fault, rule_of, fault_under, fault_of, Fault, Sound, Mark, Version, Count, Length}
use Rattle.form.proofs.Faulty.{both_sound, head_passed}
use Rattle.lead.specs.Early.{came, spoils, unknown_version, large_count, head_brought, entries_brought, past_brought, brought}
use Rattle.lead.specs.Notes.{ended_of, ended_in}
use Rattle.pieces.specs.Words.{least_at}
use Rattle.pieces.proofs.Following.{counted}
use Rattle.pieces.proofs.InTurn.{each_sound, all_sound, form, place, both, forms_turn, places_turn, both_turn}

-- a test of what came, where it came
where_came : (start stop at : ℕ) (t : Bool) → start ≤ at → at < stop → (came start stop at && t) ≡ false → t ≡ false
where_came start stop at t from to quiet = rw (le-leb start at from, lt-ltb at stop to) at quiet

in_range_lem : (k first last : ℕ) → first ≤ k → k < last → k < first + (last - first)
in_range_lem k first last low high = omega arith

-- what bytes that bring no fault to an end have
module _ (file : List ℕ) (start stop : ℕ) (quiet : brought (least_at file (ended_in file start)) file start stop ≡ Sound) where
  abbrev entries : Fault
  entries = entries_brought (least_at file (ended_in file start)) file start stop

  parts : (head_brought file start stop ≡ Sound) × (entries ≡ Sound) × (past_brought (count_of file) stop ≡ Sound)
  unfolding brought
  parts =
      let outer = both_sound (head_brought file start stop) (entries otherwise past_brought (count_of file) stop) quiet in
      let inner = both_sound entries (past_brought (count_of file) stop) outer.1 in
      (outer.0, inner.0, inner.1)

  -- its bytes of the head
  head_parts : (spoils file start stop 0 0x4f ≡ false) × (spoils file start stop 1 0x54 ≡ false) × (spoils file start stop 2 0x4a ≡ false)
      × (unknown_version file start stop ≡ false) × (large_count file start stop ≡ false)
  unfolding head_brought
  head_parts =
      let first = head_passed (spoils file start stop 0 0x4f) Mark _ (never_zero 9) parts.0 in
      let second = head_passed (spoils file start stop 1 0x54) Mark _ (never_zero 9) first.1 in
      let third = head_passed (spoils file start stop 2 0x4a) Mark _ (never_zero 9) second.1 in
      let version = head_passed (unknown_version file start stop) Version _ (never_zero 9) third.1 in
      let count = head_passed (large_count file start stop) Count _ (never_zero 9) version.1 in
      (first.0, second.0, third.0, version.0, count.0)

  -- its entries
  pub entry_quiet : (k : ℕ) → ended_in file start ≤ k → k < ended_in file stop → both file (rule_of file) k ≡ Sound
  entry_quiet k low high =
      each_sound (both file (rule_of file)) (ended_in file stop - ended_in file start) (ended_in file start)
      (sym (both_turn file (rule_of file) (ended_in file stop - ended_in file start) (ended_in file start)) ∙ parts.1) k low
      (in_range_lem k (ended_in file start) (ended_in file stop) low high)

  past_quiet : stop ≤ 7 + 6 * count_of file
  past_quiet = ltb-false (7 + 6 * count_of file) stop (head_passed (ltb (7 + 6 * count_of file) stop) Length Sound (never_zero 9) parts.2).0

-- what has been found sound, of n bytes of a file
pub record SoundTo (file : List ℕ) (n : ℕ) : Type 0 where
  pub first : 0 < n → byte_at file 0 ≡ 0x4f
  pub second : 1 < n → byte_at file 1 ≡ 0x54
  pub third : 2 < n → byte_at file 2 ≡ 0x4a
  pub version : 4 < n → version_of file ≡ rule_of file
  pub count : 6 < n → count_of file ≤ 512
  pub entry : (k : ℕ) → k < ended_in file (counted n) → both file (rule_of file) k ≡ Sound
  pub past : counted n ≤ 7 + 6 * count_of file

pub nothing_yet : (file : List ℕ) → SoundTo file 0
nothing_yet file = record {
  first = λ h. absurd (omega arith);
  second = λ h. absurd (omega arith);
  third = λ h. absurd (omega arith);
  version = λ h. absurd (omega arith);
  count = λ h. absurd (omega arith);
  entry = λ k h. absurd (omega arith);
  past = omega arith;
}

-- of what was asked for before, or of what comes now
earlier_or_now : {A : Type 0} (n more at : ℕ) → at < 7 → (at < n → A) → (counted n ≤ at → at < counted (n + more) → A) → at < n + more → A
earlier_or_now {A} n more at few before now below = go (ltb at n) refl
  where
    go : (t : Bool) → ltb at n ≡ t → A
    go true earlier = before (ltb-true at n earlier)
    go false later =
        let from = ltb-false at n later in
        now (omega arith) (omega arith)

-- so many bytes more
pub more_sound : (file : List ℕ) (n more : ℕ) → SoundTo file n
    → brought (least_at file (ended_in file (counted n))) file (counted n) (counted (n + more)) ≡ Sound → SoundTo file (n + more)
more_sound file n more sound quiet = record {
  first = earlier_or_now n more 0 (omega arith) sound.first (mark 0 0x4f heads.0);
  second = earlier_or_now n more 1 (omega arith) sound.second (mark 1 0x54 heads.1);
  third = earlier_or_now n more 2 (omega arith) sound.third (mark 2 0x4a heads.2);
  version = earlier_or_now n more 4 (omega arith) sound.version
      (λ from to. eqb-true (version_of file) (rule_of file) (not-false _ (where_came start stop 4 _ from to heads.3)));
  count = earlier_or_now n more 6 (omega arith) sound.count (λ from to. ltb-false 512 (count_of file) (where_came start stop 6 _ from to heads.4));
  entry = λ k below. entries k below (ltb k (ended_in file start)) refl;
  past = past_quiet file start stop quiet;
}
  where
    start : ℕ
    start = counted n

    stop : ℕ
    stop = counted (n + more)

    heads : (spoils file start stop 0 0x4f ≡ false) × (spoils file start stop 1 0x54 ≡ false) × (spoils file start stop 2 0x4a ≡ false)
        × (unknown_version file start stop ≡ false) × (large_count file start stop ≡ false)
    heads = head_parts file start stop quiet

    mark : (at byte : ℕ) → spoils file start stop at byte ≡ false → start ≤ at → at < stop → byte_at file at ≡ byte
    mark at byte none from to = eqb-true (byte_at file at) byte (not-false _ (where_came start stop at _ from to none))

    entries : (k : ℕ) → k < ended_in file stop → (t : Bool) → ltb k (ended_in file start) ≡ t → both file (rule_of file) k ≡ Sound
    entries k below true earlier = sound.entry k (ltb-true k (ended_in file start) earlier)
    entries k below false later = entry_quiet file start stop quiet k (ltb-false k (ended_in file start) later) below

-- ---- a whole file

module _ (file : List ℕ) (sound : SoundTo file (length file)) (head : 7 ≤ length file) (whole : 7 + 6 * count_of file ≤ length file) where
  few : count_of file ≤ 512
  few = sound.count (omega arith)

  filled : length file ≡ 7 + 6 * count_of file
  filled =
      let past : min (length file) 3080 ≤ 7 + 6 * count_of file = sound.past in
      omega (arith, past, few, whole)

  whole_head : head_fault (rule_of file) file ≡ Sound
  unfolding head_fault
  whole_head =
      rw (
        le-ltb (length file) 7 head,
        eq-eqb (byte_at file 0) 0x4f (sound.first (omega arith)),
        eq-eqb (byte_at file 1) 0x54 (sound.second (omega arith)),
        eq-eqb (byte_at file 2) 0x4a (sound.third (omega arith)),
        eq-eqb (version_of file) (rule_of file) (sound.version (omega arith)),
        le-ltb 512 (count_of file) few,
        eq-eqb (length file) (7 + 6 * count_of file) filled,
      )

  -- every entry that the head counts has ended
  entry_sound : (k : ℕ) → k < 0 + count_of file → both file (rule_of file) k ≡ Sound
  entry_sound k below =
      let all : ended_of (count_of file) (counted (length file)) ≡ count_of file = all_ended (count_of file) (length file) few filled in
      sound.entry k (subst (λ (n : ℕ). k < n) (sym all) (omega arith))
    where
      all_ended : (count long : ℕ) → count ≤ 512 → long ≡ 7 + 6 * count → ended_of count (counted long) ≡ count
      all_ended count long low is = omega (arith, low, is)

  pub whole_sound : fault_of file ≡ Sound
  unfolding fault_under
  whole_sound =
      let forms = forms_turn file (rule_of file) (count_of file) 0
      ∙ all_sound (form file (rule_of file)) (count_of file) 0 (λ k low high. (both_sound (form file (rule_of file) k) (place file (rule_of file) k) (entry_sound k high)).0) in
      let orders = places_turn file (rule_of file) (count_of file) 0
      ∙ all_sound (place file (rule_of file)) (count_of file) 0 (λ k low high. (both_sound (form file (rule_of file) k) (place file (rule_of file) k) (entry_sound k high)).1) in
      rw (whole_head, forms, orders)
