-- A rehearsal with any limit leaves what a cut may leave, for as many pulses as it answers.
-- Assumes nothing.
use mathlib.Core.Bool.{Bool, true, false}
use mathlib.Core.List.{List, [], ◌∷◌}
use mathlib.Core.Path.{◌≡◌, refl, sym, ap, ap₂, ◌∙◌}
use Prim.Native.Nat.{ℕ, ◌+◌, ◌-◌, ◌≤◌, min, max}
use native.Mathlib.Omega.{arith}
use borrow.Author.Tests.{leb-false}
use lib.Bits.{bit_and, bit_or, differ}
use lib.Dec.{leb}
use lib.ListN.{length, set, length-set}
use Rattle.row.specs.Code.{bit_at, set_bits, flipped}
use Rattle.row.specs.Upward.{burnt_upward}
use Rattle.row.specs.Writing.{pulses}
use Rattle.row.proofs.Counts.{ones_same}
use Rattle.row.proofs.Digits.{equal3}
use Rattle.row.proofs.Places.{bit_lt, bit_at-bit_and, bit_at-bit_or, bit_at-bit_xor, by_digits, and_assoc}
use Rattle.chip.specs.Slices.{row_at}
use Rattle.chip.specs.declared.state.State.{State}
use Rattle.form.specs.Entries.{entries_of}
use Rattle.form.specs.declared.entries.Entry.{Entry}
use Rattle.job.specs.Burning.{Progress, written_over, with_entry, rehearsed}
use Rattle.job.specs.Jobs.{rehearse}
use Rattle.judge.specs.Verdicts.{verdict_of}
use Rattle.row.proofs.Lowest.{lowest_masked}
use Rattle.laws.specs.Writes.{In}
use Rattle.cuts.specs.Cuts.{ready, CutOf, RehearsalCuts}
use Rattle.laws.specs.Writes.{newly_set}
use Rattle.laws.proofs.Writes.{shared, in_shared, all_set}
use Rattle.laws.proofs.Between.{new_through, new_none, new_set}
use Rattle.laws.proofs.Entries.{entry_keeps, entry_pulses, burnt_over_lem}
use Rattle.cuts.proofs.Rewriting.{admitted_rising, with_keeps}
use Rattle.cuts.proofs.Rising.{Rising}
use Rattle.cuts.proofs.Acceptance.{carried, accepted_verdict, accepted_on_lem}
use Rattle.cuts.proofs.CutPower.{cut_between}

-- ---- a row burnt for some of its pulses

module _ (n old row : ℕ) (enough : n ≤ pulses old row) where
  some_burnt : (mask : ℕ) × (burnt_upward n old row ≡ bit_or old (bit_and (bit_and row (flipped old)) mask))
      × (set_bits (bit_and (bit_and row (flipped old)) mask) ≡ n)
  unfolding burnt_upward pulses set_bits
  some_burnt =
      let taken = lowest_masked 24 n (bit_and row (flipped old)) enough in
      (taken.0, ap (bit_or old) taken.1, taken.2)

  pub burnt_under : In old row → In (burnt_upward n old row) row
  burnt_under over =
      let burnt = some_burnt in
      rw (burnt.1, and_assoc row (flipped old) burnt.0)
      (in_shared _ row (rw (shared old row over) at (more_of_row old row (bit_and (flipped old) burnt.0))))
    where
      more_of_row : (a b c : ℕ) → bit_and (bit_or (bit_and a b) (bit_and b c)) b ≡ bit_or (bit_and a b) (bit_and b c)
      more_of_row =
          by_digits (λ x y z. min (max (min x y) (min y z)) y) (λ x y z. max (min x y) (min y z)) tt
          (λ a b c. bit_and (bit_or (bit_and a b) (bit_and b c)) b) (λ a b c. bit_or (bit_and a b) (bit_and b c))
          (λ k a b c. simp (bit_at-bit_and, bit_at-bit_or)) (λ k a b c. simp (bit_at-bit_and, bit_at-bit_or))

  pub burnt_pulses : pulses old (burnt_upward n old row) ≡ n
  unfolding pulses set_bits
  burnt_pulses =
      let burnt = some_burnt in
      rw burnt.1
      (ones_same 24 _ _
      (λ k l. simp (bit_at-bit_and, bit_at-bit_or, bit_at-bit_xor, all_set k l)
      (equal3 (λ x y z. min (max x (min (min y (differ x 1)) z)) (differ x 1)) (λ x y z. min (min y (differ x 1)) z) tt
      (bit_at k old) (bit_at k row) (bit_at k burnt.0) (bit_lt k old) (bit_lt k row) (bit_lt k burnt.0)))
      ∙ burnt.2)

-- ---- entries burnt in order until the limit

abbrev pub IsCut : List ℕ → List Entry → Progress → Type 0
IsCut rows es done = CutOf rows es done.rows × (done.pulses ≡ newly_set rows done.rows)

pub rehearsed_cut : {rows : List ℕ} {least : ℕ} (limit : ℕ) (es : List Entry) → length rows ≡ 4096 → Rising least es
    → IsCut rows es (rehearsed rows limit es)
unfolding rehearsed
rehearsed_cut {rows} limit [] whole Rising.none = (CutOf.at_end, sym (new_none rows))
rehearsed_cut {rows} {least} limit (e ∷ others) whole (Rising.more low high rest) =
    go (leb (written_over rows e).pulses limit) refl
    (rehearsed_cut {rows = with_entry rows e} {least = e.row + 1} (limit - (written_over rows e).pulses) others
    (length-set rows e.row (written_over rows e).row ∙ whole) rest)
  where
    old : ℕ
    old = row_at rows e.row

    new : ℕ
    new = (written_over rows e).row

    taken : (written_over rows e).pulses ≡ pulses old new
    taken = entry_pulses old e

    put : (row : ℕ) → newly_set rows (set rows e.row row) ≡ pulses old row
    put row = new_set rows e.row row (omega arith)

    go : (t : Bool) → leb (written_over rows e).pulses limit ≡ t
        → IsCut (with_entry rows e) others (rehearsed (with_entry rows e) (limit - (written_over rows e).pulses) others)
        → IsCut rows (e ∷ others) (rehearsed rows limit (e ∷ others))
    go true all next =
        rw all (
          CutOf.past next.0,
          ap₂ ◌+◌ (taken ∙ sym (put new)) next.1 ∙ new_through (with_keeps rows e) (cut_between next.0).0,
        )
    go false short next =
        let enough : limit ≤ pulses old new = omega (arith, taken, leb-false (written_over rows e).pulses limit short) in
        rw short (
          CutOf.within (burnt_upward limit old new) (burnt_over_lem limit old new) (burnt_under limit old new enough (entry_keeps old e)),
          sym (put (burnt_upward limit old new) ∙ burnt_pulses limit old new enough),
        )

pub rehearsal_cuts : RehearsalCuts
unfolding rehearse
rehearsal_cuts rows before key job limit bytes accept =
    let state : State = ready rows before key in
    let a = accepted_on_lem rows before key job bytes accept in
    rw (carried (verdict_of rows state job) rows state (rehearsed rows limit (entries_of job)) (accepted_verdict a))
    (rehearsed_cut limit (entries_of job) a.whole (admitted_rising a.admitted))
