-- Two files that agree on the bytes that have come: they bring the same to an end.
-- Assumes nothing.
use mathlib.Core.Path.{◌≡◌, refl, sym, ap, ◌∙◌}
use mathlib.Core.Bool.{Bool, true, false}
use mathlib.Core.List.{List}
use Prim.Native.Nat.{ℕ, zero, suc, ◌+◌, ◌-◌, ◌*◌, ◌/◌, ◌%◌, ◌≤◌, ◌<◌, min}
use native.Mathlib.Nat.{le_trans}
use native.Mathlib.Omega.{arith}
use borrow.Author.Tests.{ltb-true, ltb-false, eqb-false, le-ltb}
use lib.Dec.{eqb, ltb}
use Rattle.std.specs.Prelude.{if◌then◌else◌}
use Rattle.form.specs.Entries.{byte_at, version_of, count_of, entry_at, entries_from}
use Rattle.form.specs.Faults.{◌otherwise◌, Fault, Sound}
use Rattle.form.specs.declared.entries.Entry.{Entry}
use Rattle.form.proofs.ReadBack.{entry_alike, head_alike}
use Rattle.lead.specs.Early.{head_brought, entry_faults, entries_brought, brought}
use Rattle.lead.specs.Notes.{ended_of, begun_of, ended_in, begun_in, least_of}
use Rattle.lead.proofs.Counts.{bounded, ended_grows, grown}
use Rattle.lead.proofs.Heads.{head_same}

-- bytes below a place, of those that an area keeps
abbrev pub Agree : List ℕ → List ℕ → ℕ → Type 0
Agree a b stop = (place : ℕ) → place < stop → place < 3079 → byte_at a place ≡ byte_at b place

-- before the head is over no entry has ended, and none is begun, whatever the count
pub none_ended : (count n : ℕ) → n < 7 → ended_of count n ≡ 0
none_ended count n h = omega arith

pub none_begun : (count n : ℕ) → n < 7 → begun_of count n ≡ 0
none_begun count n h = go (ltb n (7 + 6 * min count 512))
  where
    go : (t : Bool) → (if t then (n - 7) % 6 else 0) ≡ 0
    go true = omega arith
    go false = refl

-- a byte of an entry begun stands below the place
pub begun_below : (count n i : ℕ) → i < begun_of count n → 7 + 6 * ended_of count n + i < n
begun_below count n i = go (ltb n (7 + 6 * min count 512)) refl
  where
    go : (t : Bool) → ltb n (7 + 6 * min count 512) ≡ t → i < (if t then (n - 7) % 6 else 0) → 7 + 6 * ended_of count n + i < n
    go true below few =
        let under = ltb-true n (7 + 6 * min count 512) below in
        let whole : ended_of count n ≡ (n - 7) / 6 = omega (arith, under) in
        omega (arith, whole, few)
    go false past few = absurd (omega arith)

pub below_last : (k from to : ℕ) → from ≤ k → k < from + (to - from) → k < to
below_last k from to above below = omega arith

before_last : (n : ℕ) → 1 ≤ n → n - 1 < n
before_last n some = omega arith

-- an entry that ended ends below the place
pub ends_below : (count n i : ℕ) → i < ended_of count n → 7 + 6 * i + 6 ≤ n
ends_below count n i h =
    let whole : i < (n - 7) / 6 = omega arith in
    omega (arith, whole)

entries_alike : (a b : List ℕ) (n i : ℕ) → ((k : ℕ) → i ≤ k → k < i + n → entry_at a k ≡ entry_at b k) → entries_from a i n ≡ entries_from b i n
unfolding entries_from
entries_alike a b zero i same = refl
entries_alike a b (suc n) i same =
    rw (same i (omega arith) (omega arith), entries_alike a b n (suc i) (λ k low high. same k (omega arith) (omega arith)))

module _ (a b : List ℕ) (stop : ℕ) (low : stop ≤ 3080) (same : Agree a b stop) where
  -- an entry that ended is the same
  pub entry_same : (i : ℕ) → 7 + 6 * i + 6 ≤ stop → i < 512 → entry_at a i ≡ entry_at b i
  entry_same i below few = entry_alike a b i (λ place from to. same place (omega arith) (omega arith))

  -- once the head has come, it is the same
  module _ (over : 7 ≤ stop) where
    pub version_same : version_of a ≡ version_of b
    version_same = (head_alike a b (λ place h. same place (omega arith) (omega arith))).1

    pub count_same : count_of a ≡ count_of b
    count_same = (head_alike a b (λ place h. same place (omega arith) (omega arith))).2

  -- what goes by the count, and is nothing before the head is over, is the same
  by_count : (told : ℕ → ℕ → ℕ) → ((count n : ℕ) → n < 7 → told count n ≡ 0) → (n : ℕ) → n ≤ stop → told (count_of a) n ≡ told (count_of b) n
  by_count told none n within = go (ltb n 7) refl
    where
      go : (t : Bool) → ltb n 7 ≡ t → told (count_of a) n ≡ told (count_of b) n
      go true short =
          let few = ltb-true n 7 short in
          none (count_of a) n few ∙ sym (none (count_of b) n few)
      go false over = ap (λ (count : ℕ). told count n) (count_same (omega (arith, ltb-false n 7 over)))

  -- as many entries have ended, and as many bytes are begun
  pub ended_same : (n : ℕ) → n ≤ stop → ended_in a n ≡ ended_in b n
  ended_same = by_count ended_of none_ended

  pub begun_same : (n : ℕ) → n ≤ stop → begun_in a n ≡ begun_in b n
  begun_same = by_count begun_of none_begun

  module _ (start : ℕ) where
    heads_same : head_brought a start stop ≡ head_brought b start stop
    heads_same = head_same a b start stop (λ place few below. same place below (omega arith))

    module _ (within : start ≤ stop) (least : ℕ) where
      -- before the head is over nothing but it can be brought to an end
      short_brought : (job : List ℕ) → stop < 7 → brought least job start stop ≡ (head_brought job start stop otherwise Sound)
      unfolding brought entry_faults entries_from
      short_brought job few =
          rw (none_ended (count_of job) stop few, none_ended (count_of job) start (omega arith), le-ltb (7 + 6 * count_of job) stop (omega arith))

      entries_same : 7 ≤ stop → entries_brought least a start stop ≡ entries_brought least b start stop
      entries_same over =
          let from = ended_same start within in
          let to = ended_same stop (omega arith) in
          let few = (bounded (count_of b) stop low).1 in
          let list = entries_alike a b (ended_in b stop - ended_in b start) (ended_in b start)
          (λ k above below.
          let ended = below_last k (ended_in b start) (ended_in b stop) above below in
          entry_same k (ends_below (count_of b) stop k ended) (le_trans ended few)) in
          rw (from, to, version_same over, list)

      -- what comes to an end is the same
      pub brought_same : brought least a start stop ≡ brought least b start stop
      unfolding brought
      brought_same = go (ltb stop 7) refl
        where
          go : (t : Bool) → ltb stop 7 ≡ t → brought least a start stop ≡ brought least b start stop
          go true short =
              let few = ltb-true stop 7 short in
              short_brought a few ∙ ap (λ (f : Fault). f otherwise Sound) heads_same ∙ sym (short_brought b few)
          go false long =
              let over = ltb-false stop 7 long in
              rw (heads_same, entries_same over, count_same over)

      -- and so is the lowest row that may come next
      pub least_same : least_of least a start stop ≡ least_of least b start stop
      least_same = rw (ended_same start within, ended_same stop (omega arith)) (go (eqb (ended_in b start) (ended_in b stop)) refl)
        where
          go : (t : Bool) → eqb (ended_in b start) (ended_in b stop) ≡ t
              → (if t then least else (entry_at a (ended_in b stop - 1)).row + 1) ≡ (if t then least else (entry_at b (ended_in b stop - 1)).row + 1)
          go true none = refl
          go false some =
              let last = grown (ended_in b start) (ended_in b stop) (ended_grows (count_of b) start stop within) (eqb-false _ _ some) in
              let few = (bounded (count_of b) stop low).1 in
              let ended = before_last (ended_in b stop) last in
              ap (λ (e : Entry). e.row + 1) (entry_same (ended_in b stop - 1) (ends_below (count_of b) stop (ended_in b stop - 1) ended) (le_trans ended few))
