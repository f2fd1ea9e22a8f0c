-- The early word is not lazy.
-- Assumes nothing.
use mathlib.Core.Path.{◌≡◌, refl, sym, ap, subst, ◌∙◌}
use mathlib.Core.Bool.{Bool, true, false, not}
use mathlib.Core.List.{List, [], ◌∷◌, ◌++◌, append_assoc, append-nil}
use mathlib.Core.Logic.{◌⊎◌, inl, inr, ⊎_elim}
use Prim.Native.Nat.{ℕ, ◌+◌, ◌-◌, ◌*◌, ◌/◌, ◌≤◌, ◌<◌}
use native.Mathlib.Omega.{arith}
use borrow.Author.Tests.{eqb-true, eqb-false, eq-eqb, ltb-true, ltb-false}
use lib.Dec.{eqb, ltb}
use lib.ListN.{length, length-append}
use Rattle.answer.specs.Rungs.{first_of}
use Rattle.answer.proofs.Choices.{both_ways, own_number}
use Rattle.permit.specs.Permission.{may_write}
use Rattle.chip.specs.Slices.{row_at, too_large}
use Rattle.chip.specs.declared.state.State.{State}
use Rattle.burn.specs.Burning.{Left}
use Rattle.form.specs.Entries.{count_of, entries_of}
use Rattle.form.specs.Faults.{fault_number, head_fault, rule_of, fault_of, Fault, Sound}
use Rattle.form.specs.declared.entries.Entry.{Entry}
use Rattle.form.proofs.Faulty.{one_of, zero_sound}
use Rattle.judge.specs.Verdicts.{unfit, all_rungs, entry_rungs, verdict_of}
use Rattle.job.specs.Jobs.{run_job}
use Rattle.lead.specs.Early.{brought}
use Rattle.lead.specs.Notes.{ended_of, ended_in}
use Rattle.pieces.specs.Pieces.{joined}
use Rattle.pieces.specs.Words.{least_at, word_after, end_number, SomeWord, CutShort, WordIsNotLazy, EntryIsSaid}
use Rattle.pieces.proofs.Following.{counted}
use Rattle.pieces.proofs.Joined.{then_joined}
use Rattle.pieces.proofs.Parts.{bad_head, head_all, head_not_eleven}
use Rattle.pieces.proofs.Quiet.{SoundTo, nothing_yet, more_sound, entry_quiet, whole_sound}
use Rattle.pieces.proofs.Truth.{word_exactly, run_number}
use Rattle.pieces.proofs.Whole.{pieces_are_the_file}

-- ---- a chunk that has no word to say

module _ (area : List ℕ) (before later : List (List ℕ)) (chunk : List ℕ) (room : 3079 ≤ length area) (none : word_after area before chunk ≡ 0) where
  abbrev file : List ℕ
  file = joined (before ++ chunk ∷ later)

  abbrev n : ℕ
  n = length (joined before)

  abbrev fault : Fault
  fault = brought (least_at file (ended_in file (counted n))) file (counted n) (counted (n + length chunk))

  chunk_quiet : (t : Bool) → eqb (length chunk) 0 ≡ t → (length chunk ≡ 0) ⊎ (fault ≡ Sound)
  chunk_quiet true empty = inl (eqb-true (length chunk) 0 empty)
  chunk_quiet false some = inr (zero_sound fault (rw some at (sym (word_exactly area before later chunk room) ∙ none)))

  chunk_sound : SoundTo file n → SoundTo file (n + length chunk)
  chunk_sound sound =
      ⊎_elim (λ empty. subst (SoundTo file) (omega (arith, empty)) sound) (more_sound file n (length chunk) sound)
      (chunk_quiet (eqb (length chunk) 0) refl)

-- each entry's fault is said by the chunk that brings its last byte
pub entry_is_said : EntryIsSaid
entry_is_said area before later chunk i room counts few from to faulty none =
    ⊎_elim (λ empty. omega (arith, empty, from, to))
    (λ quiet.
    faulty (ap fault_number (entry_quiet file (counted n) (counted (n + length chunk)) quiet i
    (begun_before_lem (count_of file) n i from few) (ended_by (count_of file) (n + length chunk) i to few counts))))
    (chunk_quiet area before later chunk room none (eqb (length chunk) 0) refl)
  where
    file : List ℕ
    file = joined (before ++ chunk ∷ later)

    n : ℕ
    n = length (joined before)

    begun_before_lem : (count m k : ℕ) → m ≤ 7 + 6 * k + 5 → k < 512 → ended_of count (counted m) ≤ k
    begun_before_lem count m k low bound = omega (arith, low, bound)

    ended_by : (count m k : ℕ) → 7 + 6 * k + 5 < m → k < 512 → k < count → k < ended_of count (counted m)
    ended_by count m k high bound below =
        let whole : k < (counted m - 7) / 6 = omega (arith, high, bound) in
        omega (arith, whole, below)

-- ---- all chunks

one_longer : (before : List (List ℕ)) (chunk : List ℕ) → length (joined (before ++ (chunk ∷ []))) ≡ length (joined before) + length chunk
unfolding joined
one_longer before chunk =
    ap (λ (l : List ℕ). length l) (then_joined before (chunk ∷ [])) ∙ length-append (joined before) (chunk ++ [])
    ∙ ap (λ (l : List ℕ). length (joined before) + length l) (append-nil chunk)

-- some chunk has a word to say, or all bytes are found sound
some_or_sound : (area : List ℕ) (room : 3079 ≤ length area) (others before : List (List ℕ)) (chunks : List (List ℕ)) → chunks ≡ before ++ others
    → SoundTo (joined chunks) (length (joined before)) → SomeWord area chunks ⊎ SoundTo (joined chunks) (length (joined chunks))
some_or_sound area room [] before chunks is sound =
    inr (subst (λ (l : List (List ℕ)). SoundTo (joined chunks) (length (joined l))) (sym (is ∙ append-nil before)) sound)
some_or_sound area room (chunk ∷ others) before chunks is sound =
    go (some_or_sound area room others (before ++ (chunk ∷ [])) chunks (is ∙ sym (append_assoc before (chunk ∷ []) others)))
    (eqb (word_after area before chunk) 0) refl
  where
    next : word_after area before chunk ≡ 0 → SoundTo (joined chunks) (length (joined (before ++ (chunk ∷ []))))
    next none =
        let here = chunk_sound area before others chunk room none (subst (λ (l : List (List ℕ)). SoundTo (joined l) (length (joined before))) is sound) in
        subst (λ (m : ℕ). SoundTo (joined chunks) m) (sym (one_longer before chunk))
        (subst (λ (l : List (List ℕ)). SoundTo (joined l) (length (joined before) + length chunk)) (sym is) here)

    go : (SoundTo (joined chunks) (length (joined (before ++ (chunk ∷ [])))) → SomeWord area chunks ⊎ SoundTo (joined chunks) (length (joined chunks)))
        → (t : Bool) → eqb (word_after area before chunk) 0 ≡ t → SomeWord area chunks ⊎ SoundTo (joined chunks) (length (joined chunks))
    go rest true none = rest (next (eqb-true (word_after area before chunk) 0 none))
    go rest false some = inl (before, chunk, others, is, eqb-false (word_after area before chunk) 0 some)

-- ---- 10 and 11 are a fault's alone

rungs_other : (rows : List ℕ) (state : State) (es : List Entry) (i : ℕ)
    → (first_of (all_rungs rows state i es) ≡ 10 → ⊥) × (first_of (all_rungs rows state i es) ≡ 11 → ⊥)
unfolding all_rungs entry_rungs
rungs_other rows state [] i = (λ e. omega arith, λ e. omega arith)
rungs_other rows state (e ∷ others) i =
    both_ways Other (not (may_write state 0 e.row)) 7 _ (λ e. omega arith, λ e. omega arith)
    (both_ways Other (too_large rows e.row) 3 _ (λ e. omega arith, λ e. omega arith)
    (both_ways Other (unfit (row_at rows e.row) e) 9 _ (λ e. omega arith, λ e. omega arith) (rungs_other rows state others (i + 1))))
  where
    Other : ℕ → Type 0
    Other number = (number ≡ 10 → ⊥) × (number ≡ 11 → ⊥)

module _ (rows : List ℕ) (state : State) (file : List ℕ) where
  number_given : (run_job rows state file).outcome.answer.number ≡ (verdict_of rows state file).number
  unfolding run_job
  number_given = own_number (λ (l : Left). l.outcome.answer.number) (verdict_of rows state file).number _ _ refl refl

  by_entries : length rows ≡ 4096 → fault_of file ≡ Sound → (verdict_of rows state file).number ≡ first_of (all_rungs rows state 0 (entries_of file))
  unfolding verdict_of
  by_entries whole sound = rw (eq-eqb (length rows) 4096 whole, sound)

  sound_other : length rows ≡ 4096 → fault_of file ≡ Sound
      → ((run_job rows state file).outcome.answer.number ≡ 10) ⊎ ((run_job rows state file).outcome.answer.number ≡ 11) → ⊥
  sound_other whole sound =
      let is = number_given ∙ by_entries whole sound in
      let other = rungs_other rows state (entries_of file) 0 in
      ⊎_elim (λ ten. other.0 (sym is ∙ ten)) (λ eleven. other.1 (sym is ∙ eleven))

  -- a file that is cut short has a bad head
  short_head : CutShort file → head_fault (rule_of file) file ≡ Sound → ⊥
  short_head short sound =
      let long = (head_all (rule_of file) file sound).3 in
      ⊎_elim (λ head. omega (arith, head, long)) (λ count. omega (arith, count, long)) short

  short_ten : CutShort file → fault_number (fault_of file) ≡ 10
  short_ten short =
      ⊎_elim (λ sound. absurd (short_head short sound)) (⊎_elim (bad_head file) (λ eleven. absurd (head_not_eleven (rule_of file) file eleven)))
      (one_of (head_fault (rule_of file) file))

  short_number : length rows ≡ 4096 → CutShort file → (run_job rows state file).outcome.answer.number ≡ 10
  short_number whole short = run_number rows state file 10 (inl refl) (short_ten short) false (rw (eq-eqb (length rows) 4096 whole))

pub word_is_not_lazy : WordIsNotLazy
unfolding joined
word_is_not_lazy rows state area chunks room whole faulty =
    ⊎_elim inl (λ sound. inr (at_end_lem sound (ltb (length file) 7) (ltb (length file) (7 + 6 * count_of file)) refl refl))
    (some_or_sound area room chunks [] chunks refl (nothing_yet file))
  where
    file : List ℕ
    file = joined chunks

    ends : CutShort file → CutShort file × (end_number rows state area chunks ≡ 10)
    ends short = (short, ap (λ (l : Left). l.outcome.answer.number) (pieces_are_the_file rows state area chunks room) ∙ short_number rows state file whole short)

    at_end_lem : SoundTo file (length file) → (h c : Bool) → ltb (length file) 7 ≡ h → ltb (length file) (7 + 6 * count_of file) ≡ c
        → CutShort file × (end_number rows state area chunks ≡ 10)
    at_end_lem sound true c head count = ends (inl (ltb-true (length file) 7 head))
    at_end_lem sound false true head count = ends (inr (ltb-true (length file) (7 + 6 * count_of file) count))
    at_end_lem sound false false head count =
        absurd
        (sound_other rows state file whole
        (whole_sound file sound (ltb-false (length file) 7 head) (ltb-false (length file) (7 + 6 * count_of file) count)) faulty)
