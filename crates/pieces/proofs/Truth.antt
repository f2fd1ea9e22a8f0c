-- The early word is true.
-- Assumes nothing.
use mathlib.Core.Path.{◌≡◌, refl, sym, ap, ◌∙◌}
use mathlib.Core.Bool.{Bool, true, false, ◌&&◌}
use mathlib.Core.List.{List, ◌∷◌, ◌++◌}
use mathlib.Core.Logic.{◌⊎◌, inl, inr, ⊎_elim}
use Prim.Native.Nat.{ℕ, suc, ◌+◌, ◌-◌, ◌*◌, ◌≤◌, ◌<◌}
use native.Mathlib.Omega.{arith}
use borrow.Author.Tests.{eq-eqb, le-ltb}
use lib.Dec.{eqb}
use lib.ListN.{length}
use Rattle.std.specs.Prelude.{if◌then◌else◌}
use Rattle.answer.proofs.Choices.{both_ways}
use Rattle.answer.proofs.Ladders.{never_zero}
use Rattle.chip.specs.Slices.{not_whole}
use Rattle.chip.specs.declared.state.State.{State}
use Rattle.form.specs.Entries.{byte_at, version_of, count_of, entry_at, entries_of}
use Rattle.form.specs.Faults.{fault_number, ◌otherwise◌, head_fault, form_faults, order_faults, rule_of, fault_of, Fault, Sound}
use Rattle.form.proofs.Faulty.{one_of, form_stops_all, head_sound, forms_sound, order_sound}
use Rattle.burn.specs.Burning.{Left}
use Rattle.judge.specs.Verdicts.{verdict_of}
use Rattle.job.specs.Jobs.{run_job}
use Rattle.lead.specs.Early.{came, head_brought, brought}
use Rattle.lead.specs.Notes.{ended_in}
use Rattle.pieces.specs.Pieces.{begin, after_all, joined}
use Rattle.pieces.specs.Words.{least_at, word_after, end_number, WordIsTrue, WordExactly}
use Rattle.pieces.proofs.Agreeing.{below_last}
use Rattle.pieces.proofs.Following.{counted, word_is}
use Rattle.pieces.proofs.InTurn.{in_turn, each_sound, all_sound, none_given, form, place, both, forms_turn, places_turn, both_turn}
use Rattle.pieces.proofs.Joined.{chunk_stands, chunk_within, chunk_follows}
use Rattle.pieces.proofs.Parts.{bad_head, head_all, row_not_ten, head_not_eleven, forms_not_eleven}
use Rattle.pieces.proofs.Whole.{pieces_are_the_file}

pub word_exactly : WordExactly
word_exactly area before later chunk room =
    word_is (joined (before ++ chunk ∷ later)) (length (joined before)) (after_all (begin area) before) chunk
    (chunk_follows before later chunk area room) (chunk_stands before later chunk)

-- ---- a sound head says nothing

nothing : (t : Bool) → (t && false) ≡ false
nothing true = refl
nothing false = refl

module _ (file : List ℕ) (start stop : ℕ) (within : start ≤ stop) (low : stop ≤ 3080) (here : stop ≤ length file)
    (sound : head_fault (rule_of file) file ≡ Sound) where
  abbrev first : ℕ
  first = ended_in file start

  abbrev last : ℕ
  last = ended_in file stop

  head_quiet : head_brought file start stop ≡ Sound
  unfolding head_brought
  head_quiet =
      let all = head_all (rule_of file) file sound in
      rw (
        eq-eqb (byte_at file 0) 0x4f all.0.0,
        eq-eqb (byte_at file 1) 0x54 all.0.1,
        eq-eqb (byte_at file 2) 0x4a all.0.2,
        eq-eqb (version_of file) (rule_of file) all.1,
        le-ltb 512 (count_of file) all.2,
        nothing (came start stop 0),
        nothing (came start stop 1),
        nothing (came start stop 2),
        nothing (came start stop 4),
        nothing (came start stop 6),
      )

  -- then only entries can be at fault
  by_entries : brought (least_at file first) file start stop ≡ (in_turn (both file (rule_of file)) first (last - first) otherwise Sound)
  unfolding brought
  by_entries =
      let all = head_all (rule_of file) file sound in
      let ends : stop ≤ 7 + 6 * count_of file = omega (arith, all.3, here) in
      rw (head_quiet, le-ltb (7 + 6 * count_of file) stop ends, both_turn file (rule_of file) (last - first) first)

  -- an entry that ended is one that the head counts
  counted_one : (k : ℕ) → first ≤ k → k < first + (last - first) → k < count_of file
  counted_one k above below =
      let ended = below_last k first last above below in
      let few : last ≤ count_of file = omega arith in
      omega (arith, ended, few)

  -- well formed entries never give 10
  pub not_ten : form_faults 0 (entries_of file) ≡ Sound → fault_number (brought (least_at file first) file start stop) ≡ 10 → ⊥
  not_ten forms ten =
      both_ways (λ (f : Fault). fault_number f ≡ 10 → ⊥) (eqb (fault_number entries) 0) Sound entries (λ e. never_zero 9 (sym e))
      (none_given (both file (rule_of file)) 9 (last - first) first each) (sym (ap fault_number by_entries) ∙ ten)
    where
      entries : Fault
      entries = in_turn (both file (rule_of file)) first (last - first)

      each : (k : ℕ) → first ≤ k → k < first + (last - first) → fault_number (both file (rule_of file) k) ≡ 10 → ⊥
      each k above below =
          let sound-form = each_sound (form file (rule_of file)) (count_of file) 0 (sym (forms_turn file (rule_of file) (count_of file) 0) ∙ forms) k (omega arith) (omega (arith, counted_one k above below)) in
          rw sound-form (row_not_ten (rule_of file) k (least_at file k) (entry_at file k))

  -- and entries in their order none at all
  pub no_word : form_faults 0 (entries_of file) ≡ Sound → order_faults (rule_of file) 0 0 (entries_of file) ≡ Sound
      → brought (least_at file first) file start stop ≡ Sound
  no_word forms orders = by_entries ∙ ap (λ (f : Fault). f otherwise Sound) (all_sound (both file (rule_of file)) (last - first) first each)
    where
      each : (k : ℕ) → first ≤ k → k < first + (last - first) → both file (rule_of file) k ≡ Sound
      each k above below =
          let counts : k < 0 + count_of file = omega (arith, counted_one k above below) in
          let sound-form = each_sound (form file (rule_of file)) (count_of file) 0 (sym (forms_turn file (rule_of file) (count_of file) 0) ∙ forms) k (omega arith) counts in
          let sound-row = each_sound (place file (rule_of file)) (count_of file) 0 (sym (places_turn file (rule_of file) (count_of file) 0) ∙ orders) k (omega arith) counts in
          rw (sound-form, sound-row)

  -- ---- what a word says of the file

  ten_said : fault_number (brought (least_at file first) file start stop) ≡ 10 → fault_number (form_faults 0 (entries_of file)) ≡ 10
  ten_said ten =
      ⊎_elim (λ forms. absurd (not_ten forms ten)) (⊎_elim (λ is-ten. is-ten) (λ eleven. absurd (forms_not_eleven file eleven)))
      (one_of (form_faults 0 (entries_of file)))

module _ (file : List ℕ) (start stop : ℕ) (within : start ≤ stop) (low : stop ≤ 3080) (here : stop ≤ length file) where
  abbrev word : ℕ
  word = fault_number (brought (least_at file (ended_in file start)) file start stop)

  -- a word of 10: the file is malformed
  pub ten_means : word ≡ 10 → fault_number (fault_of file) ≡ 10
  ten_means ten = ⊎_elim sound_head (⊎_elim (bad_head file) (λ eleven. absurd (head_not_eleven (rule_of file) file eleven))) (one_of (head_fault (rule_of file) file))
    where
      sound_head : head_fault (rule_of file) file ≡ Sound → fault_number (fault_of file) ≡ 10
      sound_head sound =
          let is = ten_said file start stop within low here sound ten in
          ap fault_number (form_stops_all (rule_of file) file (ap fault_number sound) (λ none. never_zero 9 (sym is ∙ none))) ∙ is

  -- a word of 11: it is malformed, or a row is out of place
  pub eleven_means : word ≡ 11 → (fault_number (fault_of file) ≡ 10) ⊎ (fault_number (fault_of file) ≡ 11)
  eleven_means eleven = ⊎_elim none (λ some. some) (one_of (fault_of file))
    where
      none : fault_of file ≡ Sound → (fault_number (fault_of file) ≡ 10) ⊎ (fault_number (fault_of file) ≡ 11)
      none sound =
          let quiet = no_word file start stop within low here (head_sound file sound) (forms_sound file sound) (order_sound file sound) in
          absurd (never_zero 10 (sym eleven ∙ ap fault_number quiet))

-- a file with a fault is answered its number, or 1
pub run_number : (rows : List ℕ) (state : State) (file : List ℕ) (number : ℕ) → (number ≡ 10) ⊎ (number ≡ 11) → fault_number (fault_of file) ≡ number
    → (t : Bool) → not_whole rows ≡ t → (run_job rows state file).outcome.answer.number ≡ (if t then 1 else number)
unfolding run_job verdict_of
run_number rows state file number which is true part = rw part
run_number rows state file number (inl ten) is false whole = rw (whole, is, ten)
run_number rows state file number (inr eleven) is false whole = rw (whole, is, eleven)

pub word_is_true : WordIsTrue
word_is_true rows state area before later chunk room = (by_ten, by_eleven)
  where
    file : List ℕ
    file = joined (before ++ chunk ∷ later)

    n : ℕ
    n = length (joined before)

    -- a chunk with a word is not empty
    some_word : (number : ℕ) → word_after area before chunk ≡ suc number → fault_number (brought (least_at file (ended_in file (counted n))) file (counted n) (counted (n + length chunk))) ≡ suc number
    some_word number said = go (eqb (length chunk) 0) (sym (word_exactly area before later chunk room) ∙ said)
      where
        go : (t : Bool) → (if t then 0 else fault_number (brought (least_at file (ended_in file (counted n))) file (counted n) (counted (n + length chunk)))) ≡ suc number
            → fault_number (brought (least_at file (ended_in file (counted n))) file (counted n) (counted (n + length chunk))) ≡ suc number
        go true none = absurd (never_zero number (sym none))
        go false is = is

    here : counted (n + length chunk) ≤ length file
    here = omega (arith, chunk_within before later chunk)

    same : end_number rows state area (before ++ chunk ∷ later) ≡ (run_job rows state file).outcome.answer.number
    same = ap (λ (l : Left). l.outcome.answer.number) (pieces_are_the_file rows state area (before ++ chunk ∷ later) room)

    OneOr : ℕ → Type 0
    OneOr number = (end_number rows state area (before ++ chunk ∷ later) ≡ 1) ⊎ (end_number rows state area (before ++ chunk ∷ later) ≡ number)

    one_or : (number : ℕ) → (number ≡ 10) ⊎ (number ≡ 11) → fault_number (fault_of file) ≡ number → OneOr number
    one_or number which is = go (not_whole rows) refl
      where
        go : (t : Bool) → not_whole rows ≡ t → OneOr number
        go true part = inl (same ∙ run_number rows state file number which is true part)
        go false whole = inr (same ∙ run_number rows state file number which is false whole)

    by_ten : word_after area before chunk ≡ 10 → OneOr 10
    by_ten said = one_or 10 (inl refl) (ten_means file (counted n) (counted (n + length chunk)) (omega arith) (omega arith) here (some_word 9 said))

    by_eleven : word_after area before chunk ≡ 11
        → (end_number rows state area (before ++ chunk ∷ later) ≡ 1)
        ⊎ ((end_number rows state area (before ++ chunk ∷ later) ≡ 10) ⊎ (end_number rows state area (before ++ chunk ∷ later) ≡ 11))
    by_eleven said =
        ⊎_elim (λ ten. ⊎_elim inl (λ is. inr (inl is)) (one_or 10 (inl refl) ten)) (λ eleven. ⊎_elim inl (λ is. inr (inr is)) (one_or 11 (inr refl) eleven))
        (eleven_means file (counted n) (counted (n + length chunk)) (omega arith) (omega arith) here (some_word 10 said))
