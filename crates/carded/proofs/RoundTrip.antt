-- The card that a job burnt reads back, and a cut or a second burning changes nothing of that.
-- Assumes nothing.
use mathlib.Core.Bool.{Bool, true, false}
use mathlib.Core.List.{List, [], ◌∷◌}
use mathlib.Core.Path.{◌≡◌, refl, sym, ap, subst, ◌∙◌}
use Prim.Native.Nat.{ℕ, ◌+◌, ◌^◌, ◌≤◌, ◌<◌}
use native.Mathlib.Nat.{mod-eq_of_lt}
use native.Mathlib.Omega.{arith}
use borrow.Author.Tests.{eq-eqb, eqb-true}
use lib.Dec.{eqb}
use lib.ListN.{length, length-set}
use lib.Seq.{get_or-set_same}
use Rattle.std.specs.Prelude.{if◌then◌else◌}
use Rattle.answer.specs.declared.answers.Answer.{Answer}
use Rattle.row.specs.Writing.{ecc_written}
use Rattle.row.specs.Writing.{Written}
use Rattle.decode.specs.Reading.{read_row}
use Rattle.chip.specs.Slices.{row_at}
use Rattle.chip.specs.declared.state.State.{State}
use Rattle.permit.specs.Permission.{may_read}
use Rattle.burn.specs.Burning.{Left}
use Rattle.form.specs.Entries.{entries_of}
use Rattle.form.specs.declared.entries.Entry.{Entry}
use Rattle.form.proofs.Placed.{placed_low}
use Rattle.judge.specs.Verdicts.{entry_written}
use Rattle.job.specs.Burning.{written_over, with_entry, all_written}
use Rattle.job.specs.Jobs.{run_job}
use Rattle.splash.specs.Cards.{card_of, in_range}
use Rattle.splash.specs.Reading.{a_card, line_row, line_read, card_said, read_as, read_card}
use Rattle.splash.specs.Writing.{ecc_entry, card_entries}
use Rattle.splash.specs.declared.cards.Card.{Card}
use Rattle.splash.proofs.PageThree.{OfCard}
use Rattle.laws.specs.Calls.{a_job, perform}
use Rattle.laws.specs.Promises.{Burns}
use Rattle.laws.specs.Reads.{Value}
use Rattle.laws.specs.Writes.{newly_set}
use Rattle.laws.proofs.Between.{each_length}
use Rattle.laws.proofs.Entries.{entry_small}
use Rattle.laws.proofs.Writes.{reads_back}
use Rattle.cuts.specs.Cuts.{Keyed, ready, accepted_on, CutOf, Cuts, Completes}
use Rattle.cuts.proofs.Acceptance.{ran_number, ran, accepted_by}
use Rattle.cuts.proofs.CutPower.{cut_power}
use Rattle.cuts.proofs.Pulses.{pulses_are_new_bits}
use Rattle.cuts.proofs.Rewriting.{Admitted, judged_done, admitted_next, admitted_rising, all_keep, outside, below_apart}
use Rattle.carded.specs.RoundTrip.{Writes, Reads, CardReadsBack, CardSurvivesCuts, CardBurntAgain}
use Rattle.carded.proofs.CardJobs.{Fit, fits_card, version_low, its_version, its_entries, its_bytes}
use Rattle.carded.proofs.CardRows.{read_there}
use Rattle.carded.proofs.Saying.{card_of_lem}
use Rattle.carded.proofs.Sizes.{in_range_lem}
use Rattle.carded.proofs.Wear.{Holds}

-- ---- each row that was burnt holds its value

-- what holds of each entry
pub data Each (P : Entry → Type 0) : List Entry → Type 0 where
  none : Each P []
  more : (e : Entry) {others : List Entry} → P e → Each P others → Each P (e ∷ others)

abbrev Coded : Entry → Type 0
Coded e = (e.kind ≡ 0) × Value e.value

ecc_entry_lem : (old : ℕ) (e : Entry) → Coded e → entry_written old e ≡ ecc_written old e.value
unfolding entry_written
ecc_entry_lem old e coded = rw (coded.0, mod-eq_of_lt coded.1)

left_held : {rows : List ℕ} {state : State} {least : ℕ} (es : List Entry) → length rows ≡ 4096 → Admitted rows state least es → Each Coded es
    → Each (λ e. Holds (row_at (all_written rows es) e.row) e.value) es
unfolding all_written
left_held [] whole Admitted.none Each.none = Each.none
left_held {rows} {state} {least} (e ∷ others) whole (Admitted.more low place small done rest) (Each.more same_entry coded coded-others) =
    let at : ℕ = e.row in
    let new : ℕ = (written_over rows e).row in
    let high = placed_low e place in
    let next : Admitted (with_entry rows e) state (at + 1) others = admitted_next at new rest in
    let judged = judged_done rows state e done in
    let final : row_at (all_written (with_entry rows e) others) at ≡ new =
    outside (with_entry rows e) others at (below_apart others at (admitted_rising next) (omega arith)) ∙ get_or-set_same rows at new 0 (omega arith) in
    let bound : new < 2 ^ 24 = entry_small (row_at rows at) e (omega (arith, judged.1)) small in
    let is = ecc_entry_lem (row_at rows at) e coded in
    let back = reads_back (row_at rows at) e.value coded.1 (ap (λ (w : Written). w.number) (sym is) ∙ judged.2) in
    let same : read_row new ≡ _ = ap (λ (w : Written). read_row w.row) is ∙ back in
    Each.more e
    (rw final (record { small = omega arith; done = ap (λ (a : Answer). a.number) same; reads = ap (λ (a : Answer). a.value) same }))
    (left_held {rows = with_entry rows e} {least = at + 1} others (length-set rows at new ∙ whole) next coded-others)

-- ---- so the card reads back

-- a card's entries are ECC entries of 16 bits
card_coded : (card : Card) (bytes : ℕ) → Fit card bytes → Each Coded (card_entries card)
unfolding card_entries
card_coded card bytes f =
    let sizes = in_range_lem card f.sizes in
    Each.more (ecc_entry 0x0c0 0x5053) (refl, omega arith)
    (Each.more (ecc_entry 0x0c1 0x004c) (refl, omega arith)
    (Each.more (ecc_entry 0x0c2 card.version) (refl, omega (arith, version_low card.version f.known))
    (Each.more (ecc_entry 0x0c3 card.width) (refl, omega (arith, sizes.1))
    (Each.more (ecc_entry 0x0c4 card.height) (refl, omega (arith, sizes.3)) (last (eqb card.version 2) sizes.5)))))
  where
    last : (t : Bool) → card.line ≤ 1024 → Each Coded (if t then ecc_entry 0x0c5 card.line ∷ [] else [])
    last true l = Each.more (ecc_entry 0x0c5 card.line) (refl, omega arith) Each.none
    last false l = Each.none

-- what stands in the rows of a card
pub record Stands (left : List ℕ) (card : Card) : Type 0 where
  pub first : Holds (row_at left 0x0c0) 0x5053
  pub second : Holds (row_at left 0x0c1) 0x004c
  pub third : Holds (row_at left 0x0c2) card.version
  pub fourth : Holds (row_at left 0x0c3) card.width
  pub fifth : Holds (row_at left 0x0c4) card.height
  pub sixth : card.version ≡ 2 → Holds (row_at left 0x0c5) card.line

stands : (left : List ℕ) (card : Card) → Each (λ e. Holds (row_at left e.row) e.value) (card_entries card) → Stands left card
unfolding card_entries
stands left card (Each.more e1 a (Each.more e2 b (Each.more e3 c (Each.more e4 d (Each.more e5 e rest))))) =
    record { first = a; second = b; third = c; fourth = d; fifth = e; sixth = λ two. one (rw (eq-eqb card.version 2 two) at rest) }
  where
    one : Each (λ e. Holds (row_at left e.row) e.value) (ecc_entry 0x0c5 card.line ∷ []) → Holds (row_at left 0x0c5) card.line
    one (Each.more e6 held Each.none) = held

-- a card is its four numbers
abbrev of_four : ℕ → ℕ → ℕ → ℕ → Card
of_four version width height line = record { version = version; width = width; height = height; line = line }

four : {version width height line version' width' height' line' : ℕ} → version ≡ version' → width ≡ width' → height ≡ height' → line ≡ line'
    → of_four version width height line ≡ of_four version' width' height' line'
four v w h l = rw (v, w, h, l)

module _ (version width height line : ℕ) (left : List ℕ) (bytes : ℕ) (f : Fit (card_of version width height line) bytes) (whole : length left ≡ 4096)
    (s : Stands left (card_of version width height line)) (reader : State) (may : may_read reader 1 0x0c0 ≡ true) where
  abbrev read : ℕ → Answer
  read = read_as left reader

  -- a row of the card that holds a value reads as it
  says : (row value : ℕ) → OfCard row → Holds (row_at left row) value → ((read row).number ≡ 0) × ((read row).value ≡ value)
  says row value of held =
      let is = read_there left reader whole may row of (read_row (row_at left row)) held.small refl held.done in
      (ap (λ (a : Answer). a.number) is ∙ held.done, ap (λ (a : Answer). a.value) is ∙ held.reads)

  one : ((read 0x0c0).number ≡ 0) × ((read 0x0c0).value ≡ 0x5053)
  one = says 0x0c0 0x5053 (omega arith, omega arith) s.first

  two : ((read 0x0c1).number ≡ 0) × ((read 0x0c1).value ≡ 0x004c)
  two = says 0x0c1 0x004c (omega arith, omega arith) s.second

  three : ((read 0x0c2).number ≡ 0) × ((read 0x0c2).value ≡ version)
  three = says 0x0c2 version (omega arith, omega arith) s.third

  four_th : ((read 0x0c3).number ≡ 0) × ((read 0x0c3).value ≡ width)
  four_th = says 0x0c3 width (omega arith, omega arith) s.fourth

  five : ((read 0x0c4).number ≡ 0) × ((read 0x0c4).value ≡ height)
  five = says 0x0c4 height (omega arith, omega arith) s.fifth

  -- the line is that of version 2, or the width
  line_says : ((line_read read).number ≡ 0) × ((line_read read).value ≡ (if eqb version 2 then line else width))
  line_says =
      subst (λ (v : ℕ). ((read (line_row v)).number ≡ 0) × ((read (line_row v)).value ≡ (if eqb version 2 then line else width))) (sym three.1)
      (go (eqb version 2) refl (λ second. says 0x0c5 (if eqb version 2 then line else width) (omega arith, omega arith) (s.sixth second)))
    where
      go : (t : Bool) → eqb version 2 ≡ t → (version ≡ 2 → ((read 0x0c5).number ≡ 0) × ((read 0x0c5).value ≡ (if eqb version 2 then line else width)))
          → ((read (if t then 0x0c5 else 0x0c3)).number ≡ 0) × ((read (if t then 0x0c5 else 0x0c3)).value ≡ (if t then line else width))
      go true e sixth = rw e at (sixth (eqb-true version 2 e))
      go false e sixth = four_th

  said : card_said read ≡ card_of version width height line
  said = four three.1 four_th.1 five.1 line_says.1

  stands_read : read_card left reader ≡ a_card (card_of version width height line)
  unfolding read_card
  stands_read =
      card_of_lem read (record {
        first = one.0;
        second = two.0;
        third = three.0;
        fourth = four_th.0;
        fifth = five.0;
        mark = rw (one.1, two.1);
        version = rw three.1 f.known;
        line = line_says.0;
        sizes = ap in_range said ∙ f.sizes;
      })
      ∙ ap a_card said

module _ (area : List ℕ) (version width height line : ℕ) (card : Card) (job : List ℕ) (w : Writes area version width height line card job) where
  -- what a done run leaves, and that the card stands in it
  module _ (rows : List ℕ) (state : State) (done : (run_job rows state job).outcome.answer.number ≡ 0) where
    passed_by : (length rows ≡ 4096) × Admitted rows state 0 (card_entries card)
    passed_by =
        let parts = accepted_by rows state job (its_bytes area version width height line card job w) (ran_number rows state job done) in
        (parts.0, subst (Admitted rows state 0) (its_entries area version width height line card job w) parts.2)

    leaves : (run_job rows state job).rows ≡ all_written rows (card_entries card)
    leaves =
        ap (λ (l : Left). l.rows) (ran rows state job (ran_number rows state job done))
        ∙ ap (all_written rows) (its_entries area version width height line card job w)

    stand : Stands (run_job rows state job).rows card
    stand =
        subst (λ (left : List ℕ). Stands left card) (sym leaves)
        (stands (all_written rows (card_entries card)) card
        (left_held (card_entries card) passed_by.0 passed_by.1 (card_coded card (length area) (fits_card area version width height line card job w))))

    reads_back_lem : Reads (run_job rows state job).rows card
    reads_back_lem reader may =
        let long : length (run_job rows state job).rows ≡ 4096 = ap length leaves ∙ sym (each_length (all_keep (card_entries card) rows)) ∙ passed_by.0 in
        stands_read version width height line (run_job rows state job).rows (length area)
        (subst (λ (c : Card). Fit c (length area)) w.of (fits_card area version width height line card job w)) long
        (subst (Stands (run_job rows state job).rows) w.of stand) reader may
        ∙ ap a_card (sym w.of)

pub card_reads_back : CardReadsBack
card_reads_back area version width height line card job w rows state done = reads_back_lem area version width height line card job w rows state done

-- ---- cuts, and burning it again

module _ (area : List ℕ) (version width height line : ℕ) (card : Card) (job : List ℕ) (w : Writes area version width height line card job)
    (rows left : List ℕ) (before later : State) (key : Keyed) (spent : ℕ) where
  completes : accepted_on rows before key job → Cuts (entries_of job) rows left spent → Completes rows left before later key job spent
  completes accept cuts =
      cut_power rows left before later key job spent (its_bytes area version width height line card job w) accept cuts
      (λ two. absurd (omega (arith, two, its_version area version width height line card job w)))

pub card_survives_cuts : CardSurvivesCuts
card_survives_cuts area version width height line card job w rows left before later key spent accept cuts =
    let law = completes area version width height line card job w rows left before later key spent accept cuts in
    (law, card_reads_back area version width height line card job w left (ready left later key) law.0.1)

-- a cut after the last pulse
at_last : (es : List Entry) (rows : List ℕ) → CutOf rows es (all_written rows es)
unfolding all_written
at_last [] rows = CutOf.at_end
at_last (e ∷ others) rows = CutOf.past (at_last others (with_entry rows e))

-- the pulses of a done run are the bits newly set
run_pulses : (rows : List ℕ) (state : State) (job : List ℕ) → (run_job rows state job).outcome.answer.number ≡ 0
    → (run_job rows state job).outcome.answer.pulses ≡ newly_set rows (run_job rows state job).rows
unfolding perform
run_pulses rows state job done = pulses_are_new_bits (record { rows = rows; state = state }) (a_job job) Burns.job done

pub card_burnt_again : CardBurntAgain
card_burnt_again area version width height line card job w rows left before later key accept is =
    let state = ready rows before key in
    let finished : left ≡ all_written rows (entries_of job) = is ∙ ap (λ (l : Left). l.rows) (ran rows state job (ran_number rows state job accept.1)) in
    let cuts : Cuts (entries_of job) rows left (newly_set rows left + 0) =
    Cuts.once (subst (CutOf rows (entries_of job)) (sym finished) (at_last (entries_of job) rows)) Cuts.none in
    let law = completes area version width height line card job w rows left before later key (newly_set rows left + 0) accept cuts in
    let all : (run_job rows state job).outcome.answer.pulses ≡ newly_set rows left = run_pulses rows state job accept.1 ∙ ap (newly_set rows) (sym is) in
    (law.0, law.1 ∙ sym finished, omega (arith, law.3, all))
