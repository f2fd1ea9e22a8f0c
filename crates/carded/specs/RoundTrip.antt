-- Request 2026-12: the job of a card. Once it has run and Non-secure may read the rows, the card reads back the same, after any cuts too.
use Rattle.std.specs.Prelude.{ℕ, true, List, ◌≡◌, take}
use Rattle.chip.specs.declared.state.State.{State}
use Rattle.permit.specs.Permission.{may_read}
use Rattle.form.specs.Entries.{version_of, entries_of}
use Rattle.job.specs.Jobs.{run_job}
use Rattle.splash.specs.Cards.{card_of}
use Rattle.splash.specs.Reading.{a_card, read_card}
use Rattle.splash.specs.Writing.{card_entries, write_card}
use Rattle.splash.specs.declared.cards.Card.{Card}
use Rattle.cuts.specs.Cuts.{Keyed, ready, Bytes, accepted_on, Cuts, Completes}

-- a writing that is done, into an area of bytes; its card, and its job: as many bytes of the area as the value says
pub record Writes (area : List ℕ) (version width height line : ℕ) (card : Card) (job : List ℕ) : Type 0 where
  pub lent : Bytes area
  pub done : (write_card area version width height line).answer.number ≡ 0
  pub of : card ≡ card_of version width height line
  pub bytes : job ≡ take (write_card area version width height line).answer.value (write_card area version width height line).area

-- it is a version 1 job with the card's entries
abbrev pub CardJob : Type 0
CardJob =
    (area : List ℕ) (version width height line : ℕ) (card : Card) (job : List ℕ) → Writes area version width height line card job
    → (version_of job ≡ 1) × (entries_of job ≡ card_entries card)

-- whoever's state it is, and whatever else is burnt: Non-secure may read the first row, so all of them, and reads this card
abbrev pub Reads : List ℕ → Card → Type 0
Reads rows card = (reader : State) → may_read reader 1 0x0c0 ≡ true → read_card rows reader ≡ a_card card

-- run as any job is run, where it is done the card reads back
abbrev pub CardReadsBack : Type 0
CardReadsBack =
    (area : List ℕ) (version width height line : ℕ) (card : Card) (job : List ℕ) → Writes area version width height line card job
    → (rows : List ℕ) (state : State) → (run_job rows state job).outcome.answer.number ≡ 0 → Reads (run_job rows state job).rows card

-- with demand 3: accepted on a chip just reset, cut after any pulse, any number of times, with a reset and the same key each time, it
-- completes, and the card reads back
abbrev pub CardSurvivesCuts : Type 0
CardSurvivesCuts =
    (area : List ℕ) (version width height line : ℕ) (card : Card) (job : List ℕ) → Writes area version width height line card job
    → (rows left : List ℕ) (before later : State) (key : Keyed) (spent : ℕ)
    → accepted_on rows before key job → Cuts (entries_of job) rows left spent
    → Completes rows left before later key job spent × Reads (run_job left (ready left later key) job).rows card

-- burnt again the same, after a reset and with the same key: it is accepted, and neither takes a pulse nor changes a row
abbrev pub CardBurntAgain : Type 0
CardBurntAgain =
    (area : List ℕ) (version width height line : ℕ) (card : Card) (job : List ℕ) → Writes area version width height line card job
    → (rows left : List ℕ) (before later : State) (key : Keyed)
    → accepted_on rows before key job → left ≡ (run_job rows (ready rows before key) job).rows
    → accepted_on left later key job × ((run_job left (ready left later key) job).rows ≡ left)
    × ((run_job left (ready left later key) job).outcome.answer.pulses ≡ 0)
