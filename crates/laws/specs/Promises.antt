-- Demands 1 and 2 of every call (document 01, "The numbers we answer with").
use Rattle.std.specs.Prelude.{ℕ, ◌≤◌, ◌<◌, max, true, List, [], ◌∷◌, ◌↔◌, ◌≡◌, ltb, set}
use Rattle.std.specs.Int.Bits.{bit_or}
use Rattle.answer.specs.Answers.{found_in}
use Rattle.row.specs.Code.{set_bits, plain, inverted}
use Rattle.answer.specs.Rungs.{first_of}
use Rattle.answer.specs.declared.answers.Condition.TheVariants.{Clean}
use Rattle.answer.specs.declared.answers.Polarity.TheVariants.{Plain}
use Rattle.chip.specs.Callers.{shown_level}
use Rattle.chip.specs.Pages.{high_lock_row}
use Rattle.permit.specs.Permission.{may_read, may_write}
use Rattle.chip.specs.Slices.{row_at}
use Rattle.chip.specs.States.{with_tallies}
use Rattle.chip.specs.declared.state.State.{State}
use Rattle.lock.specs.Calls.{advance}
use Rattle.latch.specs.Locks.{level_of, secure_field, nonsecure_field, bootloader_field}
use Rattle.latch.specs.Resetting.{reset_number, reset}
use Rattle.access.specs.Reads.{read_ecc_number, read_ecc}
use Rattle.access.specs.Judging.{ecc, call_rungs}
use Rattle.burn.specs.Writes.{write_raw, write_ecc}
use Rattle.lead.specs.declared.notes.Note.{Note}
use Rattle.laws.specs.Calls.{Chip, Call, a_reset, a_raw_write, an_ecc_write, a_job, a_rehearsal, an_end, a_repair, perform, perform_all}
use Rattle.laws.specs.Writes.{In, burnt_in}

-- every refusal returns value 0, condition clean, plain, and 0 pulses, and leaves each row and the state unchanged
abbrev pub RefusalKeeps : Type 0
RefusalKeeps =
    (chip : Chip) (call : Call) → ((perform chip call).answer.number ≡ 0 → ⊥)
    → ((perform chip call).answer.value ≡ 0) × ((perform chip call).answer.condition ≡ Clean)
    × ((perform chip call).answer.polarity ≡ Plain) × ((perform chip call).answer.pulses ≡ 0) × ((perform chip call).chip ≡ chip)

-- no burnt bit clears, over any calls
abbrev pub NoBitClears : Type 0
NoBitClears = (chip : Chip) (calls : List Call) (row : ℕ) → In (row_at chip.rows row) (row_at (perform_all chip calls).rows row)

-- calls with no reset among them
pub data NoReset : List Call → Type 0 where
  none : NoReset []
  more : {call : Call} {others : List Call} → (call ≡ a_reset → ⊥) → NoReset others → NoReset (call ∷ others)

-- until a reset no counted lock level falls, of any domain, over any calls
abbrev pub NoLockFalls : Type 0
NoLockFalls =
    (chip : Chip) (calls : List Call) (domain page : ℕ) → NoReset calls
    → shown_level chip.state domain page ≤ shown_level (perform_all chip calls).state domain page

-- an ECC write that isn't refused reads back as its value, clean, in the polarity that was burnt, by whoever may read it
abbrev pub WriteReadsBack : Type 0
WriteReadsBack =
    (rows : List ℕ) (state : State) (writer reader row value : ℕ)
    → (write_ecc rows state writer row value).outcome.answer.number ≡ 0
    → read_ecc_number (write_ecc rows state writer row value).rows (write_ecc rows state writer row value).outcome.state reader row ≡ 0
    → read_ecc (write_ecc rows state writer row value).rows (write_ecc rows state writer row value).outcome.state reader row
    ≡ found_in (burnt_in (row_at rows row) value) value Clean

-- who may write a row may read it
abbrev pub MayWriteMayRead : Type 0
MayWriteMayRead = (state : State) (caller row : ℕ) → may_write state caller row ≡ true → may_read state caller row ≡ true

-- so an ECC write that isn't refused reads back as its value to its own writer, and nothing more is asked
abbrev pub WriterReadsBack : Type 0
WriterReadsBack =
    (rows : List ℕ) (state : State) (writer row value : ℕ)
    → (write_ecc rows state writer row value).outcome.answer.number ≡ 0
    → read_ecc (write_ecc rows state writer row value).rows (write_ecc rows state writer row value).outcome.state writer row
    ≡ found_in (burnt_in (row_at rows row) value) value Clean

-- a raw write only adds its bits
abbrev pub RawAdds : Type 0
RawAdds =
    (rows : List ℕ) (state : State) (caller row value : ℕ) → (write_raw rows state caller row value).outcome.answer.number ≡ 0
    → (write_raw rows state caller row value).rows ≡ set rows row (bit_or (row_at rows row) value)

-- the number of an ECC write before its row is used
abbrev pub ecc_allowed : List ℕ → State → ℕ → ℕ → ℕ → ℕ
ecc_allowed rows state caller row value = first_of (call_rungs rows state caller row ecc (ltb 65535 value) (may_write state caller row))

-- an ECC write that gets so far is refused exactly if neither polarity holds every bit already burnt
abbrev pub NineOfCall : Type 0
NineOfCall =
    (rows : List ℕ) (state : State) (caller row value : ℕ)
    → ((write_ecc rows state caller row value).outcome.answer.number ≡ 9)
    ↔ ((ecc_allowed rows state caller row value ≡ 0)
    × (In (row_at rows row) (plain value) → ⊥) × (In (row_at rows row) (inverted value) → ⊥))

-- with at most one bit set beforehand it is never refused so
abbrev pub OneBitNeverNine : Type 0
OneBitNeverNine =
    (rows : List ℕ) (state : State) (caller row value : ℕ) → set_bits (row_at rows row) ≤ 1
    → (write_ecc rows state caller row value).outcome.answer.number ≡ 9 → ⊥

-- soft locks fall back to the burnt ones at reset: what it latches goes by the rows alone
abbrev pub SoftLocksFallBack : Type 0
SoftLocksFallBack = (rows : List ℕ) (a b : State) → reset_number rows ≡ 0 → reset rows a ≡ reset rows b

-- after a done reset each level is that of the voted field of its lock row
abbrev pub LevelsFallBack : Type 0
LevelsFallBack =
    (rows : List ℕ) (state : State) (page : ℕ) → reset_number rows ≡ 0 → page < 64
    → (shown_level (reset rows state).state 0 page ≡ level_of (secure_field (row_at rows (high_lock_row page))))
    × (shown_level (reset rows state).state 1 page ≡ level_of (nonsecure_field (row_at rows (high_lock_row page))))
    × (shown_level (reset rows state).state 2 page ≡ level_of (bootloader_field (row_at rows (high_lock_row page))))

-- advancing leaves the higher of the present and the asked level
abbrev pub AdvanceLeavesHigher : Type 0
AdvanceLeavesHigher =
    (state : State) (caller domain page level : ℕ) → (advance state caller domain page level).answer.number ≡ 0
    → shown_level (advance state caller domain page level).state domain page ≡ max (shown_level state domain page) level

-- and every other level, of its domain and the others, as it was
abbrev pub AdvanceLeavesOthers : Type 0
AdvanceLeavesOthers =
    (state : State) (caller domain page level : ℕ) → (advance state caller domain page level).answer.number ≡ 0
    → (other_domain other_page : ℕ) → (other_domain ≡ domain → other_page ≡ page → ⊥)
    → shown_level (advance state caller domain page level).state other_domain other_page ≡ shown_level state other_domain other_page

-- writes, jobs, rehearsals, the end of a job that came in chunks, and repairs
pub data Burns : Call → Type 0 where
  raw_write : {caller row value : ℕ} → Burns (a_raw_write caller row value)
  ecc_write : {caller row value : ℕ} → Burns (an_ecc_write caller row value)
  job : {bytes : List ℕ} → Burns (a_job bytes)
  rehearsal : {bytes : List ℕ} {limit : ℕ} → Burns (a_rehearsal bytes limit)
  ended : {area : List ℕ} {note : Note} → Burns (an_end area note)
  repaired : {list report : List ℕ} → Burns (a_repair list report)

-- burning a lock or key row, or any other, changes nothing latched: nothing of the state but the tallies
abbrev pub BurningLatchesNothing : Type 0
BurningLatchesNothing =
    (chip : Chip) (call : Call) → Burns call
    → (perform chip call).chip.state ≡ with_tallies chip.state (perform chip call).chip.state.tallies
