-- What is wrong with a job's bytes: why it is answered 10 or 11 (document 01, "Jobs"; request 2026-09).
use Rattle.std.specs.Prelude.{ℕ, ◌+◌, ◌*◌, Bool, not, ◌&&◌, List, [], ◌∷◌, eqb, ltb, leb, length}
use Rattle.std.specs.Prelude.{if◌then◌else◌}
use Rattle.chip.specs.Pages.{is_lock_row}
use Rattle.form.specs.Entries.{byte_at, version_of, count_of, entries_of}
use Rattle.form.specs.declared.entries.Entry.{Entry}

-- the first fault of a job, with the index of its entry where it has one; or none
pub data Fault : Type 0 where
  Sound Short Mark Version Count Length : Fault
  Kind Value High Kept Past Coded Late Order : (i : ℕ) → Fault

-- the number of a fault, and 0 where there is none
abbrev pub fault_number : Fault → ℕ
fault_number Sound = 0
fault_number Short = 10
fault_number Mark = 10
fault_number Version = 10
fault_number Count = 10
fault_number Length = 10
fault_number (Kind i) = 10
fault_number (Value i) = 10
fault_number (High i) = 11
fault_number (Kept i) = 11
fault_number (Past i) = 11
fault_number (Coded i) = 11
fault_number (Late i) = 11
fault_number (Order i) = 11

-- a fault, and where there is none the next
abbrev pub ◌otherwise◌ : Fault → Fault → Fault
fault otherwise next = if eqb (fault_number fault) 0 then next else fault

infixr 60 ◌otherwise◌
-- three bytes 4F 54 4A
abbrev pub marked : List ℕ → Bool
marked job = eqb (byte_at job 0) 0x4f && eqb (byte_at job 1) 0x54 && eqb (byte_at job 2) 0x4a

-- the head of a file that is to have a version: short, mark, version, count, length not 7 + 6 x count
unfoldable pub head_fault : ℕ → List ℕ → Fault
head_fault version job =
    if ltb (length job) 7 then Short
    else if not (marked job) then Mark
    else if not (eqb (version_of job) version) then Version
    else if ltb 512 (count_of job) then Count
    else if not (eqb (length job) (7 + 6 * count_of job)) then Length
    else Sound

-- an entry, the i-th: a kind above 1, or an ECC value above 65,535
abbrev pub form_fault : ℕ → Entry → Fault
form_fault i e =
    if ltb 1 e.kind then Kind i
    else if eqb e.kind 0 && ltb 65535 e.value then Value i
    else Sound

-- the first entry with such a fault
unfoldable pub form_faults : ℕ → List Entry → Fault
form_faults i [] = Sound
form_faults i (e ∷ others) = form_fault i e otherwise form_faults (i + 1) others

-- its row in version 1: from 0xf40 up, or not above the row before it; `least` is the lowest row that may come next
abbrev pub order_fault : ℕ → ℕ → Entry → Fault
order_fault i least e =
    if leb 0xf40 e.row then High i
    else if ltb e.row least then Order i
    else Sound

-- its row in version 2: from 0xf40 to 0xf7f, or above 4,095, or a lock row whose entry is ECC, or a data row after a lock row, or not
-- above the row before it
abbrev pub locking_fault : ℕ → ℕ → Entry → Fault
locking_fault i least e =
    if leb 0xf40 e.row && ltb e.row 0xf80 then Kept i
    else if ltb 4095 e.row then Past i
    else if is_lock_row e.row && eqb e.kind 0 then Coded i
    else if ltb e.row 0xf40 && ltb 0xf80 least then Late i
    else if ltb e.row least then Order i
    else Sound

-- its row by a version's rule
abbrev pub row_fault : ℕ → ℕ → ℕ → Entry → Fault
row_fault version i least e = if eqb version 2 then locking_fault i least e else order_fault i least e

-- the first entry with such a fault
unfoldable pub order_faults : ℕ → ℕ → ℕ → List Entry → Fault
order_faults version i least [] = Sound
order_faults version i least (e ∷ others) = row_fault version i least e otherwise order_faults version (i + 1) (e.row + 1) others

-- the first fault of a job by a version's rule: its head, then the form of all entries, then the order of their rows
unfoldable pub fault_under : ℕ → List ℕ → Fault
fault_under version job =
    head_fault version job otherwise form_faults 0 (entries_of job) otherwise order_faults version 0 0 (entries_of job)

-- a job is judged by the rule of version 2 where that is its version, and else by that of version 1, under which any other is a fault
abbrev pub rule_of : List ℕ → ℕ
rule_of job = if eqb (version_of job) 2 then 2 else 1

-- the first fault of a job
abbrev pub fault_of : List ℕ → Fault
fault_of job = fault_under (rule_of job) job

-- 10: job bytes malformed
abbrev pub malformed : List ℕ → Bool
malformed job = eqb (fault_number (fault_of job)) 10

-- 11: a job row out of place
abbrev pub out_of_order : List ℕ → Bool
out_of_order job = eqb (fault_number (fault_of job)) 11
