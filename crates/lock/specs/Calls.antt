-- The calls on the state alone: advance a lock, show a lock, enter a key (document 01; request 2026-05). Each has its number, first
-- test first, and what it does.
use Rattle.std.specs.Prelude.{ℕ, ◌+◌, ◌*◌, not, ◌&&◌, List, [], ◌∷◌, eqb, ltb, leb, length, get_or, set}
use Rattle.answer.specs.Answers.{told, done, answered}
use Rattle.std.specs.Prelude.{if◌then◌else◌}
use Rattle.answer.specs.Rungs.{◌when◌, first_of}
use Rattle.answer.specs.declared.answers.Answer.{Answer}
use Rattle.chip.specs.Callers.{no_caller, no_domain, shown_level}
use Rattle.chip.specs.Lists.{listed}
use Rattle.chip.specs.States.{with_secure, with_nonsecure, with_entered, outcome}
use Rattle.chip.specs.declared.state.State.{State}
use Rattle.chip.specs.declared.state.Outcome.{Outcome}

-- advance a lock: nobody may advance the bootloader's domain, and the bootloader none; Secure may advance both others, Non-secure its own
abbrev pub advance_number : ℕ → ℕ → ℕ → ℕ → ℕ
advance_number caller domain page level =
    first_of
    (4 when no_caller caller ∷ 4 when no_domain domain ∷ 4 when ltb 63 page ∷ 4 when ltb 2 level
    ∷ 7 when eqb domain 2 ∷ 7 when eqb caller 2 ∷ 7 when (eqb caller 1 && eqb domain 0) ∷ [])

-- the state with a page's soft lock in a domain set; the bootloader has none
abbrev pub with_level : State → ℕ → ℕ → ℕ → State
with_level state domain page level =
    if eqb domain 0 then with_secure state (set state.secure page level)
    else if eqb domain 1 then with_nonsecure state (set state.nonsecure page level)
    else state

-- the higher of the present and the asked level is left; an equal or lower one changes nothing
abbrev pub advanced : State → ℕ → ℕ → ℕ → State
advanced state domain page level =
    if leb level (shown_level state domain page) then state else with_level state domain page level

unfoldable pub advance : State → ℕ → ℕ → ℕ → ℕ → Outcome
advance state caller domain page level =
    outcome (advance_number caller domain page level) state (record { answer = done; state = advanced state domain page level })

-- show a lock: every caller may show any level
abbrev pub show_number : ℕ → ℕ → ℕ → ℕ
show_number caller domain page = first_of (4 when no_caller caller ∷ 4 when no_domain domain ∷ 4 when ltb 63 page ∷ [])

unfoldable pub show_lock : State → ℕ → ℕ → ℕ → Answer
show_lock state caller domain page = answered (show_number caller domain page) (told (shown_level state domain page))

-- enter a key: only Secure does, and a key has 16 bytes
abbrev pub enter_number : ℕ → List ℕ → ℕ
enter_number caller key = first_of (4 when no_caller caller ∷ 4 when not (eqb (length key) 16) ∷ 7 when not (eqb caller 0) ∷ [])

-- bytes 0 and 1 stand against the first key row, low byte first, and so on
abbrev pub key_words : List ℕ → List ℕ
key_words key = listed 8 (λ i. get_or key (2 * i) 0 + 256 * get_or key (2 * i + 1) 0)

unfoldable pub enter_key : State → ℕ → List ℕ → Outcome
enter_key state caller key =
    outcome (enter_number caller key) state (record { answer = done; state = with_entered state (key_words key) })
