-- Lock settings, as two checklists give them, and what advancing a chip to them leaves, with no reset between (request 2026-08). The laws
-- hold for any chip, latched levels above 2 included, and for any caller.
use Rattle.std.specs.Prelude.{ℕ, ◌≤◌, max, List, [], ◌∷◌, ◌++◌, map, ◌⊎◌, ◌↔◌, ◌≡◌, eqb}
use Rattle.std.specs.Prelude.{if◌then◌else◌}
use Rattle.chip.specs.Callers.{shown_level}
use Rattle.chip.specs.Lists.{listed}
use Rattle.laws.specs.Calls.{Chip, Call, an_advance, perform, perform_all}

-- a lock: a page in a domain
pub record Lock : Type 0 where
  pub domain : ℕ
  pub page : ℕ

-- the 64 locks of a domain
abbrev pub locks_in : ℕ → List Lock
locks_in domain = listed 64 (λ page. record { domain = domain; page = page })

-- the locks that a caller may advance: Secure those of both domains, Non-secure those of its own, nobody else any
unfoldable pub locks_of : ℕ → List Lock
locks_of caller =
    if eqb caller 0 then locks_in 0 ++ locks_in 1
    else if eqb caller 1 then locks_in 1
    else []

-- a level for each lock
abbrev pub Levels : Type 0
Levels = Lock → ℕ

-- a setting: each is 0, 1 or 2
abbrev pub Setting : Levels → Type 0
Setting levels = (lock : Lock) → levels lock ≤ 2

-- the merge of two settings: the higher level, lock by lock
abbrev pub merge : Levels → Levels → Levels
merge a b = λ lock. max (a lock) (b lock)

-- level 0 everywhere
abbrev pub zero_everywhere : Levels
zero_everywhere = λ lock. 0

-- the call that advances a lock to its level
abbrev pub call_to : ℕ → Levels → Lock → Call
call_to caller levels lock = an_advance caller lock.domain lock.page (levels lock)

-- a chip advanced to a setting: that call for every lock that the caller may advance
abbrev pub advanced_to : Chip → ℕ → Levels → Chip
advanced_to chip caller levels = perform_all chip (map (call_to caller levels) (locks_of caller))

-- the level that a lock shows
abbrev pub shown : Chip → Lock → ℕ
shown chip lock = shown_level chip.state lock.domain lock.page

-- one of a list
unfoldable pub ◌among◌ : {A : Type 0} → A → List A → Type 0
one among [] = ⊥
one among (first ∷ others) = (one ≡ first) ⊎ (one among others)

infix 40 ◌among◌
-- none of these calls is refused, whatever the chip
abbrev pub NoneRefused : Type 0
NoneRefused =
    (chip : Chip) (caller : ℕ) (a : Levels) (lock : Lock) → Setting a → lock among locks_of caller
    → (perform chip (call_to caller a lock)).answer.number ≡ 0

-- each lock then shows the higher of the level before and the setting's
abbrev pub HigherShown : Type 0
HigherShown =
    (chip : Chip) (caller : ℕ) (a : Levels) (lock : Lock) → Setting a → lock among locks_of caller
    → shown (advanced_to chip caller a) lock ≡ max (shown chip lock) (a lock)

-- and every other lock what it did
abbrev pub OthersStay : Type 0
OthersStay =
    (chip : Chip) (caller : ℕ) (a : Levels) (lock : Lock) → Setting a → (lock among locks_of caller → ⊥)
    → shown (advanced_to chip caller a) lock ≡ shown chip lock

-- advancing to one setting and then to another is advancing to their merge
abbrev pub ThenIsMerge : Type 0
ThenIsMerge =
    (chip : Chip) (caller : ℕ) (a b : Levels) → Setting a → Setting b
    → advanced_to (advanced_to chip caller a) caller b ≡ advanced_to chip caller (merge a b)

-- either order leaves the same chip
abbrev pub EitherOrder : Type 0
EitherOrder =
    (chip : Chip) (caller : ℕ) (a b : Levels) → Setting a → Setting b
    → advanced_to (advanced_to chip caller a) caller b ≡ advanced_to (advanced_to chip caller b) caller a

-- so does either grouping, and it is what the merge of all three leaves
abbrev pub EitherGrouping : Type 0
EitherGrouping =
    (chip : Chip) (caller : ℕ) (a b c : Levels) → Setting a → Setting b → Setting c
    → (advanced_to (advanced_to chip caller a) caller (merge b c) ≡ advanced_to (advanced_to chip caller (merge a b)) caller c)
    × (advanced_to (advanced_to chip caller (merge a b)) caller c ≡ advanced_to chip caller (merge a (merge b c)))

-- doing one twice is doing it once
abbrev pub TwiceIsOnce : Type 0
TwiceIsOnce = (chip : Chip) (caller : ℕ) (a : Levels) → Setting a → advanced_to (advanced_to chip caller a) caller a ≡ advanced_to chip caller a

-- level 0 everywhere changes nothing
abbrev pub ZeroChangesNothing : Type 0
ZeroChangesNothing = (chip : Chip) (caller : ℕ) → advanced_to chip caller zero_everywhere ≡ chip

-- nor does a call that asks for level 0, done or refused: so a checklist may leave it out
abbrev pub LeftOut : Type 0
LeftOut = (chip : Chip) (caller domain page : ℕ) → (perform chip (an_advance caller domain page 0)).chip ≡ chip

-- the same calls, in any order, and each as often as you like
abbrev pub SameCalls : List Call → List Call → Type 0
SameCalls calls others = (call : Call) → (call among calls) ↔ (call among others)

-- calls that advance a lock, whoever makes them, done or refused
pub data Advances : Call → Type 0 where
  advancing : {caller domain page level : ℕ} → Advances (an_advance caller domain page level)

-- such calls leave the same chip in any order
abbrev pub InAnyOrder : Type 0
InAnyOrder =
    (chip : Chip) (calls others : List Call) → ((call : Call) → call among calls → Advances call) → SameCalls calls others
    → perform_all chip calls ≡ perform_all chip others
