-- The callers, and the lock domain of each (document 01, "What the library models" and "Locks"; request 2026-05).
use Rattle.std.specs.Prelude.{ℕ, Bool, List, eqb, ltb}
use Rattle.std.specs.Prelude.{if◌then◌else◌}
use Rattle.chip.specs.States.{counted_level}
use Rattle.chip.specs.declared.state.State.{State}

-- a number that is no caller: there are three, Secure is 0, Non-secure is 1, the bootloader is 2
abbrev pub no_caller : ℕ → Bool
no_caller caller = ltb 2 caller

-- a number that is no lock domain: each caller has one, with the same number
abbrev pub no_domain : ℕ → Bool
no_domain domain = no_caller domain

-- the latched levels of a domain
abbrev pub levels_of : State → ℕ → List ℕ
levels_of state domain =
    if eqb domain 0 then state.secure
    else if eqb domain 1 then state.nonsecure
    else state.bootloader

-- the level of a page in a domain, as it counts
abbrev pub shown_level : State → ℕ → ℕ → ℕ
shown_level state domain page = counted_level (levels_of state domain) page
