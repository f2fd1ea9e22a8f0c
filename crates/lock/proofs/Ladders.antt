-- What the calls on the state know where their number is 0.
-- Assumes nothing.
use mathlib.Core.Path.{◌≡◌, sym}
use mathlib.Core.Bool.{not}
use mathlib.Core.List.{List}
use Prim.Native.Nat.{ℕ, ◌≤◌}
use borrow.Author.Tests.{ltb-false, eqb-true, not-false}
use lib.Dec.{eqb, ltb}
use lib.ListN.{length}
use Rattle.answer.proofs.Ladders.{passed}
use Rattle.chip.specs.Callers.{no_caller, no_domain}
use Rattle.lock.specs.Calls.{advance_number, show_number, enter_number}

pub advance_passed : (caller domain page level : ℕ) → 0 ≡ advance_number caller domain page level → (page ≤ 63) × (level ≤ 2)
advance_passed caller domain page level e =
    let by-domain = passed (no_domain domain) 3 _ (passed (no_caller caller) 3 _ (sym e)).1 in
    let by-page = passed (ltb 63 page) 3 _ by-domain.1 in
    (ltb-false 63 page by-page.0, ltb-false 2 level (passed (ltb 2 level) 3 _ by-page.1).0)

pub show_passed : (caller domain page : ℕ) → 0 ≡ show_number caller domain page → page ≤ 63
show_passed caller domain page e =
    ltb-false 63 page (passed (ltb 63 page) 3 _ (passed (no_domain domain) 3 _ (passed (no_caller caller) 3 _ (sym e)).1).1).0

pub enter_passed : (caller : ℕ) (key : List ℕ) → 0 ≡ enter_number caller key → length key ≡ 16
enter_passed caller key e =
    eqb-true (length key) 16
    (not-false (eqb (length key) 16) (passed (not (eqb (length key) 16)) 3 _ (passed (no_caller caller) 3 _ (sym e)).1).0)
