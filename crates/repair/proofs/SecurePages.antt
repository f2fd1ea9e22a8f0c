-- What is said of a row's page is so of the row, if it is a data row.
-- Assumes nothing.
use Prim.Native.Nat.{ℕ, ◌+◌, ◌*◌, ◌/◌, ◌<◌}
use mathlib.Core.Bool.{Bool, false, ◌&&◌, ◌||◌}
use mathlib.Core.List.{List, [], ◌∷◌}
use mathlib.Core.Path.{◌≡◌, refl, sym, ap, ap₂, ◌∙◌}
use native.Mathlib.Omega.{arith}
use borrow.Author.Tests.{eq-eqb}
use Rattle.std.specs.List.{list_any}
use Rattle.permit.specs.Permission.{may_write}
use Rattle.permit.proofs.Sharing.{share_write, share_data}
use Rattle.chip.specs.Pages.{first_row, page_of}
use Rattle.chip.specs.Slices.{too_large}
use Rattle.chip.specs.declared.state.State.{State}
use Rattle.chip.proofs.Lists.{listed_at}
use Rattle.repair.specs.Pass.{out_of_order, some_too_large}
use Rattle.repair.specs.Permits.{writable_pages, writable}
use Rattle.repair.proofs.Rising.{first_row_lem}

pub right_of : (state : State) (row : ℕ) → row < 0xf40 → writable (writable_pages state) row ≡ may_write state 0 row
unfolding writable_pages
right_of state row low =
    let same : 64 * (row / 64) / 64 ≡ row / 64 = omega arith in
    listed_at (λ page. may_write state 0 (first_row page)) 64 (page_of row) false (omega (arith, low))
    ∙ share_write state 0 (first_row (page_of row)) row
    (share_data (first_row (page_of row)) row (omega (arith, low)) (omega (arith, low)) ∙ eq-eqb (64 * (row / 64) / 64) (row / 64) same)

-- and so of what was looked up
pub looked_up : (pages : List Bool) (state : State) (row : ℕ) (may : Bool) → pages ≡ writable_pages state → row < 0xf40 → may ≡ writable pages row
    → may ≡ may_write state 0 row
looked_up pages state row may is low said = said ∙ ap (λ (p : List Bool). writable p row) is ∙ right_of state row low

-- so some row of a list in order is too large, and may be written, by the pages just where it is by the state
some_by_pages : (rows : List ℕ) (state : State) (least : ℕ) (list : List ℕ) → out_of_order least list ≡ false
    → list_any (λ row. writable (writable_pages state) row && too_large rows row) list ≡ some_too_large rows state list
unfolding some_too_large
some_by_pages rows state least [] order = refl
some_by_pages rows state least (row ∷ others) order =
    let first = first_row_lem least row others order in
    ap₂ (λ (a b : Bool). a || b) (ap (λ (may : Bool). may && too_large rows row) (right_of state row first.0)) (some_by_pages rows state (row + 1) others first.2)

-- and what was looked up of the whole list
pub said_of_list : (rows : List ℕ) (pages : List Bool) (state : State) (list : List ℕ) (disordered said t : Bool)
    → disordered ≡ out_of_order 0 list → disordered ≡ false → pages ≡ writable_pages state
    → said ≡ list_any (λ row. writable pages row && too_large rows row) list → said ≡ t → some_too_large rows state list ≡ t
said_of_list rows pages state list disordered said t order in_order is by_pages told =
    sym (some_by_pages rows state 0 list (sym order ∙ in_order))
    ∙ sym (by_pages ∙ ap (λ (p : List Bool). list_any (λ row. writable p row && too_large rows row) list) is) ∙ told
