-- `latch::resetting::page_bits` meets its contract: the bits of the page's rows are summed, and they are few.
-- Assumes nothing.
use mathlib.Core.Path.{◌≡◌, sym, ap₂, ◌∙◌}
use mathlib.Core.List.{List}
use Prim.Native.Nat.{ℕ, ◌+◌, ◌-◌, ◌*◌, ◌≤◌}
use native.Mathlib.Omega.{arith}
use borrow.Rule.Slice.PartMut.{mid_of}
use Rattle.std.specs.List.{sum_by}
use Rattle.row.specs.Code.{set_bits}
use Rattle.chip.specs.Tallies.{page_rows, bits_of}
use Rattle.chip.proofs.PageBits.{page_few, bits_summed}
use Rattle.latch.proofs.resetting.page_bits.Goals as goal

-- the rows of a page, as the code takes them
summed : (rows : List ℕ) (page first : ℕ) → first ≡ 64 * page
    → sum_by set_bits (mid_of first (first + 64 - first) rows) ≡ bits_of (page_rows rows page)
summed rows page first e =
    let count : first + 64 - first ≡ 64 = omega arith in
    ap₂ (λ (from many : ℕ). sum_by set_bits (mid_of from many rows)) e count ∙ sym (bits_summed (page_rows rows page))

pub set_bits_of-requires : goal.set_bits_of-requires
set_bits_of-requires c =
    let rows = c.args.rows.now in
    let page : ℕ = c.args.page.number in
    let few : bits_of (page_rows rows page) ≤ 1536 = page_few rows page in
    rw (summed rows page c.first_row-first.result c.first_row-first.ensures) (omega arith)

pub overflow_cast-result : goal.overflow_cast-result
overflow_cast-result c =
    let rows = c.args.rows.now in
    let page : ℕ = c.args.page.number in
    let bits : c.set_bits_of.result ≡ bits_of (page_rows rows page) =
    c.set_bits_of.ensures ∙ summed rows page c.first_row-first.result c.first_row-first.ensures in
    let few : bits_of (page_rows rows page) ≤ 1536 = page_few rows page in
    omega arith

pub returns : goal.returns
returns c = c.set_bits_of.ensures ∙ summed c.args.rows.now c.args.page.number c.first_row-first.result c.first_row-first.ensures
