-- `repair::permits::writable_pages`: each page says what is so of its first row.
use Rattle.std.proofs.Common.{rules, false}
use Rattle.permit.specs.Permission.{may_write}
use Rattle.chip.specs.Pages.{first_row}
use Rattle.chip.proofs.Made.{made_by}
use Rattle.repair.specs.Permits.{writable_pages}
use Rattle.repair.proofs.permits.writable_pages.Goals as goal

pub returns : goal.returns
unfolding writable_pages
returns c =
    made_by _ _ (λ page. may_write c.args.state 0 (first_row page)) 64 c.from_fn.result false
    (λ i x f' h k. (search rules, search rules)) c.from_fn.ensures.items
