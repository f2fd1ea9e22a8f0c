-- `image::rows::rows_of` meets its contract: row by row.
use Rattle.std.proofs.Common.{rules}
use Rattle.chip.proofs.Made.{made_by}
use Rattle.image.specs.Images.{row_of}
use Rattle.image.proofs.rows.rows_of.Goals as goal

pub returns : goal.returns
returns c = made_by _ _ (row_of c.args.bytes.now) 4096 c.from_fn.result 0 (λ i x f' h k. (search rules, search rules)) c.from_fn.ensures.items
