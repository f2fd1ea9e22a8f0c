-- `image::rows::bytes_of` meets its contract: byte by byte.
use Rattle.std.proofs.Common.{◌/◌, ◌%◌, rules}
use Rattle.chip.specs.Slices.{row_at}
use Rattle.chip.proofs.Made.{made_by}
use Rattle.image.specs.Images.{byte_of}
use Rattle.image.proofs.rows.bytes_of.Goals as goal

pub returns : goal.returns
returns c =
    made_by _ _ (λ at. byte_of (row_at c.args.rows.now (at / 4)) (at % 4)) 16384 c.from_fn.result 0
    (λ i x f' h k. (search rules, search rules)) c.from_fn.ensures.items
