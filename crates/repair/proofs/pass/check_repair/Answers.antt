-- `repair::pass::check_repair`: what the pages say of the list is what the state says of it.
use Rattle.std.proofs.Common.{◌≡◌, true, false, arith}
use Rattle.std.proofs.lemmas.Grind.{common_steps}
use Rattle.repair.specs.Pass.{some_too_large}
use Rattle.repair.proofs.SecurePages.{said_of_list}
use Rattle.repair.proofs.pass.check_repair.Goals as goal

pub returns-then-some_too_large : goal.returns-then-some_too_large
returns-then-some_too_large c = λ state is.
    let large : some_too_large c.args.rows.now state c.args.list.now ≡ true =
    said_of_list _ _ state _ _ _ true c.out_of_order.ensures c.if-out_of_order.false is c.some_too_large.ensures c.if-some_too_large.true in
    grind (arith, common_steps)

pub returns : goal.returns
returns c = λ state is.
    let fits : some_too_large c.args.rows.now state c.args.list.now ≡ false =
    said_of_list _ _ state _ _ _ false c.out_of_order.ensures c.if-out_of_order.false is c.some_too_large.ensures c.if-some_too_large.false in
    grind (arith, common_steps)
