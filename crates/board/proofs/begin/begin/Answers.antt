-- A command that goes on has begun with no key, or with one.
use Rattle.std.proofs.Common.{subst, sym}
use Rattle.lock.specs.Calls.{enter_key}
use Rattle.board.specs.Begins.{Begins, Begun, begun, keyed}
use Rattle.board.proofs.begin.begin.Goals as goal

pub returns-in-Some-key : goal.returns-in-Some-key
returns-in-Some-key c =
    let rows = c.load_image.new.rows in
    let key = c.in-Some-key.key in
    let P : Begun → Type 0 = λ b. Begins rows (record { start = b.start; state = (enter_key b.state 0 key).state }) in
    rw c.keyed.ensures (subst P (sym c.in_ok-state.ensures.begun) (keyed key))

pub returns-in-None-key : goal.returns-in-None-key
returns-in-None-key c = rw c.in_ok-state.ensures.begun begun
