-- `vote::voting::holders` meets its contract: a row that counts adds its bit, and one that does not adds nothing.
-- Assumes nothing.
use mathlib.Core.Path.{refl, sym, ap, ◌∙◌}
use Prim.Native.Nat.{ℕ, ◌+◌, ◌/◌, ◌%◌, ◌^◌, ◌≤◌}
use native.Mathlib.Numerals.{add-one}
use native.Mathlib.Omega.{arith}
use lib.ListN.{length, get_or}
use Rattle.vote.specs.Voting.{holders}
use Rattle.vote.proofs.Votes.{holders_counted, all_counted}
use Rattle.vote.proofs.voting.holders.Goals as goal
use Rattle.vote.proofs.voting.holders.Goals.{then-i-count, else-i-count}

pub loop-i-init : goal.loop-i-init
unfolding holders
loop-i-init c = (omega arith, refl)

pub loop-i-preserved : goal.loop-i-preserved
loop-i-preserved c =
    let a = c.args in
    let l = c.loop-i in
    let within : a.count ≤ length a.rows = omega arith in (
      elim c.if-i-count.branch [ then-i-count w ↦ omega arith | else-i-count w ↦ omega arith ],
      elim c.if-i-count.branch [
        | then-i-count w ↦
            w.held-is ∙ ap (λ (n : ℕ). n + get_or a.rows l.i 0 / 2 ^ a.place % 2) l.invariant.1
            ∙ rw add-one (holders_counted a.place a.rows a.count l.i w.if-i-count.true)
        | else-i-count w ↦
            w.held-is ∙ l.invariant.1
            ∙ ap (holders a.place)
            (all_counted a.rows a.count l.i within w.if-i-count.false ∙ sym (all_counted a.rows a.count (l.i + 1) within (omega arith)))
      ],
    )

pub returns : goal.returns
returns c =
    let a = c.args in
    let l = c.loop-i in
    let within : a.count ≤ length a.rows = omega arith in
    l.invariant.1 ∙ ap (holders a.place) (all_counted a.rows a.count l.i within (omega arith))
