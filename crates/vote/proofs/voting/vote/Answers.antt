-- `vote::voting::vote` meets its contract: a bit that enough rows have is set, and any other is left clear.
-- Assumes nothing.
use mathlib.Core.List.{List}
use mathlib.Core.Path.{◌≡◌, refl, sym, ap, ap₂, ◌∙◌}
use Prim.Native.Nat.{ℕ, ◌+◌, ◌^◌, ◌≤◌, ◌<◌}
use native.Mathlib.Nat.{one-mul}
use native.Mathlib.Omega.{arith}
use lib.Dec.{lit<}
use lib.ListN.{length, take}
use Rattle.std.proofs.lemmas.List.{take_min}
use Rattle.std.specs.Prelude.{min}
use lib.Pow.{shl_exact, pow_mono}
use Rattle.vote.specs.Voting.{voted_below, vote}
use Rattle.vote.proofs.Votes.{voted_lt, voted_set, voted_clear}
use Rattle.vote.proofs.voting.vote.Goals as goal
use Rattle.vote.proofs.voting.vote.Goals.{then-threshold-holders, else-threshold-holders}

pub loop-place-init : goal.loop-place-init
unfolding voted_below
loop-place-init c = refl

pub overflow_add-voted : goal.overflow_add-voted
overflow_add-voted c =
    let l = c.loop-place in
    let rows : List ℕ = take c.min-counted.result c.args.rows in
    let small : voted_below l.place c.args.threshold rows < 2 ^ l.place = voted_lt l.place c.args.threshold rows in
    let under : 2 ^ l.place ≤ 2 ^ 24 = pow_mono {i = l.place} {j = 24} (omega arith) in
    omega arith

pub loop-place-preserved : goal.loop-place-preserved
loop-place-preserved c =
    let a = c.args in
    let l = c.loop-place in
    let h = c.holders in
    let rows : List ℕ = take c.min-counted.result a.rows in
    elim c.if-threshold-holders.branch [
      | then-threshold-holders w ↦
          w.voted-is ∙ ap₂ ◌+◌ l.invariant (shl_exact 1 l.place 32 (lit< tt) (omega arith) ∙ one-mul (2 ^ l.place))
          ∙ sym (voted_set l.place a.threshold rows (rw (← h.ensures) w.if-threshold-holders.true))
      | else-threshold-holders w ↦
          w.voted-is ∙ l.invariant ∙ sym (voted_clear l.place a.threshold rows (rw (← h.ensures) w.if-threshold-holders.false))
    ]

pub returns : goal.returns
unfolding vote
returns c =
    let a = c.args in
    let all : c.loop-place.place ≡ 24 = omega arith in
    let eight : length a.rows ≡ 8 = omega arith in
    c.loop-place.invariant
    ∙ ap (λ (n : ℕ). voted_below n a.threshold (take c.min-counted.result a.rows)) all
    ∙ ap (voted_below 24 a.threshold) (ap (λ (n : ℕ). take n a.rows) (c.min-counted.ensures ∙ ap (min a.count) (sym eight)) ∙ take_min a.count a.rows)
