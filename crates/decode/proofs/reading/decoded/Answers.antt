-- `decode::reading::decoded` meets its contract: the syndrome that it works out names what the definition by distance finds.
-- Assumes nothing.
use mathlib.Core.Path.{sym, ap, ◌∙◌}
use Prim.Native.Nat.{ℕ, ◌/◌, ◌%◌, ◌^◌, ◌≤◌}
use native.Mathlib.Nat.{mod-lt, one-mul}
use native.Mathlib.Omega.{arith}
use lib.Bits.{bit_xor}
use lib.Dec.{lit<}
use lib.Pow.{pow_pos, shl_exact}
use Rattle.answer.specs.Answers.{found}
use Rattle.answer.specs.declared.answers.Condition.TheVariants.{Repaired}
use Rattle.decode.proofs.Syndromes.{columns, Missed, Named, named, read_clean, read_refused, read_repaired}
use Rattle.decode.proofs.reading.decoded.Goals as goal
use Rattle.decode.proofs.reading.decoded.Goals.{in-35, in-37, in-38, in-7, in-41, in-42, in-11, in-44, in-13, in-14, in-47, in-49, in-50, in-19, in-52, in-21, in-1, in-2, in-4, in-8, in-16, in-32}

pub returns-then-syndrome-eq0 : goal.returns-then-syndrome-eq0
returns-then-syndrome-eq0 c =
    let own : ℕ = c.args.bits % 2 ^ 22 in
    sym (read_clean own c.code.result c.code.ensures (mod-lt _ (pow_pos 22)) c.if-syndrome-eq0.true)

pub returns-in_default : goal.returns-in_default
unfolding columns
returns-in_default c =
    let own : ℕ = c.args.bits % 2 ^ 22 in
    let missed : Missed 22 (bit_xor own c.code.result / 2 ^ 16 % 64) = ((((((((((((((((((((((tt, λ e. omega arith), λ e. omega arith), λ e. omega arith), λ e. omega arith), λ e. omega arith), λ e. omega arith), λ e. omega arith), λ e. omega arith), λ e. omega arith), λ e. omega arith), λ e. omega arith), λ e. omega arith), λ e. omega arith), λ e. omega arith), λ e. omega arith), λ e. omega arith), λ e. omega arith), λ e. omega arith), λ e. omega arith), λ e. omega arith), λ e. omega arith), λ e. omega arith) in
    sym (read_refused own c.code.result c.code.ensures (mod-lt _ (pow_pos 22)) c.if-syndrome-eq0.false missed)

pub returns : goal.returns
unfolding columns
returns c =
    let own : ℕ = c.args.bits % 2 ^ 22 in
    let place : ℕ = c.match-syndrome.place in
    -- each arm names its place
    let which : Named (bit_xor own c.code.result / 2 ^ 16 % 64) place =
    elim c.match-syndrome.branch [
      | in-35 w ↦ named 0 tt w.in-35.is w.place-is
      | in-37 w ↦ named 1 tt w.in-37.is w.place-is
      | in-38 w ↦ named 2 tt w.in-38.is w.place-is
      | in-7 w ↦ named 3 tt w.in-7.is w.place-is
      | in-41 w ↦ named 4 tt w.in-41.is w.place-is
      | in-42 w ↦ named 5 tt w.in-42.is w.place-is
      | in-11 w ↦ named 6 tt w.in-11.is w.place-is
      | in-44 w ↦ named 7 tt w.in-44.is w.place-is
      | in-13 w ↦ named 8 tt w.in-13.is w.place-is
      | in-14 w ↦ named 9 tt w.in-14.is w.place-is
      | in-47 w ↦ named 10 tt w.in-47.is w.place-is
      | in-49 w ↦ named 11 tt w.in-49.is w.place-is
      | in-50 w ↦ named 12 tt w.in-50.is w.place-is
      | in-19 w ↦ named 13 tt w.in-19.is w.place-is
      | in-52 w ↦ named 14 tt w.in-52.is w.place-is
      | in-21 w ↦ named 15 tt w.in-21.is w.place-is
      | in-1 w ↦ named 16 tt w.in-1.is w.place-is
      | in-2 w ↦ named 17 tt w.in-2.is w.place-is
      | in-4 w ↦ named 18 tt w.in-4.is w.place-is
      | in-8 w ↦ named 19 tt w.in-8.is w.place-is
      | in-16 w ↦ named 20 tt w.in-16.is w.place-is
      | in-32 w ↦ named 21 tt w.in-32.is w.place-is
    ] in
    let low : place ≤ 21 = which.1 in
    ap (λ (p : ℕ). found (bit_xor own p % 2 ^ 16) (Repaired place)) (shl_exact 1 place 32 (lit< tt) (omega arith) ∙ one-mul (2 ^ place))
    ∙ sym (read_repaired own c.code.result c.code.ensures (mod-lt _ (pow_pos 22)) place c.if-syndrome-eq0.false which)
