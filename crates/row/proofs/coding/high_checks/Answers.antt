-- `row::coding::high_checks` meets its contract: each arm is an entry of the table, and no number below 32 is left for the default.
-- Assumes nothing.
use Rattle.row.proofs.Checks.{highs, at_high_key}
use Rattle.row.proofs.coding.high_checks.Goals as goal

pub returns-in-0 : goal.returns-in-0
unfolding highs
returns-in-0 c = at_high_key tt c.in-0.is

pub returns-in-1 : goal.returns-in-1
unfolding highs
returns-in-1 c = at_high_key tt c.in-1.is

pub returns-in-2 : goal.returns-in-2
unfolding highs
returns-in-2 c = at_high_key tt c.in-2.is

pub returns-in-3 : goal.returns-in-3
unfolding highs
returns-in-3 c = at_high_key tt c.in-3.is

pub returns-in-4 : goal.returns-in-4
unfolding highs
returns-in-4 c = at_high_key tt c.in-4.is

pub returns-in-5 : goal.returns-in-5
unfolding highs
returns-in-5 c = at_high_key tt c.in-5.is

pub returns-in-6 : goal.returns-in-6
unfolding highs
returns-in-6 c = at_high_key tt c.in-6.is

pub returns-in-7 : goal.returns-in-7
unfolding highs
returns-in-7 c = at_high_key tt c.in-7.is

pub returns-in-8 : goal.returns-in-8
unfolding highs
returns-in-8 c = at_high_key tt c.in-8.is

pub returns-in-9 : goal.returns-in-9
unfolding highs
returns-in-9 c = at_high_key tt c.in-9.is

pub returns-in-10 : goal.returns-in-10
unfolding highs
returns-in-10 c = at_high_key tt c.in-10.is

pub returns-in-11 : goal.returns-in-11
unfolding highs
returns-in-11 c = at_high_key tt c.in-11.is

pub returns-in-12 : goal.returns-in-12
unfolding highs
returns-in-12 c = at_high_key tt c.in-12.is

pub returns-in-13 : goal.returns-in-13
unfolding highs
returns-in-13 c = at_high_key tt c.in-13.is

pub returns-in-14 : goal.returns-in-14
unfolding highs
returns-in-14 c = at_high_key tt c.in-14.is

pub returns-in-15 : goal.returns-in-15
unfolding highs
returns-in-15 c = at_high_key tt c.in-15.is

pub returns-in-16 : goal.returns-in-16
unfolding highs
returns-in-16 c = at_high_key tt c.in-16.is

pub returns-in-17 : goal.returns-in-17
unfolding highs
returns-in-17 c = at_high_key tt c.in-17.is

pub returns-in-18 : goal.returns-in-18
unfolding highs
returns-in-18 c = at_high_key tt c.in-18.is

pub returns-in-19 : goal.returns-in-19
unfolding highs
returns-in-19 c = at_high_key tt c.in-19.is

pub returns-in-20 : goal.returns-in-20
unfolding highs
returns-in-20 c = at_high_key tt c.in-20.is

pub returns-in-21 : goal.returns-in-21
unfolding highs
returns-in-21 c = at_high_key tt c.in-21.is

pub returns-in-22 : goal.returns-in-22
unfolding highs
returns-in-22 c = at_high_key tt c.in-22.is

pub returns-in-23 : goal.returns-in-23
unfolding highs
returns-in-23 c = at_high_key tt c.in-23.is

pub returns-in-24 : goal.returns-in-24
unfolding highs
returns-in-24 c = at_high_key tt c.in-24.is

pub returns-in-25 : goal.returns-in-25
unfolding highs
returns-in-25 c = at_high_key tt c.in-25.is

pub returns-in-26 : goal.returns-in-26
unfolding highs
returns-in-26 c = at_high_key tt c.in-26.is

pub returns-in-27 : goal.returns-in-27
unfolding highs
returns-in-27 c = at_high_key tt c.in-27.is

pub returns-in-28 : goal.returns-in-28
unfolding highs
returns-in-28 c = at_high_key tt c.in-28.is

pub returns-in-29 : goal.returns-in-29
unfolding highs
returns-in-29 c = at_high_key tt c.in-29.is

pub returns-in-30 : goal.returns-in-30
unfolding highs
returns-in-30 c = at_high_key tt c.in-30.is

pub returns-in-31 : goal.returns-in-31
unfolding highs
returns-in-31 c = at_high_key tt c.in-31.is
