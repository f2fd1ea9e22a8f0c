-- `row::coding::low_checks` meets its contract: each arm is an entry of the table, and no number below 32 is left for the default.
-- Assumes nothing.
use Rattle.row.proofs.Checks.{lows, at_low_key}
use Rattle.row.proofs.coding.low_checks.Goals as goal

pub returns-in-0 : goal.returns-in-0
unfolding lows
returns-in-0 c = at_low_key tt c.in-0.is

pub returns-in-1 : goal.returns-in-1
unfolding lows
returns-in-1 c = at_low_key tt c.in-1.is

pub returns-in-2 : goal.returns-in-2
unfolding lows
returns-in-2 c = at_low_key tt c.in-2.is

pub returns-in-3 : goal.returns-in-3
unfolding lows
returns-in-3 c = at_low_key tt c.in-3.is

pub returns-in-4 : goal.returns-in-4
unfolding lows
returns-in-4 c = at_low_key tt c.in-4.is

pub returns-in-5 : goal.returns-in-5
unfolding lows
returns-in-5 c = at_low_key tt c.in-5.is

pub returns-in-6 : goal.returns-in-6
unfolding lows
returns-in-6 c = at_low_key tt c.in-6.is

pub returns-in-7 : goal.returns-in-7
unfolding lows
returns-in-7 c = at_low_key tt c.in-7.is

pub returns-in-8 : goal.returns-in-8
unfolding lows
returns-in-8 c = at_low_key tt c.in-8.is

pub returns-in-9 : goal.returns-in-9
unfolding lows
returns-in-9 c = at_low_key tt c.in-9.is

pub returns-in-10 : goal.returns-in-10
unfolding lows
returns-in-10 c = at_low_key tt c.in-10.is

pub returns-in-11 : goal.returns-in-11
unfolding lows
returns-in-11 c = at_low_key tt c.in-11.is

pub returns-in-12 : goal.returns-in-12
unfolding lows
returns-in-12 c = at_low_key tt c.in-12.is

pub returns-in-13 : goal.returns-in-13
unfolding lows
returns-in-13 c = at_low_key tt c.in-13.is

pub returns-in-14 : goal.returns-in-14
unfolding lows
returns-in-14 c = at_low_key tt c.in-14.is

pub returns-in-15 : goal.returns-in-15
unfolding lows
returns-in-15 c = at_low_key tt c.in-15.is

pub returns-in-16 : goal.returns-in-16
unfolding lows
returns-in-16 c = at_low_key tt c.in-16.is

pub returns-in-17 : goal.returns-in-17
unfolding lows
returns-in-17 c = at_low_key tt c.in-17.is

pub returns-in-18 : goal.returns-in-18
unfolding lows
returns-in-18 c = at_low_key tt c.in-18.is

pub returns-in-19 : goal.returns-in-19
unfolding lows
returns-in-19 c = at_low_key tt c.in-19.is

pub returns-in-20 : goal.returns-in-20
unfolding lows
returns-in-20 c = at_low_key tt c.in-20.is

pub returns-in-21 : goal.returns-in-21
unfolding lows
returns-in-21 c = at_low_key tt c.in-21.is

pub returns-in-22 : goal.returns-in-22
unfolding lows
returns-in-22 c = at_low_key tt c.in-22.is

pub returns-in-23 : goal.returns-in-23
unfolding lows
returns-in-23 c = at_low_key tt c.in-23.is

pub returns-in-24 : goal.returns-in-24
unfolding lows
returns-in-24 c = at_low_key tt c.in-24.is

pub returns-in-25 : goal.returns-in-25
unfolding lows
returns-in-25 c = at_low_key tt c.in-25.is

pub returns-in-26 : goal.returns-in-26
unfolding lows
returns-in-26 c = at_low_key tt c.in-26.is

pub returns-in-27 : goal.returns-in-27
unfolding lows
returns-in-27 c = at_low_key tt c.in-27.is

pub returns-in-28 : goal.returns-in-28
unfolding lows
returns-in-28 c = at_low_key tt c.in-28.is

pub returns-in-29 : goal.returns-in-29
unfolding lows
returns-in-29 c = at_low_key tt c.in-29.is

pub returns-in-30 : goal.returns-in-30
unfolding lows
returns-in-30 c = at_low_key tt c.in-30.is

pub returns-in-31 : goal.returns-in-31
unfolding lows
returns-in-31 c = at_low_key tt c.in-31.is
