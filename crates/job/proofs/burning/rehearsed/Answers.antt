-- `job::burning::rehearsed` meets its contract. The invariant: what was burnt and counted already, ahead of what is left, is the whole.
-- Assumes nothing.
use borrow.Author.Rules.{rules}
use mathlib.Core.List.{List}
use mathlib.Core.Path.{◌≡◌, refl, sym, ap, ap₂, ◌∙◌, subst}
use Prim.Native.Nat.{ℕ, ◌+◌, ◌-◌, ◌≤◌, ◌<◌}
use native.Mathlib.Omega.{arith}
use native.Mathlib.Nat.{add-zero, sub_self}
use lib.ListN.{length, set, length-set}
use Rattle.row.specs.Writing.{Written}
use Rattle.row.specs.Upward.{burnt_upward}
use Rattle.chip.specs.Slices.{row_at}
use Rattle.chip.specs.Tallies.{◌gains◌, with_gain, with_gains}
use Rattle.form.specs.Entries.{entry_at, entries_from}
use Rattle.form.specs.declared.entries.Entry.{Entry}
use Rattle.job.specs.Burning.{Progress, written_over, with_entry, cut_gained, rehearsed}
use Rattle.judge.specs.Verdicts.{entry_written}
use Rattle.form.proofs.Upward.{all_left}
use Rattle.job.proofs.Ahead.{none_ahead, one_ahead, burn_next, burn_stops, burn_ends, cut_next}
use Rattle.job.proofs.burning.rehearsed.Goals as goal

-- what was learnt of the entry is what is written over its row
over : (rows : List ℕ) (old : ℕ) (e entry : Entry) → old ≡ row_at rows e.row → e ≡ entry → entry_written old e ≡ written_over rows entry
over rows old e entry held same = ap (λ (o : ℕ). entry_written o e) held ∙ ap (written_over rows) same

pub loop-i-init : goal.loop-i-init
loop-i-init c =
    let s = c.args in
    let whole : Progress = rehearsed s.rows.now s.limit (entries_from s.job.now 0 s.count) in (
      search rules,
      refl,
      refl,
      rw (← all_left s.job.now s.count, sub_self s.limit) (none_ahead s.tallies.now whole),
    )

pub returns-then-unspent-burnt : goal.returns-then-unspent-burnt
returns-then-unspent-burnt c =
    let s = c.args in
    let job = s.job.now in
    let l = c.loop-i in
    let entry = c.entry_at-entry.ensures in
    let old = c.row_at-old.ensures in
    let row = ap (λ (e : Entry). e.row) entry in
    let written = over l.rows _ _ _ old entry in
    let left = c.entry_burnt-burnt.ensures.0 ∙ ap (λ (w : Written). w.row) written in
    let pulses = c.entry_burnt-burnt.ensures.1 ∙ ap (λ (w : Written). w.pulses) written in
    let short : l.unspent < (written_over l.rows (entry_at job l.i)).pulses = subst (λ (u : ℕ). l.unspent < u) pulses c.if-unspent-burnt.true in
    let stopped = rw (burn_stops job s.count l.rows l.unspent l.i (omega arith) short) at l.invariant.3 in
    let cut : c.burnt_upward.result ≡ burnt_upward l.unspent (row_at l.rows (entry_at job l.i).row) (written_over l.rows (entry_at job l.i)).row =
    c.burnt_upward.ensures ∙ ap₂ (burnt_upward l.unspent) (old ∙ ap (row_at l.rows) row) left in
    let burnt = c.burn_row.ensures in
    let counted : c.burn_row.new.tallies ≡ with_gain l.tallies ((entry_at job l.i).row gains l.unspent) =
    burnt.1 ∙ ap (λ (at : ℕ). with_gain l.tallies (at gains l.unspent)) row in
    let all : s.limit - l.unspent + l.unspent ≡ s.limit = omega arith in (
      burnt.0 ∙ ap₂ (set l.rows) row cut ∙ sym stopped.rows,
      c.name_rest.ensures
          ∙ ap (λ (tallies : List ℕ). with_gains tallies (cut_gained 0 (entries_from job (l.i + 1) (s.count - (l.i + 1))))) counted
          ∙ sym (cut_next job s.count l.tallies l.unspent l.i (omega arith)) ∙ sym stopped.counted,
      sym (stopped.pulses ∙ all),
      sym (stopped.place ∙ add-zero l.i),
    )

pub loop-i-preserved : goal.loop-i-preserved
loop-i-preserved c =
    let s = c.args in
    let job = s.job.now in
    let l = c.loop-i in
    let entry = c.entry_at-entry.ensures in
    let row = ap (λ (e : Entry). e.row) entry in
    let written = over l.rows _ _ _ c.row_at-old.ensures entry in
    let pulses = c.entry_burnt-burnt.ensures.1 ∙ ap (λ (w : Written). w.pulses) written in
    let u : ℕ = c.entry_burnt-burnt.result.pulses in
    let left = c.burn_row-in-loop-i.new in
    let next : left.rows ≡ with_entry l.rows (entry_at job l.i) =
    c.burn_row-in-loop-i.ensures.0 ∙ ap₂ (set l.rows) row (c.entry_burnt-burnt.ensures.0 ∙ ap (λ (w : Written). w.row) written) in
    let counted : left.tallies ≡ with_gain l.tallies ((entry_at job l.i).row gains u) =
    c.burn_row-in-loop-i.ensures.1 ∙ ap (λ (at : ℕ). with_gain l.tallies (at gains u)) row in
    let enough : u ≤ l.unspent = c.if-unspent-burnt.false in
    let spent : s.limit - l.unspent + u ≡ s.limit - (l.unspent - u) = omega arith in
    let burnt = rw (burn_next job s.count l.rows l.unspent l.i (omega arith) left.rows u pulses next enough) at l.invariant.3 in (
      omega arith,
      ap length c.burn_row-in-loop-i.ensures.0 ∙ length-set l.rows _ _ ∙ l.invariant.1,
      ap length c.burn_row-in-loop-i.ensures.1 ∙ length-set l.tallies _ _ ∙ l.invariant.2,
      rw (counted, ← spent) (one_ahead s.tallies.now _ l.tallies (s.limit - l.unspent) l.i ((entry_at job l.i).row gains u) _ burnt),
    )

pub returns : goal.returns
returns c =
    let s = c.args in
    let l = c.loop-i in
    let ended = rw (burn_ends s.job.now s.count l.rows l.unspent l.i (omega arith)) at l.invariant.3 in
    let all : l.i + 0 ≡ s.count = omega arith in (
      sym ended.rows,
      sym ended.counted,
      sym (ended.pulses ∙ add-zero (s.limit - l.unspent)),
      sym (ended.place ∙ all),
    )
