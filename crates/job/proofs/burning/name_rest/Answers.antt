-- `job::burning::name_rest` meets its contract. The invariant: what is counted so far, ahead of what is left, is all.
-- Assumes nothing.
use mathlib.Core.List.{List}
use mathlib.Core.Path.{◌≡◌, refl, sym, ap, ◌∙◌}
use Prim.Native.Nat.{ℕ, ◌+◌, ◌-◌}
use native.Mathlib.Omega.{arith}
use lib.ListN.{length, length-set}
use Rattle.chip.specs.Tallies.{◌gains◌, with_gain, with_gains}
use Rattle.form.specs.Entries.{entry_at, entries_from}
use Rattle.form.specs.declared.entries.Entry.{Entry}
use Rattle.job.specs.Burning.{cut_gained}
use Rattle.job.proofs.Ahead.{cut_next, cut_ends}
use Rattle.job.proofs.burning.name_rest.Goals as goal

pub loop-i-init : goal.loop-i-init
loop-i-init c = (refl, refl)

pub loop-i-preserved : goal.loop-i-preserved
loop-i-preserved c =
    let s = c.args in
    let job = s.job.now in
    let l = c.loop-i in
    let named : c.gain.new.tallies ≡ with_gain l.tallies ((entry_at job l.i).row gains 0) =
    c.gain.ensures ∙ ap (λ (e : Entry). with_gain l.tallies (e.row gains 0)) c.entry_at.ensures in (
      ap length named ∙ length-set l.tallies _ _ ∙ l.invariant.0,
      l.invariant.1 ∙ cut_next job s.count l.tallies 0 l.i (omega arith)
          ∙ ap (λ (tallies : List ℕ). with_gains tallies (cut_gained 0 (entries_from job (l.i + 1) (s.count - (l.i + 1))))) (sym named),
    )

pub returns : goal.returns
returns c =
    let s = c.args in
    let l = c.loop-i in
    sym (l.invariant.1 ∙ cut_ends s.job.now s.count l.tallies 0 l.i (omega arith))
