-- `looking::list::lines` ends: where an entry is handed over there are bytes left, and the reader then stands behind it. Assumes nothing.
use Rattle.std.proofs.Common.{◌≡◌, ℕ, ◌<◌, Bool, true, false, List, length, refl, sym, ap, ◌∙◌, arith}
use borrow.Author.Tests.{leb-false}
use lib.Dec.{leb}
use Rattle.form.specs.declared.entries.Entry.{Entry}
use Rattle.reader.specs.Handing.{found_at, place_after}
use Rattle.reader.specs.declared.handing.Found.{Found}
use Rattle.reader.specs.declared.handing.Found.TheVariants.{Entry as an_entry, End}
use Rattle.reader.specs.declared.handing.Handed.{Handed}
use Rattle.looking.proofs.list.lines.Goals as goal

-- where an entry is handed over there are bytes left
inside : (job : List ℕ) (at : ℕ) (e : Entry) → found_at job at ≡ an_entry e → at < length job
unfolding found_at
inside job at e f = go (leb (length job) at) refl
  where
    go : (t : Bool) → leb (length job) at ≡ t → at < length job
    go true l =
        let past : found_at job at ≡ End = rw l in
        let z : ◌≡◌ {A = ℕ} 0 1 = cc in
        absurd (omega arith)
    go false l = omega (arith, leb-false (length job) at l)

pub loop-entry-smaller : goal.loop-entry-smaller
loop-entry-smaller c =
    let job = c.args.job.now in
    let at = c.loop-entry.at in
    let handed = c.next_entry-handed.ensures in
    let found = sym (ap (λ (h : Handed). h.found) handed) ∙ c.in-Entry.is in
    let next = ap (λ (h : Handed). h.at) handed ∙ ap (λ (f : Found). place_after f at) found in
    omega (arith, inside job at _ found, next)
