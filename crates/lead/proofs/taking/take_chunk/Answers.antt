-- `lead::taking::take_chunk` meets its contract: refused for its area, or taken.
use Rattle.std.proofs.Common.{◌≡◌, ◌-◌, ℕ, List, Bor, take, refl, ap, ◌∙◌, lt-ltb, le-ltb}
use Rattle.form.specs.Writing.{with_bytes}
use Rattle.lead.specs.Notes.{stored}
use Rattle.lead.proofs.Takes.{refused, taken}
use Rattle.lead.proofs.taking.take_chunk.Goals as goal

pub returns-then-area : goal.returns-then-area
returns-then-area c =
    rw (c.into.ensures, refused c.args.area.now c.args.note c.args.chunk.now (lt-ltb _ 3079 c.if-area.true)) (refl, refl)

pub returns : goal.returns
returns c =
    let a = c.args in
    let there : c.store.new.area ≡ stored a.area.now a.note a.chunk.now =
    c.store.ensures ∙ ap (λ (start : ℕ). with_bytes a.area.now start (take (3079 - start) a.chunk.now)) c.start.ensures in
    let file = ap (λ (area : Bor (List ℕ)). area.now) c.before-file.ensures.0 ∙ there in
    rw (
      taken a.area.now a.note a.chunk.now (le-ltb _ 3079 c.if-area.false),
      c.told.ensures,
      c.fault_number.ensures,
      c.chunk_fault.ensures,
      c.noted.ensures,
      file,
      c.before-file.ensures.1,
    )
    (refl, there)
