-- `lead::taking::store` meets its contract: nothing fits, or all that fits is put, a byte at a time.
use Rattle.std.proofs.Common.{◌≡◌, ◌+◌, ◌-◌, List, ℕ, length-set, take, get_or, set, refl, ap, ◌∙◌, arith}
use native.Mathlib.Numerals.{add-one}
use Rattle.form.specs.Writing.{with_bytes}
use Rattle.lead.proofs.Storing.{one_more, fitting}
use Rattle.lead.proofs.taking.store.Goals as goal

pub returns-then-start-ge-AREA_BYTES : goal.returns-then-start-ge-AREA_BYTES
unfolding with_bytes
returns-then-start-ge-AREA_BYTES c =
    let none : 3079 - c.args.start ≡ 0 = omega arith in
    rw none

pub loop-i-init : goal.loop-i-init
unfolding with_bytes
loop-i-init c = (refl, refl)

pub loop-i-preserved : goal.loop-i-preserved
loop-i-preserved c =
    let s = c.args in
    let l = c.loop-i in (
      simp length-set l.invariant.0,
      ap (λ (area : List ℕ). set area (s.start + l.i) (get_or s.chunk.now l.i 0)) l.invariant.1
          ∙ rw add-one (one_more s.area.now s.start s.chunk.now l.i (omega (arith, c.min-bytes.ensures))),
    )

pub returns : goal.returns
returns c =
    let s = c.args in
    let l = c.loop-i in
    let all : l.i ≡ c.min-bytes.result = omega arith in
    l.invariant.1 ∙ ap (λ (n : ℕ). with_bytes s.area.now s.start (take n s.chunk.now)) (all ∙ c.min-bytes.ensures)
    ∙ ap (with_bytes s.area.now s.start) (fitting (3079 - s.start) s.chunk.now)
