-- `text::reading::read` meets its contract: line by line.
use Rattle.std.proofs.Common.{◌≡◌, ◌-◌, refl, sym, ap, ◌∙◌, arith, rules, Err}
use Rattle.text.specs.Jobs.{Reading, most_lines}
use Rattle.text.specs.Readings.{going}
use Rattle.text.proofs.LineByLine.{walk_ends, puts_ends, walk_last, puts_last, walk_next, puts_next, walk_wrong, puts_wrong}
use Rattle.text.proofs.reading.read.Goals as goal

pub returns-in_err-reading-clause-value : goal.returns-in_err-reading-clause-value
returns-in_err-reading-clause-value g c =
    let k = g.K.Kept in
    let l = c.loop in
    let here = going l.reading in
    let goes = sym c.goes_on.ensures ∙ c.if-not-goes_on.false in
    let is : c.from_residual.result ≡ Err c.in_err-reading.field-0.0 = search rules in
    rw is (sym (l.invariant.ends ∙ walk_wrong k.by k.puts c.args.text.now c.args.most here l.counter (omega arith) goes _ c.in_err-reading.ensures.value refl))

pub returns-in_err-reading-clause-kept_after : goal.returns-in_err-reading-clause-kept_after
returns-in_err-reading-clause-kept_after g c =
    let k = g.K.Kept in
    let l = c.loop in
    let here = going l.reading in
    let goes = sym c.goes_on.ensures ∙ c.if-not-goes_on.false in
    let step = c.in_err-reading.ensures in
    sym (l.invariant.puts ∙ puts_wrong k.by k.puts c.args.text.now c.args.most here l.counter (omega arith) goes _ step.value refl l.kept c.step.new.kept step.kept_after)

pub loop-preserved : goal.loop-preserved
loop-preserved g c =
    let k = g.K.Kept in
    let text = c.args.text.now in
    let l = c.loop in
    let here = going l.reading in
    let then = going c.in_ok-reading.reading in
    let goes = sym c.goes_on.ensures ∙ c.if-not-goes_on.false in
    let step = c.in_ok-reading.ensures in
    let line : then.line ≡ (k.by text here).line = ap (λ (r : Reading). r.line) step.value in
    let count : then.count ≡ (k.by text here).count = ap (λ (r : Reading). r.count) step.value in
    record {
      lines = omega (arith, g.met.K.Kept.one_line text here);
      counted = omega (arith, g.met.K.Kept.one_more text here);
      ends = l.invariant.ends ∙ walk_next k.by k.puts text c.args.most here l.counter (omega arith) goes then step.value;
      puts = l.invariant.puts ∙ puts_next k.by k.puts text c.args.most here l.counter (omega arith) goes then step.value l.kept c.step.new.kept step.kept_after;
    }

pub returns-after-loop-clause-value : goal.returns-after-loop-clause-value
returns-after-loop-clause-value g c =
    let l = c.loop in
    sym (l.invariant.ends ∙ walk_last g.K.Kept.by g.K.Kept.puts c.args.text.now c.args.most (going l.reading) l.counter (omega arith))

pub returns-after-loop-clause-kept_after : goal.returns-after-loop-clause-kept_after
returns-after-loop-clause-kept_after g c =
    let l = c.loop in
    sym (l.invariant.puts ∙ puts_last g.K.Kept.by g.K.Kept.puts c.args.text.now c.args.most (going l.reading) l.kept l.counter (omega arith))

pub returns-then-not-goes_on-clause-value : goal.returns-then-not-goes_on-clause-value
returns-then-not-goes_on-clause-value g c =
    let l = c.loop in
    let ends = sym c.goes_on.ensures ∙ c.if-not-goes_on.true in
    sym (l.invariant.ends ∙ walk_ends g.K.Kept.by g.K.Kept.puts c.args.text.now c.args.most (going l.reading) (most_lines - l.counter) ends)

pub returns-then-not-goes_on-clause-kept_after : goal.returns-then-not-goes_on-clause-kept_after
returns-then-not-goes_on-clause-kept_after g c =
    let l = c.loop in
    let ends = sym c.goes_on.ensures ∙ c.if-not-goes_on.true in
    sym (l.invariant.puts ∙ puts_ends g.K.Kept.by g.K.Kept.puts c.args.text.now c.args.most (going l.reading) l.kept (most_lines - l.counter) ends)
