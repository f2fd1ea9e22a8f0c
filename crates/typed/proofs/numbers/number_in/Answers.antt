-- `typed::numbers::number_in` meets its contract: digit by digit.
use Rattle.std.proofs.Common.{◌<◌, ◌+◌, ◌*◌, sym, ◌∙◌, arith, length}
use borrow.Author.Tests.{eqb-true, eqb-false}
use Rattle.typed.proofs.Digits.{no_digit, is_digit, all_left, none_spelled, left_not, left_over, left_more, left_none}
use Rattle.typed.proofs.numbers.number_in.Goals as goal

pub returns-then-is_empty : goal.returns-then-is_empty
returns-then-is_empty c = sym (none_spelled c.args.base c.args.digits.now (eqb-true _ 0 (sym c.if-is_empty.ensures)))

pub loop-byte-init : goal.loop-byte-init
loop-byte-init c =
    let some = eqb-false (length c.args.digits.now) 0 (sym c.if-is_empty.ensures) in
    record { fits = omega arith; made = all_left c.args.base c.args.digits.now (omega arith) }

pub returns-in_err-own : goal.returns-in_err-own
returns-in_err-own c =
    let a = c.args in
    let l = c.loop-byte in
    let other = no_digit _ (sym c.digit.ensures.value ∙ c.in_err-own.was) in
    c.from_residual.ensures ∙ sym (l.invariant.made ∙ left_not a.base l.value a.digits.now l.byte-index (omega arith) (omega arith))

pub returns-then-base-own : goal.returns-then-base-own
returns-then-base-own c =
    let a = c.args in
    let l = c.loop-byte in
    let own = is_digit _ _ (sym c.digit.ensures.value ∙ c.in_ok-own.was) in
    sym (l.invariant.made ∙ left_not a.base l.value a.digits.now l.byte-index (omega arith) (omega arith))

pub returns-in_err-checked_mul : goal.returns-in_err-checked_mul
returns-in_err-checked_mul c =
    let a = c.args in
    let l = c.loop-byte in
    let own = is_digit _ _ (sym c.digit.ensures.value ∙ c.in_ok-own.was) in
    let large : 4294967295 < l.value * a.base = grind (arith, c.in_err-checked_mul.ensures) in
    c.from_residual-in_err-checked_mul.ensures ∙ sym (l.invariant.made ∙ left_over a.base l.value a.digits.now l.byte-index (omega arith) (omega arith) (omega arith))

pub returns-in_err-value : goal.returns-in_err-value
returns-in_err-value c =
    let a = c.args in
    let l = c.loop-byte in
    let own = is_digit _ _ (sym c.digit.ensures.value ∙ c.in_ok-own.was) in
    let large : 4294967295 < l.value * a.base + c.in_ok-own.own = grind (arith, c.in_err-value.ensures, c.in_ok-checked_mul.ensures) in
    c.from_residual-in_err-value.ensures ∙ sym (l.invariant.made ∙ left_over a.base l.value a.digits.now l.byte-index (omega arith) (omega arith) (omega arith))

pub loop-byte-preserved : goal.loop-byte-preserved
loop-byte-preserved c =
    let a = c.args in
    let l = c.loop-byte in
    let own = is_digit _ _ (sym c.digit.ensures.value ∙ c.in_ok-own.was) in
    let product = c.in_ok-checked_mul.ensures in
    let sum = c.in_ok-value.ensures in record {
      fits = omega (arith, sum);
      made = l.invariant.made ∙ left_more a.base l.value a.digits.now l.byte-index (omega arith) _ _ own.0 (omega arith) (omega (arith, sum, product));
    }

pub returns : goal.returns
returns c =
    let a = c.args in
    let l = c.loop-byte in
    sym (l.invariant.made ∙ left_none a.base l.value a.digits.now l.byte-index (omega arith) (omega arith))
