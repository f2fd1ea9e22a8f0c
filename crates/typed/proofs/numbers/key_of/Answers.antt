-- `typed::numbers::key_of` meets its contract: byte by byte, each by two digits.
use Rattle.std.proofs.Common.{Some, ◌≡◌, ℕ, ◌+◌, ◌*◌, ◌<◌, get_or, refl, sym, ap, ◌∙◌, arith, below_more}
use Rattle.chip.specs.Lists.{listed}
use Rattle.chip.proofs.Lists.{filled_more, filled_all}
use Rattle.typed.specs.Numbers.{digit_of, key_byte, key_of}
use Rattle.typed.proofs.Digits.{no_digit, is_digit, key_spelled_lem, no_key_spelled}
use Rattle.typed.proofs.numbers.key_of.Goals as goal

pub loop-i-init : goal.loop-i-init
unfolding listed
loop-i-init c = record { digits = λ k h. absurd (omega arith); filled = (refl, refl) }

pub returns-in_err-high : goal.returns-in_err-high
returns-in_err-high c =
    c.from_residual.ensures ∙ sym (no_key_spelled c.args.text.now (omega arith) (2 * c.loop-i.i) (omega arith) (no_digit _ (sym c.digit.ensures.value ∙ c.in_err-high.was)))

pub returns-in_err-low : goal.returns-in_err-low
returns-in_err-low c =
    c.from_residual-in_err-low.ensures ∙ sym (no_key_spelled c.args.text.now (omega arith) (2 * c.loop-i.i + 1) (omega arith) (no_digit _ (sym c.digit-in-loop-i.ensures.value ∙ c.in_err-low.was)))

pub loop-i-preserved : goal.loop-i-preserved
loop-i-preserved c =
    let text = c.args.text.now in
    let l = c.loop-i in
    let high = is_digit _ _ (sym c.digit.ensures.value ∙ c.in_ok-high.was) in
    let low = is_digit _ _ (sym c.digit-in-loop-i.ensures.value ∙ c.in_ok-low.was) in
    let is_digit_at : ℕ → Type 0 = λ k. digit_of (get_or text k 0) < 16 in
    let digits = below_more is_digit_at (2 * l.i + 1) (below_more is_digit_at (2 * l.i) l.invariant.digits (omega arith)) (omega arith) in
    let value : c.in_ok-high.high * 16 + c.in_ok-low.low ≡ key_byte text l.i = omega arith in
    record {
      digits = λ k h. digits k (omega arith);
      filled = filled_more 16 (key_byte text) l.byte-items l.i _ (omega arith) value l.invariant.filled;
    }

pub returns : goal.returns
unfolding key_of
returns c =
    let l = c.loop-i in
    ap Some (filled_all 16 (key_byte c.args.text.now) l.byte-items l.i (omega arith) l.invariant.filled) ∙ sym (key_spelled_lem c.args.text.now (omega arith) (λ k h. l.invariant.digits k (omega arith)))
