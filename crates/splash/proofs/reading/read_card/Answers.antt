-- `splash::reading::read_card` meets its contract: each row as Non-secure reads it, and a rung for each step.
use Rattle.std.proofs.Common.{lit≤, ◌∙◌, sym}
use Rattle.std.proofs.lemmas.Result.{err_from_is_err_and}
use Rattle.splash.specs.Reading.{read_card}
use Rattle.splash.proofs.Answering.{refused_at_row, reads_as, first_refuses, second_refuses, version_refuses, width_refuses, height_refuses, mark_refuses, unknown_refuses, line_refuses, size_refuses, card_answers}
use Rattle.splash.proofs.PageThree.{line_in}
use Rattle.splash.proofs.reading.read_card.Goals as goal

pub returns-in_err-first : goal.returns-in_err-first
unfolding read_card
returns-in_err-first c =
    let p = err_from_is_err_and c.from_residual.result c.from_residual.ensures.1 in
    rw (p.1, p.2) (first_refuses _ _ (refused_at_row _ _ _ c.may_read-may.ensures 0x0c0 (lit≤ tt, lit≤ tt) _ c.in_err-first.ensures.number))

pub returns-in_err-second : goal.returns-in_err-second
unfolding read_card
returns-in_err-second c =
    let f = reads_as _ _ _ c.may_read-may.ensures 0x0c0 (lit≤ tt, lit≤ tt) _ c.in_ok-first.ensures.number c.in_ok-first.ensures.value in
    let p = err_from_is_err_and c.from_residual-in_err-second.result c.from_residual-in_err-second.ensures.1 in
    rw (p.1, p.2) (second_refuses _ _ f _ (refused_at_row _ _ _ c.may_read-may.ensures 0x0c1 (lit≤ tt, lit≤ tt) _ c.in_err-second.ensures.number))

pub returns-in_err-version : goal.returns-in_err-version
unfolding read_card
returns-in_err-version c =
    let f = reads_as _ _ _ c.may_read-may.ensures 0x0c0 (lit≤ tt, lit≤ tt) _ c.in_ok-first.ensures.number c.in_ok-first.ensures.value in
    let s = reads_as _ _ _ c.may_read-may.ensures 0x0c1 (lit≤ tt, lit≤ tt) _ c.in_ok-second.ensures.number c.in_ok-second.ensures.value in
    let p = err_from_is_err_and c.from_residual-in_err-version.result c.from_residual-in_err-version.ensures.1 in
    rw (p.1, p.2) (version_refuses _ _ f _ s _ (refused_at_row _ _ _ c.may_read-may.ensures 0x0c2 (lit≤ tt, lit≤ tt) _ c.in_err-version.ensures.number))

pub returns-in_err-width : goal.returns-in_err-width
unfolding read_card
returns-in_err-width c =
    let f = reads_as _ _ _ c.may_read-may.ensures 0x0c0 (lit≤ tt, lit≤ tt) _ c.in_ok-first.ensures.number c.in_ok-first.ensures.value in
    let s = reads_as _ _ _ c.may_read-may.ensures 0x0c1 (lit≤ tt, lit≤ tt) _ c.in_ok-second.ensures.number c.in_ok-second.ensures.value in
    let v = reads_as _ _ _ c.may_read-may.ensures 0x0c2 (lit≤ tt, lit≤ tt) _ c.in_ok-version.ensures.number c.in_ok-version.ensures.value in
    let p = err_from_is_err_and c.from_residual-in_err-width.result c.from_residual-in_err-width.ensures.1 in
    rw (p.1, p.2) (width_refuses _ _ f _ s _ v _ (refused_at_row _ _ _ c.may_read-may.ensures 0x0c3 (lit≤ tt, lit≤ tt) _ c.in_err-width.ensures.number))

pub returns-in_err-height : goal.returns-in_err-height
unfolding read_card
returns-in_err-height c =
    let f = reads_as _ _ _ c.may_read-may.ensures 0x0c0 (lit≤ tt, lit≤ tt) _ c.in_ok-first.ensures.number c.in_ok-first.ensures.value in
    let s = reads_as _ _ _ c.may_read-may.ensures 0x0c1 (lit≤ tt, lit≤ tt) _ c.in_ok-second.ensures.number c.in_ok-second.ensures.value in
    let v = reads_as _ _ _ c.may_read-may.ensures 0x0c2 (lit≤ tt, lit≤ tt) _ c.in_ok-version.ensures.number c.in_ok-version.ensures.value in
    let w = reads_as _ _ _ c.may_read-may.ensures 0x0c3 (lit≤ tt, lit≤ tt) _ c.in_ok-width.ensures.number c.in_ok-width.ensures.value in
    let p = err_from_is_err_and c.from_residual-in_err-height.result c.from_residual-in_err-height.ensures.1 in
    rw (p.1, p.2) (height_refuses _ _ f _ s _ v _ w _ (refused_at_row _ _ _ c.may_read-may.ensures 0x0c4 (lit≤ tt, lit≤ tt) _ c.in_err-height.ensures.number))

pub returns-then-not-is_mark : goal.returns-then-not-is_mark
unfolding read_card
returns-then-not-is_mark c =
    let f = reads_as _ _ _ c.may_read-may.ensures 0x0c0 (lit≤ tt, lit≤ tt) _ c.in_ok-first.ensures.number c.in_ok-first.ensures.value in
    let s = reads_as _ _ _ c.may_read-may.ensures 0x0c1 (lit≤ tt, lit≤ tt) _ c.in_ok-second.ensures.number c.in_ok-second.ensures.value in
    let v = reads_as _ _ _ c.may_read-may.ensures 0x0c2 (lit≤ tt, lit≤ tt) _ c.in_ok-version.ensures.number c.in_ok-version.ensures.value in
    let w = reads_as _ _ _ c.may_read-may.ensures 0x0c3 (lit≤ tt, lit≤ tt) _ c.in_ok-width.ensures.number c.in_ok-width.ensures.value in
    let h = reads_as _ _ _ c.may_read-may.ensures 0x0c4 (lit≤ tt, lit≤ tt) _ c.in_ok-height.ensures.number c.in_ok-height.ensures.value in
    mark_refuses _ _ f _ s _ v _ w _ h (sym c.is_mark.ensures ∙ c.if-not-is_mark.true)

pub returns-then-not-known_version : goal.returns-then-not-known_version
unfolding read_card
returns-then-not-known_version c =
    let f = reads_as _ _ _ c.may_read-may.ensures 0x0c0 (lit≤ tt, lit≤ tt) _ c.in_ok-first.ensures.number c.in_ok-first.ensures.value in
    let s = reads_as _ _ _ c.may_read-may.ensures 0x0c1 (lit≤ tt, lit≤ tt) _ c.in_ok-second.ensures.number c.in_ok-second.ensures.value in
    let v = reads_as _ _ _ c.may_read-may.ensures 0x0c2 (lit≤ tt, lit≤ tt) _ c.in_ok-version.ensures.number c.in_ok-version.ensures.value in
    let w = reads_as _ _ _ c.may_read-may.ensures 0x0c3 (lit≤ tt, lit≤ tt) _ c.in_ok-width.ensures.number c.in_ok-width.ensures.value in
    let h = reads_as _ _ _ c.may_read-may.ensures 0x0c4 (lit≤ tt, lit≤ tt) _ c.in_ok-height.ensures.number c.in_ok-height.ensures.value in
    unknown_refuses _ _ f _ s _ v _ w _ h (sym c.is_mark.ensures ∙ c.if-not-is_mark.false) (sym c.known_version.ensures ∙ c.if-not-known_version.true)

pub returns-in_err-line : goal.returns-in_err-line
unfolding read_card
returns-in_err-line c =
    let f = reads_as _ _ _ c.may_read-may.ensures 0x0c0 (lit≤ tt, lit≤ tt) _ c.in_ok-first.ensures.number c.in_ok-first.ensures.value in
    let s = reads_as _ _ _ c.may_read-may.ensures 0x0c1 (lit≤ tt, lit≤ tt) _ c.in_ok-second.ensures.number c.in_ok-second.ensures.value in
    let v = reads_as _ _ _ c.may_read-may.ensures 0x0c2 (lit≤ tt, lit≤ tt) _ c.in_ok-version.ensures.number c.in_ok-version.ensures.value in
    let w = reads_as _ _ _ c.may_read-may.ensures 0x0c3 (lit≤ tt, lit≤ tt) _ c.in_ok-width.ensures.number c.in_ok-width.ensures.value in
    let h = reads_as _ _ _ c.may_read-may.ensures 0x0c4 (lit≤ tt, lit≤ tt) _ c.in_ok-height.ensures.number c.in_ok-height.ensures.value in
    let p = err_from_is_err_and c.from_residual-in_err-line.result c.from_residual-in_err-line.ensures.1 in
    let number = refused_at_row _ _ _ c.may_read-may.ensures _ (line_in c.in_ok-version.version) _ (rw c.line_row.ensures at c.in_err-line.ensures.number) in
    rw (p.1, p.2) (line_refuses _ _ f _ s _ v _ w _ h (sym c.is_mark.ensures ∙ c.if-not-is_mark.false) (sym c.known_version.ensures ∙ c.if-not-known_version.false) _ number)

pub returns-then-not-in_range : goal.returns-then-not-in_range
unfolding read_card
returns-then-not-in_range c =
    let f = reads_as _ _ _ c.may_read-may.ensures 0x0c0 (lit≤ tt, lit≤ tt) _ c.in_ok-first.ensures.number c.in_ok-first.ensures.value in
    let s = reads_as _ _ _ c.may_read-may.ensures 0x0c1 (lit≤ tt, lit≤ tt) _ c.in_ok-second.ensures.number c.in_ok-second.ensures.value in
    let v = reads_as _ _ _ c.may_read-may.ensures 0x0c2 (lit≤ tt, lit≤ tt) _ c.in_ok-version.ensures.number c.in_ok-version.ensures.value in
    let w = reads_as _ _ _ c.may_read-may.ensures 0x0c3 (lit≤ tt, lit≤ tt) _ c.in_ok-width.ensures.number c.in_ok-width.ensures.value in
    let h = reads_as _ _ _ c.may_read-may.ensures 0x0c4 (lit≤ tt, lit≤ tt) _ c.in_ok-height.ensures.number c.in_ok-height.ensures.value in
    let l = reads_as _ _ _ c.may_read-may.ensures _ (line_in c.in_ok-version.version) _ (rw c.line_row.ensures at c.in_ok-line.ensures.number) (rw c.line_row.ensures at c.in_ok-line.ensures.value) in
    size_refuses _ _ f _ s _ v _ w _ h (sym c.is_mark.ensures ∙ c.if-not-is_mark.false) (sym c.known_version.ensures ∙ c.if-not-known_version.false) _ l (sym c.in_range.ensures ∙ c.if-not-in_range.true)

pub returns : goal.returns
unfolding read_card
returns c =
    let f = reads_as _ _ _ c.may_read-may.ensures 0x0c0 (lit≤ tt, lit≤ tt) _ c.in_ok-first.ensures.number c.in_ok-first.ensures.value in
    let s = reads_as _ _ _ c.may_read-may.ensures 0x0c1 (lit≤ tt, lit≤ tt) _ c.in_ok-second.ensures.number c.in_ok-second.ensures.value in
    let v = reads_as _ _ _ c.may_read-may.ensures 0x0c2 (lit≤ tt, lit≤ tt) _ c.in_ok-version.ensures.number c.in_ok-version.ensures.value in
    let w = reads_as _ _ _ c.may_read-may.ensures 0x0c3 (lit≤ tt, lit≤ tt) _ c.in_ok-width.ensures.number c.in_ok-width.ensures.value in
    let h = reads_as _ _ _ c.may_read-may.ensures 0x0c4 (lit≤ tt, lit≤ tt) _ c.in_ok-height.ensures.number c.in_ok-height.ensures.value in
    let l = reads_as _ _ _ c.may_read-may.ensures _ (line_in c.in_ok-version.version) _ (rw c.line_row.ensures at c.in_ok-line.ensures.number) (rw c.line_row.ensures at c.in_ok-line.ensures.value) in
    card_answers _ _ f _ s _ v _ w _ h (sym c.is_mark.ensures ∙ c.if-not-is_mark.false) (sym c.known_version.ensures ∙ c.if-not-known_version.false) _ l (sym c.in_range.ensures ∙ c.if-not-in_range.false)
