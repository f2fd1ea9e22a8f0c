-- `splash::reading::read_card_row` meets its contract: a row that is not read has 8, and no other number.
use Rattle.std.proofs.Common.{◌≡◌, ℕ, List, true, false, length, ⊎_elim, eq-eqb, le-ltb, ap, arith, ◌∙◌}
use Rattle.answer.specs.Answers.{refused}
use Rattle.answer.specs.declared.answers.Answer.{Answer}
use Rattle.chip.specs.Slices.{row_at, too_large}
use Rattle.decode.specs.Reading.{read_row}
use Rattle.decode.proofs.Undecoded.{read_or_8}
use Rattle.splash.specs.Reading.{read_where}
use Rattle.splash.proofs.reading.read_card_row.Goals as goal

not_decoded : (rows : List ℕ) (row : ℕ) → length rows ≡ 4096 → too_large rows row ≡ false → ((read_row (row_at rows row)).number ≡ 0 → ⊥)
    → 8 ≡ (read_where rows true row).number
not_decoded rows row whole small some =
    let eight : read_row (row_at rows row) ≡ refused 8 = ⊎_elim (λ done. absurd (some done)) (λ e. e) (read_or_8 (row_at rows row)) in
    rw (eq-eqb (length rows) 4096 whole, small, eight)

pub returns-then-read-ne0-clause-number : goal.returns-then-read-ne0-clause-number
returns-then-read-ne0-clause-number c =
    rw c.if-not-may.false
    (not_decoded c.args.rows.now c.args.row c.if-rows-ne-CHIP_ROWS.false
    (le-ltb 16777215 (row_at c.args.rows.now c.args.row) (omega (arith, c.row_at-held.ensures)))
    (λ done. c.if-read-ne0.true (ap (λ (a : Answer). a.number) (c.read_row-read.ensures ∙ ap read_row c.row_at-held.ensures) ∙ done)))
