-- The twelve worked rows that document 01 marks P ("Worked rows, both sides"), under one claim.
use Rattle.std.specs.Prelude.{◌≡◌}
use Rattle.answer.specs.Answers.{refused, found_in}
use Rattle.row.specs.Code.{code}
use Rattle.decode.specs.Reading.{read_row}
use Rattle.row.specs.Writing.{ecc_written}
use Rattle.answer.specs.declared.answers.Condition.TheVariants.{Clean, Repaired}
use Rattle.answer.specs.declared.answers.Polarity.TheVariants.{Plain, Inverted}

pub record WorkedRows : Type 0 where
  pub P1 : code 0xffff ≡ 0x1effff
  pub P2 : code 0x8000 ≡ 0x158000
  pub P3 : read_row 0x230001 ≡ found_in Plain 1 Clean
  pub P4 : read_row 0x230000 ≡ found_in Plain 1 (Repaired 0)
  pub P5 : read_row 0x000001 ≡ found_in Plain 0 (Repaired 0)
  pub P6 : read_row 0x000003 ≡ refused 8
  pub P7 : read_row 0x160000 ≡ refused 8
  pub P8 : read_row 0xdcfffe ≡ found_in Inverted 1 Clean
  pub P9 : read_row 0x9cfffe ≡ refused 8
  pub P10 : (ecc_written 0x000002 1).row ≡ 0xdcfffe
  pub P11 : (ecc_written 0x000003 1).number ≡ 9
  pub P12 : (ecc_written 0x230001 3).number ≡ 9
