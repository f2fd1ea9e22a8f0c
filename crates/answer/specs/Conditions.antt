-- The numbers of a condition and a polarity, for those who take no enum.
use Rattle.std.specs.Prelude.{ℕ}
use Rattle.answer.specs.declared.answers.Condition.{Condition}
use Rattle.answer.specs.declared.answers.Condition.TheVariants.{Clean, Repaired, FlagWorn, FlagWornRepaired}
use Rattle.answer.specs.declared.answers.Polarity.{Polarity}
use Rattle.answer.specs.declared.answers.Polarity.TheVariants.{Plain, Inverted}

-- clean is 0, repaired 1, flag worn 2, flag worn and repaired 3
abbrev pub condition_number : Condition → ℕ
condition_number Clean = 0
condition_number (Repaired bit) = 1
condition_number FlagWorn = 2
condition_number (FlagWornRepaired bit) = 3

-- the repaired bit, 0 where none was
abbrev pub repaired_bit : Condition → ℕ
repaired_bit Clean = 0
repaired_bit (Repaired bit) = bit
repaired_bit FlagWorn = 0
repaired_bit (FlagWornRepaired bit) = bit

-- plain is 0, inverted 1
abbrev pub polarity_number : Polarity → ℕ
polarity_number Plain = 0
polarity_number Inverted = 1

-- bits 23 and 22 agreed is 0, disagreed 1
abbrev pub disagree_number : Condition → ℕ
disagree_number Clean = 0
disagree_number (Repaired bit) = 0
disagree_number FlagWorn = 1
disagree_number (FlagWornRepaired bit) = 1
