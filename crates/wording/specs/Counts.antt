-- How many rows there are of each kind.
use Rattle.std.specs.Prelude.{ℕ, ◌+◌, ◌-◌, ◌^◌, min}
use Rattle.wording.specs.declared.counts.Count.{Count}
use Rattle.wording.specs.declared.counts.Kind.{Kind}
use Rattle.wording.specs.declared.counts.Kind.TheVariants.{Clean, Repaired, Worn, Damaged, NotPermitted}

-- the sum of two counts, which stops at the largest number of 32 bits
abbrev pub sum : ℕ → ℕ → ℕ
sum a b = min (a + b) (2 ^ 32 - 1)

-- one row more of a kind
abbrev pub with_one : Count → Kind → Count
with_one count Clean = record count { clean = sum count.clean 1 }
with_one count Repaired = record count { repaired = sum count.repaired 1 }
with_one count Worn = record count { worn = sum count.worn 1 }
with_one count Damaged = record count { damaged = sum count.damaged 1 }
with_one count NotPermitted = record count { not_permitted = sum count.not_permitted 1 }

-- the rows that are not clean
abbrev pub not_clean : Count → ℕ
not_clean count = sum (sum (sum count.repaired count.worn) count.damaged) count.not_permitted
