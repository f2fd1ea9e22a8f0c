-- The condition of an ECC read says exactly what its row is, dropping what is new gives the old answer, and all other answers say plain
-- and agreeing.
-- Assumes nothing.
use mathlib.Core.Bool.{Bool, true, false, not}
use mathlib.Core.Logic.{◌↔◌}
use mathlib.Core.Path.{◌≡◌, refl, sym, ap, subst, ◌∙◌}
use Prim.Native.Nat.{ℕ, ◌/◌, ◌%◌, ◌^◌, ◌<◌}
use native.Mathlib.Nat.{div-div-eq-div-mul}
use native.Mathlib.Omega.{arith}
use borrow.Author.Tests.{eqb-true, eqb-false, eq-eqb, not-true, not-false}
use lib.Bits.{bit_xor, xor_self}
use lib.Dec.{T, eqb}
use lib.Pow.{pow_pos}
use Rattle.answer.specs.Answers.{found}
use Rattle.std.specs.Prelude.{if◌then◌else◌}
use Rattle.row.specs.Code.{bit_at, code}
use Rattle.answer.specs.Conditions.{condition_number, repaired_bit, polarity_number}
use Rattle.decode.specs.Reading.{flipped_at, both_set, disagree, said_of}
use Rattle.answer.specs.declared.answers.Answer.{Answer}
use Rattle.answer.specs.declared.answers.Condition.{Condition}
use Rattle.answer.specs.declared.answers.Condition.TheVariants.{Clean, Repaired, FlagWorn, FlagWornRepaired}
use Rattle.answer.specs.declared.answers.Polarity.TheVariants.{Plain, Inverted}
use Rattle.answer.proofs.Choices.{both_ways, made_of}
use Rattle.decode.proofs.Syndromes.{xor_cancel_left}
use Rattle.chip.specs.Slices.{row_at}
use Rattle.access.specs.Reads.{read_ecc_number, read_ecc}
use Rattle.laws.specs.Calls.{perform}
use Rattle.laws.specs.Conditions.{Whole, FlippedAt, Agree, Says, ConditionExactly, BothSet, PolarityExactly, without_flag, dropped, OldReadStays, OldCallStays, OthersPlainAgreeing}
use Rattle.laws.specs.Reads.{looked}
use Rattle.laws.proofs.Reading.{Read, read, same_place}
use Rattle.laws.proofs.Refusals.{Kept, each_call}

-- ---- bits 23 and 22, and a flipped bit

pub agree : (row : ℕ) → disagree row ≡ false → Agree row
agree row e = eqb-true (bit_at 23 row) (bit_at 22 row) (not-false _ e)

pub apart : (row : ℕ) → disagree row ≡ true → Agree row → ⊥
apart row e = eqb-false (bit_at 23 row) (bit_at 22 row) (not-true _ e)

-- a flipped bit is seen
seen : (value place : ℕ) → code value ≡ flipped_at place (code value) → ⊥
seen value place e =
    omega (
      arith,
      sym (xor_cancel_left (code value) (2 ^ place)) ∙ ap (bit_xor (code value)) (sym e) ∙ xor_self (code value),
      pow_pos place,
    )

-- at one place and no other
one_place : (value a b : ℕ) → a < 22 → b < 22 → flipped_at a (code value) ≡ flipped_at b (code value) → a ≡ b
one_place value a b la lb e =
    same_place a b la lb
    (sym (xor_cancel_left (code value) (2 ^ a)) ∙ ap (bit_xor (code value)) e ∙ xor_cancel_left (code value) (2 ^ b))

-- ---- what the condition says

-- two conditions of different numbers are never the same
never : {a b : Condition} {A : Type 0} → T (not (eqb (condition_number a) (condition_number b))) → a ≡ b → A
never {a} {b} differ same =
    absurd (subst (λ (t : Bool). T (not t)) (eq-eqb (condition_number a) (condition_number b) (ap condition_number same)) differ)

module _ (row value : ℕ) where
  of_whole : Whole row value → (t : Bool) → disagree row ≡ t → Says row value (if t then FlagWorn else Clean)
  of_whole whole false e = record {
    clean = (λ c. (whole, agree row e), λ so. refl);
    repaired = λ place. (never tt, λ so. absurd (seen value place (sym whole ∙ so.0.1)));
    flag_worn = (never tt, λ so. absurd (so.1 (agree row e)));
    flag_worn_repaired = λ place. (never tt, λ so. absurd (so.1 (agree row e)));
  }
  of_whole whole true e = record {
    clean = (never tt, λ so. absurd (apart row e so.1));
    repaired = λ place. (never tt, λ so. absurd (apart row e so.1));
    flag_worn = (λ c. (whole, apart row e), λ so. refl);
    flag_worn_repaired = λ place. (never tt, λ so. absurd (seen value place (sym whole ∙ so.0.1)));
  }

  of_flipped : (own : ℕ) → FlippedAt row value own → (t : Bool) → disagree row ≡ t
      → Says row value (if t then FlagWornRepaired own else Repaired own)
  of_flipped own off false e = record {
    clean = (never tt, λ so. absurd (seen value own (sym so.0 ∙ off.1)));
    repaired = λ place. (
      λ c. (subst (FlippedAt row value) (ap repaired_bit c) off, agree row e),
      λ so. ap Repaired (one_place value own place off.0 so.0.0 (sym off.1 ∙ so.0.1)),
    );
    flag_worn = (never tt, λ so. absurd (so.1 (agree row e)));
    flag_worn_repaired = λ place. (never tt, λ so. absurd (so.1 (agree row e)));
  }
  of_flipped own off true e = record {
    clean = (never tt, λ so. absurd (apart row e so.1));
    repaired = λ place. (never tt, λ so. absurd (apart row e so.1));
    flag_worn = (never tt, λ so. absurd (seen value own (sym so.0 ∙ off.1)));
    flag_worn_repaired = λ place. (
      λ c. (subst (FlippedAt row value) (ap repaired_bit c) off, apart row e),
      λ so. ap FlagWornRepaired (one_place value own place off.0 so.0.0 (sym off.1 ∙ so.0.1)),
    );
  }

pub condition_exactly : ConditionExactly
condition_exactly row = go (read (looked row))
  where
    go : {held : Answer} → Read (looked row) held → (said_of row held).number ≡ 0
        → Says row (said_of row held).value (said_of row held).condition
    go (Read.clean value h whole) done = of_whole row value whole (disagree row) refl
    go (Read.repaired value place h l off) done = of_flipped row value place (l, off) (disagree row) refl
    go Read.nothing done = absurd (omega arith)

-- ---- the polarity

-- bits 23 and 22 by what stands above bit 21
three : (top : ℕ) → (top % 4 ≡ 3) ↔ ((top / 2 % 2 ≡ 1) × (top % 2 ≡ 1))
three top = (λ e. (omega arith, omega arith), λ both. omega arith)

both_set_lem : (row : ℕ) → (row / 2 ^ 22 % 4 ≡ 3) ↔ BothSet row
both_set_lem row = rw (← div-div-eq-div-mul row (2 ^ 22) 2) (three (row / 2 ^ 22))

pub polarity_exactly : PolarityExactly
polarity_exactly row = go (read (looked row))
  where
    of : (t : Bool) → both_set row ≡ t
        → (((if t then Inverted else Plain) ≡ Inverted) ↔ BothSet row) × (((if t then Inverted else Plain) ≡ Plain) ↔ (BothSet row → ⊥))
    of true e =
        let both : BothSet row = (both_set_lem row).0 (eqb-true (row / 2 ^ 22 % 4) 3 e) in
        ((λ c. both, λ so. refl), (λ c. absurd (omega (arith, ap polarity_number c)), λ not. absurd (not both)))
    of false e =
        let not-both : BothSet row → ⊥ = λ so. eqb-false (row / 2 ^ 22 % 4) 3 e ((both_set_lem row).1 so) in
        ((λ c. absurd (omega (arith, ap polarity_number c)), λ so. absurd (not-both so)), (λ c. not-both, λ so. refl))

    go : {held : Answer} → Read (looked row) held → (said_of row held).number ≡ 0
        → (((said_of row held).polarity ≡ Inverted) ↔ BothSet row) × (((said_of row held).polarity ≡ Plain) ↔ (BothSet row → ⊥))
    go (Read.clean value h whole) done = of (both_set row) refl
    go (Read.repaired value place h l off) done = of (both_set row) refl
    go Read.nothing done = absurd (omega arith)

-- ---- what did not move

pub old_read_stays : OldReadStays
old_read_stays row = go (read (looked row))
  where
    go : {held : Answer} → Read (looked row) held → dropped (said_of row held) ≡ held
    go (Read.clean value h whole) = both_ways (λ (c : Condition). found value (without_flag c) ≡ found value Clean) (disagree row) _ _ refl refl
    go (Read.repaired value place h l off) =
        both_ways (λ (c : Condition). found value (without_flag c) ≡ found value (Repaired place)) (disagree row) _ _ refl refl
    go Read.nothing = refl

pub old_call_stays : OldCallStays
unfolding read_ecc
old_call_stays rows state caller row =
    made_of dropped (eqb (read_ecc_number rows state caller row) 0) _ _ ∙ rw (old_read_stays (row_at rows row))

-- ---- all other answers

pub others_plain_agreeing : OthersPlainAgreeing
others_plain_agreeing chip call other = go (each_call chip.rows chip.state call)
  where
    go : Kept chip call (perform chip call) → ((perform chip call).answer.condition ≡ Clean) × ((perform chip call).answer.polarity ≡ Plain)
    go (Kept.read caller row is done) = absurd (other (caller, row, is, done))
    go (Kept.finished done condition polarity) = (condition, polarity)
    go (Kept.refusal value condition polarity pulses same) = (condition, polarity)
