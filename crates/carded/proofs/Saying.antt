-- A card read by what each row reads as: what a card that was read has passed, and that nothing else is asked of it.
-- Assumes nothing.
use mathlib.Core.Bool.{Bool, true, false, not}
use mathlib.Core.Path.{◌≡◌, refl, sym, ap, ◌∙◌}
use Prim.Native.Nat.{ℕ}
use borrow.Author.Tests.{eq-eqb, eqb-true, eqb-false, not-false}
use lib.Dec.{eqb}
use Rattle.std.specs.Prelude.{if◌then◌else◌}
use Rattle.answer.specs.Rungs.{first_of}
use Rattle.answer.specs.declared.answers.Answer.{Answer}
use Rattle.answer.proofs.Ladders.{passed}
use Rattle.splash.specs.Cards.{is_mark, known_version, in_range}
use Rattle.splash.specs.Flat.{read_number, shown_card}
use Rattle.splash.specs.Reading.{CardRead, a_card, no_card, line_read, card_said, card_rungs, card_answered}
use Rattle.splash.specs.declared.cards.Card.{Card}

-- what is answered where each row reads so
abbrev pub answered_by : (ℕ → Answer) → CardRead
answered_by read = card_answered (first_of (card_rungs read)) (card_said read)

-- a number is that of the answer, and a card comes of number 0 alone
pub given : (number : ℕ) (card : Card) → read_number (card_answered number card) ≡ number
given number card = go (eqb number 0) refl
  where
    go : (t : Bool) → eqb number 0 ≡ t → read_number (if t then a_card card else no_card number) ≡ number
    go true e = sym (eqb-true number 0 e)
    go false e = refl

pub shown : (number : ℕ) (card other : Card) → card_answered number card ≡ a_card other → (number ≡ 0) × (card ≡ other)
shown number card other e =
    let none : number ≡ 0 = sym (given number card) ∙ ap read_number e in
    let is : a_card card ≡ card_answered number card = rw (eq-eqb number 0 none) in
    (none, ap shown_card (is ∙ e))

-- what a card that was read has passed
pub record Passed (read : ℕ → Answer) : Type 0 where
  pub first : (read 0x0c0).number ≡ 0
  pub second : (read 0x0c1).number ≡ 0
  pub third : (read 0x0c2).number ≡ 0
  pub fourth : (read 0x0c3).number ≡ 0
  pub fifth : (read 0x0c4).number ≡ 0
  pub mark : is_mark (read 0x0c0).value (read 0x0c1).value ≡ true
  pub version : known_version (read 0x0c2).value ≡ true
  pub line : (line_read read).number ≡ 0
  pub sizes : in_range (card_said read) ≡ true

-- a read's refusal that was passed: it was none
unrefused : (read : Answer) (others : ℕ) → (if not (eqb read.number 0) then read.number else others) ≡ 0 → (read.number ≡ 0) × (others ≡ 0)
unrefused read others = go (eqb read.number 0) refl
  where
    go : (t : Bool) → eqb read.number 0 ≡ t → (if not t then read.number else others) ≡ 0 → (read.number ≡ 0) × (others ≡ 0)
    go true none e = (eqb-true read.number 0 none, e)
    go false some e = absurd (eqb-false read.number 0 some e)

module _ (read : ℕ → Answer) where
  pub all_passed : first_of (card_rungs read) ≡ 0 → Passed read
  unfolding card_rungs
  all_passed e =
      let one = unrefused (read 0x0c0) _ e in
      let two = unrefused (read 0x0c1) _ one.1 in
      let three = unrefused (read 0x0c2) _ two.1 in
      let four = unrefused (read 0x0c3) _ three.1 in
      let five = unrefused (read 0x0c4) _ four.1 in
      let fifteen = passed (not (is_mark (read 0x0c0).value (read 0x0c1).value)) 14 _ five.1 in
      let sixteen = passed (not (known_version (read 0x0c2).value)) 15 _ fifteen.1 in
      let line = unrefused (line_read read) _ sixteen.1 in
      let seventeen = passed (not (in_range (card_said read))) 16 0 line.1 in
      record {
        first = one.0;
        second = two.0;
        third = three.0;
        fourth = four.0;
        fifth = five.0;
        mark = not-false _ fifteen.0;
        version = not-false _ sixteen.0;
        line = line.0;
        sizes = not-false _ seventeen.0;
      }

  pub none_refused_lem : Passed read → first_of (card_rungs read) ≡ 0
  unfolding card_rungs
  none_refused_lem p =
      rw (
        eq-eqb (read 0x0c0).number 0 p.first,
        eq-eqb (read 0x0c1).number 0 p.second,
        eq-eqb (read 0x0c2).number 0 p.third,
        eq-eqb (read 0x0c3).number 0 p.fourth,
        eq-eqb (read 0x0c4).number 0 p.fifth,
        p.mark,
        p.version,
        eq-eqb (line_read read).number 0 p.line,
        p.sizes,
      )

  pub card_of_lem : Passed read → answered_by read ≡ a_card (card_said read)
  card_of_lem p = rw (none_refused_lem p)
