-- A card read, by what its rows read as: the code's steps are the rungs of the definition, in their order, so that each answers once those
-- before it have passed.
-- Assumes nothing.
use mathlib.Core.Bool.{Bool, true, false, not}
use mathlib.Core.Path.{◌≡◌, refl, sym, ap, ◌∙◌}
use mathlib.Core.List.{List, [], ◌∷◌, ◌++◌}
use Prim.Native.Nat.{ℕ}
use native.Mathlib.Omega.{arith}
use borrow.Author.Tests.{ne_eqb, eqb-false, not-true}
use lib.Dec.{eqb}
use Rattle.std.specs.Prelude.{if◌then◌else◌}
use Rattle.answer.proofs.Numbered.{not_done}
use Rattle.answer.specs.Refusals.{refusal_number}
use Rattle.answer.specs.Rungs.{Rung, ◌when◌, first_of, or_else}
use Rattle.answer.specs.declared.answers.Answer.{Answer}
use Rattle.answer.specs.declared.refusals.Refusal.{Refusal}
use Rattle.chip.specs.declared.state.State.{State}
use Rattle.permit.specs.Permission.{may_read}
use Rattle.splash.specs.Cards.{is_mark, known_version, in_range}
use Rattle.splash.specs.Reading.{CardRead, a_card, no_card, line_row, line_read, card_said, refusal_of, card_rungs, card_answered, read_as, read_where}
use Rattle.splash.specs.declared.cards.Card.{Card}
use Rattle.splash.proofs.PageThree.{OfCard, page_three}

-- a row that reads as a value
pub record ReadsAs (read : ℕ → Answer) (row value : ℕ) : Type 0 where
  pub number : (read row).number ≡ 0
  pub value_is : (read row).value ≡ value

-- what the code reads of a row is what Non-secure reads there
module _ (rows : List ℕ) (state : State) (may : Bool) (looked : may ≡ may_read state 1 0x0c0) where
  pub refused_at_row : (row : ℕ) → OfCard row → (number : ℕ) → number ≡ (read_where rows may row).number → (read_as rows state row).number ≡ number
  refused_at_row row of number e = sym (e ∙ ap (λ (a : Answer). a.number) (page_three rows state may looked row of))

  pub reads_as : (row : ℕ) → OfCard row → (value : ℕ) → 0 ≡ (read_where rows may row).number → value ≡ (read_where rows may row).value
      → ReadsAs (read_as rows state) row value
  reads_as row of value none e = record {
    number = refused_at_row row of 0 none;
    value_is = sym (e ∙ ap (λ (a : Answer). a.value) (page_three rows state may looked row of));
  }

-- rung by rung
module _ (read : ℕ → Answer) where
  abbrev answer : CardRead
  answer = card_answered (first_of (card_rungs read)) (card_said read)

  pub first_refuses : (r : Refusal) → (read 0x0c0).number ≡ refusal_number r → no_card (refusal_number r) ≡ answer
  unfolding card_rungs
  first_refuses r e = rw (e, not_done r, not_done r)

  module _ (first : ℕ) (f : ReadsAs read 0x0c0 first) where
    pub second_refuses : (r : Refusal) → (read 0x0c1).number ≡ refusal_number r → no_card (refusal_number r) ≡ answer
    unfolding card_rungs
    second_refuses r e = rw (f.number, e, not_done r, not_done r)

    module _ (second : ℕ) (s : ReadsAs read 0x0c1 second) where
      pub version_refuses : (r : Refusal) → (read 0x0c2).number ≡ refusal_number r → no_card (refusal_number r) ≡ answer
      unfolding card_rungs
      version_refuses r e = rw (f.number, s.number, e, not_done r, not_done r)

      module _ (version : ℕ) (v : ReadsAs read 0x0c2 version) where
        pub width_refuses : (r : Refusal) → (read 0x0c3).number ≡ refusal_number r → no_card (refusal_number r) ≡ answer
        unfolding card_rungs
        width_refuses r e = rw (f.number, s.number, v.number, e, not_done r, not_done r)

        module _ (width : ℕ) (w : ReadsAs read 0x0c3 width) where
          pub height_refuses : (r : Refusal) → (read 0x0c4).number ≡ refusal_number r → no_card (refusal_number r) ≡ answer
          unfolding card_rungs
          height_refuses r e = rw (f.number, s.number, v.number, w.number, e, not_done r, not_done r)

          module _ (height : ℕ) (h : ReadsAs read 0x0c4 height) where
            pub mark_refuses : is_mark first second ≡ false → no_card 15 ≡ answer
            unfolding card_rungs
            mark_refuses other = rw (f.number, s.number, v.number, w.number, h.number, f.value_is, s.value_is, other)

            module _ (mark : is_mark first second ≡ true) where
              pub unknown_refuses : known_version version ≡ false → no_card 16 ≡ answer
              unfolding card_rungs
              unknown_refuses other = rw (f.number, s.number, v.number, w.number, h.number, f.value_is, s.value_is, mark, v.value_is, other)

              module _ (known : known_version version ≡ true) where
                line_at : line_read read ≡ read (line_row version)
                line_at = ap (λ (n : ℕ). read (line_row n)) v.value_is

                pub line_refuses : (r : Refusal) → (read (line_row version)).number ≡ refusal_number r → no_card (refusal_number r) ≡ answer
                unfolding card_rungs
                line_refuses r e =
                    rw (f.number, s.number, v.number, w.number, h.number, f.value_is, s.value_is, mark, v.value_is, known, line_at, e, not_done r, not_done r)

                module _ (line : ℕ) (l : ReadsAs read (line_row version) line) where
                  abbrev card : Card
                  card = record { version = version; width = width; height = height; line = line }

                  pub size_refuses : in_range card ≡ false → no_card 17 ≡ answer
                  unfolding card_rungs
                  size_refuses out =
                      rw (f.number, s.number, v.number, w.number, h.number, f.value_is, s.value_is, mark, v.value_is, known, line_at, l.number, w.value_is, h.value_is, l.value_is, out)

                  pub card_answers : in_range card ≡ true → a_card card ≡ answer
                  unfolding card_rungs
                  card_answers fits =
                      rw (f.number, s.number, v.number, w.number, h.number, f.value_is, s.value_is, mark, v.value_is, known, line_at, l.number, w.value_is, h.value_is, l.value_is, fits)

-- ---- the rungs in two steps, whatever a row reads as: the first five rows with the mark and the version, and then the line's row and the sizes

-- no rung that holds gives 0
unfoldable honest : List Rung → Type 0
honest [] = Unit
honest (rung ∷ others) = (rung.test ≡ true → rung.number ≡ 0 → ⊥) × honest others

-- so where the first rungs give 0 the next ones answer
then_rungs : (first next : List Rung) → honest first → first_of (first ++ next) ≡ or_else (first_of first) (first_of next)
unfolding honest
then_rungs [] next h = refl
then_rungs (rung ∷ others) next h = go rung.test refl (then_rungs others next h.1)
  where
    go : (t : Bool) → rung.test ≡ t → first_of (others ++ next) ≡ or_else (first_of others) (first_of next)
        → (if t then rung.number else first_of (others ++ next)) ≡ or_else (if t then rung.number else first_of others) (first_of next)
    go true e rest = rw (ne_eqb rung.number 0 (h.0 e))
    go false e rest = rest

-- a read's refusal is such a rung
refusing : (read : Answer) → not (eqb read.number 0) ≡ true → read.number ≡ 0 → ⊥
refusing read t = eqb-false read.number 0 (not-true (eqb read.number 0) t)

module _ (read : ℕ → Answer) where
  abbrev first_rungs : List Rung
  first_rungs =
      refusal_of (read 0x0c0) ∷ refusal_of (read 0x0c1) ∷ refusal_of (read 0x0c2) ∷ refusal_of (read 0x0c3) ∷ refusal_of (read 0x0c4)
      ∷ 15 when not (is_mark (read 0x0c0).value (read 0x0c1).value) ∷ 16 when not (known_version (read 0x0c2).value) ∷ []

  -- what the first five rows give
  abbrev pub head : ℕ
  head = first_of first_rungs

  -- and then the line's row and the sizes
  abbrev pub rest : ℕ
  rest = first_of (refusal_of (line_read read) ∷ 17 when not (in_range (card_said read)) ∷ [])

  pub two_steps : first_of (card_rungs read) ≡ or_else head rest
  unfolding card_rungs honest
  two_steps =
      then_rungs first_rungs (refusal_of (line_read read) ∷ 17 when not (in_range (card_said read)) ∷ [])
      (refusing (read 0x0c0), (refusing (read 0x0c1), (refusing (read 0x0c2), (refusing (read 0x0c3), (refusing (read 0x0c4), ((λ t e. omega arith), ((λ t e. omega arith), tt)))))))
