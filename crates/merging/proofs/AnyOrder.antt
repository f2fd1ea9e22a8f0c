-- Lists of advance calls: the chip that they leave goes by which calls they are, and neither by their order nor by how often each is made.
-- Assumes nothing.
use mathlib.Core.List.{List, [], ◌∷◌}
use mathlib.Core.Logic.{inl, inr}
use mathlib.Core.Path.{◌≡◌, refl, sym, ap, ◌∙◌}
use Rattle.laws.specs.Calls.{Chip, Call, perform_all}
use Rattle.merging.specs.Settings.{◌among◌, Advances, InAnyOrder}
use Rattle.merging.proofs.Raising.{after, either_first, call_twice}

-- every call of a list advances a lock
abbrev pub AllAdvance : List Call → Type 0
AllAdvance calls = (call : Call) → call among calls → Advances call

module _ (first : Call) (others : List Call) (all : AllAdvance (first ∷ others)) where
  head_advances : Advances first
  unfolding ◌among◌
  head_advances = all first (inl refl)

  rest_advance : AllAdvance others
  unfolding ◌among◌
  rest_advance call h = all call (inr h)

-- a call may be made before others or after them
pub before_or_after : (chip : Chip) {call : Call} (calls : List Call) → Advances call → AllAdvance calls
    → perform_all (after chip call) calls ≡ after (perform_all chip calls) call
unfolding perform_all
before_or_after chip [] advances all = refl
before_or_after chip {call} (first ∷ others) advances all =
    ap (λ (c : Chip). perform_all c others) (either_first chip advances (head_advances first others all))
    ∙ before_or_after (after chip first) others advances (rest_advance first others all)

-- so may a list of calls
either_list_first : (chip : Chip) (calls others : List Call) → AllAdvance calls → AllAdvance others
    → perform_all (perform_all chip calls) others ≡ perform_all (perform_all chip others) calls
unfolding perform_all
either_list_first chip [] others all all' = refl
either_list_first chip (first ∷ rest) others all all' =
    either_list_first (after chip first) rest others (rest_advance first rest all) all'
    ∙ ap (λ (c : Chip). perform_all c rest) (before_or_after chip others (head_advances first rest all) all')

-- a call that is one of those to come adds nothing
pub adds_nothing : (chip : Chip) {call : Call} (calls : List Call) → Advances call → AllAdvance calls → call among calls
    → perform_all (after chip call) calls ≡ perform_all chip calls
unfolding perform_all ◌among◌
adds_nothing chip [] advances all none = absurd none
adds_nothing chip {call} (first ∷ others) advances all (inl same) =
    ap (λ (c : Chip). perform_all c others) (ap (λ (one : Call). after (after chip one) first) same ∙ call_twice chip (head_advances first others all))
adds_nothing chip {call} (first ∷ others) advances all (inr later) =
    ap (λ (c : Chip). perform_all c others) (either_first chip advances (head_advances first others all))
    ∙ adds_nothing (after chip first) others advances (rest_advance first others all) later

-- nor do any number of them
all_add_nothing : (chip : Chip) (calls others : List Call) → AllAdvance calls → AllAdvance others
    → ((call : Call) → call among calls → call among others) → perform_all (perform_all chip calls) others ≡ perform_all chip others
unfolding perform_all ◌among◌
all_add_nothing chip [] others all all' within = refl
all_add_nothing chip (first ∷ rest) others all all' within =
    all_add_nothing (after chip first) rest others (rest_advance first rest all) all' (λ call h. within call (inr h))
    ∙ adds_nothing chip others (head_advances first rest all) all' (within first (inl refl))

pub in_any_order : InAnyOrder
in_any_order chip calls others all same =
    let all' : AllAdvance others = λ call h. all call ((same call).1 h) in
    sym (all_add_nothing chip others calls all' all (λ call. (same call).1))
    ∙ either_list_first chip others calls all' all
    ∙ all_add_nothing chip calls others all all' (λ call. (same call).0)
