-- A view that can be taken back is one to one: it tells apart what differs.
-- Assumes nothing.
use mathlib.Core.Path.{◌≡◌, sym, ap, ◌∙◌}

module _ {A B : Type 0} (view : A → B) (back : B → A) (same : (a : A) → back (view a) ≡ a) where
  pub told_apart : (a b : A) → view a ≡ view b → a ≡ b
  told_apart a b e = sym (same a) ∙ ap back e ∙ same b
