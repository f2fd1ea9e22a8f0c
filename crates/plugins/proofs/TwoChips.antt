-- Two chips, written out: they agree on what Non-secure may know, and differ in all that may differ.
-- Assumes nothing.
use mathlib.Core.Bool.{Bool, true, false, not, ◌&&◌, and-false, true≢false}
use mathlib.Core.List.{List, []}
use mathlib.Core.Path.{◌≡◌, refl, sym, ap, ◌∙◌}
use Prim.Native.Nat.{ℕ, zero, suc, ◌-◌}
use native.Mathlib.Omega.{arith}
use borrow.Author.Tests.{eqb-true, eqb-false}
use lib.Dec.{eqb, leb}
use lib.ListN.{get_or, replicate, set}
use lib.Seq.{get_or-set_other}
use Rattle.permit.specs.Keys.{no_key, matches, key_level, hidden}
use Rattle.chip.specs.Lists.{same}
use Rattle.chip.specs.Pages.{key_page}
use Rattle.permit.specs.Permission.{may_read}
use Rattle.chip.specs.Slices.{row_at}
use Rattle.chip.specs.States.{counted_index, zero_key}
use Rattle.chip.specs.declared.state.Key.{Key}
use Rattle.chip.specs.declared.state.State.{State}
use Rattle.plugins.specs.Plugins.{knows, written, one_chip, other_chip, keyed, TheyAgree, RowsDiffer, StatesDiffer}

abbrev one : State
one = one_chip.state

abbrev other : State
other = other_chip.state

-- ---- keys

abbrev none : Key
none = record { words = []; valid = false; whole = false }

-- only the first is valid
invalid : (flag : Bool) (i : ℕ) → (get_or (keyed 0 flag 0).keys (suc i) none).valid ≡ false
invalid flag zero = refl
invalid flag (suc i) = go 4 i
  where
    go : (n i : ℕ) → (get_or (replicate n zero_key) i none).valid ≡ false
    go zero i = refl
    go (suc n) zero = refl
    go (suc n) (suc i) = go n i

same_flags : (i : ℕ) → (get_or one.keys i none).valid ≡ (get_or other.keys i none).valid
same_flags zero = refl
same_flags (suc i) = invalid false i ∙ sym (invalid true i)

same_match : (index : ℕ) → matches one index ≡ matches other index
unfolding matches same
same_match index = go (leb 1 index && leb index 6) (index - 1)
  where
    match_at : Bool → State → ℕ → Bool
    match_at there state i =
        there && (get_or state.keys i none).valid && (get_or state.keys i none).whole && same (get_or state.keys i none).words state.entered
        && not (same state.entered no_key)

    go : (there : Bool) (i : ℕ) → match_at there one i ≡ match_at there other i
    go there zero = refl
    go there (suc i) = rw (invalid false i, invalid true i, and-false there)

-- page 3's no-key state does not count, since its write key matches on both
same_key_level : (page : ℕ) → key_level one page ≡ key_level other page
unfolding key_level matches same
same_key_level page = go (eqb page 3) refl
  where
    go : (t : Bool) → eqb page 3 ≡ t → key_level one page ≡ key_level other page
    go true e = rw (eqb-true page 3 e)
    go false e =
        rw (get_or-set_other (replicate 64 false) 3 page false false (eqb-false page 3 e), get_or-set_other (replicate 64 false) 3 page true false (eqb-false page 3 e), same_match (counted_index one.writekey page), same_match (counted_index one.readkey page))

-- ---- rows

abbrev blank_rows : List ℕ
blank_rows = replicate 4096 0

-- a row that Non-secure may know is none of those that it may not
not_known : (row unknown : ℕ) → knows one unknown ≡ false → knows one row ≡ true → row ≡ unknown → ⊥
not_known row unknown hides knows-row is = true≢false (sym knows-row ∙ ap (knows one) is ∙ hides)

blank : (locked next secret row : ℕ) → knows one row ≡ true → row_at (written locked next secret) row ≡ row_at blank_rows row
unfolding may_read hidden key_level matches same
blank locked next secret row known =
    get_or-set_other (set (set blank_rows 0x080 locked) 0x081 next) 0xf48 row secret 0 (not_known row 0xf48 refl known)
    ∙ get_or-set_other (set blank_rows 0x080 locked) 0x081 row next 0 (not_known row 0x081 refl known)
    ∙ get_or-set_other blank_rows 0x080 row locked 0 (not_known row 0x080 refl known)

pub they_agree : TheyAgree
they_agree = record {
  lengths = refl;
  levels = λ domain page. refl;
  write_keys = λ page. refl;
  read_keys = λ page. refl;
  flags = λ k. same_flags (k - 1);
  key_levels = λ row. same_key_level (key_page row);
  entries = λ row low known. blank _ _ _ row known ∙ sym (blank _ _ _ row known);
}

pub rows_differ : RowsDiffer
unfolding may_read hidden key_level matches same
rows_differ = (refl, λ e. omega (arith, e), refl, refl, refl, λ e. omega (arith, e))

pub states_differ : StatesDiffer
states_differ = (
  λ e. omega (arith, ap (λ (words : List ℕ). get_or words 0 0) e),
  λ e. true≢false (sym e),
  λ e. true≢false (sym (ap (λ (states : List Bool). get_or states 3 false) e)),
  λ e. omega (arith, ap (λ (words : List ℕ). get_or words 0 0) e),
  λ e. omega (arith, ap (λ (tallies : List ℕ). get_or tallies 2 0) e),
)
