-- Rows that share permission: who may write one may write the other. Of data rows one page says which do.
-- Assumes nothing.
use mathlib.Core.Bool.{Bool, true, false, ◌&&◌, and-eq-true_iff}
use mathlib.Core.Path.{◌≡◌, refl}
use Prim.Native.Nat.{ℕ, ◌/◌, ◌<◌}
use native.Mathlib.Omega.{arith}
use borrow.Author.Tests.{eqb-true, le-ltb, lt-leb}
use lib.Dec.{eqb}
use Rattle.chip.specs.Pages.{owner, key_page}
use Rattle.permit.specs.Permission.{may_write, share_permission}
use Rattle.chip.specs.declared.state.State.{State}

pub share_write : (state : State) (caller a b : ℕ) → share_permission a b ≡ true → may_write state caller a ≡ may_write state caller b
unfolding may_write
share_write state caller a b e =
    let both = (and-eq-true_iff (eqb (owner a) (owner b)) (eqb (key_page a) (key_page b))).0 e in
    let levels : owner a ≡ owner b = eqb-true (owner a) (owner b) both.0 in
    let keys : key_page a ≡ key_page b = eqb-true (key_page a) (key_page b) both.1 in
    simp (levels, keys)

and_same : (t : Bool) → (t && t) ≡ t
and_same true = refl
and_same false = refl

pub share_data : (a b : ℕ) → a < 0xf80 → b < 0xf80 → share_permission a b ≡ eqb (a / 64) (b / 64)
share_data a b low-a low-b =
    rw (le-ltb 4095 a (omega (arith, low-a)), le-ltb 4095 b (omega (arith, low-b)), lt-leb 0xf80 a low-a, lt-leb 0xf80 b low-b)
    (and_same (eqb (a / 64) (b / 64)))
