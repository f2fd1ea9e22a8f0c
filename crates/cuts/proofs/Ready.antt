-- A chip just reset: what it latches stands in the rows from 0xf40 up, so slices that agree there leave states that judge alike.
-- Assumes nothing.
use mathlib.Core.Bool.{Bool, true, false}
use mathlib.Core.List.{List}
use mathlib.Core.Path.{◌≡◌, refl}
use Prim.Native.Nat.{ℕ, ◌≤◌}
use native.Mathlib.Omega.{arith}
use lib.Dec.{eqb}
use Rattle.chip.specs.Slices.{row_at}
use Rattle.chip.specs.Pages.{low_lock_row, high_lock_row}
use Rattle.chip.specs.declared.state.State.{State}
use Rattle.lock.specs.Calls.{enter_number, enter_key}
use Rattle.latch.specs.Resetting.{latched, reset_number, reset}
use Rattle.laws.proofs.Latches.{keys_by_reading, reset_state}
use Rattle.cuts.specs.Cuts.{Keyed, no_key_entered, key_entered, ready}
use Rattle.cuts.proofs.Agreement.{AgreeToWrite, SameLocks, locks_agree}

-- ---- two slices that agree from 0xf40 up

module _ (rows left : List ℕ) (same : (k : ℕ) → 0xf40 ≤ k → row_at left k ≡ row_at rows k) where
  latched_same : SameLocks (latched left) (latched rows)
  unfolding latched
  latched_same =
      let low : (page : ℕ) → row_at left (low_lock_row page) ≡ row_at rows (low_lock_row page) = λ page. same (low_lock_row page) (omega arith) in
      let high : (page : ℕ) → row_at left (high_lock_row page) ≡ row_at rows (high_lock_row page) = λ page. same (high_lock_row page) (omega arith) in
      record {
        secure = simp high;
        nonsecure = simp high;
        bootloader = simp high;
        writekey = simp low;
        readkey = simp low;
        nokey = simp low;
        keys = keys_by_reading rows left (λ k above. rw (same k (omega arith)) (refl, refl)) (λ k above. same k (omega arith));
        entered = refl;
      }

-- ---- a key entered

-- the same key entered over each
entered_same : {a b : State} (key : List ℕ) → SameLocks a b → SameLocks (enter_key a 0 key).state (enter_key b 0 key).state
unfolding enter_key
entered_same {a} {b} key s = go (eqb (enter_number 0 key) 0) refl
  where
    go : (t : Bool) → eqb (enter_number 0 key) 0 ≡ t → SameLocks (enter_key a 0 key).state (enter_key b 0 key).state
    go true e =
        rw e record {
          secure = s.secure;
          nonsecure = s.nonsecure;
          bootloader = s.bootloader;
          writekey = s.writekey;
          readkey = s.readkey;
          nokey = s.nokey;
          keys = s.keys;
          entered = refl;
        }
    go false e = rw e s

-- rows from 0xf40 up that are the same leave states that judge alike
pub ready_agree : (rows left : List ℕ) (before later : State) (key : Keyed) → reset_number rows ≡ 0 → reset_number left ≡ 0
    → ((k : ℕ) → 0xf40 ≤ k → row_at left k ≡ row_at rows k) → AgreeToWrite 0 (ready left later key) (ready rows before key)
ready_agree rows left before later key done again same = locks_agree (go key) 0
  where
    state : SameLocks (reset left later).state (reset rows before).state
    state = rw (reset_state left later again, reset_state rows before done) (latched_same rows left same)

    go : (key : Keyed) → SameLocks (ready left later key) (ready rows before key)
    go no_key_entered = state
    go (key_entered key) = entered_same key state
