-- `latch::resetting::latched` meets its contract, part by part.
-- Assumes nothing.
use borrow.Author.Rules.{rules}
use mathlib.Core.Bool.{false}
use mathlib.Core.Path.{◌≡◌}
use Prim.Native.Nat.{ℕ}
use Rattle.chip.specs.Lists.{listed}
use Rattle.chip.proofs.Made.{made_by}
use Rattle.latch.specs.declared.resetting.LockWord.{LockWord}
use Rattle.latch.specs.Resetting.{lock_word_of, latched}
use Rattle.latch.proofs.resetting.latched.Goals as goal

pub returns : goal.returns
unfolding latched
returns c =
    let word : ℕ → LockWord = lock_word_of c.args.rows.now in
    let secure : c.from_fn.result ≡ listed 64 (λ page. (word page).secure) =
    made_by _ _ (λ page. (word page).secure) 64 c.from_fn.result 0 (λ page x f' h k. (search rules, search rules)) c.from_fn.ensures.items in
    let nonsecure : c.from_fn-2.result ≡ listed 64 (λ page. (word page).nonsecure) =
    made_by _ _ (λ page. (word page).nonsecure) 64 c.from_fn-2.result 0 (λ page x f' h k. (search rules, search rules)) c.from_fn-2.ensures.items in
    let bootloader : c.from_fn-3.result ≡ listed 64 (λ page. (word page).bootloader) =
    made_by _ _ (λ page. (word page).bootloader) 64 c.from_fn-3.result 0 (λ page x f' h k. (search rules, search rules)) c.from_fn-3.ensures.items in
    let writekey : c.from_fn-4.result ≡ listed 64 (λ page. (word page).writekey) =
    made_by _ _ (λ page. (word page).writekey) 64 c.from_fn-4.result 0 (λ page x f' h k. (search rules, search rules)) c.from_fn-4.ensures.items in
    let readkey : c.from_fn-5.result ≡ listed 64 (λ page. (word page).readkey) =
    made_by _ _ (λ page. (word page).readkey) 64 c.from_fn-5.result 0 (λ page x f' h k. (search rules, search rules)) c.from_fn-5.ensures.items in
    let nokey : c.from_fn-6.result ≡ listed 64 (λ page. (word page).nokey) =
    made_by _ _ (λ page. (word page).nokey) 64 c.from_fn-6.result false (λ page x f' h k. (search rules, search rules)) c.from_fn-6.ensures.items in
    simp (secure, nonsecure, bootloader, writekey, readkey, nokey, c.six_keys.ensures, c.tallies_of.ensures)
