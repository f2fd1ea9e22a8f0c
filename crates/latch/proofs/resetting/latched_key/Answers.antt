-- `latch::resetting::latched_key` meets its contract: each word is that of its row, and the key is whole if all decode.
-- Assumes nothing.
use borrow.Author.Rules.{rules}
use borrow.Author.Tests.{tests}
use mathlib.Core.List.{List}
use mathlib.Core.Path.{◌≡◌, ap, ◌∙◌}
use Prim.Native.Nat.{ℕ, ◌+◌, ◌%◌, ◌^◌}
use native.Mathlib.Nat.{mod-eq_of_lt}
use lib.Dec.{eqb}
use lib.ListN.{get_or}
use Rattle.std.specs.List.{list_all}
use Rattle.std.proofs.lemmas.Iterator.{YieldsList-from_slice}
use Rattle.std.proofs.lemmas.Iterator.Search.{all_from_yields_List}
use Rattle.answer.specs.Answers.{done}
use Rattle.answer.specs.declared.answers.Answer.{Answer}
use Rattle.decode.specs.Reading.{read_row}
use Rattle.decode.proofs.Syndromes.{read_lt}
use Rattle.permit.specs.Keys.{key_row}
use Rattle.chip.specs.Lists.{listed}
use Rattle.chip.specs.Slices.{row_at}
use Rattle.chip.proofs.Lists.{listed_at}
use Rattle.chip.proofs.Made.{made_by}
use Rattle.latch.specs.Resetting.{word_of, all_decode}
use Rattle.latch.proofs.Decoding.{all_decoded}
use Rattle.latch.proofs.resetting.latched_key.Goals as goal

pub returns : goal.returns
returns c =
    let rows = c.args.rows.now in
    let first : ℕ = key_row c.args.k in
    let rule : ℕ → Answer = λ i. read_row (row_at rows (first + i)) in
    let answers = c.from_fn-read.result in
    let read : answers ≡ listed 8 rule =
    made_by _ _ rule 8 answers done (λ i x f' h k. (search rules, search rules)) c.from_fn-read.ensures.items in
    let words : c.from_fn.result ≡ listed 8 (λ i. word_of (row_at rows (first + i))) =
    made_by _ _ (λ i. word_of (row_at rows (first + i))) 8 c.from_fn.result 0
    (λ i x f' h k.
    let word : x ≡ (get_or answers i done).value % 2 ^ 16 = search rules in
    (search rules, word ∙ ap (λ (all : List Answer). (get_or all i done).value % 2 ^ 16) read ∙ ap (λ (answer : Answer). answer.value % 2 ^ 16) (listed_at rule 8 i done h) ∙ mod-eq_of_lt (read_lt (row_at rows (first + i)))))
    c.from_fn.ensures.items in
    let whole : c.all.result ≡ list_all (λ (answer : Answer). eqb answer.number 0) answers =
    all_from_yields_List (λ (answer : Answer). eqb answer.number 0) _ _ c.all.result c.all.ensures.ran (YieldsList-from_slice answers cc) (λ x b q k. search (rules, tests)) in
    let decoded : c.all.result ≡ all_decode rows first 8 =
    whole ∙ ap (list_all (λ (answer : Answer). eqb answer.number 0)) read ∙ all_decoded rows first 8 in
    simp (words, decoded, c.voted_byte.ensures)
