-- The job of a card that was written: its head and its entries are read back.
-- Assumes nothing.
use mathlib.Core.Bool.{Bool, true, false, not, ◌||◌}
use mathlib.Core.List.{List, [], ◌∷◌}
use mathlib.Core.Path.{◌≡◌, refl, sym, ap, subst, ◌∙◌}
use Prim.Native.Nat.{ℕ, ◌+◌, ◌*◌, ◌≤◌}
use native.Mathlib.Omega.{arith}
use borrow.Author.Tests.{eqb-true, ltb-false, not-false}
use lib.Dec.{eqb, ltb}
use lib.ListN.{length, take}
use lib.Seq.{length-take-le}
use Rattle.answer.specs.Answers.{told}
use Rattle.std.specs.Prelude.{if◌then◌else◌}
use Rattle.answer.proofs.Ladders.{passed}
use Rattle.form.specs.Entries.{version_of, entries_of}
use Rattle.form.specs.Writing.{with_job}
use Rattle.form.proofs.WholeJob.{AllFit, job_head, job_entries, job_front}
use Rattle.splash.specs.Cards.{known_version, in_range}
use Rattle.splash.specs.Writing.{Written, ecc_entry, card_bytes, card_entries, write_number, written_as, write_card}
use Rattle.splash.specs.declared.cards.Card.{Card}
use Rattle.splash.proofs.Leaving.{write_done}
use Rattle.cuts.specs.Cuts.{Bytes}
use Rattle.pieces.proofs.Ends.{front_bytes}
use Rattle.made.proofs.Bytes.{job_bytes_lem}
use Rattle.carded.specs.RoundTrip.{Writes, CardJob}
use Rattle.carded.specs.Sizes.{InRange}
use Rattle.carded.proofs.Refusals.{write_gives, card_bytes_lem}
use Rattle.carded.proofs.Sizes.{in_range_lem}

-- what a card that was written has passed
pub record Fit (card : Card) (bytes : ℕ) : Type 0 where
  pub known : known_version card.version ≡ true
  pub sizes : in_range card ≡ true
  pub room : card_bytes card ≤ bytes

pub fit : (card : Card) (room : ℕ) → write_number card room ≡ 0 → Fit card room
fit card room e =
    let sixteen = passed (not (known_version card.version)) 15 _ e in
    let seventeen = passed (not (in_range card)) 16 _ sixteen.1 in
    let twelve = passed (ltb room (card_bytes card)) 11 0 seventeen.1 in
    record { known = not-false _ sixteen.0; sizes = not-false _ seventeen.0; room = ltb-false room (card_bytes card) twelve.0 }

-- a known version is 1 or 2
pub version_low : (version : ℕ) → known_version version ≡ true → version ≤ 2
version_low version e = go (eqb version 1) refl
  where
    go : (t : Bool) → eqb version 1 ≡ t → version ≤ 2
    go true one = let v : version ≡ 1 = eqb-true version 1 one in omega arith
    go false other = let v : version ≡ 2 = eqb-true version 2 (sym (ap (λ (t : Bool). t || eqb version 2) other) ∙ e) in omega arith

-- a card's job is short
bytes_low : (card : Card) → card_bytes card ≤ 43
bytes_low card = go (eqb card.version 2)
  where
    go : (t : Bool) → (if t then 43 else 37) ≤ 43
    go true = omega arith
    go false = omega arith

-- each number of an entry fits its place
all_fit : (card : Card) → card.version ≤ 2 → InRange card.width card.height card.line → AllFit (card_entries card)
unfolding card_entries AllFit
all_fit card v r = (
  (omega arith, omega arith, omega arith),
  (
    (omega arith, omega arith, omega arith),
    (
      (omega arith, omega arith, omega (arith, v)),
      ((omega arith, omega arith, omega (arith, r.1)), ((omega arith, omega arith, omega (arith, r.3)), last (eqb card.version 2))),
    ),
  ),
)
  where
    last : (t : Bool) → AllFit (if t then ecc_entry 0x0c5 card.line ∷ [] else [])
    last true = ((omega arith, omega arith, omega (arith, r.5)), tt)
    last false = tt

module _ (area : List ℕ) (version width height line : ℕ) (card : Card) (job : List ℕ) (w : Writes area version width height line card job) where
  none : write_number card (length area) ≡ 0
  none = ap (λ (c : Card). write_number c (length area)) w.of ∙ sym (write_gives area version width height line) ∙ w.done

  pub fits_card : Fit card (length area)
  fits_card = fit card (length area) none

  abbrev front : List ℕ
  front = take (card_bytes card) area

  -- the job is put into the front of the area
  pub is_put : job ≡ with_job front 1 (card_entries card)
  unfolding write_card
  is_put =
      let left : write_card area version width height line ≡ record { answer = told (card_bytes card); area = with_job area 1 (card_entries card) } =
      ap (written_as area) (sym w.of) ∙ write_done area card none in
      w.bytes ∙ ap (λ (l : Written). take l.answer.value l.area) left ∙ job_front (card_bytes card) area 1 (card_entries card)

  long : length front ≡ 7 + 6 * length (card_entries card)
  long = length-take-le (card_bytes card) area fits_card.room ∙ card_bytes_lem card

  few : length (card_entries card) ≤ 65535
  few = omega (arith, card_bytes_lem card, bytes_low card)

  pub its_version : version_of job ≡ 1
  its_version = ap version_of is_put ∙ (job_head front 1 (card_entries card) (omega arith) few (omega (arith, long))).1

  pub its_entries : entries_of job ≡ card_entries card
  its_entries =
      ap entries_of is_put
      ∙ job_entries front 1 (card_entries card) (omega arith) few (omega (arith, long))
      (all_fit card (version_low card.version fits_card.known) (in_range_lem card fits_card.sizes))

  pub its_bytes : Bytes job
  its_bytes = subst Bytes (sym is_put) (job_bytes_lem (card_entries card) front 1 (front_bytes area (card_bytes card) w.lent))

pub card_job : CardJob
card_job area version width height line card job w =
    (its_version area version width height line card job w, its_entries area version width height line card job w)
