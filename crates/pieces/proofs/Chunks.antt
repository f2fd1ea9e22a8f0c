-- What a chunk answers and leaves.
-- Assumes nothing.
use mathlib.Core.Path.{◌≡◌, refl, sym, ap, subst, ◌∙◌}
use mathlib.Core.Bool.{Bool, true, false}
use mathlib.Core.List.{List}
use mathlib.Core.Logic.{◌⊎◌, inl, inr, ⊎_elim}
use Prim.Native.Nat.{ℕ, ◌+◌, ◌-◌, ◌≤◌, ◌<◌, min}
use native.Mathlib.Omega.{arith}
use borrow.Author.Tests.{le-ltb, ltb-true, ltb-false}
use lib.Dec.{ltb}
use lib.ListN.{length, length-take, take}
use lib.Seq.{get_or-take}
use Rattle.answer.proofs.Ladders.{never_zero}
use Rattle.answer.specs.declared.answers.Condition.TheVariants.{Clean}
use Rattle.answer.specs.declared.answers.Polarity.TheVariants.{Plain}
use Rattle.form.specs.Entries.{byte_at}
use Rattle.form.specs.Faults.{fault_number, Fault}
use Rattle.form.proofs.Faulty.{one_of}
use Rattle.form.proofs.Putting.{length_stays, before_stays, after_stays, put_stands}
use Rattle.lead.specs.Early.{early_fault}
use Rattle.lead.specs.Notes.{no_room, start_of, stored}
use Rattle.lead.specs.Taking.{Took, take_number, take_chunk}
use Rattle.lead.proofs.Takes.{refused, taken}
use Rattle.pieces.specs.Chunks.{ChunkNumber, ChunkRefusalKeeps, ChunkSays, Brings, ChunkLeaves, ChunkNoRoom}

pub chunk_number : ChunkNumber
chunk_number area note chunk = go (no_room area) refl
  where
    go : (t : Bool) → no_room area ≡ t
        → ((take_chunk area note chunk).taken.answer.number ≡ take_number area)
        × ((take_number area ≡ 12 → length area < 3079) × (length area < 3079 → take_number area ≡ 12))
        × ((take_number area ≡ 0 → 3079 ≤ length area) × (3079 ≤ length area → take_number area ≡ 0))
    go true short =
        let below = ltb-true (length area) 3079 short in (
          ap (λ (t : Took). t.taken.answer.number) (refused area note chunk short) ∙ rw short,
          (λ e. below, λ h. rw short),
          (λ none. absurd (never_zero 11 (rw short at none)), λ room. absurd (omega (arith, below, room))),
        )
    go false room =
        let enough = ltb-false (length area) 3079 room in (
          ap (λ (t : Took). t.taken.answer.number) (taken area note chunk room) ∙ rw room,
          (λ twelve. absurd (never_zero 11 (sym (rw room at twelve))), λ below. absurd (omega (arith, below, enough))),
          (λ none. enough, λ h. rw room),
        )

pub chunk_refusal_keeps : ChunkRefusalKeeps
chunk_refusal_keeps area note chunk some = go (no_room area) refl
  where
    Keeps : Took → Type 0
    Keeps t =
        (t.taken.answer.value ≡ 0) × (t.taken.answer.condition ≡ Clean) × (t.taken.answer.polarity ≡ Plain) × (t.taken.answer.place ≡ 0)
        × (t.taken.answer.pulses ≡ 0) × (t.taken.note ≡ note) × (t.area ≡ area)

    go : (t : Bool) → no_room area ≡ t → Keeps (take_chunk area note chunk)
    go true short = subst Keeps (sym (refused area note chunk short)) (refl, refl, refl, refl, refl, refl, refl)
    go false room = absurd (some (ap (λ (t : Took). t.taken.answer.number) (taken area note chunk room)))

pub chunk_says : ChunkSays
chunk_says area note chunk room = subst Says (sym (taken area note chunk (le-ltb (length area) 3079 room))) (word, refl, refl, refl, refl)
  where
    Says : Took → Type 0
    Says t =
        ((t.taken.answer.value ≡ 0) ⊎ ((t.taken.answer.value ≡ 10) ⊎ (t.taken.answer.value ≡ 11)))
        × (t.taken.answer.condition ≡ Clean) × (t.taken.answer.polarity ≡ Plain) × (t.taken.answer.place ≡ 0) × (t.taken.answer.pulses ≡ 0)

    fault : Fault
    fault = early_fault (stored area note chunk) note chunk

    word : (fault_number fault ≡ 0) ⊎ ((fault_number fault ≡ 10) ⊎ (fault_number fault ≡ 11))
    word = ⊎_elim (λ sound. inl (ap fault_number sound)) inr (one_of fault)

pub chunk_leaves : ChunkLeaves
chunk_leaves area note chunk room = subst Leaves (sym (ap (λ (t : Took). t.area) (taken area note chunk (le-ltb (length area) 3079 room)))) (long, brought, others)
  where
    at : ℕ
    at = start_of note

    bytes : List ℕ
    bytes = take (3079 - at) chunk

    count : length bytes ≡ min (3079 - at) (length chunk)
    count = length-take (3079 - at) chunk

    Leaves : List ℕ → Type 0
    Leaves left =
        (length left ≡ length area) × ((i : ℕ) → Brings note chunk i → byte_at left (at + i) ≡ byte_at chunk i)
        × ((place : ℕ) → ((i : ℕ) → Brings note chunk i → place ≡ at + i → ⊥) → byte_at left place ≡ byte_at area place)

    long : length (stored area note chunk) ≡ length area
    long = length_stays area at bytes

    brought : (i : ℕ) → Brings note chunk i → byte_at (stored area note chunk) (at + i) ≡ byte_at chunk i
    brought i brings =
        put_stands area at bytes i (at + i) refl (omega (arith, count, brings.0, brings.1)) (omega (arith, count, room, brings.1))
        ∙ get_or-take (3079 - at) chunk i 0 (omega (arith, brings.1))

    others : (place : ℕ) → ((i : ℕ) → Brings note chunk i → place ≡ at + i → ⊥) → byte_at (stored area note chunk) place ≡ byte_at area place
    others place apart = go (ltb place at) refl (ltb place (at + length bytes)) refl
      where
        go : (t : Bool) → ltb place at ≡ t → (u : Bool) → ltb place (at + length bytes) ≡ u → byte_at (stored area note chunk) place ≡ byte_at area place
        go true before u inside = before_stays area at bytes place (ltb-true place at before)
        go false later false outside = after_stays area at bytes place (ltb-false place (at + length bytes) outside)
        go false later true inside =
            let from = ltb-false place at later in
            let to = ltb-true place (at + length bytes) inside in
            absurd (apart (place - at) (omega (arith, count, from, to), omega (arith, count, from, to)) (omega (arith, from)))

pub chunk_no_room : ChunkNoRoom
chunk_no_room area note chunk a b left left' one other = (one.0 ∙ sym other.0, one.1 ∙ sym other.1)
