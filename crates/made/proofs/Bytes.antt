-- A job's bytes are bytes: those of a slice into which a head and entries are put.
-- Assumes nothing.
use mathlib.Core.Bool.{Bool, true, false}
use mathlib.Core.List.{List, [], ◌∷◌}
use mathlib.Core.Path.{◌≡◌, refl, sym, subst}
use Prim.Native.Nat.{ℕ, ◌+◌, ◌*◌, ◌<◌}
use native.Mathlib.Omega.{arith}
use borrow.Author.Tests.{eqb-true, eqb-false, ltb-true, ltb-false}
use lib.Dec.{eqb, ltb}
use lib.ListN.{length, get_or, set}
use lib.Seq.{get_or-set_same, get_or-set_other, set_out}
use Rattle.form.specs.Writing.{head_bytes, entry_bytes, with_bytes, with_head, with_entry, with_entries, with_job}
use Rattle.form.specs.declared.entries.Entry.{Entry}
use Rattle.cuts.specs.Cuts.{Bytes}

-- one byte put
set_bytes : (job : List ℕ) (at byte : ℕ) → Bytes job → byte < 256 → Bytes (set job at byte)
set_bytes job at byte bytes small place = go (eqb place at) (ltb at (length job)) refl refl
  where
    go : (here inside : Bool) → eqb place at ≡ here → ltb at (length job) ≡ inside → get_or (set job at byte) place 0 < 256
    go false inside other e = rw (get_or-set_other job at place byte 0 (eqb-false place at other)) (bytes place)
    go true false here past = rw (set_out job at byte (ltb-false at (length job) past)) (bytes place)
    go true true here inside =
        subst (λ (p : ℕ). get_or (set job at byte) p 0 < 256) (sym (eqb-true place at here))
        (rw (get_or-set_same job at byte 0 (ltb-true at (length job) inside)) small)

-- each number of a list is a byte
AllBytes : List ℕ → Type 0
AllBytes [] = Unit {0}
AllBytes (byte ∷ others) = (byte < 256) × AllBytes others

put_bytes : (bytes job : List ℕ) (at : ℕ) → Bytes job → AllBytes bytes → Bytes (with_bytes job at bytes)
unfolding with_bytes AllBytes
put_bytes [] job at are small = are
put_bytes (byte ∷ others) job at are small = put_bytes others (set job at byte) (at + 1) (set_bytes job at byte are small.0) small.1

entries_bytes : (entries : List Entry) (job : List ℕ) (i : ℕ) → Bytes job → Bytes (with_entries job i entries)
unfolding with_entries AllBytes
entries_bytes [] job i are = are
entries_bytes (e ∷ others) job i are =
    entries_bytes others (with_entry job i e) (i + 1)
    (put_bytes (entry_bytes e) job (7 + 6 * i) are (omega arith, (omega arith, (omega arith, (omega arith, (omega arith, (omega arith, tt)))))))

-- a head and entries
pub job_bytes_lem : (entries : List Entry) (job : List ℕ) (version : ℕ) → Bytes job → Bytes (with_job job version entries)
unfolding AllBytes
job_bytes_lem entries job version are =
    entries_bytes entries (with_head job version (length entries)) 0
    (put_bytes (head_bytes version (length entries)) job 0 are
    (omega arith, (omega arith, (omega arith, (omega arith, (omega arith, (omega arith, (omega arith, tt))))))))
