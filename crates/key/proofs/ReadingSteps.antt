-- What a reading is, by what can be taken at an offset, and that the number of steps does not matter.
use Rattle.std.specs.Prelude.{Ok}
use Prim.Native.Nat.{ℕ, zero, suc, ◌+◌, ◌≤◌, ◌<◌}
use mathlib.Core.List.{List}
use mathlib.Core.Path.{◌≡◌, refl, sym, ap, ◌∙◌}
use native.Mathlib.Omega.{arith}
use lib.ListN.{length}
use Rattle.refusal.specs.Outcome.{Outcome, given, refused}
use Rattle.records.specs.Kinds.{record_of}
use Rattle.records.specs.Take.{Found, taken_outcome, taken_at}
use Rattle.records.specs.declared.Record.{Record}
use Rattle.records.proofs.Answers.{record-back}
use Rattle.records.proofs.TakeCases.{given-onward}
use Rattle.key.specs.Reading.{Reading, stopped, located, behind, read_at, read_from}

module _ (steps : ℕ) (key : List ℕ) (at : ℕ) where
  pub read-record : (item : Record) (next : ℕ) → taken_at key at ≡ taken_outcome (Ok (item, next)) →
      read_from (suc steps) key at ≡ located (record { item = item; at = at; next = next }) (behind item (read_from steps key next))
  unfolding read_from read_at
  read-record item next e =
      ap (λ (t : Outcome Found). read_at at t (read_from steps key)) e
      ∙ ap (λ (r : Record). located (record { item = r; at = at; next = next }) (behind r (read_from steps key next))) (record-back item)

  pub read-stopped : (number place : ℕ) → taken_at key at ≡ refused number place → read_from (suc steps) key at ≡ stopped number place
  unfolding read_from read_at
  read-stopped number place e = ap (λ (t : Outcome Found). read_at at t (read_from steps key)) e

-- any number of steps that reaches the key's end reads the same
pub steps-enough : (m n : ℕ) (key : List ℕ) (at : ℕ) → at ≤ length key → length key < at + m → length key < at + n →
    read_from m key at ≡ read_from n key at
unfolding read_from read_at
steps-enough zero n key at l a b = absurd (omega arith)
steps-enough (suc m) zero key at l a b = absurd (omega arith)
steps-enough (suc m) (suc n) key at l a b =
    go (taken_at key at) refl (λ next c d. steps-enough m n key next d (omega arith) (omega arith))
  where
    go : (t : Outcome Found) → taken_at key at ≡ t →
        ((next : ℕ) → at < next → next ≤ length key → read_from m key next ≡ read_from n key next) →
        read_at at (taken_at key at) (read_from m key) ≡ read_at at (taken_at key at) (read_from n key)
    go (refused number place) e same = rw e
    go (given found) e same =
        let o = given-onward key at found e in
        ap (λ (t : Outcome Found). read_at at t (read_from m key)) e
        ∙ ap (λ (rest : Reading). located (record { item = record_of found.kind found.fields; at = at; next = found.next })
        (behind (record_of found.kind found.fields) rest))
        (same found.next o.0 o.1)
        ∙ sym (ap (λ (t : Outcome Found). read_at at t (read_from n key)) e)

-- what is read from an offset on is the record there and what is read behind it, without a number of steps
pub reading-unfolds : (key : List ℕ) (at : ℕ) → at ≤ length key →
    read_from (suc (length key)) key at ≡ read_at at (taken_at key at) (read_from (suc (length key)) key)
unfolding read_from
reading-unfolds key at l = steps-enough (suc (length key)) (suc (suc (length key))) key at l (omega arith) (omega arith)
