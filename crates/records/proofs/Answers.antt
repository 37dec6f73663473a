-- A record is determined by its kind and its fields, and an answer by what it says.
use Rattle.std.specs.Prelude.{Result, Ok}
use Prim.Native.Nat.{ℕ}
use mathlib.Core.List.{List}
use mathlib.Core.Path.{◌≡◌, refl, sym, ap, ap₂, ◌∙◌}
use Rattle.refusal.specs.declared.Refusal.{Refusal}
use Rattle.refusal.proofs.Outcomes.{outcome_of-injective, outcome-injective}
use Rattle.records.specs.Kinds.{kind_of, fields_of, record_of}
use Rattle.records.specs.Put.{written_outcome}
use Rattle.records.specs.RoundTrip.{ReadBack}
use Rattle.records.specs.Take.{Found, taken_outcome, taken_at}
use Rattle.records.specs.declared.Record.{Record}

pub record-back : (r : Record) → record_of (kind_of r) (fields_of r) ≡ r
unfolding record_of
record-back (Record.Head shape) = refl
record-back (Record.Sparse shape) = refl
record-back (Record.Recursive shape) = refl
record-back (Record.Cell cell) = refl
record-back (Record.Call call) = refl
record-back Record.End = refl
record-back (Record.ScaledHead shape) = refl
record-back (Record.ScaledCall call) = refl

pub record-determined : (r s : Record) → kind_of r ≡ kind_of s → fields_of r ≡ fields_of s → r ≡ s
record-determined r s kinds fields = sym (record-back r) ∙ ap₂ record_of kinds fields ∙ record-back s

pub taken-injective : (r s : Result (Record × ℕ) Refusal) → taken_outcome r ≡ taken_outcome s → r ≡ s
taken-injective =
    outcome_of-injective (λ taken. record { kind = kind_of taken.0; fields = fields_of taken.0; next = taken.1 })
    (λ r s e. ap₂ (λ item next. (item, next))
    (record-determined r.0 s.0 (ap (λ (t : Found). t.kind) e) (ap (λ (t : Found). t.fields) e)) (ap (λ (t : Found). t.next) e))

pub written-injective : (r s : Result ℕ Refusal) → written_outcome r ≡ written_outcome s → r ≡ s
written-injective = outcome-injective

-- what is taken where a record was put is that record
pub taken_is : (item : Record) (put : Result ℕ Refusal) (buffer : List ℕ) (at next : ℕ) → ReadBack item put buffer at → put ≡ Ok next →
    (answer : Result (Record × ℕ) Refusal) → taken_outcome answer ≡ taken_at buffer at → answer ≡ Ok (item, next)
taken_is item put buffer at next back e answer f = taken-injective answer (Ok (item, next)) (f ∙ back next e)
