-- A record that fits behind an offset is put there.
use Rattle.std.specs.Prelude.{Result, Ok, Err}
use Prim.Native.Nat.{ℕ, ◌+◌, ◌≤◌}
use mathlib.Core.List.{List}
use mathlib.Core.Path.{◌≡◌, sym, ap, ◌∙◌}
use native.Mathlib.Omega.{arith}
use lib.ListN.{length}
use Rattle.refusal.specs.Outcome.{given}
use Rattle.refusal.specs.declared.Refusal.{Refusal}
use Rattle.refusal.proofs.Outcomes.{given-injective, given-not-refused}
use Rattle.records.specs.Kinds.{encoded}
use Rattle.records.specs.Put.{Putting, written_outcome, overwritten, put_at}
use Rattle.records.specs.declared.Record.{Record}
use Rattle.records.proofs.PutCases.{record-put}

module _ (item : Record) (buffer : List ℕ) (to : ℕ) (fits : to + length (encoded item) ≤ length buffer) where
  puts : put_at item buffer to ≡ record { answer = given (to + length (encoded item)); buffer = overwritten (encoded item) buffer to }
  puts = record-put item buffer to (omega arith) (omega arith)

  module _ (answer : Result ℕ Refusal) (answers : written_outcome answer ≡ (put_at item buffer to).answer) where
    says : written_outcome answer ≡ given (to + length (encoded item))
    says = answers ∙ ap (λ (q : Putting). q.answer) puts

    pub put_next : (next : ℕ) → answer ≡ Ok next → (after : List ℕ) → after ≡ (put_at item buffer to).buffer →
        (next ≡ to + length (encoded item)) × (after ≡ overwritten (encoded item) buffer to)
    put_next next is after e =
        (given-injective (sym (ap written_outcome is) ∙ says), e ∙ ap (λ (q : Putting). q.buffer) puts)

    pub put-not-refused : (f : Refusal) → answer ≡ Err f → ⊥
    put-not-refused f is = given-not-refused (sym says ∙ ap written_outcome is)
