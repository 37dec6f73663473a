-- Where a kind and fields are found in bytes, the record of that kind and those fields is taken.
use Rattle.std.specs.Prelude.{Ok}
use Prim.Native.Nat.{ℕ, ◌+◌, ◌<◌}
use mathlib.Core.List.{List}
use mathlib.Core.Path.{◌≡◌, refl, sym, ap, subst, ◌∙◌}
use native.Mathlib.Decide.{ℕ_discrete}
use native.Mathlib.Omega.{arith}
use lib.ListN.{length, get_or, drop}
use Rattle.refusal.specs.Outcome.{given}
use Rattle.records.specs.Inner.{size_of}
use Rattle.records.specs.Kinds.{kind_of, fields_of, widths_of, encoded, record_of}
use Rattle.records.specs.Layout.{fields_in, total}
use Rattle.records.specs.Take.{Found, taken_outcome, taken_at}
use Rattle.records.proofs.RecordSizes.{end-kind, size-encoded}
use Rattle.records.proofs.TakeCases.{Whole, given-whole}

-- of each kind that has a size the record of its fields has that kind and those fields
made : (kind : ℕ) → 0 < size_of kind → (rest : List ℕ) →
    (kind_of (record_of kind (fields_in (widths_of kind) rest)) ≡ kind) ×
    (fields_of (record_of kind (fields_in (widths_of kind) rest)) ≡ fields_in (widths_of kind) rest)
unfolding record_of
made kind sized rest =
    elim (ℕ_discrete kind 1) [
      | yes e ↦ of 1 e (refl, refl)
      | no a ↦ (elim (ℕ_discrete kind 2) [
        | yes e ↦ of 2 e (refl, refl)
        | no b ↦ (elim (ℕ_discrete kind 3) [
          | yes e ↦ of 3 e (refl, refl)
          | no c ↦ (elim (ℕ_discrete kind 4) [
            | yes e ↦ of 4 e (refl, refl)
            | no d ↦ (elim (ℕ_discrete kind 5) [
              | yes e ↦ of 5 e (refl, refl)
              | no f ↦ (elim (ℕ_discrete kind 7) [
                | yes e ↦ of 7 e (refl, refl)
                | no g ↦ (elim (ℕ_discrete kind 8) [
                  | yes e ↦ of 8 e (refl, refl)
                  | no h ↦ of 6 (end-kind kind a b c d f g h sized) (refl, refl)
                ])
              ])
            ])
          ])
        ])
      ])
    ]
  where
    Made : ℕ → Type 0
    Made k =
        (kind_of (record_of k (fields_in (widths_of k) rest)) ≡ k) ×
        (fields_of (record_of k (fields_in (widths_of k) rest)) ≡ fields_in (widths_of k) rest)

    of : (k : ℕ) → kind ≡ k → Made k → Made kind
    of k e m = subst Made (sym e) m

-- where a kind and fields were found, the record of that kind and those fields is taken
pub found-taken : (bytes : List ℕ) (at : ℕ) (t : Found) → taken_at bytes at ≡ given t →
    (taken_at bytes at ≡ taken_outcome (Ok ((record_of t.kind t.fields), t.next))) ×
    (t.next ≡ at + length (encoded (record_of t.kind t.fields)))
found-taken bytes at t e =
    let all = subst Taking (sym whole.is) (
      λ i. given (record { kind = sym m.0 i; fields = sym m.1 i; next = at + (1 + total (widths_of kind)) }),
      omega (arith, whole.known, ap size_of m.0, size-encoded (record_of kind (fields_in (widths_of kind) (drop (at + 1) bytes)))),
    ) in
    (e ∙ all.0, all.1)
  where
    Taking : Found → Type 0
    Taking t =
        (given t ≡ taken_outcome (Ok ((record_of t.kind t.fields), t.next))) ×
        (t.next ≡ at + length (encoded (record_of t.kind t.fields)))

    whole : Whole bytes at t
    whole = given-whole bytes at t e

    kind : ℕ
    kind = get_or bytes at 0

    m :
        (kind_of (record_of kind (fields_in (widths_of kind) (drop (at + 1) bytes))) ≡ kind) ×
        (fields_of (record_of kind (fields_in (widths_of kind) (drop (at + 1) bytes))) ≡ fields_in (widths_of kind) (drop (at + 1) bytes))
    m = made kind (omega (arith, whole.known)) (drop (at + 1) bytes)
