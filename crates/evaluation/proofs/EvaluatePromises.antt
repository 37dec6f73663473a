-- What evaluate and cell promise, from what their judgements and their pass give.
use Prim.Native.Nat.{ℕ, ◌≤◌}
use mathlib.Core.List.{List}
use mathlib.Core.Path.{◌≡◌, refl, sym, ap, ◌∙◌}
use native.Mathlib.Omega.{arith}
use lib.ListN.{length, get_or, length-take}
use lib.Seq.{get_or-take}
use Rattle.refusal.specs.Outcome.{Outcome, given, refused, refusal_of}
use Rattle.refusal.specs.declared.Refusal.{Refusal}
use Rattle.refusal.proofs.Outcomes.{given-not-refused}
use Rattle.field.specs.Scalars.{Scalars}
use Rattle.key.specs.Check.{checked_key}
use Rattle.key.specs.Index.{starts_of, Indexing}
use Rattle.key.specs.Indexed.{Indexed}
use Rattle.key.specs.KeyArrays.{key_arrays}
use Rattle.key.specs.declared.Counts.{Counts}
use Rattle.key.proofs.Acceptance.{acceptance}
use Rattle.judge.proofs.KeysTogether.{few-records}
use Rattle.evaluation.specs.Evaluate.{ValuesOf, Counted, concluded}
use Rattle.evaluation.specs.Sheet.{words_of, laid}

-- an accepted key's counts are those of its arrays
module _ (key : List ℕ) (counts : Counts) (accepted : checked_key key ≡ given counts) where
  pub arrays-counted : counts.arrays ≡ length (key_arrays key)
  arrays-counted = ap (λ (c : Counts). c.arrays) (acceptance key counts accepted).counted

  pub at_most_1024 : counts.arrays ≤ 1024
  at_most_1024 = (few-records key counts accepted).0

  pub table-indexed : (after : List ℕ) → Indexing key after → Indexed key after
  table-indexed after indexing =
      let index = (acceptance key counts accepted).index in
      let first = indexing counts accepted in
      record {
        counts = counts;
        accepted = accepted;
        room = omega (arith, index.one_each, ap length first, length-take (length (starts_of key)) after);
        offsets = λ i l.
            sym (get_or-take (length (starts_of key)) after i 0 (omega (arith, index.one_each, l)))
            ∙ ap (λ (t : List ℕ). get_or t i 0) first;
      }

-- an answer that is given was admitted
pub answered : (𝓢 : Scalars) (o : Outcome Counts) (last : Counts → Counted 𝓢) (each : Counts → ℕ → ValuesOf 𝓢) (sheet : List ℕ)
    (counted : Counted 𝓢) → (concluded 𝓢 o last each sheet).answer ≡ given counted → (counts : Counts) × (o ≡ given counts)
unfolding concluded
answered 𝓢 (given counts) last each sheet counted e = (counts, refl)
answered 𝓢 (refused number place) last each sheet counted e = absurd (given-not-refused (sym e))

-- what is answered and left on the sheet, by what the judgements come to
module _ (𝓢 : Scalars) (o : Outcome Counts) (last : Counts → Counted 𝓢) (each : Counts → ℕ → ValuesOf 𝓢) (sheet : List ℕ) where
  pub concluded-refused : (number place : ℕ) → refused number place ≡ o →
      (refused number place ≡ (concluded 𝓢 o last each sheet).answer) × (sheet ≡ (concluded 𝓢 o last each sheet).sheet)
  unfolding concluded
  concluded-refused number place e = (
    ap (λ (o : Outcome Counts). (concluded 𝓢 o last each sheet).answer) e,
    ap (λ (o : Outcome Counts). (concluded 𝓢 o last each sheet).sheet) e,
  )

  pub concluded-given : (counts : Counts) → given counts ≡ o →
      (given (last counts) ≡ (concluded 𝓢 o last each sheet).answer) ×
      (laid 0 (λ i. words_of 𝓢 (each counts i)) counts.arrays sheet ≡ (concluded 𝓢 o last each sheet).sheet)
  unfolding concluded
  concluded-given counts e = (
    ap (λ (o : Outcome Counts). (concluded 𝓢 o last each sheet).answer) e,
    ap (λ (o : Outcome Counts). (concluded 𝓢 o last each sheet).sheet) e,
  )

  -- what is promised of an answer and of the sheet afterwards
  abbrev pub Promise : Outcome (Counted 𝓢) → List ℕ → Type 0
  Promise answer after = (answer ≡ (concluded 𝓢 o last each sheet).answer) × (after ≡ (concluded 𝓢 o last each sheet).sheet)

  pub refused-promise : (f : Refusal) → o ≡ refusal_of f → Promise (refusal_of f) sheet
  refused-promise f e = concluded-refused _ _ (sym e)

  pub given-promise : (counts : Counts) → o ≡ given counts → (values : ValuesOf 𝓢) (factors : ℕ) (after : List ℕ) →
      values ≡ (last counts).values → factors ≡ (last counts).factors →
      after ≡ laid 0 (λ i. words_of 𝓢 (each counts i)) counts.arrays sheet →
      Promise (given (record { values = values; factors = factors })) after
  given-promise counts e values factors after v n w =
      let done = concluded-given counts (sym e) in
      ((λ t. given (record { values = v t; factors = n t })) ∙ done.0, w ∙ done.1)
