-- Where no entry is left, the sum is the array's values and its factors.
use Prim.Native.Nat.{ℕ, ◌+◌, ◌≤◌}
use mathlib.Core.List.{List, [], ◌∷◌}
use mathlib.Core.Path.{◌≡◌, sym, ◌∙◌}
use native.Mathlib.Omega.{arith}
use Rattle.field.specs.Scalars.{Scalars}
use Rattle.records.specs.declared.Record.{Record}
use Rattle.arrays.specs.Arrays.{Part, value_of, Entries, cells, calls}
use Rattle.arrays.specs.Pass.{entries_terms}
use Rattle.arrays.specs.Side.{Side}
use Rattle.arrays.proofs.Parts.{values_same, values-back}
use Rattle.key.specs.Encoding.{cell_record, call_record, entry_records}
use Rattle.key.specs.Index.{Runs}
use Rattle.key.specs.KeyArrays.{key_arrays, key_scaled}
use Rattle.key.proofs.EntriesLeft.{runs-ahead}
use Rattle.evaluation.specs.Evaluate.{Counted}
use Rattle.evaluation.specs.Inner.{next_counted}
use Rattle.evaluation.proofs.SumOfEntries.{Adding, Becomes, CellsLeft, CallsLeft}

module _ (𝓢 : Scalars) (key : List ℕ) (S S' : Side 𝓢.arithmetic) (sheet : List ℕ) (i to : ℕ) where
  done : (todo : Entries) (sum : Counted 𝓢) (at : ℕ) → to ≤ at → Adding 𝓢 key S S' sheet i to todo sum at →
      sum ≡ next_counted 𝓢 (key_arrays key) S S' sheet i
  unfolding entries_terms
  done todo sum at l adding = go todo adding.left.runs adding.becomes
    where
      same : ((part : Part) → value_of part sum.values ≡ value_of part (next_counted 𝓢 (key_arrays key) S S' sheet i).values) → sum.factors + 0 ≡ (next_counted 𝓢 (key_arrays key) S S' sheet i).factors →
          sum ≡ next_counted 𝓢 (key_arrays key) S S' sheet i
      same e count =
          let values =
          sym (values-back sum.values)
          ∙ values_same (λ part. value_of part sum.values) (λ part. value_of part (next_counted 𝓢 (key_arrays key) S S' sheet i).values) e
          ∙ values-back (next_counted 𝓢 (key_arrays key) S S' sheet i).values in
          let factors : sum.factors ≡ (next_counted 𝓢 (key_arrays key) S S' sheet i).factors = omega (arith, count) in
          λ t. record { values = values t; factors = factors t }

      ahead : (r : Record) (records : List Record) → Runs key at (r ∷ records) to → ⊥
      ahead r records runs = omega (arith, runs-ahead key at (r ∷ records) to runs)

      go : (todo : Entries) → Runs key at (entry_records (key_scaled key) todo) to → Becomes 𝓢 key S S' sheet i to sum todo →
          sum ≡ next_counted 𝓢 (key_arrays key) S S' sheet i
      go (cells []) runs becomes = same becomes.values becomes.factors
      go (calls []) runs becomes = same becomes.values becomes.factors
      go (cells (c ∷ list)) runs becomes = absurd (ahead (cell_record c) (entry_records (key_scaled key) (cells list)) runs)
      go (calls (c ∷ list)) runs becomes = absurd (ahead (call_record (key_scaled key) c) (entry_records (key_scaled key) (calls list)) runs)

  pub cells-done : (sum : Counted 𝓢) (at : ℕ) → to ≤ at → CellsLeft 𝓢 key S S' sheet i to sum at →
      sum ≡ next_counted 𝓢 (key_arrays key) S S' sheet i
  cells-done sum at l here = done (cells here.todo) sum at l here.adding

  pub calls-done : (sum : Counted 𝓢) (at : ℕ) → to ≤ at → CallsLeft 𝓢 key S S' sheet i to sum at →
      sum ≡ next_counted 𝓢 (key_arrays key) S S' sheet i
  calls-done sum at l here = done (calls here.todo) sum at l here.adding
