-- Keys of one shape use all coordinates: their triples are what evaluate answers at the point, their factors E4's, and the sheet is as
-- after evaluating the first and then the second there (01, 'Comparing two keys').
use Prim.Native.Nat.{ℕ, ◌+◌, ◌*◌}
use mathlib.Core.List.{List}
use mathlib.Core.Path.{◌≡◌, sym, ap, ap₂, subst, ◌∙◌}
use native.Mathlib.Omega.{arith}
use lib.ListN.{length, take, drop_of_length-le}
use lib.Seq.{take_all}
use Rattle.refusal.specs.Outcome.{given}
use Rattle.field.specs.Scalars.{Scalars, Lawful}
use Rattle.multilinear.specs.Extension.{extension}
use Rattle.multilinear.specs.Weight.{weight}
use Rattle.multilinear.proofs.WeightedSums.{weighted-valid}
use Rattle.arrays.specs.Arrays.{Part, value_of, array_at}
use Rattle.arrays.proofs.Parts.{value-by, values_same}
use Rattle.key.specs.Check.{checked_key}
use Rattle.key.specs.Factors.{key_factors}
use Rattle.key.specs.KeyArrays.{key_arrays}
use Rattle.key.specs.declared.Counts.{Counts}
use Rattle.judge.specs.Judged.{together, pair_judged}
use Rattle.judge.proofs.KeysTogether.{pair-known}
use Rattle.evaluation.specs.Evaluate.{last_of, last_values, evaluated}
use Rattle.comparison.specs.Compare.{likeness, compared}
use Rattle.comparison.specs.Filled.{used, unused_weight, multiplied, filled_values, filled_factors, own_sheet}
use Rattle.comparison.proofs.CompareCases.{both-evaluated}
use Rattle.comparison.proofs.FilledExtensions.{embedded}

module _ (𝓢 : Scalars) (𝓛 : Lawful 𝓢) where
  -- one side of a point, of as many coordinates as there are bits
  module _ (n : ℕ) (numbers : List ℕ) (are : length numbers ≡ 𝓢.width * n) where
    all-used : used 𝓢 n numbers ≡ numbers
    all-used = take_all (𝓢.width * n) numbers (omega (arith, are))

    none-unused : unused_weight 𝓢 n numbers ≡ 𝓢.arithmetic.unit
    unfolding weight
    none-unused =
        ap (λ (rest : List ℕ). weight 𝓢.arithmetic 0 (𝓢.elements rest)) (drop_of_length-le numbers {i = 𝓢.width * n} (omega (arith, are)))
        ∙ ap (weight 𝓢.arithmetic 0) 𝓛.none_made

  last-valid : (key rows columns : List ℕ) (part : Part) → 𝓛.field.ring.Valid (value_of part (last_values 𝓢 key rows columns))
  last-valid key rows columns part =
      let array = array_at (key_arrays key) (last_of (key_arrays key)) in
      subst 𝓛.field.ring.Valid
      (sym (value-by (λ q.
      extension 𝓢.arithmetic (embedded 𝓢 key q) (take array.row_bits (𝓢.elements rows))
      (take array.column_bits (𝓢.elements columns))) part))
      (weighted-valid 𝓢.arithmetic 𝓛.field.ring _ _ _ _ (embedded 𝓢 key part))

  module _ (key : List ℕ) (own : Counts) (rows columns : List ℕ) (are : length rows ≡ 𝓢.width * own.rows)
      (are' : length columns ≡ 𝓢.width * own.columns) where
    own-values : filled_values 𝓢 key own rows columns ≡ last_values 𝓢 key rows columns
    own-values =
        ap₂ (multiplied 𝓢)
        (ap₂ (last_values 𝓢 key) (all-used own.rows rows are) (all-used own.columns columns are'))
        (ap₂ 𝓢.arithmetic.mul (none-unused own.rows rows are) (none-unused own.columns columns are')
        ∙ 𝓛.field.ring.mul-unit 𝓢.arithmetic.unit 𝓛.field.ring.valid_unit)
        ∙ values_same _ (λ part. value_of part (last_values 𝓢 key rows columns)) (λ part.
        𝓛.field.ring.mul-unit (value_of part (last_values 𝓢 key rows columns)) (last-valid key rows columns part))

    own-sheet : (sheet : List ℕ) → own_sheet 𝓢 key own rows columns sheet ≡ (evaluated 𝓢 key rows columns sheet).sheet
    own-sheet sheet =
        ap₂ (λ (r c : List ℕ). (evaluated 𝓢 key r c sheet).sheet) (all-used own.rows rows are) (all-used own.columns columns are')

  module _ (first second rows columns sheet : List ℕ) (one other both : Counts) (accepts : checked_key first ≡ given one)
      (accepts' : checked_key second ≡ given other) (same_rows : one.rows ≡ other.rows) (same-columns : one.columns ≡ other.columns)
      (admits : pair_judged 𝓢.width rows columns (length sheet) one other ≡ given both) where
    pub one-shape-compared : compared 𝓢 first second rows columns sheet
        ≡ record {
          answer = likeness 𝓢 (last_values 𝓢 first rows columns) (last_values 𝓢 second rows columns);
          factors = key_factors first + key_factors second;
          sheet = (evaluated 𝓢 second rows columns (evaluated 𝓢 first rows columns sheet).sheet).sheet;
        }
    one-shape-compared =
        let (held, point, room) = pair-known 𝓢.width rows columns one other (length sheet) both admits in
        let bits : both.rows ≡ one.rows = ap (λ (c : Counts). c.rows) held ∙ omega arith in
        let bits' : both.columns ≡ one.columns = ap (λ (c : Counts). c.columns) held ∙ omega arith in
        let larger : (together one other).rows ≡ one.rows = omega arith in
        let larger' : (together one other).columns ≡ one.columns = omega arith in
        let are : length rows ≡ 𝓢.width * one.rows = point.rows_are ∙ ap (λ (k : ℕ). 𝓢.width * k) larger in
        let are' : length columns ≡ 𝓢.width * one.columns = point.columns-are ∙ ap (λ (k : ℕ). 𝓢.width * k) larger' in
        let too : length rows ≡ 𝓢.width * other.rows = are ∙ ap (λ (k : ℕ). 𝓢.width * k) same_rows in
        let too' : length columns ≡ 𝓢.width * other.columns = are' ∙ ap (λ (k : ℕ). 𝓢.width * k) same-columns in
        let counted :
        filled_factors first one both.rows both.columns + filled_factors second other both.rows both.columns
        ≡ key_factors first + key_factors second = omega (arith, bits, bits') in
        let answered = ap₂ (likeness 𝓢) (own-values first one rows columns are are') (own-values second other rows columns too too') in
        let written =
        ap (own_sheet 𝓢 second other rows columns) (own-sheet first one rows columns are are' sheet)
        ∙ own-sheet second other rows columns too too' (evaluated 𝓢 first rows columns sheet).sheet in
        both-evaluated 𝓢 first second rows columns sheet one accepts other accepts' both admits
        ∙ (λ t. record { answer = answered t; factors = counted t; sheet = written t })
