-- The point whose coordinates are the bits of a place in the last array.
-- There every extension is the array's own at those bits, and the last array's is its dense value.
use Prim.Native.Nat.{ℕ, zero, suc, ◌/◌, ◌%◌, ◌^◌, ◌≤◌, ◌<◌}
use mathlib.Core.Bool.{Bool, true, false, cond}
use mathlib.Core.List.{List}
use mathlib.Core.Path.{◌≡◌, sym, ap, ap₂, subst, ◌∙◌}
use native.Mathlib.Nat.{one-mul}
use native.Mathlib.Omega.{arith}
use lib.Dec.{eqb}
use lib.ListN.{length}
use Rattle.refusal.specs.Outcome.{given}
use Rattle.algebra.specs.Points.{Below}
use Rattle.field.specs.Fp.{p, fp}
use Rattle.field.specs.Scalars.{prime}
use Rattle.multilinear.specs.Weight.{bits}
use Rattle.multilinear.proofs.Bits.{bits-length}
use Rattle.arrays.specs.Arrays.{Values}
use Rattle.key.specs.Accepted.{Accepted}
use Rattle.key.specs.Check.{checked_key}
use Rattle.key.specs.KeyArrays.{key_arrays}
use Rattle.key.specs.declared.Counts.{Counts}
use Rattle.key.proofs.Acceptance.{acceptance}
use Rattle.judge.specs.Inner.{Coordinates, AtPoint}
use Rattle.evaluation.specs.Cell.{dense_values}
use Rattle.evaluation.specs.Evaluate.{last_of, values_at, last_values}
use Rattle.evaluation.specs.Sheet.{words_of, laid}
use Rattle.evaluation.proofs.EvaluatePromises.{arrays-counted}
use Rattle.evaluation.proofs.PassIsExtension.{bits-enough, last-at-bits}
use Rattle.evaluation.proofs.WordsOnSheet.{laid_same}

pub bits_below : (k a : ℕ) → Below p (bits fp k a)
unfolding bits
bits_below zero a = tt
bits_below (suc k) a = (bit (eqb (a % 2) 1), bits_below k (a / 2))
  where
    bit : (b : Bool) → cond b 1 0 < p
    bit true = omega arith
    bit false = omega arith

-- the bits of a number serve arrays of at most as many bits
bits-serve : (n k a : ℕ) → n ≤ k → k ≤ 30 → Coordinates prime n (bits fp k a)
bits-serve n k a l m =
    record {
      whole = sym (one-mul (length (bits fp k a)));
      enough = omega (arith, bits-length fp k a);
      few = omega (arith, bits-length fp k a);
      below = bits_below k a;
    }

module _ (key : List ℕ) (counts : Counts) (accepted : checked_key key ≡ given counts) (row column : ℕ) (rows columns : List ℕ)
    (rows_are : rows ≡ bits fp 30 row) (columns-are : columns ≡ bits fp 30 column) where
  accepts : Accepted key counts
  accepts = acceptance key counts accepted

  pub place-point : AtPoint prime key rows columns
  place-point =
      record {
        counts = counts;
        accepted = accepted;
        rows_given = subst (Coordinates prime counts.rows) (sym rows_are)
            (bits-serve counts.rows 30 row accepts.well_formed.rows_at_most_30 (omega arith));
        columns_given = subst (Coordinates prime counts.columns) (sym columns-are)
            (bits-serve counts.columns 30 column accepts.well_formed.columns_at_most_30 (omega arith));
      }

  at_bits : (i : ℕ) → i < length (key_arrays key) →
      values_at prime (key_arrays key) rows columns i
      ≡ values_at prime (key_arrays key) (bits fp counts.rows row) (bits fp counts.columns column) i
  at_bits i l =
      ap₂ (λ (r c : List ℕ). values_at prime (key_arrays key) r c i) rows_are columns-are
      ∙ bits-enough (key_arrays key) counts.rows counts.columns accepts.well_formed i l 30 30 row column
      accepts.well_formed.rows_at_most_30 accepts.well_formed.columns_at_most_30

  pub place-values : (row < 2 ^ counts.rows) × (column < 2 ^ counts.columns) → (values : Values) →
      values ≡ last_values prime key rows columns →
      values ≡ dense_values (key_arrays key) (last_of (key_arrays key)) row column
  place-values inside values e =
      e ∙ at_bits (last_of (key_arrays key)) (omega (arith, accepts.last_of_shape.some_array))
      ∙ last-at-bits (key_arrays key) counts.rows counts.columns row column accepts.well_formed accepts.last_of_shape
      inside.0 inside.1

  pub place-sheet : (lent after : List ℕ) →
      after ≡ laid 0 (λ i. words_of prime (values_at prime (key_arrays key) rows columns i)) counts.arrays lent →
      after
      ≡ laid 0 (λ i. words_of prime (values_at prime (key_arrays key) (bits fp counts.rows row) (bits fp counts.columns column) i))
      counts.arrays lent
  place-sheet lent after e =
      e
      ∙ laid_same 0 (λ i. words_of prime (values_at prime (key_arrays key) rows columns i))
      (λ i. words_of prime (values_at prime (key_arrays key) (bits fp counts.rows row) (bits fp counts.columns column) i))
      counts.arrays lent (λ i l. ap (words_of prime) (at_bits i (omega (arith, arrays-counted key counts accepted))))
