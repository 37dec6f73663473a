-- The counting theorem (01, 'Comparing two keys'): at how many points of a finite field the extensions of two matrices agree.
-- Where the matrices differ at a place, at no more than q^m - (q-1)^m of the q^m points; where they differ at none, at
-- every point.
use Prim.Native.Nat.{ℕ, ◌+◌, ◌-◌, ◌^◌, ◌≤◌, ◌<◌}
use mathlib.Core.Bool.{Bool, true, false, not, not-eq-not}
use mathlib.Core.List.{List, map}
use mathlib.Core.Path.{◌≡◌, sym, ap, ap₂, ◌∙◌}
use native.Mathlib.Omega.{arith}
use lib.ListN.{length, take, drop, length-map, length-drop}
use lib.Seq.{length-take-le}
use Rattle.algebra.specs.Arithmetic.{Arithmetic}
use Rattle.algebra.specs.Field.{FiniteField}
use Rattle.algebra.specs.Points.{count_points, Below}
use Rattle.algebra.proofs.Fields.{decide}
use Rattle.algebra.proofs.PointCounts.{count-split}
use Rattle.algebra.proofs.Rings.{cancel-nought, equal}
use Rattle.multilinear.specs.Agreement.{Differ, extension_at}
use Rattle.multilinear.specs.Extension.{weighted}
use Rattle.multilinear.specs.Matrix.{Matrix, noughts}
use Rattle.multilinear.specs.Weight.{weight}
use Rattle.multilinear.proofs.NonzeroExtensions.{nonzero-matrix}
use Rattle.multilinear.proofs.WeightedSums.{weighted-valid, weighted-same, weighted-add}

module _ (𝓐 : Arithmetic) (𝓕 : FiniteField 𝓐) where
  open 𝓐 use {Carrier, nought, sub}
  open 𝓕 use {ring, size, element}
  open ring use {Valid, valid_sub, sub-add}

  module _ (N N' : ℕ) (first second : Matrix 𝓐) (ok : (x y : ℕ) → Valid (first x y)) (ok' : (x y : ℕ) → Valid (second x y)) where
    abbrev difference : Matrix 𝓐
    difference x y = sub (first x y) (second x y)

    -- the difference and the second together weigh as the first
    difference-nought : (w w' : ℕ → Carrier) → weighted 𝓐 first N N' w w' ≡ weighted 𝓐 second N N' w w' →
        weighted 𝓐 difference N N' w w' ≡ nought
    difference-nought w w' agree =
        cancel-nought 𝓐 ring (weighted 𝓐 difference N N' w w') (weighted 𝓐 second N N' w w')
        (weighted-valid 𝓐 ring N N' w w' difference) (weighted-valid 𝓐 ring N N' w w' second)
        (sym (weighted-add 𝓐 ring N N' w w' difference second)
        ∙ weighted-same 𝓐 ring N N' w w' _ first (λ x y _ _. sub-add (first x y) (second x y) (ok x y) (ok' x y)) ∙ agree)

    difference-some : Differ 𝓐 N N' first second → Differ 𝓐 N N' difference (noughts 𝓐)
    difference-some differ = record {
      row = differ.row;
      column = differ.column;
      row_inside = differ.row_inside;
      column_inside = differ.column_inside;
      unequal = λ z. differ.unequal (equal 𝓐 ring _ _ (ok differ.row differ.column) (ok' differ.row differ.column) z);
    }

    -- From a matrix that is not nought to two that differ. The rows and columns may weigh anything at each point, so that other
    -- weights than those of the extension are a second use: if every test that passes wherever such a matrix does not weigh
    -- nought passes at B points or more, then one that passes only where the two weigh the same passes at size^k - B at most.
    pub by_difference : (k B : ℕ) (w w' : List ℕ → ℕ → Carrier) →
        ((m : Matrix 𝓐) → ((x y : ℕ) → Valid (m x y)) → Differ 𝓐 N N' m (noughts 𝓐) → (test : List ℕ → Bool) →
        ((point : List ℕ) → length point ≡ k → Below size point → (weighted 𝓐 m N N' (w point) (w' point) ≡ nought → ⊥) →
        test point ≡ true) → B ≤ count_points size k test) →
        Differ 𝓐 N N' first second → (test : List ℕ → Bool) →
        ((point : List ℕ) → length point ≡ k → Below size point → test point ≡ true →
        weighted 𝓐 first N N' (w point) (w' point) ≡ weighted 𝓐 second N N' (w point) (w' point)) →
        count_points size k test ≤ size ^ k - B
    by_difference k B w w' nonzero differ test agree =
        omega (
          arith,
          count-split size k test,
          nonzero difference (λ x y. valid_sub (first x y) (second x y)) (difference-some differ) (λ point. not (test point))
              (λ point e b some.
              ap not ((not-eq-not {b = false}).0 (λ t. some (difference-nought (w point) (w' point) (agree point e b t))))),
        )

    -- where two matrices do not differ they weigh the same, whatever the weights
    same-weighted : (w w' : ℕ → Carrier) → (Differ 𝓐 N N' first second → ⊥) →
        weighted 𝓐 first N N' w w' ≡ weighted 𝓐 second N N' w w'
    same-weighted w w' none =
        weighted-same 𝓐 ring N N' w w' first second (λ x y l l'. go x y l l' (decide 𝓐 𝓕 (first x y) (second x y) (ok x y) (ok' x y)))
      where
        go : (x y : ℕ) → x < N → y < N' → Dec (first x y ≡ second x y) → first x y ≡ second x y
        go x y l l' (yes e) = e
        go x y l l' (no d) = absurd (none (record { row = x; column = y; row_inside = l; column_inside = l'; unequal = d }))

  module _ (n n' : ℕ) where
    abbrev row_weights : List ℕ → ℕ → Carrier
    row_weights point x = weight 𝓐 x (map element (take n point))

    abbrev column_weights : List ℕ → ℕ → Carrier
    column_weights point y = weight 𝓐 y (map element (drop n point))

    -- at a point of n + n' coordinates 2^n rows and 2^n' columns are weighed
    shape : (m : Matrix 𝓐) (point : List ℕ) → length point ≡ n + n' →
        extension_at 𝓐 element n m point ≡ weighted 𝓐 m (2 ^ n) (2 ^ n') (row_weights point) (column_weights point)
    shape m point e =
        ap₂ (λ (k : ℕ) (k' : ℕ). weighted 𝓐 m (2 ^ k) (2 ^ k') (row_weights point) (column_weights point))
        (length-map (take n point) element ∙ length-take-le n point (omega arith))
        (length-map (drop n point) element ∙ length-drop n point ∙ omega arith)

    -- Two matrices of 2^n rows and 2^n' columns differ at a place. Then a test that passes only where their extensions agree
    -- passes at no more than q^m - (q-1)^m points, where q is the field's size and m = n + n'.
    pub agreement-bound : (first second : Matrix 𝓐) → ((x y : ℕ) → Valid (first x y)) → ((x y : ℕ) → Valid (second x y)) →
        Differ 𝓐 (2 ^ n) (2 ^ n') first second →
        (test : List ℕ → Bool) →
        ((point : List ℕ) → length point ≡ n + n' → Below size point → test point ≡ true →
        extension_at 𝓐 element n first point ≡ extension_at 𝓐 element n second point) →
        count_points size (n + n') test ≤ size ^ (n + n') - (size - 1) ^ (n + n')
    agreement-bound first second ok ok' differ test agree =
        by_difference (2 ^ n) (2 ^ n') first second ok ok' (n + n') ((size - 1) ^ (n + n')) row_weights column_weights
        (λ m valid some t passes. nonzero-matrix 𝓐 𝓕 n n' m valid some t
        (λ point e b left. passes point e b (λ z. left (shape m point e ∙ z))))
        differ test (λ point e b t. sym (shape first point e) ∙ agree point e b t ∙ shape second point e)

    -- the extensions of matrices that do not differ agree at every point
    pub agreement-all : (first second : Matrix 𝓐) → ((x y : ℕ) → Valid (first x y)) → ((x y : ℕ) → Valid (second x y)) →
        (Differ 𝓐 (2 ^ n) (2 ^ n') first second → ⊥) →
        (point : List ℕ) → length point ≡ n + n' → extension_at 𝓐 element n first point ≡ extension_at 𝓐 element n second point
    agreement-all first second ok ok' none point e =
        shape first point e
        ∙ same-weighted (2 ^ n) (2 ^ n') first second ok ok' (row_weights point) (column_weights point) none
        ∙ sym (shape second point e)
