-- The agreement bound (demand 3), from the counting theorem over a field of q elements.
-- The field of p is one use, that of p² the other (crates/compare_quadratic).
use Prim.Native.Nat.{ℕ, ◌+◌, ◌-◌, ◌*◌, ◌^◌, ◌≤◌, max}
use mathlib.Core.Bool.{Bool, true, false, cond, false≢true}
use mathlib.Core.List.{List, []}
use mathlib.Core.Logic.{◌⊎◌, inl, inr}
use mathlib.Core.Path.{◌≡◌, refl, sym, ap, ap₂, subst, subst₂, ◌∙◌}
use native.Mathlib.Omega.{arith}
use lib.ListN.{length}
use Rattle.refusal.specs.Outcome.{given}
use Rattle.algebra.specs.Points.{count_points, Below}
use Rattle.algebra.proofs.DigitGroups.{count-grouped, Grouped, grouped, groups-length, groups-below}
use Rattle.algebra.proofs.PointCounts.{count_same, count-all}
use Rattle.field.specs.Fp.{p, fp}
use Rattle.field.specs.Scalars.{Scalars, size_of, prime, Lawful}
use Rattle.field.proofs.FpField.{fp-ring}
use Rattle.field.proofs.PrimeLawful.{prime-lawful}
use Rattle.multilinear.specs.Agreement.{Differ}
use Rattle.multilinear.proofs.Agreement.{agreement-bound, agreement-all}
use Rattle.arrays.specs.Arrays.{Part, value_of}
use Rattle.arrays.specs.Placing.{blocks}
use Rattle.arrays.proofs.DenseEquation.{dense-valid}
use Rattle.key.specs.Check.{checked_key}
use Rattle.key.specs.KeyArrays.{key_arrays}
use Rattle.key.specs.declared.Counts.{Counts}
use Rattle.judge.specs.Judged.{together}
use Rattle.evaluation.specs.Evaluate.{last_of}
use Rattle.comparison.specs.AgreementBound.{AcceptedKey, Point, LongEnough, Sheets, answer_at, is_same, last_dense, DifferInCell, AgreementBound, Agreement}
use Rattle.comparison.specs.Compare.{same, different}
use Rattle.comparison.proofs.Answers.{same-only}
use Rattle.comparison.proofs.FilledExtensions.{embedded}
use Rattle.comparison.proofs.SameWhereExtensionsAgree.{point_of, answer-at_point, same-agrees, agreeing-same, same-or-different}

dense-below : (key : List ℕ) (part : Part) (x y : ℕ) → fp-ring.Valid (last_dense key part x y)
dense-below key part = dense-valid fp fp-ring (λ x. x) (value_of part) blocks blocks (key_arrays key) (last_of (key_arrays key))

module _ (𝓢 : Scalars) (𝓛 : Lawful 𝓢) (first second : List ℕ) (one other : Counts) (accepts : checked_key first ≡ given one)
    (accepts' : checked_key second ≡ given other) where
  -- the larger row bits and column bits
  abbrev N : ℕ
  N = (together one other).rows

  abbrev N' : ℕ
  N' = (together one other).columns

  embedded-valid : (key : List ℕ) (part : Part) (x y : ℕ) → 𝓛.field.ring.Valid (embedded 𝓢 key part x y)
  unfolding fp-ring
  embedded-valid key part x y = 𝓛.embed_valid (last_dense key part x y) (dense-below key part x y)

  -- matrices differ in the field of p exactly where they do in the larger one
  embedded-differ : (part : Part) → Differ fp (2 ^ N) (2 ^ N') (last_dense first part) (last_dense second part) →
      Differ 𝓢.arithmetic (2 ^ N) (2 ^ N') (embedded 𝓢 first part) (embedded 𝓢 second part)
  unfolding fp-ring
  embedded-differ part d = record {
    row = d.row;
    column = d.column;
    row_inside = d.row_inside;
    column_inside = d.column_inside;
    unequal = λ e. d.unequal (𝓛.embed_once _ _ (dense-below first part _ _) (dense-below second part _ _) e);
  }

  differ-embedded : (part : Part) →
      Differ 𝓢.arithmetic (2 ^ N) (2 ^ N') (embedded 𝓢 first part) (embedded 𝓢 second part) →
      DifferInCell N N' first second
  differ-embedded part d = record {
    part = part;
    differ = record {
      row = d.row;
      column = d.column;
      row_inside = d.row_inside;
      column_inside = d.column_inside;
      unequal = λ e. d.unequal (ap 𝓢.embed e);
    };
  }

  -- the point whose coordinates have these numbers among the field's elements
  at-groups : (groups : List ℕ) → length groups ≡ N + N' → Below (size_of 𝓢) groups → Point 𝓢 (N + N') (point_of 𝓢 groups)
  at-groups groups count below =
      record {
        numbers = groups-length p 𝓢.width groups ∙ ap (λ (m : ℕ). 𝓢.width * m) count;
        below = groups-below p 𝓢.width (omega arith) groups;
      }

  bounded : (sheets : Sheets 𝓢 (N + N') first second) → DifferInCell N N' first second →
      count_points p (𝓢.width * (N + N')) (λ point. is_same (answer_at 𝓢 N first second point (sheets.lent point)))
      ≤ size_of 𝓢 ^ (N + N') - (size_of 𝓢 - 1) ^ (N + N')
  bounded sheets cell =
      rw (count-grouped p 𝓢.width (N + N') (λ point. is_same (answer_at 𝓢 N first second point (sheets.lent point))), ← 𝓛.size_is)
      (agreement-bound 𝓢.arithmetic 𝓛.field N N' (embedded 𝓢 first cell.part) (embedded 𝓢 second cell.part)
      (embedded-valid first cell.part) (embedded-valid second cell.part) (embedded-differ cell.part cell.differ) _
      (λ groups e b t.
      let below : Below (size_of 𝓢) groups = subst (λ (q : ℕ). Below q groups) 𝓛.size_is b in
      let at = at-groups groups e below in
      same-agrees 𝓢 𝓛 first second one other accepts accepts' groups below at (sheets.lent (point_of 𝓢 groups))
      (sheets.long_enough (point_of 𝓢 groups) at) (same-only _ t) cell.part))

  unbroken : (sheets : Sheets 𝓢 (N + N') first second) → (DifferInCell N N' first second → ⊥) →
      (point : List ℕ) → Point 𝓢 (N + N') point → answer_at 𝓢 N first second point (sheets.lent point) ≡ same
  unbroken sheets none point at = go (grouped p 𝓢.width (N + N') point at.numbers at.below)
    where
      go : Grouped p 𝓢.width (N + N') point → answer_at 𝓢 N first second point (sheets.lent point) ≡ same
      go groups =
          subst (λ (x : List ℕ). answer_at 𝓢 N first second x (sheets.lent x) ≡ same) groups.joined
          (agreeing-same 𝓢 𝓛 first second one other accepts accepts' groups.groups groups.below
          (rw groups.joined at) (sheets.lent (point_of 𝓢 groups.groups))
          (sheets.long_enough _ (rw groups.joined at))
          (λ part.
          agreement-all 𝓢.arithmetic 𝓛.field N N' (embedded 𝓢 first part) (embedded 𝓢 second part)
          (embedded-valid first part) (embedded-valid second part) (λ d. none (differ-embedded part d)) groups.groups
          groups.count))

  bound : AgreementBound 𝓢 N N' first second
  bound =
      record {
        differ = bounded;
        others = λ sheets point at.
            same-or-different 𝓢 𝓛 first second one other accepts accepts' point at (sheets.lent point) (sheets.long_enough point at);
        equal = unbroken;
        alike = λ point at sheet sheet' long long'.
            answer-at_point 𝓢 𝓛 first second one other accepts accepts' point at sheet long
            ∙ sym (answer-at_point 𝓢 𝓛 first second one other accepts accepts' point at sheet' long');
      }

  -- counted in the same way, keys that differ in no cell are the same at all of the q^m points
  pub all-counted : (sheets : Sheets 𝓢 (N + N') first second) → (DifferInCell N N' first second → ⊥) →
      count_points p (𝓢.width * (N + N')) (λ point. is_same (answer_at 𝓢 N first second point (sheets.lent point)))
      ≡ size_of 𝓢 ^ (N + N')
  unfolding is_same
  all-counted sheets none =
      count_same p (𝓢.width * (N + N')) _ (λ point. true)
      (λ point e b. ap is_same (unbroken sheets none point (record { numbers = e; below = b })))
      ∙ count-grouped p 𝓢.width (N + N') (λ point. true)
      ∙ count-all (size_of 𝓢) (N + N')

-- said of the bits of accepted keys
pub agreement : (𝓢 : Scalars) → Lawful 𝓢 → (first second : List ℕ) → Agreement 𝓢 first second
agreement 𝓢 𝓛 first second n n' k k' is is' =
    subst₂ (λ (N N' : ℕ). AgreementBound 𝓢 N N' first second)
    (ap₂ max is.row_bits is'.row_bits) (ap₂ max is.column_bits is'.column_bits)
    (bound 𝓢 𝓛 first second is.counts is'.counts is.accepted is'.accepted)

-- keys of one shape are no case of their own: the larger bits are those of each
pub one-shape : (𝓢 : Scalars) → Lawful 𝓢 → (first second : List ℕ) (n n' : ℕ) → AcceptedKey n n' first → AcceptedKey n n' second →
    AgreementBound 𝓢 n n' first second
one-shape 𝓢 𝓛 first second n n' is is' =
    let same : max n n ≡ n = omega arith in
    let same' : max n' n' ≡ n' = omega arith in
    subst₂ (λ (N N' : ℕ). AgreementBound 𝓢 N N' first second) same same' (agreement 𝓢 𝓛 first second n n' n n' is is')

-- its use where q is p
pub prime-agreement : (first second : List ℕ) → Agreement prime first second
prime-agreement = agreement prime prime-lawful

-- ---- no coordinates

counted : (b : Bool) → cond b 1 0 ≤ 0 → b ≡ true → ⊥
counted true l e = omega arith
counted false l e = false≢true e

-- Where m is 0 the bound is 0: keys that differ are told apart at the one point.
pub without-coordinates : (first second : List ℕ) → AcceptedKey 0 0 first → AcceptedKey 0 0 second →
    DifferInCell 0 0 first second → (sheet : List ℕ) → LongEnough prime first second sheet →
    answer_at prime 0 first second [] sheet ≡ different
unfolding count_points is_same
without-coordinates first second is is' cell sheet long = go (claim.others sheets [] (record { numbers = refl; below = tt }))
  where
    claim : AgreementBound prime 0 0 first second
    claim = prime-agreement first second 0 0 0 0 is is'

    sheets : Sheets prime 0 first second
    sheets = record { lent = λ point. sheet; long_enough = λ point at. long }

    go : (answer_at prime 0 first second [] sheet ≡ same) ⊎ (answer_at prime 0 first second [] sheet ≡ different) →
        answer_at prime 0 first second [] sheet ≡ different
    go (inl e) = absurd (counted (is_same (answer_at prime 0 first second [] sheet)) (claim.differ sheets cell) (ap is_same e))
    go (inr e) = e
