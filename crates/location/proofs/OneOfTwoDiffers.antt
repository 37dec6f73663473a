-- Two accepted keys at points of the field of p. Where they differ at a point, they differ with any coordinate set to 0 or with it set to 1.
use Prim.Native.Nat.{ℕ, ◌+◌, ◌<◌}
use mathlib.Core.Bool.{Bool, true, false, false≢true}
use mathlib.Core.List.{List, ◌∷◌, ◌++◌}
use mathlib.Core.Path.{◌≡◌, refl, sym, ap, ap₂, subst, ◌∙◌}
use native.Mathlib.Nat.{one-mul}
use native.Mathlib.Omega.{arith}
use lib.ListN.{length, take, drop, set, length-append, length-drop, length-set}
use lib.Seq.{length-take-le, set-append_seam}
use Rattle.refusal.specs.Outcome.{given}
use Rattle.algebra.proofs.CoordinatesBelow.{below-take, below-drop, below_set}
use Rattle.algebra.proofs.Lines.{line}
use Rattle.field.specs.Fp.{p, fp}
use Rattle.field.specs.Scalars.{prime}
use Rattle.field.proofs.PrimeLawful.{prime-lawful}
use Rattle.arrays.specs.Arrays.{Part, value_of}
use Rattle.key.specs.declared.Counts.{Counts}
use Rattle.judge.specs.Judged.{together, pair_judged}
use Rattle.judge.proofs.KeysTogether.{PointOfBoth}
use Rattle.comparison.specs.AgreementBound.{is_same}
use Rattle.comparison.specs.Compare.{Comparison, compared}
use Rattle.comparison.specs.Filled.{filled_values}
use Rattle.comparison.specs.Inner.{Serves, likeness_at}
use Rattle.comparison.proofs.Answers.{same-only}
use Rattle.comparison.proofs.CompareCases.{both-evaluated}
use Rattle.comparison.proofs.FilledExtensions.{embedded, filled-extends}
use Rattle.comparison.proofs.Likeness.{same-equal, equal-same}
use Rattle.comparison.proofs.PairNotRefused.{serves-one, serves-other, both-given}
use Rattle.location.specs.Inner.{BothAccepted, PointOfTwo}
use Rattle.multilinear.proofs.OneCoordinate.{jointly, extension-line}
use Rattle.location.specs.Locate.{same_at}
use Rattle.location.proofs.SettledCoordinates.{OneOfTwo}

-- the parts of a point are a point for both keys
pub point-parts : (one other : Counts) (n : ℕ) (point : List ℕ) → PointOfTwo one other n point →
    PointOfBoth 1 (take n point) (drop n point) one other
point-parts one other n point is =
    record {
      rows_are = length-take-le n point (omega (arith, is.count)) ∙ is.rows_are ∙ sym (one-mul (together one other).rows);
      columns-are = length-drop n point ∙ omega (arith, is.count) ∙ sym (one-mul (together one other).columns);
      rows-below = below-take p n point is.below;
      columns-below = below-drop p n point is.below;
    }

-- and so are those where a coordinate is set to another number below p
pub with-set : (one other : Counts) (n : ℕ) (point : List ℕ) (i c : ℕ) → PointOfTwo one other n point → c < p →
    PointOfTwo one other n (set point i c)
with-set one other n point i c is inside =
    record {
      rows_are = is.rows_are;
      count = length-set point i c ∙ is.count;
      below = below_set p point i c is.below inside;
    }

module _ (first second : List ℕ) (one other : Counts) (sheet : List ℕ) (both : BothAccepted first second one other (length sheet)) where
  -- at a point whose first n coordinates are the rows'
  module _ (n : ℕ) (point : List ℕ) (is : PointOfTwo one other n point) where
    abbrev rows : List ℕ
    rows = take n point

    abbrev columns : List ℕ
    columns = drop n point

    pub admitted : pair_judged 1 (take n point) (drop n point) (length sheet) one other ≡ given (together one other)
    admitted =
        both-given prime prime-lawful first second one other both.accepts both.accepts' rows columns
        (point-parts one other n point is) (length sheet) both.room both.room'

    pub compared-there : (compared prime first second (take n point) (drop n point) sheet).answer
        ≡ likeness_at prime first one second other (take n point) (drop n point)
    compared-there =
        ap (λ (x : Comparison). x.answer)
        (both-evaluated prime first second rows columns sheet one both.accepts other both.accepts' (together one other) admitted)

    first-serves : Serves prime one rows columns (length sheet)
    first-serves =
        serves-one prime prime-lawful first second one other both.accepts both.accepts' rows columns
        (point-parts one other n point is) (length sheet) both.room

    second-serves : Serves prime other rows columns (length sheet)
    second-serves =
        serves-other prime prime-lawful first second one other both.accepts both.accepts' rows columns
        (point-parts one other n point is) (length sheet) both.room'

    -- what is compared are the extensions of the keys' dense matrices
    pub first-extends : (part : Part) →
        value_of part (filled_values prime first one (take n point) (drop n point)) ≡ jointly fp (embedded prime first part) n point
    first-extends = filled-extends first one both.accepts prime prime-lawful rows columns (length sheet) first-serves

    pub second-extends : (part : Part) →
        value_of part (filled_values prime second other (take n point) (drop n point)) ≡ jointly fp (embedded prime second part) n point
    second-extends = filled-extends second other both.accepts' prime prime-lawful rows columns (length sheet) second-serves

    same-agree : same_at first second n sheet point ≡ true → (part : Part) →
        jointly fp (embedded prime first part) n point ≡ jointly fp (embedded prime second part) n point
    same-agree e part =
        sym (first-extends part)
        ∙ same-equal prime prime-lawful _ _ (sym compared-there ∙ same-only _ e) part
        ∙ second-extends part

    agree_same : ((part : Part) →
        jointly fp (embedded prime first part) n point ≡ jointly fp (embedded prime second part) n point) →
        same_at first second n sheet point ≡ true
    unfolding is_same
    agree_same agree =
        ap is_same
        (compared-there ∙ equal-same prime prime-lawful _ _ (λ part. first-extends part ∙ agree part ∙ sym (second-extends part)))

  module _ (n count : ℕ) (rows_are : n ≡ (together one other).rows) (count-is : count ≡ n + (together one other).columns) where
    pub one_of_two : OneOfTwo p count (same_at first second n sheet)
    one_of_two before later r whole below differs same-at-zero = go (same_at first second n sheet (before ++ (1 ∷ later))) refl
      where
        itself : PointOfTwo one other n (before ++ (r ∷ later))
        itself = record { rows_are = rows_are; count = length-append before (r ∷ later) ∙ whole ∙ count-is; below = below }

        at-coordinate : (c : ℕ) → c < p → PointOfTwo one other n (before ++ (c ∷ later))
        at-coordinate c inside =
            subst (PointOfTwo one other n) (set-append_seam before r later c)
            (with-set one other n (before ++ (r ∷ later)) (length before) c itself inside)

        go : (b : Bool) → same_at first second n sheet (before ++ (1 ∷ later)) ≡ b → b ≡ false
        go false e = refl
        go true e = absurd (false≢true (sym differs ∙ agree_same n (before ++ (r ∷ later)) itself (λ part.
            extension-line fp prime-lawful.field.ring (embedded prime first part) n (together one other).columns before later r
            (whole ∙ count-is)
            ∙ ap₂ (λ (a b : ℕ). line fp a b r)
            (same-agree n (before ++ (0 ∷ later)) (at-coordinate 0 (omega arith)) same-at-zero part)
            (same-agree n (before ++ (1 ∷ later)) (at-coordinate 1 (omega arith)) e part)
            ∙ sym (extension-line fp prime-lawful.field.ring (embedded prime second part) n (together one other).columns before later r
            (whole ∙ count-is)))))
