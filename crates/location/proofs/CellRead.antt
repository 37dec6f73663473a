-- Two keys read at the bits of a row and of a column, one after the other: what is asked for each, and what they leave.
use Prim.Native.Nat.{ℕ, ◌-◌, ◌≤◌}
use mathlib.Core.List.{List}
use mathlib.Core.Path.{◌≡◌, sym, ap, ap₂, subst, ◌∙◌}
use lib.ListN.{length, take, drop}
use Rattle.refusal.specs.Outcome.{given, refused}
use Rattle.refusal.proofs.Outcomes.{given-injective, given-not-refused}
use Rattle.algebra.specs.Points.{Below}
use Rattle.algebra.proofs.CoordinatesBelow.{below-take, below-drop}
use Rattle.field.specs.Scalars.{prime}
use Rattle.field.proofs.PrimeLawful.{prime-lawful}
use Rattle.arrays.specs.Arrays.{Values}
use Rattle.key.specs.Check.{checked_key}
use Rattle.key.specs.declared.Counts.{Counts}
use Rattle.judge.specs.Judged.{together}
use Rattle.comparison.specs.Compare.{Comparison}
use Rattle.comparison.specs.Filled.{own_sheet}
use Rattle.comparison.specs.Inner.{Serves}
use Rattle.comparison.proofs.CompareCases.{both-evaluated}
use Rattle.comparison.proofs.PairNotRefused.{BothServed}
use Rattle.comparison.proofs.TwoPasses.{served, middle-length}
use Rattle.location.specs.Inner.{Comparable, Readable}
use Rattle.location.specs.Locate.{Found, differ_in, from_bits, last_dense_values, cell_at}
use Rattle.location.proofs.JoinedPoint.{all-behind}
use Rattle.location.proofs.OneOfTwoDiffers.{admitted}

-- ---- the parts of a point of bits

pub parts-readable : (first second : List ℕ) (n : ℕ) (point sheet : List ℕ) → Comparable first second n point (length sheet) →
    Below 2 point → Readable first second (take n point) (take (length point - n) (drop n point)) (length sheet)
parts-readable first second n point sheet comparable are_bits =
    subst (λ (columns : List ℕ). Readable first second (take n point) columns (length sheet)) (sym (all-behind n point))
    (record {
      one = comparable.one;
      other = comparable.other;
      accepts = comparable.both.accepts;
      accepts' = comparable.both.accepts';
      admitted =
          admitted first second comparable.one comparable.other sheet comparable.both n point comparable.is_point;
      are_bits = below-take 2 n point are_bits;
      are_bits' = below-drop 2 n point are_bits;
    })

pub parts-read : (first second : List ℕ) (n : ℕ) (point sheet : List ℕ) (answer : Found) (after : List ℕ) →
    answer ≡ (cell_at first second (take n point) (take (length point - n) (drop n point)) sheet).answer →
    after ≡ (cell_at first second (take n point) (take (length point - n) (drop n point)) sheet).sheet →
    (answer ≡ (cell_at first second (take n point) (drop n point) sheet).answer) ×
    (after ≡ (cell_at first second (take n point) (drop n point) sheet).sheet)
parts-read first second n point sheet answer after told left = (
  told ∙ ap (λ (columns : List ℕ). (cell_at first second (take n point) columns sheet).answer) (all-behind n point),
  left ∙ ap (λ (columns : List ℕ). (cell_at first second (take n point) columns sheet).sheet) (all-behind n point),
)

-- ---- the keys at it

module _ (first second rows columns sheet : List ℕ) (readable : Readable first second rows columns (length sheet)) where
  abbrev one : Counts
  one = readable.one

  abbrev other : Counts
  other = readable.other

  both : BothServed prime prime-lawful first second one other readable.accepts readable.accepts' rows columns (length sheet)
      (together one other)
  both =
      served prime prime-lawful first second rows columns sheet one other (together one other) readable.accepts readable.accepts'
      readable.admitted

  pub few-rows : length rows ≤ 30
  few-rows = both.first-serves.rows_given.few

  pub few-columns : length columns ≤ 30
  few-columns = both.first-serves.columns_given.few

  pub first-accepted : (number place : ℕ) → checked_key first ≡ refused number place → ⊥
  first-accepted number place e = given-not-refused (sym readable.accepts ∙ e)

  pub second-accepted : (number place : ℕ) → checked_key second ≡ refused number place → ⊥
  second-accepted number place e = given-not-refused (sym readable.accepts' ∙ e)

  pub first-asks : (own : Counts) → checked_key first ≡ given own → Serves prime own rows columns (length sheet)
  first-asks own accepts =
      subst (λ (c : Counts). Serves prime c rows columns (length sheet)) (given-injective (sym readable.accepts ∙ accepts))
      both.first-serves

  module _ (own : Counts) (accepts : checked_key first ≡ given own) (middle : List ℕ)
      (left : middle ≡ own_sheet prime first own rows columns sheet) where
    own_is : own ≡ one
    own_is = given-injective (sym accepts ∙ readable.accepts)

    begun : middle ≡ own_sheet prime first one rows columns sheet
    begun = left ∙ ap (λ (c : Counts). own_sheet prime first c rows columns sheet) own_is

    as_long : length middle ≡ length sheet
    as_long =
        ap length begun
        ∙ middle-length prime prime-lawful first second rows columns sheet one other (together one other) readable.accepts
        readable.accepts' readable.admitted

    pub second-asks : (own' : Counts) → checked_key second ≡ given own' → Serves prime own' rows columns (length middle)
    second-asks own' accepts' =
        subst (λ (c : Counts). Serves prime c rows columns (length middle)) (given-injective (sym readable.accepts' ∙ accepts'))
        (subst (Serves prime other rows columns) (sym as_long) both.second-serves)

    -- what is read and left
    pub both_read : (own' : Counts) → checked_key second ≡ given own' → (after : List ℕ) →
        after ≡ own_sheet prime second own' rows columns middle → (row column : ℕ) (v w : Values) →
        row ≡ from_bits rows → column ≡ from_bits columns →
        v ≡ last_dense_values first (from_bits rows) (from_bits columns) → w ≡ last_dense_values second (from_bits rows) (from_bits columns) →
        (differ_in row column v w ≡ (cell_at first second rows columns sheet).answer) ×
        (after ≡ (cell_at first second rows columns sheet).sheet)
    both_read own' accepts' after ended row column v w row_is column_is v-is w-is = (
      (λ t. differ_in (row_is t) (column_is t) (v-is t) (w-is t)),
      ended
          ∙ ap₂ (λ (c : Counts) (s : List ℕ). own_sheet prime second c rows columns s) (given-injective
          (sym accepts' ∙ readable.accepts')) begun
          ∙ sym (ap (λ (x : Comparison). x.sheet)
          (both-evaluated prime first second rows columns sheet one readable.accepts other readable.accepts' (together one other)
          readable.admitted)),
    )
