-- What is known of a call that nothing refuses: of its point, its place and its sheet.
use Prim.Native.Nat.{ℕ, ◌*◌, ◌^◌, ◌≤◌, ◌<◌}
use mathlib.Core.Bool.{Bool, true, false}
use mathlib.Core.List.{List}
use mathlib.Core.Path.{◌≡◌, refl, sym, ap, subst, ◌∙◌}
use native.Mathlib.Decide.{ℕ_discrete, dec_le}
use native.Mathlib.Omega.{arith}
use borrow.Author.Tests.{leb-false}
use lib.Dec.{leb}
use lib.ListN.{length}
use Rattle.refusal.specs.Outcome.{Outcome, given, refused, and_then}
use Rattle.refusal.proofs.Outcomes.{given-injective, given-not-refused}
use Rattle.algebra.specs.Points.{Below}
use Rattle.field.specs.Fp.{p}
use Rattle.field.specs.Scalars.{Scalars, Lawful}
use Rattle.field.proofs.Elements.{elements-count}
use Rattle.key.specs.Check.{checked_key}
use Rattle.key.specs.declared.Counts.{Counts}
use Rattle.key.proofs.Acceptance.{acceptance}
use Rattle.judge.specs.Inner.{Coordinates, AtPoint}
use Rattle.judge.specs.Judged.{first_over, point_judged, place_judged, sheet_judged}
use Rattle.judge.proofs.FirstOver.{none_over, all-below}
use Rattle.judge.proofs.JudgementCases.{sheet-short, sheet-enough, row-outside, column-outside, both-inside, row-count-wrong, column-count-wrong, row-over, column-over, point-given}

-- where a judgement gives counts, they are those that it judged, and something holds of them
abbrev pub Gives : (Counts → Outcome Counts) → (Counts → Type 0) → Type 0
Gives judge Holds = (c counts : Counts) → judge c ≡ given counts → (c ≡ counts) × Holds c

-- behind another judgement
pub then-gives : (judge : Counts → Outcome Counts) (Holds : Counts → Type 0) → Gives judge Holds →
    (first : Outcome Counts) (counts : Counts) → and_then first judge ≡ given counts → (first ≡ given counts) × Holds counts
then-gives judge Holds gives (refused number place) counts e = absurd (given-not-refused (sym e))
then-gives judge Holds gives (given c) counts e =
    let known = gives c counts e in (λ i. given (known.0 i), subst Holds known.0 known.1)

pub sheet-gives : (width places : ℕ) → Gives (sheet_judged width places) (λ c. width * c.arrays ≤ places)
sheet-gives width places c counts e = go (dec_le (width * c.arrays) places)
  where
    go : Dec (width * c.arrays ≤ places) → (c ≡ counts) × (width * c.arrays ≤ places)
    go (yes enough) = (given-injective (sym (sheet-enough width places c enough) ∙ e), enough)
    go (no short) = absurd (given-not-refused (sym e ∙ sheet-short width places c (omega arith)))

pub place-gives : (row column : ℕ) → Gives (place_judged row column) (λ c. (row < 2 ^ c.rows) × (column < 2 ^ c.columns))
place-gives row column c counts e = go (leb (2 ^ c.rows) row) refl (leb (2 ^ c.columns) column) refl
  where
    go : (outside : Bool) → leb (2 ^ c.rows) row ≡ outside → (outside' : Bool) → leb (2 ^ c.columns) column ≡ outside' →
        (c ≡ counts) × ((row < 2 ^ c.rows) × (column < 2 ^ c.columns))
    go true f outside' g = absurd (given-not-refused (sym e ∙ row-outside row column c f))
    go false f true g = absurd (given-not-refused (sym e ∙ column-outside row column c f g))
    go false f false g = (
      given-injective (sym (both-inside row column c f g) ∙ e),
      (leb-false (2 ^ c.rows) row f, leb-false (2 ^ c.columns) column g),
    )

-- a point for n row bits and n' column bits, each coordinate of `width` numbers
pub record PointOf (width n n' : ℕ) (rows columns : List ℕ) : Type 0 where
  pub rows_are : length rows ≡ width * n
  pub columns-are : length columns ≡ width * n'
  pub rows-below : Below p rows
  pub columns-below : Below p columns

pub point-of : (width : ℕ) (rows columns : List ℕ) (c : Counts) → PointOf width c.rows c.columns rows columns →
    point_judged width rows columns c ≡ given c
point-of width rows columns c point =
    point-given width rows columns c point.rows_are point.columns-are
    (all-below rows point.rows-below) (all-below columns point.columns-below)

pub point-gives : (width : ℕ) (rows columns : List ℕ) →
    Gives (point_judged width rows columns) (λ c. PointOf width c.rows c.columns rows columns)
point-gives width rows columns c counts e =
    go (ℕ_discrete (length rows) (width * c.rows)) (ℕ_discrete (length columns) (width * c.columns))
    (dec_le (length rows) (first_over rows)) (dec_le (length columns) (first_over columns))
  where
    go : Dec (length rows ≡ width * c.rows) → Dec (length columns ≡ width * c.columns) → Dec (length rows ≤ first_over rows) →
        Dec (length columns ≤ first_over columns) → (c ≡ counts) × PointOf width c.rows c.columns rows columns
    go (no wrong) _ _ _ = absurd (given-not-refused (sym e ∙ row-count-wrong width rows columns c wrong))
    go (yes n) (no wrong) _ _ = absurd (given-not-refused (sym e ∙ column-count-wrong width rows columns c n wrong))
    go (yes n) (yes n') (no over) _ = absurd (given-not-refused (sym e ∙ row-over width rows columns c n n' (omega arith)))
    go (yes n) (yes n') (yes below) (no over) =
        absurd (given-not-refused (sym e ∙ column-over width rows columns c n n' below (omega arith)))
    go (yes n) (yes n') (yes below) (yes below') = (
      given-injective (sym (point-given width rows columns c n n' below below') ∙ e),
      record {
        rows_are = n;
        columns-are = n';
        rows-below = none_over rows below;
        columns-below = none_over columns below';
      },
    )

-- the coordinates of one side, of which an array of n bits uses the first n
pub coordinates-of : (𝓢 : Scalars) → Lawful 𝓢 → (n N : ℕ) (numbers : List ℕ) → n ≤ N → N ≤ 30 → length numbers ≡ 𝓢.width * N →
    Below p numbers → Coordinates 𝓢 n numbers
coordinates-of 𝓢 𝓛 n N numbers fits few are below =
    let these = elements-count 𝓢 𝓛 N numbers are in
    record {
      whole = are ∙ ap (λ (m : ℕ). 𝓢.width * m) (sym these);
      enough = omega (arith, these);
      few = omega (arith, these);
      below = below;
    }

-- an accepted key, and a point of its shape
pub at-point : (𝓢 : Scalars) → Lawful 𝓢 → (key rows columns : List ℕ) (counts : Counts) → checked_key key ≡ given counts →
    PointOf 𝓢.width counts.rows counts.columns rows columns → AtPoint 𝓢 key rows columns
at-point 𝓢 𝓛 key rows columns counts accepted point =
    let well = (acceptance key counts accepted).well_formed in
    record {
      counts = counts;
      accepted = accepted;
      rows_given =
          coordinates-of 𝓢 𝓛 _ counts.rows rows (omega arith) well.rows_at_most_30 point.rows_are point.rows-below;
      columns_given =
          coordinates-of 𝓢 𝓛 _ counts.columns columns (omega arith) well.columns_at_most_30 point.columns-are
          point.columns-below;
    }
