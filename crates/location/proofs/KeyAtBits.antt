-- A key at the bits of a row and of a column, of which it may use fewer than there are: evaluated at those that it uses it has its dense
-- values there, and beyond its shape they are zero.
use Prim.Native.Nat.{ℕ, ◌^◌, ◌≤◌, ◌<◌}
use mathlib.Core.Bool.{Bool, true, false, cond}
use mathlib.Core.List.{List}
use mathlib.Core.Logic.{◌⊎◌, inl, inr}
use mathlib.Core.Path.{◌≡◌, refl, sym, ap, ap₂, subst, ◌∙◌}
use native.Mathlib.Nat.{one-mul}
use borrow.Author.Tests.{leb-true, leb-false}
use lib.Dec.{leb}
use lib.ListN.{length, take}
use Rattle.refusal.specs.Outcome.{Outcome, given}
use Rattle.algebra.specs.Points.{Below}
use Rattle.field.specs.Fp.{fp}
use Rattle.field.specs.Scalars.{prime}
use Rattle.field.proofs.PrimeLawful.{prime-lawful}
use Rattle.multilinear.specs.Weight.{bits}
use Rattle.multilinear.proofs.Bits.{bits-take}
use Rattle.arrays.specs.Arrays.{A, B, C, Values}
use Rattle.rules.specs.Rules.{outside}
use Rattle.key.specs.Check.{checked_key}
use Rattle.key.specs.KeyArrays.{key_arrays}
use Rattle.key.specs.declared.Counts.{Counts}
use Rattle.key.proofs.Acceptance.{acceptance}
use Rattle.judge.specs.Inner.{Coordinates}
use Rattle.evaluation.specs.Evaluate.{Counted, counted_for, last_values, evaluated}
use Rattle.evaluation.proofs.PassIsExtension.{last-at-bits}
use Rattle.comparison.specs.Filled.{used, own_sheet}
use Rattle.comparison.specs.Inner.{Serves}
use Rattle.comparison.proofs.FilledExtensions.{dense-beyond}
use Rattle.comparison.proofs.UsedCoordinates.{own-answered}
use Rattle.location.specs.Inner.{zeros, values_of, held_at}
use Rattle.location.specs.Locate.{from_bits, last_dense_values}
use Rattle.location.proofs.NumbersFromBits.{bits-from}

-- ---- what is held, by the tests of the row and of the column

module _ (own : Counts) (row column : ℕ) (answer : Outcome (Counted prime)) where
  pub held_below : outside own.rows row ≡ true → held_at own row column answer ≡ zeros
  unfolding held_at
  held_below e = rw e

  pub held-right : outside own.rows row ≡ false → outside own.columns column ≡ true → held_at own row column answer ≡ zeros
  unfolding held_at
  held-right e f = rw (e, f)

  pub held-inside : outside own.rows row ≡ false → outside own.columns column ≡ false →
      held_at own row column answer ≡ values_of answer
  unfolding held_at
  held-inside e f = rw (e, f)

-- ---- the key

-- the bits that a key of so many bits on one side uses
used-bits : (k : ℕ) (numbers : List ℕ) → Coordinates prime k numbers → Below 2 numbers → used prime k numbers ≡ bits fp k (from_bits numbers)
used-bits k numbers given-side are_bits =
    ap₂ take (one-mul k) (sym (bits-from numbers are_bits))
    ∙ bits-take fp k (length numbers) (from_bits numbers) given-side.enough

used-first : (k : ℕ) (numbers : List ℕ) → take k numbers ≡ used prime k numbers
used-first k numbers = ap (λ (n : ℕ). take n numbers) (sym (one-mul k))

module _ (key : List ℕ) (own : Counts) (accepted : checked_key key ≡ given own) (rows columns : List ℕ) where
  -- what evaluate leaves on the sheet at the first coordinates, which the key uses
  pub own-left : (sheet after : List ℕ) → after ≡ (evaluated prime key (take own.rows rows) (take own.columns columns) sheet).sheet →
      after ≡ own_sheet prime key own rows columns sheet
  own-left sheet after left =
      left
      ∙ ap₂ (λ (r c : List ℕ). (evaluated prime key r c sheet).sheet) (used-first own.rows rows) (used-first own.columns columns)

  -- and what it answers there
  answered-there : (sheet : List ℕ) → Serves prime own rows columns (length sheet) →
      (evaluated prime key (take own.rows rows) (take own.columns columns) sheet).answer
      ≡ given (counted_for prime key (last_values prime key (used prime own.rows rows) (used prime own.columns columns)))
  answered-there sheet serves =
      ap₂ (λ (r c : List ℕ). (evaluated prime key r c sheet).answer) (used-first own.rows rows) (used-first own.columns columns)
      ∙ own-answered prime prime-lawful key own accepted rows columns (length sheet) serves sheet refl

  -- a row and a column of these bits
  module _ (row column : ℕ) (row_is : row ≡ from_bits rows) (column_is : column ≡ from_bits columns) where
    -- inside the key's shape
    inside-values : (sheet : List ℕ) → Serves prime own rows columns (length sheet) → Below 2 rows → Below 2 columns →
        leb (2 ^ own.rows) row ≡ false → leb (2 ^ own.columns) column ≡ false →
        values_of (evaluated prime key (take own.rows rows) (take own.columns columns) sheet).answer
        ≡ last_dense_values key (from_bits rows) (from_bits columns)
    inside-values sheet serves are_bits are_bits' inside inside' =
        let accepts = acceptance key own accepted in
        ap values_of (answered-there sheet serves)
        ∙ ap₂ (last_values prime key)
        (used-bits own.rows rows serves.rows_given are_bits) (used-bits own.columns columns serves.columns_given are_bits')
        ∙ last-at-bits (key_arrays key) own.rows own.columns (from_bits rows) (from_bits columns) accepts.well_formed
        accepts.last_of_shape (subst (λ (x : ℕ). x < 2 ^ own.rows) row_is (leb-false (2 ^ own.rows) row inside))
        (subst (λ (x : ℕ). x < 2 ^ own.columns) column_is (leb-false (2 ^ own.columns) column inside'))

    -- beyond it
    beyond : (2 ^ own.rows ≤ row) ⊎ (2 ^ own.columns ≤ column) → zeros ≡ last_dense_values key (from_bits rows) (from_bits columns)
    beyond outside =
        sym (λ t. record {
          a = dense-beyond key own accepted A row column outside t;
          b = dense-beyond key own accepted B row column outside t;
          c = dense-beyond key own accepted C row column outside t;
        })
        ∙ ap₂ (last_dense_values key) row_is column_is

    pub held-dense : (sheet : List ℕ) → Serves prime own rows columns (length sheet) → Below 2 rows → Below 2 columns →
        (answer : Outcome (Counted prime)) →
        answer ≡ (evaluated prime key (take own.rows rows) (take own.columns columns) sheet).answer → (values : Values) →
        values ≡ held_at own row column answer → values ≡ last_dense_values key (from_bits rows) (from_bits columns)
    unfolding held_at
    held-dense sheet serves are_bits are_bits' answer answered values is =
        is ∙ go (leb (2 ^ own.rows) row) refl (leb (2 ^ own.columns) column) refl
      where
        go : (b : Bool) → leb (2 ^ own.rows) row ≡ b → (b' : Bool) → leb (2 ^ own.columns) column ≡ b' →
            cond b zeros (cond b' zeros (values_of answer)) ≡ last_dense_values key (from_bits rows) (from_bits columns)
        go true outside b' _ = beyond (inl (leb-true (2 ^ own.rows) row outside))
        go false inside true outside = beyond (inr (leb-true (2 ^ own.columns) column outside))
        go false inside false inside' = ap values_of answered ∙ inside-values sheet serves are_bits are_bits' inside inside'
