-- The answered cell is one in which the keys' dense matrices differ, and so do the answered values; and how many comparisons it takes.
use Prim.Native.Nat.{ℕ, ◌+◌, max}
use mathlib.Core.Bool.{Bool, true, false, false≢true}
use mathlib.Core.List.{List, ◌++◌}
use mathlib.Core.Path.{◌≡◌, refl, sym, ap, ap₂, subst, subst₂, ◌∙◌}
use lib.ListN.{length, take, drop}
use Rattle.refusal.specs.Outcome.{given}
use Rattle.refusal.proofs.Outcomes.{given-injective}
use Rattle.field.specs.Scalars.{prime}
use Rattle.arrays.specs.Arrays.{Part, A, B, C, value_of}
use Rattle.key.specs.Check.{checked_key}
use Rattle.key.specs.declared.Counts.{Counts}
use Rattle.judge.specs.Judged.{together}
use Rattle.comparison.specs.AgreementBound.{AcceptedKey, last_dense}
use Rattle.comparison.specs.Compare.{Answer, same, different, refused_for, compared}
use Rattle.location.specs.Cell.{DifferHere, Certain}
use Rattle.location.specs.Locate.{asked, last_dense_values, same_at, from_bits, Found, same_there, differ_in, refused_as, cell_point, cell_found, by_answer, located}
use Rattle.location.proofs.FoundDifferent.{found-different}
use Rattle.location.proofs.SettledCoordinates.{asked-count}
use Rattle.location.proofs.CellDiffers.{differ-here}

-- the row and the column of an answer, and whether its values are the same
found-row : Found → ℕ
found-row same_there = 0
found-row (differ_in row column one other) = row
found-row (refused_as which number place) = 0

found-column : Found → ℕ
found-column same_there = 0
found-column (differ_in row column one other) = column
found-column (refused_as which number place) = 0

SameValues : Found → Type 0
SameValues same_there = ⊥
SameValues (differ_in row column one other) = one ≡ other
SameValues (refused_as which number place) = ⊥

is-cell : Found → Bool
is-cell same_there = false
is-cell (differ_in row column one other) = true
is-cell (refused_as which number place) = false

part-there : (part : Part) (key : List ℕ) (row column : ℕ) → last_dense key part row column ≡ value_of part (last_dense_values key row column)
part-there A key row column = refl
part-there B key row column = refl
part-there C key row column = refl

-- the larger bits of two accepted keys
larger : (first second : List ℕ) (one other : Counts) (n n' k k' : ℕ) → checked_key first ≡ given one → checked_key second ≡ given other →
    AcceptedKey n n' first → AcceptedKey k k' second →
    ((together one other).rows ≡ max n k) × ((together one other).columns ≡ max n' k')
larger first second one other n n' k k' accepts accepts' is is' =
    let one-is = given-injective (sym accepts ∙ is.accepted) in
    let other-is = given-injective (sym accepts' ∙ is'.accepted) in (
      ap₂ max (ap (λ (c : Counts). c.rows) one-is ∙ is.row_bits) (ap (λ (c : Counts). c.rows) other-is ∙ is'.row_bits),
      ap₂ max (ap (λ (c : Counts). c.columns) one-is ∙ is.column_bits) (ap (λ (c : Counts). c.columns) other-is ∙ is'.column_bits),
    )

pub certain : (first second rows columns sheet : List ℕ) (answer : Found) → answer ≡ (located first second rows columns sheet).answer →
    Certain first second answer
unfolding by_answer found-row found-column SameValues is-cell
certain first second rows columns sheet answer told n n' k k' is is' row column one other found =
    go (compared prime first second rows columns sheet).answer refl (sym told ∙ found)
  where
    go : (a : Answer) → (compared prime first second rows columns sheet).answer ≡ a →
        (by_answer a (compared prime first second rows columns sheet).sheet (cell_found first second rows columns sheet)).answer
        ≡ differ_in row column one other →
        DifferHere (max n k) (max n' k') first second row column × (one ≡ other → ⊥)
    go same e here = absurd (false≢true (ap is-cell here))
    go (refused_for which number place) e here = absurd (false≢true (ap is-cell here))
    go different e here =
        let known = found-different first second rows columns sheet e in
        let (N-is, N'-is) = larger first second known.one known.other n n' k k' known.both.accepts known.both.accepts' is is' in
        let at = differ-here first second rows columns sheet e in
        let part = at.cell.part in (
          subst₂ (λ (x y : ℕ). DifferHere (max n k) (max n' k') first second x y) (ap found-row here) (ap found-column here)
              (subst₂ (λ (N N' : ℕ).
              DifferHere N N' first second (from_bits (take (length rows) (cell_point first second rows columns sheet)))
              (from_bits (drop (length rows) (cell_point first second rows columns sheet)))) N-is N'-is at),
          λ alike.
              at.cell.differ.unequal
              (ap₂ (last_dense first part) at.row_is at.column_is ∙ part-there part first _ _
              ∙ ap (value_of part) (subst SameValues (sym here) alike)
              ∙ sym (part-there part second _ _) ∙ sym (ap₂ (last_dense second part) at.row_is at.column_is)),
        )

-- how often compare is asked behind the first comparison: once for each of the N + N' coordinates
pub comparisons : (first second rows columns sheet : List ℕ) → (compared prime first second rows columns sheet).answer ≡ different →
    (n n' k k' : ℕ) → AcceptedKey n n' first → AcceptedKey k k' second →
    length (asked (same_at first second (length rows) sheet) (rows ++ columns)) ≡ max n k + max n' k'
comparisons first second rows columns sheet differ n n' k k' is is' =
    let known = found-different first second rows columns sheet differ in
    let (N-is, N'-is) = larger first second known.one known.other n n' k k' known.both.accepts known.both.accepts' is is' in
    asked-count (same_at first second (length rows) sheet) (rows ++ columns)
    ∙ known.is_point.count
    ∙ ap₂ (λ (x y : ℕ). x + y) (known.is_point.rows_are ∙ N-is) N'-is
