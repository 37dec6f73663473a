-- The answered cell is one in which the keys differ.
use Rattle.std.specs.Prelude.{ℕ, max, List, ◌≡◌}
use Rattle.arrays.specs.Arrays.{Values}
use Rattle.comparison.specs.AgreementBound.{AcceptedKey, DifferInCell}
use Rattle.location.specs.Locate.{Found, differ_in}

-- the keys differ in the cell of this row and this column: `Differ` of their dense A, B or C, filled as in E7, has them
pub record DifferHere (N N' : ℕ) (first second : List ℕ) (row column : ℕ) : Type 0 where
  pub cell : DifferInCell N N' first second
  pub row_is : cell.differ.row ≡ row
  pub column_is : cell.differ.column ≡ column

-- The claim about an answer on two keys: they differ in the cell that it names, and so do the values that it gives. Nothing is assumed but
-- that both are accepted. It is proved in proofs/CertainCell.antt.
abbrev pub Certain : List ℕ → List ℕ → Found → Type 0
Certain first second answer =
    (n n' k k' : ℕ) → AcceptedKey n n' first → AcceptedKey k k' second →
    (row column : ℕ) (one other : Values) → answer ≡ differ_in row column one other →
    DifferHere (max n k) (max n' k') first second row column × (one ≡ other → ⊥)
