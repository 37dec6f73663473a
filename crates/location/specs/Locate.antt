-- Where two keys differ. From a point where compare says "different" the coordinates are set to bits one after the other, so that it says so
-- with each of them; at last the point is that of a row and a column, and in that cell the keys' dense matrices differ (`certain` in
-- proofs/CertainCell.antt).
use Rattle.std.specs.Prelude.{ℕ, ◌+◌, ◌*◌, Bool, cond, List, [], ◌∷◌, ◌++◌, map, length, take, drop}
use Rattle.refusal.specs.declared.Which.{Which}
use Rattle.field.specs.Scalars.{prime}
use Rattle.arrays.specs.Arrays.{Values}
use Rattle.key.specs.KeyArrays.{key_arrays}
use Rattle.evaluation.specs.Cell.{dense_values}
use Rattle.evaluation.specs.Evaluate.{last_of}
use Rattle.comparison.specs.AgreementBound.{is_same}
use Rattle.comparison.specs.Compare.{Answer, same, different, refused_for, compared}

-- what a coordinate is set to: 1 where the keys are the same with 0, else 0
abbrev pub bit_for : Bool → ℕ
bit_for same_at_zero = cond same_at_zero 1 0

-- The way: from coordinate 0 up, each coordinate is set to 0 and the later ones are kept; where the keys are the same there, it is set to 1.
-- `there` says whether they are the same at a point.
unfoldable pub settled : (List ℕ → Bool) → List ℕ → List ℕ
settled there [] = []
settled there (r ∷ later) =
    let bit = bit_for (there (0 ∷ later)) in
    bit ∷ settled (λ point. there (bit ∷ point)) later

-- the points at which that is asked, in their order: one for each coordinate, N + N' of two keys, and no answer elsewhere counts
-- (`comparisons` in proofs/CertainCell.antt, `asked-only` in proofs/SettledCoordinates.antt)
unfoldable pub asked : (List ℕ → Bool) → List ℕ → List (List ℕ)
asked there [] = []
asked there (r ∷ later) =
    let bit = bit_for (there (0 ∷ later)) in
    (0 ∷ later) ∷ map (λ point. bit ∷ point) (asked (λ point. there (bit ∷ point)) later)

-- the number that has these bits, lowest first
unfoldable pub from_bits : List ℕ → ℕ
from_bits [] = 0
from_bits (bit ∷ bits) = bit + 2 * from_bits bits

-- "same"; or a row, a column, and the first key's and the second key's A, B and C there; or the key that a refusal names, with the
-- refusal's number and place
pub data Found : Type 0 where
  same_there : Found
  differ_in : ℕ → ℕ → Values → Values → Found
  refused_as : Which → ℕ → ℕ → Found

-- what a call answers, and its sheet afterwards
pub record Location : Type 0 where
  pub answer : Found
  pub sheet : List ℕ

-- the dense A, B and C of a key's last array at a row and a column; those of an accepted key are zero beyond its own rows and columns
-- (`dense-beyond` in comparison/proofs/FilledExtensions.antt)
abbrev pub last_dense_values : List ℕ → ℕ → ℕ → Values
last_dense_values key row column = dense_values (key_arrays key) (last_of (key_arrays key)) row column

-- are the keys the same at a point whose first n coordinates are the rows'?
abbrev pub same_at : List ℕ → List ℕ → ℕ → List ℕ → List ℕ → Bool
same_at first second n sheet point = is_same (compared prime first second (take n point) (drop n point) sheet).answer

-- the point of bits that the way leads to: the rows' coordinates are set before the columns'
abbrev pub cell_point : List ℕ → List ℕ → List ℕ → List ℕ → List ℕ → List ℕ
cell_point first second rows columns sheet = settled (same_at first second (length rows) sheet) (rows ++ columns)

-- the cell at the bits of a row and of a column; the sheet is as after compare at them
abbrev pub cell_at : List ℕ → List ℕ → List ℕ → List ℕ → List ℕ → Location
cell_at first second rows columns sheet =
    let row = from_bits rows in
    let column = from_bits columns in
    record {
      answer = differ_in row column (last_dense_values first row column) (last_dense_values second row column);
      sheet = (compared prime first second rows columns sheet).sheet;
    }

-- the cell that the way leads to
abbrev pub cell_found : List ℕ → List ℕ → List ℕ → List ℕ → List ℕ → Location
cell_found first second rows columns sheet =
    let point = cell_point first second rows columns sheet in
    cell_at first second (take (length rows) point) (drop (length rows) point) sheet

-- what compare answers at the point decides: its refusals and its "same" are locate's, with its sheet, and "different" leads to a cell
unfoldable pub by_answer : Answer → List ℕ → Location → Location
by_answer same sheet cell = record { answer = same_there; sheet = sheet }
by_answer different sheet cell = cell
by_answer (refused_for which number place) sheet cell = record { answer = refused_as which number place; sheet = sheet }

abbrev pub located : List ℕ → List ℕ → List ℕ → List ℕ → List ℕ → Location
located first second rows columns sheet =
    let here = compared prime first second rows columns sheet in
    by_answer here.answer here.sheet (cell_found first second rows columns sheet)
