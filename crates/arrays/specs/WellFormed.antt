-- When the arrays of a circuit are well formed (01, 'An accepted key'; 02, E9): one field for each condition.
use Rattle.std.specs.Prelude.{ℕ, ◌-◌, ◌^◌, ◌≤◌, ◌<◌, List, [], ◌∷◌, ◌≡◌, length}
use Rattle.field.specs.Fp.{p}
use Rattle.arrays.specs.Arrays.{Cell, Call, Entries, cells, calls, Array, array_at}
use Rattle.arrays.specs.Placing.{Placing}

-- something holds of each element of a list
abbrev pub Each : {A : Type 0} → (A → Type 0) → List A → Type 0
Each Q [] = Unit {0}
Each Q (x ∷ xs) = Q x × Each Q xs

-- a cell in an array of k row bits and k' column bits
pub record CellFits (k k' : ℕ) (cell : Cell) : Type 0 where
  pub row_inside : cell.row < 2 ^ k
  pub column_inside : cell.column < 2 ^ k'
  pub a_below : cell.values.a < p
  pub b_below : cell.values.b < p
  pub c_below : cell.values.c < p

-- a call in the array numbered i, of k row bits and k' column bits, whose row positions and column positions mean what P and
-- P' say
pub record CallFits (P P' : Placing) (arrays : List Array) (i k k' : ℕ) (call : Call) : Type 0 where
  pub factor_below : call.factor < p
  pub earlier : call.id < i
  pub rows_fit : (array_at arrays call.id).row_bits ≤ k
  pub columns_fit : (array_at arrays call.id).column_bits ≤ k'
  pub down_inside : call.down < P.positions k (array_at arrays call.id).row_bits
  pub right_inside : call.right < P'.positions k' (array_at arrays call.id).column_bits

abbrev pub EntriesFit : Placing → Placing → List Array → ℕ → ℕ → ℕ → Entries → Type 0
EntriesFit P P' arrays i k k' (cells list) = Each (CellFits k k') list
EntriesFit P P' arrays i k k' (calls list) = Each (CallFits P P' arrays i k k') list

-- an array as the one numbered i, under a head of n row bits and n' column bits
pub record ArrayFits (P P' : Placing) (arrays : List Array) (n n' i : ℕ) (array : Array) : Type 0 where
  pub rows_at_most : array.row_bits ≤ n
  pub columns_at_most : array.column_bits ≤ n'
  pub entries_fit : EntriesFit P P' arrays i array.row_bits array.column_bits array.entries

-- the arrays under a head of n row bits and n' column bits
pub record WellFormed (P P' : Placing) (n n' : ℕ) (arrays : List Array) : Type 0 where
  pub rows_at_most_30 : n ≤ 30
  pub columns_at_most_30 : n' ≤ 30
  pub arrays_fit : (i : ℕ) → i < length arrays → ArrayFits P P' arrays n n' i (array_at arrays i)

-- the last array is of the head's shape
pub record LastOfShape (n n' : ℕ) (arrays : List Array) : Type 0 where
  pub some_array : 0 < length arrays
  pub rows_equal : (array_at arrays (length arrays - 1)).row_bits ≡ n
  pub columns_equal : (array_at arrays (length arrays - 1)).column_bits ≡ n'
