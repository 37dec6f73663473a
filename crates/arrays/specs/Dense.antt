-- The dense matrices of arrays (01, 'Dense form and evaluation'; 02, E9; 004, Definitions 3, 6, 7 and 9), over any arithmetic.
-- The three matrices share one description: v is the number that is taken of a cell's A, B and C. A number of the key, be it a
-- cell's or a call's factor, stands for the element that `embed` gives. P and P' say what a call's row position and column
-- position mean.
use Rattle.std.specs.Prelude.{ℕ, zero, suc, ◌^◌, cond, ◌&&◌, List, [], ◌∷◌, ◌++◌, map, eqb, length, get_or}
use Rattle.algebra.specs.Arithmetic.{Arithmetic}
use Rattle.multilinear.specs.Matrix.{Matrix, noughts, scaled, moved}
use Rattle.arrays.specs.Arrays.{Values, Cell, Call, Entries, cells, calls, Array, array_at}
use Rattle.arrays.specs.Placing.{Placing}

-- what one cell contributes: its value at its own place, zero elsewhere
abbrev pub cell_matrix : (𝓐 : Arithmetic) → (ℕ → 𝓐.Carrier) → (Values → ℕ) → Cell → Matrix 𝓐
cell_matrix 𝓐 embed v cell x y = cond (eqb cell.row x && eqb cell.column y) (embed (v cell.values)) 𝓐.nought

-- what one call contributes: the called array's matrix times the factor, moved to the call's position, zero elsewhere
abbrev pub call_matrix : (𝓐 : Arithmetic) → (ℕ → 𝓐.Carrier) → Placing → Placing → Array → Matrix 𝓐 → Call → Matrix 𝓐
call_matrix 𝓐 embed P P' called matrix call =
    moved 𝓐 (scaled 𝓐 (embed call.factor) matrix) (2 ^ called.row_bits) (2 ^ called.column_bits)
    (P.start called.row_bits call.down) (P'.start called.column_bits call.right)

-- the sum of some matrices, place by place
unfoldable pub summed : (𝓐 : Arithmetic) → List (Matrix 𝓐) → Matrix 𝓐
summed 𝓐 [] x y = 𝓐.nought
summed 𝓐 (m ∷ matrices) x y = 𝓐.add (m x y) (summed 𝓐 matrices x y)

-- an array's matrix is the sum over its entries, where the array numbered i has the matrix numbered i of `matrices`
unfoldable pub entries_matrix : (𝓐 : Arithmetic) → (ℕ → 𝓐.Carrier) → (Values → ℕ) → Placing → Placing → List Array →
    (ℕ → Matrix 𝓐) → Entries → Matrix 𝓐
entries_matrix 𝓐 embed v P P' arrays matrices (cells list) = summed 𝓐 (map (cell_matrix 𝓐 embed v) list)
entries_matrix 𝓐 embed v P P' arrays matrices (calls list) =
    summed 𝓐 (map (λ call. call_matrix 𝓐 embed P P' (array_at arrays call.id) (matrices call.id) call) list)

-- the matrix numbered i
abbrev pub matrix_at : (𝓐 : Arithmetic) → List (Matrix 𝓐) → ℕ → Matrix 𝓐
matrix_at 𝓐 matrices i = get_or matrices i (noughts 𝓐)

-- the matrices of the arrays numbered below n, each given those of the arrays before it
unfoldable pub matrices_below : (𝓐 : Arithmetic) → (ℕ → 𝓐.Carrier) → (Values → ℕ) → Placing → Placing → List Array → ℕ →
    List (Matrix 𝓐)
matrices_below 𝓐 embed v P P' arrays zero = []
matrices_below 𝓐 embed v P P' arrays (suc n) =
    let before = matrices_below 𝓐 embed v P P' arrays n in
    before ++ (entries_matrix 𝓐 embed v P P' arrays (matrix_at 𝓐 before) (array_at arrays n).entries ∷ [])

-- The dense form of the array numbered i. The paper's recursive equation for it, and that the equation has no other solution,
-- are `dense-is` and `dense-only` in proofs/DenseEquation.antt; outside 2^k rows and 2^k' columns it is zero (`dense-outside` in
-- proofs/DenseOutsideShape.antt).
abbrev pub dense : (𝓐 : Arithmetic) → (ℕ → 𝓐.Carrier) → (Values → ℕ) → Placing → Placing → List Array → ℕ → Matrix 𝓐
dense 𝓐 embed v P P' arrays i = matrix_at 𝓐 (matrices_below 𝓐 embed v P P' arrays (length arrays)) i
