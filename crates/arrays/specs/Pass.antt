-- One pass over the arrays (004, Lemma 2): each array's value from those of the arrays before it. The numbers of the key are
-- taken as in Dense.antt. The contracts of inner functions cite it; no public promise rests on it.
use Rattle.std.specs.Prelude.{ℕ, zero, suc, get_or}
use mathlib.Core.List.{List, [], ◌∷◌, ◌++◌, map, foldl}
use Rattle.algebra.specs.Arithmetic.{Arithmetic}
use Rattle.arrays.specs.Arrays.{Values, Cell, Call, Entries, cells, calls, Array, array_at}
use Rattle.arrays.specs.Side.{Side}

-- what a cell adds, in an array of k row bits and k' column bits. The two weights are multiplied first: once for A, B and C.
abbrev pub cell_term : (𝓐 : Arithmetic) → (ℕ → 𝓐.Carrier) → (Values → ℕ) → Side 𝓐 → Side 𝓐 → ℕ → ℕ → Cell → 𝓐.Carrier
cell_term 𝓐 embed v S S' k k' cell =
    𝓐.mul (embed (v cell.values)) (𝓐.mul (S.weigh k cell.row) (S'.weigh k' cell.column))

-- What a call adds, of an array that has this value. The factor multiplies the weight: once for A, B and C.
abbrev pub call_term : (𝓐 : Arithmetic) → (ℕ → 𝓐.Carrier) → Side 𝓐 → Side 𝓐 → ℕ → ℕ → Array → 𝓐.Carrier → Call → 𝓐.Carrier
call_term 𝓐 embed S S' k k' called value call =
    𝓐.mul value
    (𝓐.mul (embed call.factor)
    (𝓐.mul (S.factor k called.row_bits call.down) (S'.factor k' called.column_bits call.right)))

-- what the entries of an array add, one by one, where the array numbered i has the value numbered i of `values`
unfoldable pub entries_terms : (𝓐 : Arithmetic) → (ℕ → 𝓐.Carrier) → (Values → ℕ) → Side 𝓐 → Side 𝓐 → ℕ → ℕ → List Array →
    (ℕ → 𝓐.Carrier) → Entries → List 𝓐.Carrier
entries_terms 𝓐 embed v S S' k k' arrays values (cells list) = map (cell_term 𝓐 embed v S S' k k') list
entries_terms 𝓐 embed v S S' k k' arrays values (calls list) =
    map (λ call. call_term 𝓐 embed S S' k k' (array_at arrays call.id) (values call.id) call) list

-- an array's value: the terms added up from nought, first to last
abbrev pub array_value : (𝓐 : Arithmetic) → (ℕ → 𝓐.Carrier) → (Values → ℕ) → Side 𝓐 → Side 𝓐 → List Array →
    (ℕ → 𝓐.Carrier) → Array → 𝓐.Carrier
array_value 𝓐 embed v S S' arrays values array =
    foldl 𝓐.add 𝓐.nought (entries_terms 𝓐 embed v S S' array.row_bits array.column_bits arrays values array.entries)

-- the value numbered i
abbrev pub value_at : (𝓐 : Arithmetic) → List 𝓐.Carrier → ℕ → 𝓐.Carrier
value_at 𝓐 values i = get_or values i 𝓐.nought

-- the values of the arrays numbered below n
unfoldable pub values_below : (𝓐 : Arithmetic) → (ℕ → 𝓐.Carrier) → (Values → ℕ) → Side 𝓐 → Side 𝓐 → List Array → ℕ →
    List 𝓐.Carrier
values_below 𝓐 embed v S S' arrays zero = []
values_below 𝓐 embed v S S' arrays (suc n) =
    let before = values_below 𝓐 embed v S S' arrays n in
    before ++ (array_value 𝓐 embed v S S' arrays (value_at 𝓐 before) (array_at arrays n) ∷ [])
