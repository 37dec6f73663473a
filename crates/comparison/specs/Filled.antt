-- One of two keys that are compared (02, E7). A point has N row coordinates and N' column coordinates, the larger bits of the two keys. A
-- key of n row bits and n' column bits uses the first n and the first n' of them, and is read as placed at position 0 of 2^N rows and 2^N'
-- columns, with zeros elsewhere: the products below are the extensions of its dense matrices so filled, at the whole point
-- (`filled-extends` in proofs/FilledExtensions.antt).
use Rattle.std.specs.Prelude.{ℕ, ◌+◌, ◌-◌, ◌*◌, List, take, drop}
use Rattle.field.specs.Scalars.{Scalars}
use Rattle.multilinear.specs.Weight.{weight}
use Rattle.arrays.specs.Arrays.{value_of, values_by}
use Rattle.key.specs.Factors.{key_factors}
use Rattle.key.specs.declared.Counts.{Counts}
use Rattle.evaluation.specs.Evaluate.{ValuesOf, last_values, evaluated}

-- the numbers of the first coordinates, which a key of so many bits uses, on one side of the point
abbrev pub used : Scalars → ℕ → List ℕ → List ℕ
used 𝓢 bits numbers = take (𝓢.width * bits) numbers

-- eq([0]) of the coordinates behind them, which it doesn't use
abbrev pub unused_weight : (𝓢 : Scalars) → ℕ → List ℕ → 𝓢.arithmetic.Carrier
unused_weight 𝓢 bits numbers = weight 𝓢.arithmetic 0 (𝓢.elements (drop (𝓢.width * bits) numbers))

-- a triple, each of A, B and C multiplied by an element
abbrev pub multiplied : (𝓢 : Scalars) → ValuesOf 𝓢 → 𝓢.arithmetic.Carrier → ValuesOf 𝓢
multiplied 𝓢 values weight = values_by (λ part. 𝓢.arithmetic.mul (value_of part values) weight)

-- a key's triple: what evaluate answers at the coordinates that the key uses, multiplied by eq([0]) of the row coordinates and of the column
-- coordinates that it doesn't use
abbrev pub filled_values : (𝓢 : Scalars) → List ℕ → Counts → List ℕ → List ℕ → ValuesOf 𝓢
filled_values 𝓢 key own rows columns =
    multiplied 𝓢 (last_values 𝓢 key (used 𝓢 own.rows rows) (used 𝓢 own.columns columns))
    (𝓢.arithmetic.mul (unused_weight 𝓢 own.rows rows) (unused_weight 𝓢 own.columns columns))

-- its factors: E4's, and one for each coordinate that it doesn't use
abbrev pub filled_factors : List ℕ → Counts → ℕ → ℕ → ℕ
filled_factors key own N N' = key_factors key + ((N - own.rows) + (N' - own.columns))

-- a sheet on which the key was evaluated at the coordinates that it uses
abbrev pub own_sheet : Scalars → List ℕ → Counts → List ℕ → List ℕ → List ℕ → List ℕ
own_sheet 𝓢 key own rows columns sheet = (evaluated 𝓢 key (used 𝓢 own.rows rows) (used 𝓢 own.columns columns) sheet).sheet
