-- Keys of at most one row bit and one column bit, compared: where they are the same, the sheets, and a call for each refusal.
use Prim.Native.Nat.{ℕ, ◌-◌}
use mathlib.Core.Bool.{Bool, true, false}
use mathlib.Core.List.{List, [], ◌∷◌, map}
use mathlib.Core.Path.{◌≡◌, refl}
use lib.ListN.{replicate}
use Rattle.refusal.specs.declared.Which.{Which}
use Rattle.field.specs.Fp.{p}
use Rattle.field.specs.Scalars.{prime}
use Rattle.records.proofs.Examples.{key}
use Rattle.arrays.specs.Arrays.{Cell, cells, calls}
use Rattle.key.specs.Encoding.{key_bytes}
use Rattle.comparison.specs.Compare.{Answer, same, different, Comparison, compared}
use Rattle.comparison.proofs.CompareCases.{refused_call}
use Rattle.comparison.proofs.Computing.{comparing}

-- the key of one sparse array of n row bits and n' column bits
abbrev pub sparse : ℕ → ℕ → List Cell → List ℕ
sparse n n' list = key_bytes false n n' (record { row_bits = n; column_bits = n'; entries = cells list } ∷ [])

abbrev pub cell : ℕ → ℕ → ℕ → ℕ → ℕ → Cell
cell row column a b c = record { row = row; column = column; values = record { a = a; b = b; c = c } }

abbrev pub answers : List Comparison → List Answer
answers = map (λ c. c.answer)

-- one cell at the last place against none: the same exactly where a coordinate is 0
abbrev pub corner : List ℕ
corner = sparse 1 1 (cell 1 1 0 5 0 ∷ [])

abbrev pub none : List ℕ
none = sparse 1 1 []

abbrev corner_at : ℕ → ℕ → Comparison
corner_at row column = compared prime corner none (row ∷ []) (column ∷ []) (replicate 3 9)

corner-against-none :
    answers (corner_at 0 0 ∷ corner_at 0 7 ∷ corner_at 7 0 ∷ corner_at 1 1 ∷ corner_at 7 (p - 1) ∷ [])
    ≡ same ∷ same ∷ same ∷ different ∷ different ∷ []
unfolding comparing
corner-against-none = refl

-- the factors of both keys, whatever is answered: the cell weighs one row coordinate and one column coordinate
both-counted :
    map (λ (c : Comparison). c.factors)
    (corner_at 0 0 ∷ corner_at 1 1 ∷ compared prime none corner (1 ∷ []) (1 ∷ []) (replicate 3 9) ∷
    compared prime corner corner (1 ∷ []) (1 ∷ []) (replicate 3 9) ∷ [])
    ≡ 2 ∷ 2 ∷ 2 ∷ 4 ∷ []
unfolding comparing
both-counted = refl

-- no coordinates: the one place decides, in A, in B and in C
abbrev places_of : ℕ → ℕ → ℕ → Comparison
places_of a b c =
    compared prime (sparse 0 0 (cell 0 0 a b c ∷ [])) (sparse 0 0 (cell 0 0 (p - 1) 2 3 ∷ cell 0 0 2 0 0 ∷ [])) [] [] (replicate 3 9)

no-coordinates :
    answers (places_of 1 2 3 ∷ places_of 0 2 3 ∷ places_of 1 3 3 ∷ places_of 1 2 4 ∷ places_of 3 2 1 ∷ [])
    ≡ same ∷ different ∷ different ∷ different ∷ different ∷ []
unfolding comparing
no-coordinates = refl

-- One array that calls another twice, with these factors. In edition 2 a factor of 1 each is the key of edition 1, and so is 3 and
-- p-1, which add up to 2; a factor of 1 and p-1 leave nothing.
abbrev twice : Bool → ℕ → ℕ → List ℕ
twice scaled one other =
    key_bytes scaled 0 0
    (record { row_bits = 0; column_bits = 0; entries = cells (cell 0 0 5 7 0 ∷ []) } ∷
    record {
      row_bits = 0;
      column_bits = 0;
      entries = calls
          (record { id = 0; down = 0; right = 0; factor = one } ∷ record { id = 0; down = 0; right = 0; factor = other } ∷ []);
    } ∷ [])

abbrev twice_as : ℕ → ℕ → Comparison
twice_as one other = compared prime (twice false 1 1) (twice true one other) [] [] (replicate 6 9)

editions :
    answers (twice_as 1 1 ∷ twice_as 3 (p - 1) ∷ twice_as 1 (p - 1) ∷ twice_as 0 1 ∷ [])
    ≡ same ∷ same ∷ different ∷ different ∷ []
unfolding comparing
editions = refl

cancelled :
    answers (compared prime (sparse 0 0 []) (twice true 1 (p - 1)) [] [] (replicate 6 9) ∷ []) ≡ same ∷ []
unfolding comparing
cancelled = refl

-- the key of 01's keysheet input, and one of a single array: the second key's numbers, beyond them the first key's, and then what
-- was there
abbrev single : List ℕ
single = sparse 1 1 (cell 1 1 1 2 3 ∷ [])

written :
    map (λ (c : Comparison). c.sheet)
    (compared prime key single (3 ∷ []) (4 ∷ []) (replicate 7 9) ∷ compared prime single key (3 ∷ []) (4 ∷ []) (replicate 7 9) ∷ [])
    ≡ (12 ∷ 24 ∷ 36 ∷ 2147483567 ∷ 2147483535 ∷ 0 ∷ 9 ∷ [])
    ∷ (20 ∷ 28 ∷ 0 ∷ 2147483567 ∷ 2147483535 ∷ 0 ∷ 9 ∷ [])
    ∷ []
unfolding comparing
written = refl

-- ---- refusals, in their order: each call's later faults do not count

abbrev refusals : List Comparison
refusals =
    -- the empty key first, second and both
    compared prime [] (1 ∷ []) [] [] [] ∷
    compared prime key [] [] [] [] ∷
    compared prime [] [] [] [] [] ∷
    -- no row coordinate, no column coordinate, and coordinates p or more, the row first
    compared prime key single [] [] [] ∷
    compared prime key single (p ∷ []) [] [] ∷
    compared prime key single (p ∷ []) (p ∷ []) [] ∷
    compared prime key single (0 ∷ []) (p ∷ []) [] ∷
    -- a sheet that fits only one of the keys
    compared prime key single (3 ∷ []) (4 ∷ []) (replicate 5 9) ∷
    compared prime single key (3 ∷ []) (4 ∷ []) (replicate 5 9) ∷ []

refused_all :
    refusals ≡
    refused_call Which.First 2 0 [] ∷ refused_call Which.Second 2 0 [] ∷ refused_call Which.First 2 0 [] ∷
    refused_call Which.Neither 21 0 [] ∷ refused_call Which.Neither 22 0 [] ∷
    refused_call Which.Neither 23 0 [] ∷ refused_call Which.Neither 23 1 [] ∷
    refused_call Which.Neither 31 6 (replicate 5 9) ∷ refused_call Which.Neither 31 6 (replicate 5 9) ∷ []
unfolding comparing
refused_all = refl
