-- The layout of records (01, 'Records'; 02, E9): the kinds with the widths of their fields, and numbers as bytes.
use Rattle.std.specs.Prelude.{ℕ, zero, suc, ◌+◌, ◌*◌, ◌/◌, ◌%◌, cond, List, [], ◌∷◌, ◌++◌, eqb, take, drop}
use Rattle.std.proofs.Math.Option.{Option, none, some}

-- each kind, and how many bytes each field of its body has
abbrev pub layout : List (ℕ × List ℕ)
layout =
    -- head of edition 1: row bits, column bits
    (0x01, 1 ∷ 1 ∷ []) ∷
    -- opens a sparse array: row bits, column bits
    (0x02, 1 ∷ 1 ∷ []) ∷
    -- opens a recursive array: row bits, column bits
    (0x03, 1 ∷ 1 ∷ []) ∷
    -- cell: row, column, A, B, C
    (0x04, 4 ∷ 4 ∷ 4 ∷ 4 ∷ 4 ∷ []) ∷
    -- call of edition 1: id, row position, column position
    (0x05, 2 ∷ 4 ∷ 4 ∷ []) ∷
    -- end
    (0x06, []) ∷
    -- head of edition 2: row bits, column bits
    (0x07, 1 ∷ 1 ∷ []) ∷
    -- call of edition 2: id, row position, column position, factor
    (0x08, 2 ∷ 4 ∷ 4 ∷ 4 ∷ []) ∷ []

-- the widths that a table has for a kind, or none
abbrev pub lookup : List (ℕ × List ℕ) → ℕ → Option (List ℕ)
lookup [] kind = none
lookup (entry ∷ rest) kind = cond (eqb kind entry.0) (some entry.1) (lookup rest kind)

-- the number that some bytes are, the lowest first
abbrev pub number_in : List ℕ → ℕ
number_in [] = 0
number_in (byte ∷ bytes) = byte + 256 * number_in bytes

-- a number in so many bytes, the lowest first
abbrev pub bytes_of : ℕ → ℕ → List ℕ
bytes_of zero number = []
bytes_of (suc width) number = number % 256 ∷ bytes_of width (number / 256)

-- the fields of these widths with which some bytes begin
abbrev pub fields_in : List ℕ → List ℕ → List ℕ
fields_in [] bytes = []
fields_in (width ∷ widths) bytes = number_in (take width bytes) ∷ fields_in widths (drop width bytes)

-- fields in these widths, one behind the other
abbrev pub field_bytes : List ℕ → List ℕ → List ℕ
field_bytes [] fields = []
field_bytes (width ∷ widths) [] = []
field_bytes (width ∷ widths) (field ∷ fields) = bytes_of width field ++ field_bytes widths fields

-- the length of a body
abbrev pub total : List ℕ → ℕ
total [] = 0
total (width ∷ widths) = width + total widths
