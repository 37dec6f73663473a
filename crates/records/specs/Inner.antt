-- What the contracts of inner functions cite. No public promise rests on it.
use Rattle.std.specs.Prelude.{ℕ, ◌+◌, ◌^◌, ◌<◌, Bool, true, false, List, [], ◌∷◌}
use Rattle.std.proofs.Math.Option.{get_or, map}
use Rattle.records.specs.Kinds.{kind_of, fields_of, widths_of}
use Rattle.records.specs.Layout.{layout, lookup, total}
use Rattle.records.specs.declared.Record.{Record}

-- the length of a record of a kind, its first byte with it; 0 where there is no such kind
abbrev pub size_of : ℕ → ℕ
size_of kind = get_or (map (λ widths. 1 + total widths) (lookup layout kind)) 0

-- there is a field for each width, and it fits that many bytes
abbrev pub Fit : List ℕ → List ℕ → Type 0
Fit [] [] = Unit {0}
Fit [] (field ∷ fields) = ⊥
Fit (width ∷ widths) [] = ⊥
Fit (width ∷ widths) (field ∷ fields) = (field < 256 ^ width) × Fit widths fields

-- a record's fields fit their widths
abbrev pub Fitting : Record → Type 0
Fitting r = Fit (widths_of (kind_of r)) (fields_of r)

-- the length of a call, of edition 2 where `scaled`
abbrev pub call_size : Bool → ℕ
call_size false = 11
call_size true = 15
