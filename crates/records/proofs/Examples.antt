-- The key of 01's keysheet input: its bytes are those of its records, and each record is taken where it stands. Records of edition 2,
-- and records that cannot be taken.
use Rattle.std.specs.Prelude.{Ok}
use Prim.Native.Nat.{ℕ}
use mathlib.Core.List.{List, [], ◌∷◌, ◌++◌, map}
use mathlib.Core.Path.{◌≡◌, refl}
use Rattle.refusal.specs.Number.{number_of}
use Rattle.refusal.specs.Outcome.{refused}
use Rattle.records.specs.Kinds.{encoded}
use Rattle.records.specs.Take.{taken_outcome, taken_as, taken_from, taken_at}
use Rattle.records.specs.declared.Record.{Record}

abbrev pub key : List ℕ
key =
    0x01 ∷ 0x01 ∷ 0x01 ∷
    0x02 ∷ 0x00 ∷ 0x01 ∷
    0x04 ∷ 0x00 ∷ 0x00 ∷ 0x00 ∷ 0x00 ∷ 0x01 ∷ 0x00 ∷ 0x00 ∷ 0x00 ∷ 0x05 ∷ 0x00 ∷ 0x00 ∷ 0x00 ∷
    0x07 ∷ 0x00 ∷ 0x00 ∷ 0x00 ∷ 0x00 ∷ 0x00 ∷ 0x00 ∷ 0x00 ∷
    0x03 ∷ 0x01 ∷ 0x01 ∷
    0x05 ∷ 0x00 ∷ 0x00 ∷ 0x00 ∷ 0x00 ∷ 0x00 ∷ 0x00 ∷ 0x00 ∷ 0x00 ∷ 0x00 ∷ 0x00 ∷
    0x05 ∷ 0x00 ∷ 0x00 ∷ 0x00 ∷ 0x00 ∷ 0x00 ∷ 0x00 ∷ 0x00 ∷ 0x00 ∷ 0x00 ∷ 0x00 ∷
    0x06 ∷ []

abbrev head : Record
head = Record.Head (record { rows = 1; columns = 1 })

abbrev sparse : Record
sparse = Record.Sparse (record { rows = 0; columns = 1 })

abbrev cell : Record
cell = Record.Cell (record { row = 0; column = 1; a = 5; b = 7; c = 0 })

abbrev recursive : Record
recursive = Record.Recursive (record { rows = 1; columns = 1 })

abbrev call : Record
call = Record.Call (record { id = 0; down = 0; right = 0 })

bytes :
    encoded head ++ encoded sparse ++ encoded cell ++ encoded recursive ++ encoded call ++ encoded call ++ encoded Record.End ≡ key
bytes = refl

-- behind the end there is no byte, and behind that no place
records :
    map (taken_at key) (0 ∷ 3 ∷ 6 ∷ 27 ∷ 30 ∷ 41 ∷ 52 ∷ 53 ∷ 54 ∷ []) ≡
    taken_outcome (Ok (head, 3)) ∷
    taken_outcome (Ok (sparse, 6)) ∷
    taken_outcome (Ok (cell, 27)) ∷
    taken_outcome (Ok (recursive, 30)) ∷
    taken_outcome (Ok (call, 41)) ∷
    taken_outcome (Ok (call, 52)) ∷
    taken_outcome (Ok (Record.End, 53)) ∷
    refused 2 53 ∷
    refused 33 53 ∷ []
unfolding taken_at taken_from taken_as number_of
records = refl

-- a head and a call of edition 2, with factor 258
scaled :
    map (taken_at (encoded (Record.ScaledHead (record { rows = 1; columns = 2 })) ++ (0x08 ∷ 0x03 ∷ 0x00 ∷ 0x04 ∷ 0x00 ∷ 0x00 ∷ 0x00 ∷
    0x05 ∷ 0x00 ∷ 0x00 ∷ 0x00 ∷ 0x02 ∷ 0x01 ∷ 0x00 ∷ 0x00 ∷ []))) (0 ∷ 3 ∷ []) ≡
    taken_outcome (Ok ((Record.ScaledHead (record { rows = 1; columns = 2 })), 3)) ∷
    taken_outcome (Ok ((Record.ScaledCall (record { id = 3; down = 4; right = 5; factor = 258 })), 18)) ∷ []
unfolding taken_at taken_from taken_as
scaled = refl

-- an unknown kind, and a cell and a call of edition 2 that are cut off
faults : map (taken_at (0x06 ∷ 0x09 ∷ 0x04 ∷ 0x08 ∷ [])) (1 ∷ 2 ∷ 3 ∷ []) ≡ refused 3 1 ∷ refused 2 2 ∷ refused 2 3 ∷ []
unfolding taken_at taken_from taken_as number_of
faults = refl
