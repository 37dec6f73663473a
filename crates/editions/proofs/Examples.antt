-- The key of 01's keysheet input, moved there and back, and a call for each refusal. Number 56 needs a key of more than 48,000 bytes, and
-- is given by its length alone.
use Prim.Native.Nat.{ℕ}
use mathlib.Core.List.{List, [], ◌∷◌, ◌++◌, map}
use mathlib.Core.Path.{◌≡◌, refl}
use lib.ListN.{replicate}
use Rattle.refusal.specs.Number.{number_of}
use Rattle.refusal.specs.Outcome.{given, refused}
use Rattle.records.proofs.Examples.{key}
use Rattle.key.proofs.Computing.{checking}
use Rattle.editions.specs.Move.{factors_judged, length_judged, room_judged, Moving, written, moving}
use Rattle.editions.proofs.MovingCases.{untouched}

-- the same key in edition 2, its two calls with these factors
abbrev scaled_by : ℕ → ℕ → List ℕ
scaled_by one other =
    0x07 ∷ 0x01 ∷ 0x01 ∷
    0x02 ∷ 0x00 ∷ 0x01 ∷
    0x04 ∷ 0x00 ∷ 0x00 ∷ 0x00 ∷ 0x00 ∷ 0x01 ∷ 0x00 ∷ 0x00 ∷ 0x00 ∷ 0x05 ∷ 0x00 ∷ 0x00 ∷ 0x00 ∷
    0x07 ∷ 0x00 ∷ 0x00 ∷ 0x00 ∷ 0x00 ∷ 0x00 ∷ 0x00 ∷ 0x00 ∷
    0x03 ∷ 0x01 ∷ 0x01 ∷
    0x08 ∷ 0x00 ∷ 0x00 ∷ 0x00 ∷ 0x00 ∷ 0x00 ∷ 0x00 ∷ 0x00 ∷ 0x00 ∷ 0x00 ∷ 0x00 ∷ one ∷ 0x00 ∷ 0x00 ∷ 0x00 ∷
    0x08 ∷ 0x00 ∷ 0x00 ∷ 0x00 ∷ 0x00 ∷ 0x00 ∷ 0x00 ∷ 0x00 ∷ 0x00 ∷ 0x00 ∷ 0x00 ∷ other ∷ 0x00 ∷ 0x00 ∷ 0x00 ∷
    0x06 ∷ []

-- four bytes more a call, and the byte behind the copy stays
there : moving key (replicate 62 9) ≡ record { answer = given 61; buffer = scaled_by 1 1 ++ (9 ∷ []) }
unfolding checking written factors_judged length_judged room_judged
there = refl

back : moving (scaled_by 1 1) (replicate 54 9) ≡ record { answer = given 53; buffer = key ++ (9 ∷ []) }
unfolding checking written factors_judged length_judged room_judged
back = refl

-- ---- refusals: each call's later faults do not count, and the buffer stays

abbrev refusals : List Moving
refusals =
    -- the empty key
    moving [] (9 ∷ []) ∷
    -- factors other than 1, the first counts
    moving (scaled_by 0 3) (9 ∷ []) ∷
    moving (scaled_by 1 3) (9 ∷ []) ∷
    -- buffers one byte too short
    moving key (replicate 60 9) ∷
    moving (scaled_by 1 1) (replicate 52 9) ∷ []

refused_all :
    refusals ≡
    untouched (refused 2 0) (9 ∷ []) ∷
    untouched (refused 55 30) (9 ∷ []) ∷
    untouched (refused 55 45) (9 ∷ []) ∷
    untouched (refused 32 61) (replicate 60 9) ∷
    untouched (refused 32 53) (replicate 52 9) ∷ []
unfolding checking written factors_judged length_judged room_judged
refused_all = refl

-- a copy of 65,536 bytes passes, one byte more gives 56
lengths : map length_judged (65536 ∷ 65537 ∷ []) ≡ given 65536 ∷ refused 56 65537 ∷ []
unfolding number_of length_judged
lengths = refl
