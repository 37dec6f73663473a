-- Worked examples of what is printed: 01's input, refusals of the feeder, of the point and of a key, and numbers in decimal.
use Prim.Native.Nat.{ℕ}
use mathlib.Core.List.{List, [], ◌∷◌, ◌++◌, map}
use mathlib.Core.Path.{◌≡◌, refl}
use lib.ListN.{replicate}
use Rattle.refusal.specs.Number.{number_of}
use Rattle.records.proofs.Examples.{key}
use Rattle.report.specs.Printed.{sheet_lines, printed}
use Rattle.report.specs.Text.{ascii, places_within, decimal}
use Rattle.report.proofs.Computing.{printing}

-- one row coordinate, 3, and one column coordinate, 4
point : List ℕ
point = 0x01 ∷ 0x01 ∷ 0x03 ∷ 0x00 ∷ 0x00 ∷ 0x00 ∷ 0x04 ∷ 0x00 ∷ 0x00 ∷ 0x00 ∷ []

sample :
    printed (point ++ key) ≡
    ascii "key 53 bytes arrays 2 cells 1 calls 2 rows 1 columns 1\n0 20 28 0\n1 2147483567 2147483535 0\n"
unfolding printing point
sample = refl

-- Each with what is refused: no byte, one, a coordinate cut off, a count above 30, no key behind the coordinates, a head alone, a point
-- of two rows for the key, one of two columns, and a column coordinate p.
refusals :
    map printed (
    [] ∷
    (0x01 ∷ []) ∷
    (0x01 ∷ 0x01 ∷ 0x03 ∷ 0x00 ∷ 0x00 ∷ 0x00 ∷ 0x04 ∷ 0x00 ∷ 0x00 ∷ []) ∷
    (0xff ∷ 0xff ∷ key) ∷
    point ∷
    (point ++ (0x01 ∷ 0x01 ∷ 0x01 ∷ [])) ∷
    ((0x02 ∷ 0x00 ∷ replicate 8 0x00) ++ key) ∷
    ((0x01 ∷ 0x02 ∷ replicate 12 0x00) ++ key) ∷
    ((0x01 ∷ 0x01 ∷ 0x03 ∷ 0x00 ∷ 0x00 ∷ 0x00 ∷ 0xff ∷ 0xff ∷ 0xff ∷ 0x7f ∷ []) ++ key) ∷ []
    ) ≡
    ascii "refused 41 at 0\n" ∷
    ascii "refused 41 at 1\n" ∷
    ascii "refused 41 at 9\n" ∷
    ascii "refused 41 at 55\n" ∷
    ascii "refused 2 at 0\n" ∷
    ascii "refused 2 at 3\n" ∷
    ascii "refused 21 at 2\n" ∷
    ascii "refused 22 at 2\n" ∷
    ascii "refused 23 at 1\n" ∷ []
unfolding printing point
refusals = refl

long : printed (replicate 65537 0) ≡ ascii "refused 42 at 65536\n"
unfolding sheet_lines places_within number_of
long = refl

-- 65,536 bytes are not too many: no coordinates, and a key that does not begin with a record
full : printed (replicate 65536 0) ≡ ascii "refused 3 at 0\n"
unfolding printing
full = refl

numbers :
    map decimal (0 ∷ 9 ∷ 10 ∷ 99 ∷ 100 ∷ 2147483646 ∷ 4294967295 ∷ 18446744073709551615 ∷ []) ≡
    ascii "0" ∷
    ascii "9" ∷
    ascii "10" ∷
    ascii "99" ∷
    ascii "100" ∷
    ascii "2147483646" ∷
    ascii "4294967295" ∷
    ascii "18446744073709551615" ∷ []
unfolding places_within
numbers = refl
