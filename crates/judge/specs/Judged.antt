-- What a call is held to behind check's own rules (01, 'Who can cause a refusal' and 'Order'; 02, E7): 21, 22 and 23 for a point, 24
-- for a place, then 31 for the sheet; and what two keys are judged by together.
use Rattle.std.specs.Prelude.{ℕ, suc, ◌+◌, ◌*◌, max, cond, not, List, [], ◌∷◌, ◌++◌, eqb, leb, ltb, length}
use Rattle.refusal.specs.Outcome.{Outcome, given, refuse, and_then}
use Rattle.refusal.specs.declared.Reason.{Reason}
use Rattle.field.specs.Fp.{p}
use Rattle.rules.specs.Rules.{outside}
use Rattle.key.specs.declared.Counts.{Counts}

-- the index of the first number that is p or more; how many there are where none is
unfoldable pub first_over : List ℕ → ℕ
first_over [] = 0
first_over (r ∷ numbers) = cond (leb p r) 0 (suc (first_over numbers))

-- a point, where each coordinate takes `width` numbers: n row coordinates, n' column coordinates, each number below p, the rows first
unfoldable pub point_judged : ℕ → List ℕ → List ℕ → Counts → Outcome Counts
point_judged width rows columns counts =
    cond (not (eqb (length rows) (width * counts.rows))) (refuse Reason.RowCountWrong (length rows))
    (cond (not (eqb (length columns) (width * counts.columns))) (refuse Reason.ColumnCountWrong (length columns))
    (cond (ltb (first_over (rows ++ columns)) (length (rows ++ columns)))
    (refuse Reason.CoordinateTooGreat (first_over (rows ++ columns)))
    (given counts)))

-- a place: its row and its column lie inside the last array, which has the head's shape
unfoldable pub place_judged : ℕ → ℕ → Counts → Outcome Counts
place_judged row column counts =
    cond (outside counts.rows row) (refuse Reason.AddressOutside 0)
    (cond (outside counts.columns column) (refuse Reason.AddressOutside 1)
    (given counts))

-- a sheet of so many places, where each array takes `each` of them
unfoldable pub sheet_judged : ℕ → ℕ → Counts → Outcome Counts
sheet_judged each places counts =
    cond (ltb places (each * counts.arrays)) (refuse Reason.SheetTooShort (each * counts.arrays)) (given counts)

-- What two keys of these counts are judged by together: N and N', the larger row bits and column bits, and the arrays of the key that has
-- more of them. The cells and calls are those of both.
abbrev pub together : Counts → Counts → Counts
together one other =
    record {
      arrays = max one.arrays other.arrays;
      cells = one.cells + other.cells;
      calls = one.calls + other.calls;
      rows = max one.rows other.rows;
      columns = max one.columns other.columns;
    }

-- what names neither key: 21 and 22 by N and N', 23, then 31 for the key with more arrays; an element of the field takes `width` numbers
abbrev pub pair_judged : ℕ → List ℕ → List ℕ → ℕ → Counts → Counts → Outcome Counts
pair_judged width rows columns places one other =
    and_then (point_judged width rows columns (together one other)) (sheet_judged (3 * width) places)
