-- What keysheet prints for its input (01, 'The keysheet program and the host').
use Rattle.std.specs.Prelude.{ℕ, zero, suc, cond, List, [], ◌++◌, ltb, length, replicate}
use Rattle.refusal.specs.Outcome.{Outcome, given, refused, refuse, and_then}
use Rattle.refusal.specs.declared.Reason.{Reason}
use Rattle.field.specs.Scalars.{prime}
use Rattle.arrays.specs.Arrays.{Values}
use Rattle.key.specs.Check.{checked_key}
use Rattle.key.specs.KeyArrays.{key_arrays}
use Rattle.key.specs.declared.Counts.{Counts}
use Rattle.evaluation.specs.Evaluate.{values_at, evaluated}
use Rattle.report.specs.Input.{rows_in, columns_in, point_length, key_in}
use Rattle.report.specs.Text.{ascii, labelled}

-- the first line: key length, the counts, n, n'
abbrev pub key_line : ℕ → Counts → List ℕ
key_line len counts =
    labelled (ascii "key ") len ++
    labelled (ascii " bytes arrays ") counts.arrays ++
    labelled (ascii " cells ") counts.cells ++
    labelled (ascii " calls ") counts.calls ++
    labelled (ascii " rows ") counts.rows ++
    labelled (ascii " columns ") counts.columns ++
    ascii "\n"

-- the line of array i: its number, A, B, C
abbrev pub array_line : ℕ → Values → List ℕ
array_line i values =
    labelled (ascii "") i ++
    labelled (ascii " ") values.a ++
    labelled (ascii " ") values.b ++
    labelled (ascii " ") values.c ++
    ascii "\n"

-- the lines of so many arrays, from array 0 on
abbrev pub array_lines : (ℕ → Values) → ℕ → List ℕ
array_lines values zero = []
array_lines values (suc i) = array_lines values i ++ array_line i (values i)

-- the lines of an accepted key of these counts at a point: its own, and those of its arrays
abbrev pub key_lines : List ℕ → List ℕ → List ℕ → Counts → List ℕ
key_lines key rows columns counts =
    key_line (length key) counts ++ array_lines (values_at prime (key_arrays key) rows columns) counts.arrays

-- a refusal prints only its number and place
abbrev pub refusal_line : ℕ → ℕ → List ℕ
refusal_line number place = labelled (ascii "refused ") number ++ labelled (ascii " at ") place ++ ascii "\n"

-- a sheet for as many arrays as a key may have
abbrev pub blank : List ℕ
blank = replicate 3072 0

-- the lines for a key at a point, or evaluate's refusal
abbrev pub evaluated_lines : List ℕ → List ℕ → List ℕ → Outcome (List ℕ)
evaluated_lines key rows columns =
    and_then (checked_key key) (λ counts.
    and_then (evaluated prime key rows columns blank).answer (λ last.
    given (key_lines key rows columns counts)))

-- 42, 41, then evaluate
unfoldable pub sheet_lines : List ℕ → Outcome (List ℕ)
sheet_lines input =
    cond (ltb 65536 (length input)) (refuse Reason.InputTooLong 65536)
    (cond (ltb (length input) (point_length input)) (refuse Reason.InputTooShort (length input))
    (evaluated_lines (key_in input) (rows_in input) (columns_in input)))

-- the text of what is answered
abbrev pub text_of : Outcome (List ℕ) → List ℕ
text_of (given lines) = lines
text_of (refused number place) = refusal_line number place

-- all that keysheet prints
abbrev pub printed : List ℕ → List ℕ
printed input = text_of (sheet_lines input)
