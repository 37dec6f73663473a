-- What is promised of the text, from what was written to it.
use Prim.Native.Nat.{ℕ, ◌+◌, ◌-◌, ◌*◌, ◌≤◌}
use mathlib.Core.List.{List, ◌++◌}
use mathlib.Core.Path.{◌≡◌, sym, ap, ap₂, ◌∙◌}
use native.Mathlib.Omega.{arith}
use lib.ListN.{length, take, drop, length-append, length-drop}
use lib.Seq.{sets, length-take-le, take_all}
use Rattle.report.specs.Inner.{Wrote}
use Rattle.report.specs.Input.{row_count, column_count, numbers_in, rows_in, columns_in, point_length, key_in}
use Rattle.report.specs.Printed.{evaluated_lines, printed}
use Rattle.report.proofs.BytesWritten.{wrote-whole}
use Rattle.report.proofs.Coordinates.{filled-part}
use Rattle.io.specs.Counts.{IsPrefixLen as Within}

-- the three promises, where what is printed was written from the start on
pub promised : (input text after : List ℕ) (next : ℕ) → Wrote text 0 (printed input) after next →
    (next ≡ length (printed input)) × ((after ≡ printed input ++ drop (length (printed input)) text) × Within next after)
promised input text after next w =
    let (length-is, text-is) = wrote-whole text (printed input) after next w in
    let within : next ≤ length after =
    omega (arith, ap length text-is, length-append (printed input) (drop (length (printed input)) text), length-is) in
    (length-is, (text-is, (within, sym (length-take-le next after within))))

-- the point and the key, as they are read
pub as_read : (input rows rows₀ columns columns₀ : List ℕ) (r c at : ℕ) → r ≡ row_count input → c ≡ column_count input →
    at ≡ 2 + 4 * r + 4 * c → r ≤ length rows₀ → c ≤ length columns₀ →
    rows ≡ sets rows₀ 0 (numbers_in r (drop 2 input)) →
    columns ≡ sets columns₀ 0 (numbers_in c (drop (2 + 4 * r) input)) →
    evaluated_lines (take (length input - at) (drop at input)) (take r rows) (take c columns)
    ≡ evaluated_lines (key_in input) (rows_in input) (columns_in input)
as_read input rows rows₀ columns columns₀ r c at rs cs place room room' filled filled' =
    let behind : at ≡ point_length input = omega (arith, place, rs, cs) in
    let part : take (length input - at) (drop at input) ≡ key_in input =
    take_all (length input - at) (drop at input) (omega (arith, length-drop at input)) ∙ ap (λ (n : ℕ). drop n input) behind in
    let own : take r rows ≡ rows_in input =
    ap (take r) filled ∙ filled-part r (drop 2 input) rows₀ room ∙ ap (λ (n : ℕ). numbers_in n (drop 2 input)) rs in
    let others : take c columns ≡ columns_in input =
    ap (take c) filled' ∙ filled-part c (drop (2 + 4 * r) input) columns₀ room'
    ∙ ap₂ (λ (n m : ℕ). numbers_in m (drop (2 + 4 * n) input)) rs cs in
    λ i. evaluated_lines (part i) (own i) (others i)
