-- Where cell answers, the sheet is as after evaluate at the bits of the row and of the column.
use Prim.Native.Nat.{ℕ, ◌*◌, ◌≤◌}
use mathlib.Core.List.{List}
use mathlib.Core.Path.{◌≡◌, sym, ap, ◌∙◌}
use native.Mathlib.Nat.{one-mul}
use lib.ListN.{length}
use Rattle.refusal.specs.Outcome.{Outcome, given, and_then}
use Rattle.refusal.proofs.Outcomes.{given-injective}
use Rattle.field.specs.Fp.{fp}
use Rattle.field.specs.Scalars.{prime}
use Rattle.multilinear.specs.Weight.{bits}
use Rattle.multilinear.proofs.Bits.{bits-length}
use Rattle.arrays.specs.Arrays.{Values}
use Rattle.key.specs.Check.{checked_key}
use Rattle.key.specs.KeyArrays.{key_arrays}
use Rattle.key.specs.declared.Counts.{Counts}
use Rattle.judge.specs.Judged.{point_judged, place_judged, sheet_judged}
use Rattle.judge.proofs.JudgementsInOrder.{given-known}
use Rattle.judge.proofs.NothingRefused.{place-gives, point-of}
use Rattle.evaluation.specs.Cell.{dense_values, celled}
use Rattle.evaluation.specs.Evaluate.{last_of, values_at, evaluated, Counted, counted_for}
use Rattle.evaluation.specs.Sheet.{places_of}
use Rattle.evaluation.proofs.EvaluatePromises.{answered, concluded-given}
use Rattle.evaluation.proofs.PlaceAsPoint.{bits_below}
use Rattle.evaluation.proofs.SheetAfterEvaluate.{sheet-given}

-- the bits of a place are a point for its key
bits-judged : (counts : Counts) (row column : ℕ) →
    point_judged 1 (bits fp counts.rows row) (bits fp counts.columns column) counts ≡ given counts
bits-judged counts row column =
    point-of 1 (bits fp counts.rows row) (bits fp counts.columns column) counts
    (record {
      rows_are = bits-length fp counts.rows row ∙ sym (one-mul counts.rows);
      columns-are = bits-length fp counts.columns column ∙ sym (one-mul counts.columns);
      rows-below = bits_below counts.rows row;
      columns-below = bits_below counts.columns column;
    })

pub cell-sheet : (key : List ℕ) (row column : ℕ) (sheet : List ℕ) (counts : Counts) (counted : Counted prime) →
    checked_key key ≡ given counts → (celled key row column sheet).answer ≡ given counted →
    (celled key row column sheet).sheet ≡ (evaluated prime key (bits fp counts.rows row) (bits fp counts.columns column) sheet).sheet
cell-sheet key row column sheet counts counted accepted e =
    sym (concluded-given prime _ last each sheet counts (sym at_place)).1
    ∙ sym (sheet-given prime key rows columns sheet counts accepted (bits-judged counts row column) room)
  where
    rows : List ℕ
    rows = bits fp counts.rows row

    columns : List ℕ
    columns = bits fp counts.columns column

    last : Counts → Counted prime
    last c = counted_for prime key (dense_values (key_arrays key) (last_of (key_arrays key)) row column)

    each : Counts → ℕ → Values
    each c = values_at prime (key_arrays key) (bits fp c.rows row) (bits fp c.columns column)

    judgements : Outcome Counts
    judgements = and_then (and_then (checked_key key) (place_judged row column)) (sheet_judged (places_of prime) (length sheet))

    admitted : (c : Counts) × (judgements ≡ given c)
    admitted = answered prime judgements last each sheet counted e

    known : (c : Counts) → judgements ≡ given c → (c ≡ counts) × (3 * c.arrays ≤ length sheet)
    known c a =
        let (checked, inside, enough) =
        given-known (checked_key key) (place_judged row column) _ (place-gives row column) (places_of prime) (length sheet) c a in
        (given-injective (sym checked ∙ accepted), enough)

    at_place : judgements ≡ given counts
    at_place = admitted.1 ∙ ap given (known admitted.0 admitted.1).0

    room : 3 * counts.arrays ≤ length sheet
    room = (known counts at_place).1
