-- What is printed, by what check and evaluate answer and by what the input holds.
use Rattle.refusal.specs.declared.Refusal.{Refusal}
use Rattle.std.specs.Prelude.{Result, Ok}
use Prim.Native.Nat.{ℕ, ◌+◌, ◌*◌, ◌≤◌, ◌<◌}
use mathlib.Core.List.{List, ◌++◌}
use mathlib.Core.Path.{◌≡◌, refl, sym, ap, ◌∙◌}
use native.Mathlib.Omega.{arith}
use borrow.Author.Tests.{lt-ltb, le-ltb}
use lib.ListN.{length, get_or}
use Rattle.refusal.specs.Outcome.{Outcome, given, refused, refuse, and_then}
use Rattle.refusal.specs.declared.Reason.{Reason}
use Rattle.refusal.proofs.Outcomes.{given-injective, given-not-refused}
use Rattle.field.specs.Scalars.{prime}
use Rattle.field.proofs.PrimeLawful.{prime-lawful}
use Rattle.key.specs.Check.{checked_key}
use Rattle.key.specs.KeyArrays.{key_arrays}
use Rattle.key.specs.declared.Counts.{Counts}
use Rattle.judge.specs.Judged.{point_judged, sheet_judged}
use Rattle.judge.proofs.JudgementsInOrder.{given-known}
use Rattle.judge.proofs.NothingRefused.{PointOf, point-of, point-gives}
use Rattle.evaluation.specs.Evaluate.{values_at, last_values, concluded, evaluated, Counted, counted_for}
use Rattle.evaluation.specs.Inner.{sheet_values}
use Rattle.evaluation.specs.Sheet.{places_of}
use Rattle.evaluation.proofs.EvaluatePromises.{at_most_1024}
use Rattle.evaluation.proofs.SheetAfterEvaluate.{place-given}
use Rattle.scalar.specs.Elements.{singles}
use Rattle.evaluate.specs.Answer.{evaluated_outcome}
use Rattle.evaluate.specs.AnswerOver.{counted_of}
use Rattle.field.specs.declared.fp.Fp.{Fp}
use Rattle.evaluate.specs.declared.Counted.{Counted as OfCall}
use Rattle.report.specs.Input.{rows_in, columns_in, point_length, key_in}
use Rattle.report.specs.Printed.{key_line, array_lines, key_lines, blank, evaluated_lines, sheet_lines}
use Rattle.report.proofs.ArrayLines.{lines_same}

-- ---- the lines for a key at a point

module _ (key rows columns : List ℕ) where
  pub check-refused : (number place : ℕ) → checked_key key ≡ refused number place → evaluated_lines key rows columns ≡ refused number place
  check-refused number place e =
      ap (λ (o : Outcome Counts).
      and_then o (λ counts.
      and_then (evaluated prime key rows columns blank).answer (λ last. given (key_lines key rows columns counts)))) e

  module _ (counts : Counts) (accepted : checked_key key ≡ given counts) where
    abbrev lines : Outcome (Counted prime) → Outcome (List ℕ)
    lines answer = and_then answer (λ last. given (key_lines key rows columns counts))

    answered : (answer : Outcome (Counted prime)) → (evaluated prime key rows columns blank).answer ≡ answer →
        evaluated_lines key rows columns ≡ lines answer
    answered answer e =
        ap (λ (o : Outcome Counts).
        and_then o (λ counts.
        and_then (evaluated prime key rows columns blank).answer (λ last. given (key_lines key rows columns counts)))) accepted
        ∙ ap lines e

    pub evaluate-refused : (number place : ℕ) → (evaluated prime key rows columns blank).answer ≡ refused number place →
        evaluated_lines key rows columns ≡ refused number place
    evaluate-refused number place e = answered (refused number place) e

    -- where evaluate answers, the point is one for the key
    point-judged : (o : Outcome Counts) (sheet : List ℕ) (last : Counted prime) →
        and_then (and_then (checked_key key) (point_judged 1 rows columns)) (sheet_judged (places_of prime) (length sheet)) ≡ o →
        (concluded prime o (λ c. counted_for prime key (last_values prime key rows columns)) (λ c. values_at prime (key_arrays key) rows columns)
        sheet).answer ≡ given last →
        point_judged 1 rows columns counts ≡ given counts
    unfolding concluded
    point-judged (refused number place) sheet last e f = absurd (given-not-refused (sym f))
    point-judged (given c) sheet last e f =
        let known =
        given-known (checked_key key) (point_judged 1 rows columns) (λ c. PointOf 1 c.rows c.columns rows columns)
        (point-gives 1 rows columns) (places_of prime) (length sheet) c e in
        let same : c ≡ counts = given-injective (sym known.0 ∙ accepted) in
        rw (sym same) (point-of 1 rows columns c known.1)

    -- and the sheet holds every array's values
    sheet-lines : (last : Counted prime) → (evaluated prime key rows columns blank).answer ≡ given last →
        array_lines (sheet_values prime (evaluated prime key rows columns blank).sheet) counts.arrays
        ≡ array_lines (values_at prime (key_arrays key) rows columns) counts.arrays
    sheet-lines last e =
        let point = point-judged _ blank last refl e in
        let place = place-given prime key rows columns blank counts accepted point (omega (arith, at_most_1024 key counts accepted)) prime-lawful in
        lines_same _ _ counts.arrays
        (λ i l.
        let first : 3 * i ≡ 3 * i + 0 = omega arith in
        λ j.
        record {
          a = (ap (λ (n : ℕ). get_or (evaluated prime key rows columns blank).sheet n 0) first ∙ place i 0 l (omega arith)) j;
          b = place i 1 l (omega arith) j;
          c = place i 2 l (omega arith) j;
        })

    -- what was answered, and what it left on the sheet
    pub evaluate-given : (answer : Result (OfCall Fp) Refusal) (last : OfCall Fp) (after : List ℕ) →
        evaluated_outcome answer ≡ (evaluated prime key rows columns blank).answer → after ≡ (evaluated prime key rows columns blank).sheet →
        answer ≡ Ok last →
        evaluated_lines key rows columns ≡ given (key_line (length key) counts ++ array_lines (sheet_values prime after) counts.arrays)
    evaluate-given answer last after said left is =
        let counted : Counted prime = counted_of singles last in
        let e : (evaluated prime key rows columns blank).answer ≡ given counted = sym said ∙ ap evaluated_outcome is in
        answered (given counted) e
        ∙ ap (λ (text : List ℕ). given (key_line (length key) counts ++ text)) (sym (sheet-lines counted e))
        ∙ ap (λ (sheet : List ℕ). given (key_line (length key) counts ++ array_lines (sheet_values prime sheet) counts.arrays)) (sym left)

-- ---- the input

module _ (input : List ℕ) where
  pub too_long : 65536 < length input → sheet_lines input ≡ refuse Reason.InputTooLong 65536
  unfolding sheet_lines
  too_long l = rw (lt-ltb 65536 (length input) l)

  pub too_short : length input ≤ 65536 → length input < point_length input → sheet_lines input ≡ refuse Reason.InputTooShort (length input)
  unfolding sheet_lines
  too_short l s = rw (le-ltb 65536 (length input) l, lt-ltb (length input) (point_length input) s)

  pub whole : length input ≤ 65536 → point_length input ≤ length input →
      sheet_lines input ≡ evaluated_lines (key_in input) (rows_in input) (columns_in input)
  unfolding sheet_lines
  whole l s = rw (le-ltb 65536 (length input) l, le-ltb (length input) (point_length input) s)
