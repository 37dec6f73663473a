-- `evaluate::at_place` meets its contract: the judgements in their order, then the pass at the bits of the place.
use Prim.Native.Nat.{ℕ, ◌*◌, ◌^◌, ◌≤◌, ◌<◌}
use mathlib.Core.Path.{◌≡◌, sym, ap, ◌∙◌}
use native.Mathlib.Omega.{arith}
use lib.ListN.{length}
use Rattle.refusal.specs.Outcome.{given}
use Rattle.refusal.proofs.Outcomes.{handed-on}
use Rattle.field.specs.Scalars.{prime}
use Rattle.field.proofs.PrimeLawful.{prime-lawful}
use Rattle.key.specs.Check.{checked_key, checked_outcome}
use Rattle.judge.specs.Judged.{place_judged}
use Rattle.judge.proofs.JudgementsInOrder.{Judged, Admitted, judged-call, admitted-call, few-arrays, admitted-known}
use Rattle.judge.proofs.NothingRefused.{place-gives}
use Rattle.evaluation.specs.Inner.{written_by}
use Rattle.evaluation.proofs.EvaluatePromises.{arrays-counted, at_most_1024, table-indexed, refused-promise, given-promise}
use Rattle.evaluation.proofs.PlaceAsPoint.{place-point, place-values, place-sheet}
use Rattle.evaluation.proofs.SheetAfterPass.{last-filled, last-extended}
use Rattle.evaluate.specs.Answer.{evaluated_outcome}
use Rattle.evaluate.proofs.at_place.Goals as goal
use Rattle.evaluate.proofs.at_place.Goals.{After-place-placed, After-sheet, In_ok-counts, After-run-factors}

-- behind the judgement of the place, and behind that of the sheet
judged-at : (c : After-place-placed) →
    Judged (checked_key c.args.key.now) (place_judged c.args.row c.args.column)
    (λ counts. (c.args.row < 2 ^ counts.rows) × (c.args.column < 2 ^ counts.columns)) c.place-placed.result
judged-at c =
    judged-call _ _ _ c.index-checked.result c.place-placed.result (place-gives c.args.row c.args.column) c.index-checked.ensures.answer
    c.place-placed.ensures

admitted-at : (c : After-sheet) →
    Judged (checked_key c.args.key.now) (place_judged c.args.row c.args.column)
    (λ counts. (c.args.row < 2 ^ counts.rows) × (c.args.column < 2 ^ counts.columns)) c.place-placed.result →
    Admitted (checked_key c.args.key.now) (place_judged c.args.row c.args.column)
    (λ counts. (c.args.row < 2 ^ counts.rows) × (c.args.column < 2 ^ counts.columns)) 3 (length c.args.sheet.now) c.sheet.result
admitted-at c judged = admitted-call _ _ _ c.place-placed.result c.sheet.result _ _ judged c.sheet.ensures

-- where the call is admitted
known_at : (c : In_ok-counts) →
    Judged (checked_key c.args.key.now) (place_judged c.args.row c.args.column)
    (λ counts. (c.args.row < 2 ^ counts.rows) × (c.args.column < 2 ^ counts.columns)) c.place-placed.result →
    let counts = c.in_ok-counts.counts in
    (checked_key c.args.key.now ≡ given counts) × ((c.args.row < 2 ^ counts.rows) × (c.args.column < 2 ^ counts.columns)) ×
    (3 * counts.arrays ≤ length c.args.sheet.now)
known_at c judged =
    admitted-known _ _ _ _ _ _ (admitted-call _ _ _ c.place-placed.result c.sheet.result _ _ judged c.sheet.ensures) _ c.in_ok-counts.was

-- the sheet behind the pass
written : (c : After-run-factors) → checked_key c.args.key.now ≡ given c.in_ok-counts.counts →
    c.run-factors.new.sheet
    ≡ written_by prime c.args.key.now c.bits.new.coordinates c.bits-2.new.coordinates c.in_ok-counts.counts.arrays c.args.sheet.now
written c key =
    (rw c.new-indexed.ensures.bytes at c.run-factors.ensures.sheet)
    ∙ ap (λ (n : ℕ). written_by prime c.args.key.now c.bits.new.coordinates c.bits-2.new.coordinates n c.args.sheet.now)
    (sym (arrays-counted _ _ key))

pub sheet-requires : goal.sheet-requires
sheet-requires c =
    (omega arith, few-arrays _ _ _ (at_most_1024 _) c.place-placed.result (judged-at (goal.at.sheet-requires c).After-place-placed))

pub returns-in_err-counts : goal.returns-in_err-counts
returns-in_err-counts c =
    let at = goal.at.returns-in_err-counts c in
    let admitted = admitted-at at.After-sheet (judged-at at.After-place-placed) in
    let told = refused-promise prime _ _ _ _ _ (sym admitted.admits ∙ ap checked_outcome c.in_err-counts.was) in
    record { answer = ap evaluated_outcome (handed-on _ c.from_residual.ensures.1) ∙ told.0; sheet = told.1 }

pub new-indexed-requires : goal.new-indexed-requires
new-indexed-requires c =
    let at = goal.at.new-indexed-requires c in
    let key = (known_at at.In_ok-counts (judged-at at.After-place-placed)).0 in
    record { indexed = table-indexed _ _ key _ c.index-checked.ensures.starts; counted = arrays-counted _ _ key }

pub run-factors-requires-clause-at_point : goal.run-factors-requires-clause-at_point
run-factors-requires-clause-at_point c =
    let at = goal.at.run-factors-requires-clause-at_point c in
    let known = known_at at.In_ok-counts (judged-at at.After-place-placed) in
    rw c.new-indexed.ensures.bytes (place-point _ _ known.0 _ _ _ _ c.bits.ensures c.bits-2.ensures)

pub run-factors-requires-clause-room : goal.run-factors-requires-clause-room
run-factors-requires-clause-room c =
    let at = goal.at.run-factors-requires-clause-room c in
    let known = known_at at.In_ok-counts (judged-at at.After-place-placed) in
    rw (c.new-indexed.ensures.bytes, sym (arrays-counted _ _ known.0)) known.2

pub last-requires : goal.last-requires
last-requires c =
    let at = goal.at.last-requires c in
    let known = known_at at.In_ok-counts (judged-at at.After-place-placed) in
    last-filled prime prime-lawful _ _ _ (place-point _ _ known.0 _ _ _ _ c.bits.ensures c.bits-2.ensures) _ (arrays-counted _ _ known.0) _ _
    known.2 (written at.After-run-factors known.0)

pub returns : goal.returns
returns c =
    let at = goal.at.returns c in
    let judged = judged-at at.After-place-placed in
    let known = known_at at.In_ok-counts judged in
    let rows = c.bits.ensures in
    let columns = c.bits-2.ensures in
    let stands = written at.After-run-factors known.0 in
    let told = given-promise prime _ _ _ c.args.sheet.now _
    (sym (admitted-at at.After-sheet judged).admits ∙ ap checked_outcome c.in_ok-counts.was) _ _ _
    (place-values _ _ known.0 _ _ _ _ rows columns known.1 _
    (last-extended prime prime-lawful _ _ _ (place-point _ _ known.0 _ _ _ _ rows columns) _ (arrays-counted _ _ known.0) _ _ known.2
    stands _ c.last.ensures))
    (rw c.new-indexed.ensures.bytes at c.run-factors.ensures.factors)
    (place-sheet _ _ known.0 _ _ _ _ rows columns _ _ stands) in
    record { answer = told.0; sheet = told.1 }
