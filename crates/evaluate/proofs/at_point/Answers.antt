-- `evaluate::at_point` meets its contract: the judgements in their order, then the pass.
use Prim.Native.Nat.{ℕ, ◌*◌, ◌≤◌}
use mathlib.Core.Path.{◌≡◌, sym, ap, ◌∙◌}
use native.Mathlib.Omega.{arith}
use lib.ListN.{length}
use Rattle.refusal.specs.Outcome.{given}
use Rattle.refusal.proofs.Outcomes.{handed-on}
use Rattle.key.specs.Check.{checked_key, checked_outcome}
use Rattle.judge.specs.Judged.{point_judged, sheet_judged}
use Rattle.refusal.specs.Outcome.{and_then}
use Rattle.judge.proofs.JudgementsInOrder.{Judged, Admitted, judged-call, admitted-call, few-arrays, admitted-known}
use Rattle.judge.proofs.NothingRefused.{PointOf, point-gives, at-point}
use Rattle.evaluation.specs.Inner.{written_by}
use Rattle.evaluation.specs.Sheet.{places_of}
use Rattle.evaluation.proofs.EvaluatePromises.{arrays-counted, at_most_1024, table-indexed, refused-promise, given-promise}
use Rattle.evaluation.proofs.SheetAfterPass.{last-filled, last-extended}
use Rattle.evaluate.specs.AnswerOver.{answer_outcome}
use Rattle.evaluate.proofs.at_point.Goals as goal
use Rattle.evaluate.proofs.at_point.Goals.{After-point-pointed, After-sheet, In_ok-counts, After-run-factors}

-- behind the judgement of the point, and behind that of the sheet
judged-at : (g : _) (c : After-point-pointed g) →
    Judged (checked_key c.args.key.now) (point_judged g.S.Scalar.elements.scalars.width c.args.rows.now c.args.columns.now)
    (λ counts. PointOf g.S.Scalar.elements.scalars.width counts.rows counts.columns c.args.rows.now c.args.columns.now) c.point-pointed.result
judged-at g c =
    judged-call _ _ _ c.index-checked.result c.point-pointed.result
    (point-gives g.S.Scalar.elements.scalars.width c.args.rows.now c.args.columns.now) c.index-checked.ensures.answer
    (c.point-pointed.ensures
    ∙ ap (λ (n : ℕ). and_then (checked_outcome c.index-checked.result) (point_judged n c.args.rows.now c.args.columns.now))
    (c.WIDTH.ensures ∙ g.met.S.Scalar.width))

admitted-at : (g : _) (c : After-sheet g) →
    Judged (checked_key c.args.key.now) (point_judged g.S.Scalar.elements.scalars.width c.args.rows.now c.args.columns.now)
    (λ counts. PointOf g.S.Scalar.elements.scalars.width counts.rows counts.columns c.args.rows.now c.args.columns.now) c.point-pointed.result →
    Admitted (checked_key c.args.key.now) (point_judged g.S.Scalar.elements.scalars.width c.args.rows.now c.args.columns.now)
    (λ counts. PointOf g.S.Scalar.elements.scalars.width counts.rows counts.columns c.args.rows.now c.args.columns.now)
    (places_of g.S.Scalar.elements.scalars) (length c.args.sheet.now) c.sheet.result
admitted-at g c judged =
    admitted-call _ _ _ c.point-pointed.result c.sheet.result _ _ judged
    (c.sheet.ensures
    ∙ ap (λ (n : ℕ). and_then (checked_outcome c.point-pointed.result) (sheet_judged (3 * n) (length c.args.sheet.now)))
    (c.WIDTH-2.ensures ∙ g.met.S.Scalar.width))

-- where the call is admitted
known_at : (g : _) (c : In_ok-counts g) →
    Judged (checked_key c.args.key.now) (point_judged g.S.Scalar.elements.scalars.width c.args.rows.now c.args.columns.now)
    (λ counts. PointOf g.S.Scalar.elements.scalars.width counts.rows counts.columns c.args.rows.now c.args.columns.now) c.point-pointed.result →
    (checked_key c.args.key.now ≡ given c.in_ok-counts.counts) ×
    PointOf g.S.Scalar.elements.scalars.width c.in_ok-counts.counts.rows c.in_ok-counts.counts.columns c.args.rows.now c.args.columns.now ×
    (places_of g.S.Scalar.elements.scalars * c.in_ok-counts.counts.arrays ≤ length c.args.sheet.now)
known_at g c judged =
    admitted-known _ _ _ _ _ _
    (admitted-call _ _ _ c.point-pointed.result c.sheet.result _ _ judged
    (c.sheet.ensures
    ∙ ap (λ (n : ℕ). and_then (checked_outcome c.point-pointed.result) (sheet_judged (3 * n) (length c.args.sheet.now)))
    (c.WIDTH-2.ensures ∙ g.met.S.Scalar.width)))
    _ c.in_ok-counts.was

-- the sheet behind the pass
written : (g : _) (c : After-run-factors g) → checked_key c.args.key.now ≡ given c.in_ok-counts.counts →
    c.run-factors.new.sheet
    ≡ written_by g.S.Scalar.elements.scalars c.args.key.now c.args.rows.now c.args.columns.now c.in_ok-counts.counts.arrays c.args.sheet.now
written g c key =
    (rw c.new-indexed.ensures.bytes at c.run-factors.ensures.sheet)
    ∙ ap (λ (n : ℕ). written_by g.S.Scalar.elements.scalars c.args.key.now c.args.rows.now c.args.columns.now n c.args.sheet.now)
    (sym (arrays-counted _ _ key))

pub point-pointed-requires : goal.point-pointed-requires
point-pointed-requires g c = omega (arith, c.WIDTH.ensures, g.met.S.Scalar.width, g.met.S.Scalar.narrow)

pub sheet-requires : goal.sheet-requires
sheet-requires g c = (
  omega (arith, c.WIDTH-2.ensures, g.met.S.Scalar.width, g.met.S.Scalar.narrow),
  few-arrays _ _ _ (at_most_1024 _) c.point-pointed.result (judged-at g (goal.at.sheet-requires g c).After-point-pointed),
)

pub returns-in_err-counts : goal.returns-in_err-counts
returns-in_err-counts g c =
    let at = goal.at.returns-in_err-counts g c in
    let admitted = admitted-at g at.After-sheet (judged-at g at.After-point-pointed) in
    let told = refused-promise g.S.Scalar.elements.scalars _ _ _ _ _ (sym admitted.admits ∙ ap checked_outcome c.in_err-counts.was) in
    record { answer = ap (answer_outcome g.S.Scalar.elements) (handed-on _ c.from_residual.ensures.1) ∙ told.0; sheet = told.1 }

pub new-indexed-requires : goal.new-indexed-requires
new-indexed-requires g c =
    let at = goal.at.new-indexed-requires g c in
    let key = (known_at g at.In_ok-counts (judged-at g at.After-point-pointed)).0 in
    record { indexed = table-indexed _ _ key _ c.index-checked.ensures.starts; counted = arrays-counted _ _ key }

pub run-factors-requires-clause-at_point : goal.run-factors-requires-clause-at_point
run-factors-requires-clause-at_point g c =
    let at = goal.at.run-factors-requires-clause-at_point g c in
    let known = known_at g at.In_ok-counts (judged-at g at.After-point-pointed) in
    rw c.new-indexed.ensures.bytes (at-point g.S.Scalar.elements.scalars g.S.Scalar.lawful.lawful _ _ _ _ known.0 known.1)

pub run-factors-requires-clause-room : goal.run-factors-requires-clause-room
run-factors-requires-clause-room g c =
    let at = goal.at.run-factors-requires-clause-room g c in
    let known = known_at g at.In_ok-counts (judged-at g at.After-point-pointed) in
    rw (c.new-indexed.ensures.bytes, sym (arrays-counted _ _ known.0)) known.2

pub last-requires : goal.last-requires
last-requires g c =
    let 𝓢 = g.S.Scalar.elements.scalars in
    let at = goal.at.last-requires g c in
    let known = known_at g at.In_ok-counts (judged-at g at.After-point-pointed) in
    last-filled 𝓢 g.S.Scalar.lawful.lawful _ _ _ (at-point 𝓢 g.S.Scalar.lawful.lawful _ _ _ _ known.0 known.1) _ (arrays-counted _ _ known.0) _ _
    known.2 (written g at.After-run-factors known.0)

pub returns : goal.returns
returns g c =
    let 𝓢 = g.S.Scalar.elements.scalars in
    let at = goal.at.returns g c in
    let judged = judged-at g at.After-point-pointed in
    let known = known_at g at.In_ok-counts judged in
    let stands = written g at.After-run-factors known.0 in
    let told = given-promise 𝓢 _ _ _ c.args.sheet.now _
    (sym (admitted-at g at.After-sheet judged).admits ∙ ap checked_outcome c.in_ok-counts.was) _ _ _
    (last-extended 𝓢 g.S.Scalar.lawful.lawful _ _ _ (at-point 𝓢 g.S.Scalar.lawful.lawful _ _ _ _ known.0 known.1) _ (arrays-counted _ _ known.0) _ _
    known.2 stands _ c.last.ensures)
    (rw c.new-indexed.ensures.bytes at c.run-factors.ensures.factors) stands in
    record { answer = told.0; sheet = told.1 }
