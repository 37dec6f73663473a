-- `evaluate::pass::over` meets its contract: one array a turn.
use Prim.Native.Nat.{ℕ, suc, ◌*◌, ◌≤◌, ◌<◌}
use mathlib.Core.Path.{refl, ap}
use native.Mathlib.Nat.{mul-le-mul_left}
use native.Mathlib.Omega.{arith}
use lib.ListN.{length}
use Rattle.key.specs.KeyArrays.{key_arrays}
use Rattle.key.proofs.Acceptance.{acceptance}
use Rattle.evaluation.specs.Evaluate.{Counted}
use Rattle.evaluation.specs.Sheet.{places_of}
use Rattle.evaluation.proofs.FactorsSoFar.{so-far-turn, so-far-few, so-far-all}
use Rattle.evaluation.proofs.SheetDuringPass.{passing-begun, passing-filled, passing-turn, passing-done}
use Rattle.evaluate.proofs.pass.over.Goals as goal
use Rattle.evaluate.proofs.pass.over.Goals.{In-loop-i}

pub loop-i-init : goal.loop-i-init
loop-i-init g c = (passing-begun g.S.Scalar.elements.scalars g.S.Scalar.lawful.lawful _ _ _ _, refl)

there : (g : _) (c : In-loop-i g) → c.loop-i.i < length (key_arrays c.args.key.now.bytes.now)
there g c = omega (arith, c.arrays-i-end.ensures.count, c.loop-i-test.true)

pub values-counted-requires-clause-filled : goal.values-counted-requires-clause-filled
values-counted-requires-clause-filled g c =
    passing-filled g.S.Scalar.elements.scalars g.S.Scalar.lawful.lawful _ _ _ _ c.requires.room _ _ c.loop-i.invariant.0

-- a sheet with places for all arrays has some for each
places-there : (width arrays long i : ℕ) → width * arrays ≤ long → i < arrays → width * suc i ≤ long
places-there width arrays long i room l = omega (arith, room, mul-le-mul_left width l)

pub put-requires : goal.put-requires
put-requires g c =
    let inside = there g (goal.at.put-requires g c).In-loop-i in
    places-there (places_of g.S.Scalar.elements.scalars) (length (key_arrays c.args.key.now.bytes.now)) _ _
    (omega (arith, c.loop-i.auto.sheet, c.requires.room)) (omega (arith, inside))

pub overflow_add-factors : goal.overflow_add-factors
overflow_add-factors g c =
    let key = c.args.key.now in
    omega (
      arith,
      so-far-few key.bytes.now _ _ _ (there g (goal.at.overflow_add-factors g c).In-loop-i) c.loop-i.invariant.1
          (ap (λ (x : Counted g.S.Scalar.elements.scalars). x.factors) c.values-counted.ensures) key.indexed.counts key.indexed.accepted,
    )

pub loop-i-preserved : goal.loop-i-preserved
loop-i-preserved g c =
    let 𝓢 = g.S.Scalar.elements.scalars in
    let key = c.args.key.now in
    let next = c.values-counted.ensures in
    let inside = there g (goal.at.loop-i-preserved g c).In-loop-i in (
      passing-turn 𝓢 g.S.Scalar.lawful.lawful _ _ _ _ c.requires.room _ _ c.loop-i.invariant.0 _ _
          (acceptance _ key.indexed.counts key.indexed.accepted).well_formed inside _ _
          (ap (λ (x : Counted 𝓢). x.values) next) c.put.ensures,
      so-far-turn key.bytes.now _ _ _ inside c.loop-i.invariant.1 (ap (λ (x : Counted 𝓢). x.factors) next),
    )

pub returns : goal.returns
returns g c =
    let count = c.arrays-i-end.ensures.count in
    record {
      factors = so-far-all c.args.key.now.bytes.now _ c.loop-i.i (omega (arith, count, c.loop-i-test.false)) c.loop-i.invariant.1;
      sheet =
          passing-done g.S.Scalar.elements.scalars g.S.Scalar.lawful.lawful _ _ _ _ c.requires.room _ _ c.loop-i.invariant.0 _ refl
          (omega (arith, count, c.loop-i-test.false));
    }
