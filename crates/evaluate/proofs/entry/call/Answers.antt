-- `evaluate::entry::call` meets its contract: its two factors are those that the prepared sides have, and its factor is 1.
use Prim.Native.Nat.{◌+◌}
use mathlib.Core.Path.{◌≡◌, refl, sym, ap, ap₂, subst, ◌∙◌}
use native.Mathlib.Omega.{arith}
use Rattle.records.specs.declared.Shape.{Shape}
use Rattle.arrays.specs.Arrays.{array_at}
use Rattle.arrays.specs.Factors.{call_factors}
use Rattle.weights.specs.Side.{prepared}
use Rattle.key.specs.KeyArrays.{call_in, key_arrays}
use Rattle.evaluation.specs.Evaluate.{ValuesOf, Counted}
use Rattle.evaluation.specs.Inner.{sheet_values, added_to}
use Rattle.evaluation.proofs.UnscaledCalls.{call-unscaled}
use Rattle.evaluate.specs.Inner.{reduced_in, Grown}
use Rattle.evaluate.proofs.entry.call.Goals as goal

pub returns : goal.returns
returns g c =
    let 𝓔 = g.S.Scalar.elements in
    let 𝓢 = 𝓔.scalars in
    let rowwise = c.args.tables.now.rowwise.now in
    let columnwise = c.args.tables.now.columnwise.now in
    let sums = reduced_in 𝓔 g.S.Scalar.sum c.args.sums in
    let called = c.shape-called.ensures in
    let row = c.factor-row_weight.ensures in
    let column = c.factor-column_weight.ensures in
    let arrays = key_arrays c.args.key.now.bytes.now in
    let own = c.args.reached in
    let factors : c.factor-row_weight.result.factors + c.factor-column_weight.result.factors
    ≡ call_factors own.rows.own own.columns.own (array_at arrays c.args.c.id) =
    omega (arith, row.counted, column.counted, ap (λ (s : Shape). s.rows) called, ap (λ (s : Shape). s.columns) called) in
    subst (λ (v : Counted 𝓢). Grown 𝓔 g.S.Scalar.sum g.S.Scalar.size c.args.sums v c.add_weighed.result)
    (ap₂ (λ (v : ValuesOf 𝓢) (w : 𝓢.arithmetic.Carrier).
    added_to 𝓢 sums v w (c.factor-row_weight.result.factors + c.factor-column_weight.result.factors)) c.values-values.ensures
    (c.multiplied-weight.ensures
    ∙ ap₂ 𝓢.arithmetic.mul
    (row.weighs ∙ ap (λ (s : Shape). (prepared 𝓔 rowwise).factor own.rows.own s.rows c.args.c.down) called)
    (column.weighs ∙ ap (λ (s : Shape). (prepared 𝓔 columnwise).factor own.columns.own s.columns c.args.c.right) called))
    ∙ ap (added_to 𝓢 sums (sheet_values 𝓢 c.args.sheet.now c.args.c.id) _) factors
    ∙ sym (call-unscaled 𝓢 g.S.Scalar.lawful.lawful arrays (prepared 𝓔 rowwise) (prepared 𝓔 columnwise) c.args.sheet.now own.rows.own
    own.columns.own sums (call_in c.args.c) refl))
    c.add_weighed.ensures
