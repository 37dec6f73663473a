-- `evaluate::entry::cell` meets its contract: its two weights are those that the prepared sides have.
use Prim.Native.Nat.{ℕ, ◌+◌, ◌-◌, ◌≤◌}
use mathlib.Core.Path.{◌≡◌, ap, ap₂, ◌∙◌}
use native.Mathlib.Omega.{arith}
use Rattle.multilinear.specs.Eq.{bitwise}
use Rattle.weights.specs.Side.{pairs, prepared}
use Rattle.key.specs.KeyArrays.{cell_in}
use Rattle.evaluation.specs.Embedded.{same_values_in}
use Rattle.evaluate.proofs.UnreducedSums.{grown}
use Rattle.evaluate.proofs.entry.cell.Goals as goal

pub returns : goal.returns
returns g c =
    let 𝓔 = g.S.Scalar.elements in
    let 𝓐 = 𝓔.scalars.arithmetic in
    let rowwise = c.args.tables.now.rowwise.now in
    let columnwise = c.args.tables.now.columnwise.now in
    let k = c.args.reached.rows.own in
    let k' = c.args.reached.columns.own in
    let of_row = c.weigh-row_weight.ensures in
    let of_column = c.weigh-column_weight.ensures in
    let rows : k - 0 ≡ k = omega arith in
    let columns : k' - 0 ≡ k' = omega arith in
    let weight : g.S.Scalar.multiplier c.multiplied-weight.result
    ≡ 𝓐.mul ((prepared 𝓔 rowwise).weigh k c.args.c.row) ((prepared 𝓔 columnwise).weigh k' c.args.c.column) =
    c.multiplied-weight.ensures
    ∙ ap₂ 𝓐.mul (of_row.weighs ∙ ap (λ (n : ℕ). bitwise 𝓐 (pairs 𝓔 rowwise) n 0 c.args.c.row) rows)
    (of_column.weighs ∙ ap (λ (n : ℕ). bitwise 𝓐 (pairs 𝓔 columnwise) n 0 c.args.c.column) columns) in
    let part = λ (sum : g.row.S-Sum.Denot) (n : ℕ) (w : 𝓐.Carrier). 𝓐.add (g.S.Scalar.sum sum) (𝓐.mul (𝓔.scalars.embed n) w) in
    let few : k + k' ≤ 60 =
    omega (arith, c.requires.reaches.further, c.requires.reaches.side.few, c.requires.reaches_2.further, c.requires.reaches_2.side.few) in
    grown 𝓔 g.S.Scalar.sum g.S.Scalar.size c.args.sums (same_values_in 𝓔.scalars (cell_in c.args.c).values) _ (k + k') _
    (c.plus_embedded.ensures.added ∙ ap₂ (part c.args.sums.a) c.new.ensures weight, c.plus_embedded.ensures.little)
    (c.plus_embedded-2.ensures.added ∙ ap₂ (part c.args.sums.b) c.new-2.ensures weight, c.plus_embedded-2.ensures.little)
    (c.plus_embedded-3.ensures.added ∙ ap₂ (part c.args.sums.c) c.new-3.ensures weight, c.plus_embedded-3.ensures.little)
    (omega (arith, of_row.counted, of_column.counted)) few
