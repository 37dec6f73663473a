-- `weights::bits::bit_by_bit` meets its contract: the first factor is read, and the others are multiplied to it.
use Prim.Native.Nat.{ℕ, ◌+◌, ◌-◌, ◌*◌, ◌/◌, ◌%◌, ◌^◌, ◌≤◌}
use mathlib.Core.Path.{◌≡◌, refl, ap, ◌∙◌}
use native.Mathlib.Omega.{arith}
use lib.ListN.{length}
use Rattle.multilinear.specs.Eq.{bitwise}
use Rattle.weights.specs.Side.{pairs}
use Rattle.weights.proofs.TableFactors.{factor-alone, fours-end, fours-weight}
use Rattle.weights.proofs.WeightProduct.{weight-read, weight-onward}
use Rattle.weights.proofs.bits.bit_by_bit.Goals as goal

pub returns-then-from-to : goal.returns-then-from-to
unfolding bitwise
returns-then-from-to g c =
    weight-read g.S.Scalar.elements.scalars.arithmetic (pairs g.S.Scalar.elements c.args.table.now) c.args.a c.args.from c.args.to 0
    c.args.from _ (omega arith) refl (c.begun.ensures.is ∙ c.one.ensures)

pub returns-then-WIDTH-gt1 : goal.returns-then-WIDTH-gt1
returns-then-WIDTH-gt1 g c =
    let 𝓔 = g.S.Scalar.elements in
    let table = c.args.table.now in
    let from = c.args.from in
    let one : 1 ≡ from + 1 - from = omega arith in
    weight-onward 𝓔.scalars.arithmetic g.S.Scalar.lawful.lawful.field.ring (pairs 𝓔 table) c.args.a from (from + 1) c.args.to (c.args.a / 2)
    (g.S.Scalar.product c.begun-begun.result) _ (omega arith) (omega (arith, c.if-from-to.false, c.requires.0))
    (ap (λ (n : ℕ). c.args.a / 2 ^ n) one)
    (weight-read 𝓔.scalars.arithmetic (pairs 𝓔 table) c.args.a from (from + 1) 1 from _ one refl
    (c.begun-begun.ensures.is ∙ c.single.ensures ∙ factor-alone 𝓔 g.S.Scalar.lawful table from c.args.a))
    c.singly.ensures

pub returns-then-from-to-2 : goal.returns-then-from-to-2
returns-then-from-to-2 g c =
    weight-read g.S.Scalar.elements.scalars.arithmetic (pairs g.S.Scalar.elements c.args.table.now) c.args.a c.args.from c.args.to 1
    c.args.from _ (omega (arith, c.if-from-to-2.true)) refl
    (c.begun-begun.ensures.is
    ∙ c.single.ensures
    ∙ factor-alone g.S.Scalar.elements g.S.Scalar.lawful c.args.table.now c.args.from c.args.a)

pub returns : goal.returns
returns g c =
    let 𝓔 = g.S.Scalar.elements in
    let 𝓐 = 𝓔.scalars.arithmetic in
    let 𝓡 = g.S.Scalar.lawful.lawful.field.ring in
    let table = c.args.table.now in
    let from = c.args.from in
    let to = c.args.to in
    let at = to - (to - from - 1) % 4 in
    let one : 1 ≡ from + 1 - from = omega arith in
    -- fours of bits behind the first one: where they end, and that the table has their factors
    let (begins, ends, whole) = fours-end from to (omega (arith, c.if-from-to.false, c.requires.0)) in
    let room : 2 * at ≤ length table = omega (arith, ends, c.requires.1.few, c.requires.1.room) in
    let first =
    weight-read 𝓐 (pairs 𝓔 table) c.args.a from (from + 1) 1 from (g.S.Scalar.product c.begun-begun.result) one refl
    (c.begun-begun.ensures.is ∙ c.single.ensures ∙ factor-alone 𝓔 g.S.Scalar.lawful table from c.args.a) in
    let fours =
    weight-onward 𝓐 𝓡 (pairs 𝓔 table) c.args.a from (from + 1) at (c.args.a / 2) (g.S.Scalar.product c.begun-begun.result)
    (g.S.Scalar.product c.in_fours-product.result) (omega arith) begins (ap (λ (n : ℕ). c.args.a / 2 ^ n) one) first
    (c.in_fours-product.ensures
    ∙ ap (𝓐.mul (g.S.Scalar.product c.begun-begun.result)) (fours-weight 𝓔 table from at begins room (c.args.a / 2))) in
    weight-onward 𝓐 𝓡 (pairs 𝓔 table) c.args.a from at to _ (g.S.Scalar.product c.in_fours-product.result)
    (g.S.Scalar.product c.singly-2.result) (omega (arith, begins)) ends refl fours c.singly-2.ensures
