-- `weights::eq` meets its contract: one factor a turn.
use Prim.Native.Nat.{ℕ, ◌+◌, ◌/◌, ◌<◌}
use mathlib.Core.List.{List}
use mathlib.Core.Path.{◌≡◌, sym, ap, ap₂, subst, ◌∙◌}
use native.Mathlib.Omega.{arith}
use lib.ListN.{length}
use Rattle.multilinear.specs.Eq.{eq_factor}
use Rattle.scalar.specs.Elements.{Elements, LawfulElements}
use Rattle.scalar.proofs.NumbersRead.{counted-is, readable}
use Rattle.weights.proofs.EqProduct.{Multiplying, multiplying-begun, multiplying-turn, multiplying-done}
use Rattle.weights.proofs.eq.Goals as goal

-- a turn's elements are there
inside : {E : Type 0} (𝓔 : Elements E) → LawfulElements E 𝓔 → (x y : List ℕ) (width i : ℕ) → width ≡ 𝓔.scalars.width →
    length x ≡ length y → i < length x / width → (i < length (𝓔.scalars.elements x)) × (i < length (𝓔.scalars.elements y))
inside 𝓔 𝓛 x y width i e same l = (
  omega (arith, l, counted-is 𝓔 𝓛 x width e),
  omega (arith, l, ap (λ (n : ℕ). n / width) same, counted-is 𝓔 𝓛 y width e),
)

pub loop-i-init : goal.loop-i-init
loop-i-init g c =
    let 𝓔 = g.S.Scalar.elements in
    let 𝓐 = 𝓔.scalars.arithmetic in
    let 𝓡 = g.S.Scalar.lawful.lawful.field.ring in
    subst (λ (product : 𝓐.Carrier). Multiplying 𝓐 𝓡 (𝓔.scalars.elements c.args.x.now) (𝓔.scalars.elements c.args.y.now) product 0)
    (sym c.one-product.ensures) (multiplying-begun 𝓐 𝓡 _ _)

pub read-requires : goal.read-requires
read-requires g c =
    let 𝓔 = g.S.Scalar.elements in
    let 𝓛 = g.S.Scalar.lawful in
    readable 𝓔 𝓛 c.args.x.now c.requires.1 c.loop-i.i
    (inside 𝓔 𝓛 _ _ _ _ (c.WIDTH.ensures ∙ g.met.S.Scalar.width) c.requires.0 c.loop-i-test.true).0

pub read-requires-in-loop-i : goal.read-requires-in-loop-i
read-requires-in-loop-i g c =
    let 𝓔 = g.S.Scalar.elements in
    let 𝓛 = g.S.Scalar.lawful in
    readable 𝓔 𝓛 c.args.y.now c.requires.2 c.loop-i.i
    (inside 𝓔 𝓛 _ _ _ _ (c.WIDTH.ensures ∙ g.met.S.Scalar.width) c.requires.0 c.loop-i-test.true).1

pub loop-i-preserved : goal.loop-i-preserved
loop-i-preserved g c =
    let 𝓔 = g.S.Scalar.elements in
    let 𝓐 = 𝓔.scalars.arithmetic in
    let 𝓡 = g.S.Scalar.lawful.lawful.field.ring in
    let (of-x, of-y) =
    inside 𝓔 g.S.Scalar.lawful c.args.x.now c.args.y.now c.WIDTH.result c.loop-i.i (c.WIDTH.ensures ∙ g.met.S.Scalar.width)
    c.requires.0 c.loop-i-test.true in
    subst
    (λ (product : 𝓐.Carrier).
    Multiplying 𝓐 𝓡 (𝓔.scalars.elements c.args.x.now) (𝓔.scalars.elements c.args.y.now) product (c.loop-i.i + 1))
    (sym c.mul-product.ensures)
    (multiplying-turn 𝓐 𝓡 _ _ _ _ c.loop-i.invariant _ of-x of-y
    (c.eq_factor.ensures ∙ ap₂ (eq_factor 𝓐) c.read.ensures c.read-in-loop-i.ensures))

pub returns-clause-product : goal.returns-clause-product
returns-clause-product g c =
    multiplying-done g.S.Scalar.elements.scalars.arithmetic g.S.Scalar.lawful.lawful.field.ring _ _ _ _ c.loop-i.invariant
    (omega (
      arith,
      c.loop-i-test.false,
      counted-is g.S.Scalar.elements g.S.Scalar.lawful c.args.x.now c.WIDTH.result
          (c.WIDTH.ensures ∙ g.met.S.Scalar.width),
    ))
