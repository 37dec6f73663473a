-- `compare::both::likeness` meets its contract: A, B and C, where equal values are one element and others are not.
use mathlib.Core.Bool.{true}
use mathlib.Core.Logic.{inl, inr}
use mathlib.Core.Path.{◌≡◌, refl, sym, ◌∙◌}
use Rattle.std.proofs.lemmas.Bool.{and_from, and_parts}
use Rattle.arrays.specs.Arrays.{A, B, C}
use Rattle.comparison.specs.Compare.{likeness}
use Rattle.comparison.proofs.Likeness.{all-equal, likeness-either, same-equal}
use Rattle.evaluate.specs.AnswerOver.{values_of}
use Rattle.compare.proofs.both.likeness.Goals as goal

pub returns-then-eq : goal.returns-then-eq
returns-then-eq g c =
    let (a, others) = and_parts _ _ (sym c.eq.ensures ∙ c.if-eq.true) in
    let (b, last) = and_parts _ _ others in
    sym (all-equal g.S.Scalar.elements.scalars g.S.Scalar.lawful.lawful _ _ (g.met.S.Scalar.same _ _ a) (g.met.S.Scalar.same _ _ b)
    (g.met.S.Scalar.same _ _ last))

pub returns : goal.returns
returns g c =
    let 𝓢 = g.S.Scalar.elements.scalars in
    let 𝓛 = g.S.Scalar.lawful.lawful in
    let one = values_of g.S.Scalar.elements c.args.one in
    let other = values_of g.S.Scalar.elements c.args.other in
    elim (likeness-either 𝓢 𝓛 one other (likeness 𝓢 one other) refl) [
      | inl e ↦ (let equal = same-equal 𝓢 𝓛 one other e in
          let alike : c.eq.result ≡ true =
          c.eq.ensures
          ∙ and_from _ _ (g.met.S.Scalar.alike _ _ (equal A))
          (and_from _ _ (g.met.S.Scalar.alike _ _ (equal B)) (g.met.S.Scalar.alike _ _ (equal C))) in
          cc (sym c.if-eq.false ∙ alike))
      | inr e ↦ sym e
    ]
