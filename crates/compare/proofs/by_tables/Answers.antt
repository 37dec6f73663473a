-- `compare::by_tables` meets its contract: the judgements in their order, then the two passes.
use Rattle.std.specs.Prelude.{Err}
use Prim.Native.Nat.{ℕ}
use mathlib.Core.Path.{◌≡◌, sym, ap, ◌∙◌}
use native.Mathlib.Omega.{arith}
use lib.ListN.{length}
use Rattle.refusal.specs.Outcome.{given}
use Rattle.refusal.specs.declared.Which.{Which}
use Rattle.refusal.proofs.Outcomes.{handed-on, told-about, kept-about}
use Rattle.key.specs.Check.{checked_outcome, checked_key}
use Rattle.judge.specs.Judged.{pair_judged}
use Rattle.judge.proofs.KeysTogether.{few-records}
use Rattle.evaluation.proofs.EvaluatePromises.{arrays-counted, table-indexed}
use Rattle.comparison.proofs.CompareCases.{promised, first-refused, second-refused, neither-refused}
use Rattle.comparison.proofs.PairNotRefused.{BothServed}
use Rattle.comparison.proofs.TwoPasses.{served, both-passed}
use Rattle.compare.specs.Answer.{compared_answer, compared_factors}
use Rattle.compare.proofs.by_tables.Goals as goal
use Rattle.compare.proofs.by_tables.Goals.{In_ok-first_counts, In_ok-second_counts, In_ok-map_err}

one-accepted : (g : _) (c : In_ok-first_counts g) → checked_key c.args.first.now ≡ given c.in_ok-first_counts.first_counts
one-accepted g c =
    sym c.index.ensures.answer ∙ ap checked_outcome (kept-about _ _ Which.First c.map_err.ensures.cases _ c.in_ok-first_counts.was)

other-accepted : (g : _) (c : In_ok-second_counts g) → checked_key c.args.second.now ≡ given c.in_ok-second_counts.second_counts
other-accepted g c =
    sym c.index-2.ensures.answer ∙ ap checked_outcome (kept-about _ _ Which.Second c.map_err-2.ensures.cases _ c.in_ok-second_counts.was)

-- nor is what names neither key refused
admitted : (g : _) (c : In_ok-map_err g) →
    pair_judged g.S.Scalar.elements.scalars.width c.args.rows.now c.args.columns.now (length c.args.sheet.now)
    c.in_ok-first_counts.first_counts c.in_ok-second_counts.second_counts
    ≡ given c.in_ok-map_err.field-0
admitted g c =
    ap (λ (n : ℕ). pair_judged n c.args.rows.now c.args.columns.now (length c.args.sheet.now) c.in_ok-first_counts.first_counts
    c.in_ok-second_counts.second_counts) (sym (c.WIDTH.ensures ∙ g.met.S.Scalar.width))
    ∙ sym c.pair.ensures
    ∙ ap checked_outcome
    (kept-about _ _ Which.Neither c.map_err-3.ensures.cases _ c.in_ok-map_err.was)

pub returns-in_err-first_counts : goal.returns-in_err-first_counts
returns-in_err-first_counts g c =
    let 𝓢 = g.S.Scalar.elements.scalars in
    let is = told-about _ _ Which.First c.map_err.ensures.cases _ c.in_err-first_counts.was in
    let told = promised 𝓢 _ _ _ _ _ _ _ _
    (first-refused 𝓢 _ _ _ _ _ _ _ (sym c.index.ensures.answer ∙ ap checked_outcome is.0)) in
    let exit = handed-on _ c.from_residual.ensures.1 ∙ ap Err is.1 in
    record { answer = ap compared_answer exit ∙ told.0; factors = ap compared_factors exit ∙ told.1.0; sheet = told.1.1 }

pub returns-in_err-second_counts : goal.returns-in_err-second_counts
returns-in_err-second_counts g c =
    let 𝓢 = g.S.Scalar.elements.scalars in
    let at = goal.at.returns-in_err-second_counts g c in
    let is = told-about _ _ Which.Second c.map_err-2.ensures.cases _ c.in_err-second_counts.was in
    let told = promised 𝓢 _ _ _ _ _ _ _ _
    (second-refused 𝓢 _ _ _ _ _ _ (one-accepted g at.In_ok-first_counts) _ _ (sym c.index-2.ensures.answer ∙ ap checked_outcome is.0)) in
    let exit = handed-on _ c.from_residual-in_err-second_counts.ensures.1 ∙ ap Err is.1 in
    record { answer = ap compared_answer exit ∙ told.0; factors = ap compared_factors exit ∙ told.1.0; sheet = told.1.1 }

pub pair-requires : goal.pair-requires
pair-requires g c =
    let at = goal.at.pair-requires g c in (
      omega (arith, c.WIDTH.ensures, g.met.S.Scalar.width, g.met.S.Scalar.narrow),
      few-records _ _ (one-accepted g at.In_ok-first_counts),
      few-records _ _ (other-accepted g at.In_ok-second_counts),
    )

pub returns-in_err-map_err : goal.returns-in_err-map_err
returns-in_err-map_err g c =
    let 𝓢 = g.S.Scalar.elements.scalars in
    let at = goal.at.returns-in_err-map_err g c in
    let is = told-about _ _ Which.Neither c.map_err-3.ensures.cases _ c.in_err-map_err.was in
    let told = promised 𝓢 _ _ _ _ _ _ _ _
    (neither-refused 𝓢 _ _ _ _ _ _ (one-accepted g at.In_ok-first_counts) _ (other-accepted g at.In_ok-second_counts) _ _
    (ap (λ (n : ℕ). pair_judged n c.args.rows.now c.args.columns.now (length c.args.sheet.now) c.in_ok-first_counts.first_counts
    c.in_ok-second_counts.second_counts) (sym (c.WIDTH.ensures ∙ g.met.S.Scalar.width))
    ∙ sym c.pair.ensures
    ∙ ap checked_outcome is.0)) in
    let exit = handed-on _ c.from_residual-in_err-map_err.ensures.1 ∙ ap Err is.1 in
    record { answer = ap compared_answer exit ∙ told.0; factors = ap compared_factors exit ∙ told.1.0; sheet = told.1.1 }

pub new-one-requires : goal.new-one-requires
new-one-requires g c =
    let one = one-accepted g (goal.at.new-one-requires g c).In_ok-first_counts in
    record { indexed = table-indexed _ _ one _ c.index.ensures.starts; counted = arrays-counted _ _ one }

pub new-other-requires : goal.new-other-requires
new-other-requires g c =
    let other = other-accepted g (goal.at.new-other-requires g c).In_ok-second_counts in
    record { indexed = table-indexed _ _ other _ c.index-2.ensures.starts; counted = arrays-counted _ _ other }

-- both keys can be evaluated at the point on the sheet
ready : (g : _) (c : In_ok-map_err g) (one : checked_key c.args.first.now ≡ given c.in_ok-first_counts.first_counts)
    (other : checked_key c.args.second.now ≡ given c.in_ok-second_counts.second_counts) →
    BothServed g.S.Scalar.elements.scalars g.S.Scalar.lawful.lawful c.args.first.now c.args.second.now _ _ one other c.args.rows.now
    c.args.columns.now (length c.args.sheet.now) c.in_ok-map_err.field-0
ready g c one other =
    served g.S.Scalar.elements.scalars g.S.Scalar.lawful.lawful _ _ _ _ c.args.sheet.now _ _ _ one other (admitted g c)

pub run-requires-clause-evaluable : goal.run-requires-clause-evaluable
run-requires-clause-evaluable g c =
    let at = goal.at.run-requires-clause-evaluable g c in
    let one = one-accepted g at.In_ok-first_counts in
    let both = ready g at.In_ok-map_err one (other-accepted g at.In_ok-second_counts) in
    rw c.new-one.ensures.bytes (record { accepted = one; serves = both.first-serves })

pub run-requires-clause-evaluable_2 : goal.run-requires-clause-evaluable_2
run-requires-clause-evaluable_2 g c =
    let at = goal.at.run-requires-clause-evaluable_2 g c in
    let other = other-accepted g at.In_ok-second_counts in
    let both = ready g at.In_ok-map_err (one-accepted g at.In_ok-first_counts) other in
    rw c.new-other.ensures.bytes (record { accepted = other; serves = both.second-serves })

pub returns : goal.returns
returns g c =
    let 𝓢 = g.S.Scalar.elements.scalars in
    let at = goal.at.returns g c in
    let bytes = c.new-one.ensures.bytes in
    let bytes' = c.new-other.ensures.bytes in
    let told = promised 𝓢 _ _ _ _ _ _ _ _
    (both-passed 𝓢 g.S.Scalar.lawful.lawful _ _ _ _ _ _ _ _ (one-accepted g at.In_ok-first_counts)
    (other-accepted g at.In_ok-second_counts) (admitted g at.In_ok-map_err) _ _ _
    (rw (bytes, bytes') at c.run.ensures.answer) (rw (bytes, bytes') at c.run.ensures.factors) (rw (bytes, bytes') at c.run.ensures.sheet)) in
    record { answer = told.0; factors = told.1.0; sheet = told.1.1 }
