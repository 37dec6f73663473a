-- `locate::locate` meets its contract: what compare answers at the point decides.
use mathlib.Core.Path.{refl, sym, ap, ◌∙◌}
use native.Mathlib.Omega.{arith}
use Rattle.refusal.proofs.Outcomes.{handed-on}
use Rattle.compare.specs.Answer.{compared_answer, likeness_answer}
use Rattle.location.proofs.LocateCases.{located-same, located-refused, still-different, located-cell, promised}
use Rattle.locate.specs.Answer.{located_answer}
use Rattle.locate.proofs.locate.Goals as goal

pub returns-in_err-compared : goal.returns-in_err-compared
returns-in_err-compared c =
    let sheet = c.args.sheet.now in
    let compared = c.compare.ensures in
    let told = promised _ _ _ _ sheet _ _
    (located-refused _ _ _ _ sheet _ _ _ (sym compared.answer ∙ ap compared_answer c.in_err-compared.was) _ _ refl
    compared.sheet) in
    let exit = ap located_answer (handed-on _ c.from_residual.ensures.1) in
    record {
      answer = exit ∙ told.0;
      sheet = told.1.0;
      certain = λ n n' k k' one other row column values values' e.
          told.1.1 n n' k k' one other row column values values' (sym exit ∙ e);
    }

pub differing-requires : goal.differing-requires
differing-requires c =
    let compared = c.compare.ensures in record {
      sheet_value = still-different _ _ _ _ c.args.sheet.now
          (sym compared.answer ∙ ap compared_answer c.in_ok-compared.was ∙ ap likeness_answer c.in-Different.is) _ compared.sheet;
      in_bounds = omega arith;
    }

pub returns-in-Same : goal.returns-in-Same
returns-in-Same c =
    let sheet = c.args.sheet.now in
    let compared = c.compare.ensures in
    let told = promised _ _ _ _ sheet _ _
    (located-same _ _ _ _ sheet (sym compared.answer ∙ ap compared_answer c.in_ok-compared.was ∙ ap likeness_answer c.in-Same.is) _ _ refl
    compared.sheet) in
    record { answer = told.0; sheet = told.1.0; certain = told.1.1 }

pub returns-in-Different : goal.returns-in-Different
returns-in-Different c =
    let sheet = c.args.sheet.now in
    let compared = c.compare.ensures in
    let found = c.differing.ensures in
    let told = promised _ _ _ _ sheet _ _
    (located-cell _ _ _ _ sheet (sym compared.answer ∙ ap compared_answer c.in_ok-compared.was ∙ ap likeness_answer c.in-Different.is) _
    compared.sheet _ _ found.answer found.sheet) in
    record { answer = told.0; sheet = told.1.0; certain = told.1.1 }
