-- `shorter::which` meets its contract: what compare answers decides.
use mathlib.Core.Path.{refl, sym, ap, ◌∙◌}
use Rattle.compare.specs.Answer.{compared_answer, likeness_answer}
use Rattle.shorter.specs.Shorter.{handed_by}
use Rattle.shorter.proofs.HandedBack.{handed-by}
use Rattle.shorter.proofs.which.Goals as goal

pub returns-in-Same : goal.returns-in-Same
unfolding handed_by
returns-in-Same c =
    let sheet = c.args.sheet.now in
    let compared = c.compare.ensures in record { key = handed-by _ _ _ _ sheet _ (sym compared.answer ∙ ap compared_answer c.in-Ok.is ∙ ap likeness_answer c.in-Same.is) _ c.shorter_of.ensures; sheet = compared.sheet; agreement = compared.agreement }

pub returns-in-Different : goal.returns-in-Different
unfolding handed_by
returns-in-Different c =
    let sheet = c.args.sheet.now in
    let compared = c.compare.ensures in record { key = handed-by _ _ _ _ sheet _ (sym compared.answer ∙ ap compared_answer c.in-Ok.is ∙ ap likeness_answer c.in-Different.is) _ refl; sheet = compared.sheet; agreement = compared.agreement }

pub returns-in-Err : goal.returns-in-Err
unfolding handed_by
returns-in-Err c =
    let sheet = c.args.sheet.now in
    let compared = c.compare.ensures in record { key = handed-by _ _ _ _ sheet _ (sym compared.answer ∙ ap compared_answer c.in-Err.is) _ refl; sheet = compared.sheet; agreement = compared.agreement }
