-- For worked examples: one name for the definitions by which keysheet's text is made. `unfolding printing` unfolds them all.
use Rattle.evaluation.proofs.Computing.{evaluating}
use Rattle.report.specs.Printed.{sheet_lines}
use Rattle.report.specs.Text.{places_within}

unfoldable pub printing : Unit {0}
unfolding evaluating sheet_lines places_within
printing = tt
