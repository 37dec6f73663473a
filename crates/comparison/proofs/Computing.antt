-- For worked examples: one name for the definitions by which two keys are compared. `unfolding comparing` unfolds them all.
use Rattle.evaluation.proofs.Computing.{evaluating}
use Rattle.comparison.specs.Compare.{naming, same_numbers, likeness}

unfoldable pub comparing : Unit {0}
unfolding evaluating naming same_numbers likeness
comparing = tt
