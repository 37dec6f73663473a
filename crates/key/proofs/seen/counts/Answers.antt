-- `key::seen::counts` meets its contract: the counts are those that were seen.
use mathlib.Core.Path.{refl}
use Rattle.key.proofs.seen.counts.Goals as goal

pub returns : goal.returns
returns c = refl
