-- `key::seen::nothing` meets its contract: where there is no record, nothing is seen.
use mathlib.Core.List.{flat_map}
use mathlib.Core.Path.{refl}
use Rattle.key.specs.Before.{count_of}
use Rattle.key.proofs.seen.nothing.Goals as goal

pub returns : goal.returns
unfolding count_of flat_map
returns c = refl
