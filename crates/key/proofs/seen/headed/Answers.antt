-- `key::seen::headed` meets its contract.
use Rattle.key.specs.Before.{count_of}
use Rattle.key.proofs.seen.headed.Goals as goal

pub returns : goal.returns
unfolding count_of
returns c = rw c.nothing-s.ensures
