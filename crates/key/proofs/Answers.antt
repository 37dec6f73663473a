-- An answer of check is determined by what it says.
use Rattle.std.specs.Prelude.{Result}
use mathlib.Core.Path.{◌≡◌}
use Rattle.refusal.specs.declared.Refusal.{Refusal}
use Rattle.refusal.proofs.Outcomes.{outcome-injective}
use Rattle.key.specs.Check.{checked_outcome}
use Rattle.key.specs.declared.Counts.{Counts}

pub checked-injective : (r s : Result Counts Refusal) → checked_outcome r ≡ checked_outcome s → r ≡ s
checked-injective = outcome-injective
