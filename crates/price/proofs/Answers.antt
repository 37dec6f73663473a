-- An answer of price is determined by what it says.
use Rattle.std.specs.Prelude.{Result}
use Prim.Native.Nat.{ℕ}
use mathlib.Core.Path.{◌≡◌}
use Rattle.refusal.specs.declared.Refusal.{Refusal}
use Rattle.refusal.proofs.Outcomes.{outcome-injective}
use Rattle.price.specs.Price.{priced_outcome}

pub priced-injective : (r s : Result ℕ Refusal) → priced_outcome r ≡ priced_outcome s → r ≡ s
priced-injective = outcome-injective
