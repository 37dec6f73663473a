-- An answer of the move is determined by what it says.
use Rattle.std.specs.Prelude.{Result}
use Prim.Native.Nat.{ℕ}
use mathlib.Core.Path.{◌≡◌}
use Rattle.refusal.specs.declared.Refusal.{Refusal}
use Rattle.refusal.proofs.Outcomes.{outcome-injective}
use Rattle.editions.specs.Move.{copied_outcome}

pub copied-injective : (r s : Result ℕ Refusal) → copied_outcome r ≡ copied_outcome s → r ≡ s
copied-injective = outcome-injective
