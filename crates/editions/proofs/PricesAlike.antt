-- Price goes by what check says of a key and by its arrays alone, and so it answers alike on a key and on its copy in the other edition.
use Prim.Native.Nat.{ℕ}
use mathlib.Core.List.{List}
use mathlib.Core.Path.{◌≡◌, ap₂}
use Rattle.refusal.specs.Outcome.{Outcome, given, and_then}
use Rattle.arrays.specs.Arrays.{Array}
use Rattle.arrays.specs.Factors.{factors_in}
use Rattle.key.specs.Check.{checked_key}
use Rattle.key.specs.KeyArrays.{key_arrays}
use Rattle.key.specs.declared.Counts.{Counts}
use Rattle.price.specs.Price.{rates_judged, pence_for, priced}
use Rattle.price.specs.declared.Rates.{Rates}

pub prices_alike : (one other : List ℕ) → checked_key one ≡ checked_key other → key_arrays one ≡ key_arrays other →
    (rates : Rates) → priced one rates ≡ priced other rates
prices_alike one other checks arrays rates =
    ap₂ (λ (checked : Outcome Counts) (arrays : List Array).
    and_then (and_then checked (rates_judged rates)) (λ counts. given (pence_for rates counts (factors_in arrays))))
    checks arrays
