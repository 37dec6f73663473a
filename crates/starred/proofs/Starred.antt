-- Every starred case gives what 01 says: antt computes both columns of the table.
use mathlib.Core.List.{map}
use mathlib.Core.Path.{◌≡◌, refl}
use Rattle.field.specs.Answer.{operated}
use Rattle.evaluation.proofs.Computing.{evaluating}
use Rattle.starred.specs.Table.{cases}

pub starred : map (λ c. c.got) cases ≡ map (λ c. c.wanted) cases
unfolding evaluating operated
starred = refl
