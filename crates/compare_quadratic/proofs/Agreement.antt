-- The agreement bound where q is p², in plain numbers too.
-- A point has 2·(N + N') numbers, of which the first 2·N are the rows'.
use Prim.Native.Nat.{ℕ, ◌+◌, ◌-◌, ◌*◌, ◌^◌, ◌≤◌, max}
use mathlib.Core.List.{List}
use mathlib.Core.Logic.{◌⊎◌}
use mathlib.Core.Path.{◌≡◌}
use lib.ListN.{length, take, drop}
use Rattle.algebra.specs.Points.{count_points, Below}
use Rattle.field.specs.Fp.{p}
use Rattle.quadratic.specs.Quadratic.{quadratic}
use Rattle.quadratic.proofs.QuadraticLawful.{quadratic-lawful}
use Rattle.comparison.specs.AgreementBound.{AcceptedKey, Sheets, is_same, DifferInCell, Agreement}
use Rattle.comparison.specs.Compare.{same, different, compared}
use Rattle.comparison.proofs.Agreement.{agreement}

pub quadratic-agreement : (first second : List ℕ) → Agreement quadratic first second
quadratic-agreement = agreement quadratic quadratic-lawful

pub record OverPSquared (N N' : ℕ) (first second : List ℕ) (sheets : Sheets quadratic (N + N') first second) : Type 0 where
  pub differ : DifferInCell N N' first second →
      count_points p (2 * (N + N'))
      (λ point. is_same (compared quadratic first second (take (2 * N) point) (drop (2 * N) point) (sheets.lent point)).answer)
      ≤ (p * p) ^ (N + N') - (p * p - 1) ^ (N + N')
  pub others : (point : List ℕ) → length point ≡ 2 * (N + N') → Below p point →
      let answer = (compared quadratic first second (take (2 * N) point) (drop (2 * N) point) (sheets.lent point)).answer in
      (answer ≡ same) ⊎ (answer ≡ different)
  pub equal : (DifferInCell N N' first second → ⊥) → (point : List ℕ) → length point ≡ 2 * (N + N') → Below p point →
      (compared quadratic first second (take (2 * N) point) (drop (2 * N) point) (sheets.lent point)).answer ≡ same

pub over-p-squared : (n n' k k' : ℕ) (first second : List ℕ) → AcceptedKey n n' first → AcceptedKey k k' second →
    (sheets : Sheets quadratic (max n k + max n' k') first second) → OverPSquared (max n k) (max n' k') first second sheets
over-p-squared n n' k k' first second is is' sheets =
    let claim = quadratic-agreement first second n n' k k' is is' in
    record {
      differ = claim.differ sheets;
      others = λ point e below. claim.others sheets point (record { numbers = e; below = below });
      equal = λ none point e below. claim.equal sheets none point (record { numbers = e; below = below });
    }
