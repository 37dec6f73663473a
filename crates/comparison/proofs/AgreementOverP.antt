-- The agreement bound where q is p, in plain numbers: a point has N + N' numbers, of which the first N are the rows'. For keys of one shape
-- it is demand 3.
use Prim.Native.Nat.{ℕ, ◌+◌, ◌-◌, ◌*◌, ◌^◌, ◌≤◌, max}
use mathlib.Core.List.{List}
use mathlib.Core.Logic.{◌⊎◌}
use mathlib.Core.Path.{◌≡◌, sym, ap, subst, ◌∙◌}
use native.Mathlib.Nat.{one-mul}
use lib.ListN.{length, take, drop}
use Rattle.algebra.specs.Points.{count_points, Below}
use Rattle.field.specs.Fp.{p}
use Rattle.field.specs.Scalars.{prime}
use Rattle.field.proofs.PrimeLawful.{prime-lawful}
use Rattle.comparison.specs.AgreementBound.{AcceptedKey, Point, Sheets, answer_at, is_same, DifferInCell, AgreementBound}
use Rattle.comparison.specs.Compare.{Answer, same, different, compared}
use Rattle.comparison.proofs.Agreement.{prime-agreement, one-shape}

pub record OverP (N N' : ℕ) (first second : List ℕ) (sheets : Sheets prime (N + N') first second) : Type 0 where
  pub differ : DifferInCell N N' first second →
      count_points p (N + N') (λ point. is_same (compared prime first second (take N point) (drop N point) (sheets.lent point)).answer)
      ≤ p ^ (N + N') - (p - 1) ^ (N + N')
  pub others : (point : List ℕ) → length point ≡ N + N' → Below p point →
      let answer = (compared prime first second (take N point) (drop N point) (sheets.lent point)).answer in
      (answer ≡ same) ⊎ (answer ≡ different)
  pub equal : (DifferInCell N N' first second → ⊥) → (point : List ℕ) → length point ≡ N + N' → Below p point →
      (compared prime first second (take N point) (drop N point) (sheets.lent point)).answer ≡ same

module _ (N N' : ℕ) (first second : List ℕ) (claim : AgreementBound prime N N' first second)
    (sheets : Sheets prime (N + N') first second) where
  answer-is : (point : List ℕ) →
      answer_at prime N first second point (sheets.lent point)
      ≡ (compared prime first second (take N point) (drop N point) (sheets.lent point)).answer
  answer-is point =
      ap (λ (k : ℕ). (compared prime first second (take k point) (drop k point) (sheets.lent point)).answer) (one-mul N)

  point-is : (point : List ℕ) → length point ≡ N + N' → Below p point → Point prime (N + N') point
  point-is point e below = record { numbers = e ∙ sym (one-mul (N + N')); below = below }

  plainly : OverP N N' first second sheets
  plainly =
      record {
        differ = λ cell.
            subst (λ (k : ℕ).
            count_points p (N + N')
            (λ point. is_same (compared prime first second (take k point) (drop k point) (sheets.lent point)).answer)
            ≤ p ^ (N + N') - (p - 1) ^ (N + N')) (one-mul N)
            (subst (λ (m : ℕ).
            count_points p m
            (λ point. is_same (compared prime first second (take (1 * N) point) (drop (1 * N) point) (sheets.lent point)).answer)
            ≤ p ^ (N + N') - (p - 1) ^ (N + N')) (one-mul (N + N'))
            (claim.differ sheets cell));
        others = λ point e below.
            subst (λ (a : Answer). (a ≡ same) ⊎ (a ≡ different)) (answer-is point)
            (claim.others sheets point (point-is point e below));
        equal = λ none point e below.
            sym (answer-is point) ∙ claim.equal sheets none point (point-is point e below);
      }

pub over-p : (n n' k k' : ℕ) (first second : List ℕ) → AcceptedKey n n' first → AcceptedKey k k' second →
    (sheets : Sheets prime (max n k + max n' k') first second) → OverP (max n k) (max n' k') first second sheets
over-p n n' k k' first second is is' =
    plainly (max n k) (max n' k') first second (prime-agreement first second n n' k k' is is')

pub demand-3 : (n n' : ℕ) (first second : List ℕ) → AcceptedKey n n' first → AcceptedKey n n' second →
    (sheets : Sheets prime (n + n') first second) → OverP n n' first second sheets
demand-3 n n' first second is is' = plainly n n' first second (one-shape prime prime-lawful first second n n' is is')
