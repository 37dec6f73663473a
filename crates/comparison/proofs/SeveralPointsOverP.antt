-- Two keys compared at several points where q is p, in plain numbers: a list of s points has (N + N')·s numbers, and of the N + N' numbers of
-- each point the first N are the rows'.
use Prim.Native.Nat.{ℕ, ◌+◌, ◌-◌, ◌*◌, ◌^◌, ◌≤◌, max}
use mathlib.Core.Bool.{Bool, true}
use mathlib.Core.List.{List}
use mathlib.Core.Path.{◌≡◌, sym, ap, subst, subst₂, ◌∙◌}
use native.Mathlib.Nat.{one-mul}
use lib.ListN.{length, take, drop}
use Rattle.algebra.specs.Groups.{group_at, all_below}
use Rattle.algebra.specs.Points.{count_points, Below}
use Rattle.field.specs.Fp.{p}
use Rattle.field.specs.Scalars.{prime}
use Rattle.field.proofs.PrimeLawful.{prime-lawful}
use Rattle.comparison.specs.AgreementBound.{AcceptedKey, is_same, DifferInCell}
use Rattle.comparison.specs.Compare.{compared}
use Rattle.comparison.specs.SeveralPoints.{SheetsInTurn, SeveralPoints}
use Rattle.comparison.proofs.SeveralPoints.{several}

-- does compare say "same" at each of s points of m numbers, of which the first N are the rows'?
abbrev pub same_in_groups : ℕ → ℕ → ℕ → List ℕ → List ℕ → (List ℕ → ℕ → List ℕ) → List ℕ → Bool
same_in_groups m N count first second lent points =
    all_below count (λ i.
    let point = group_at m points i in
    is_same (compared prime first second (take N point) (drop N point) (lent points i)).answer)

pub record SeveralOverP (N N' count : ℕ) (first second : List ℕ) (sheets : SheetsInTurn prime (N + N') count first second) : Type 0 where
  pub lists : count_points p ((N + N') * count) (λ points. true) ≡ (p ^ (N + N')) ^ count
  pub differ : DifferInCell N N' first second →
      count_points p ((N + N') * count) (same_in_groups (N + N') N count first second sheets.lent) ≤ (p ^ (N + N') - (p - 1) ^ (N + N')) ^ count
  pub equal : (DifferInCell N N' first second → ⊥) → (points : List ℕ) → length points ≡ (N + N') * count → Below p points →
      same_in_groups (N + N') N count first second sheets.lent points ≡ true

plainly : (N N' count : ℕ) (first second : List ℕ) → SeveralPoints prime N N' count first second →
    (sheets : SheetsInTurn prime (N + N') count first second) → SeveralOverP N N' count first second sheets
plainly N N' count first second claim sheets =
    record {
      lists = subst (λ (m : ℕ). count_points p (m * count) (λ points. true) ≡ (p ^ (N + N')) ^ count) (one-mul (N + N')) claim.lists;
      differ = λ cell.
          subst₂ (λ (m rows : ℕ).
          count_points p (m * count) (same_in_groups m rows count first second sheets.lent) ≤ (p ^ (N + N') - (p - 1) ^ (N + N')) ^ count)
          (one-mul (N + N')) (one-mul N) (claim.differ sheets cell);
      equal = λ none points e below.
          subst₂ (λ (m rows : ℕ). same_in_groups m rows count first second sheets.lent points ≡ true) (one-mul (N + N')) (one-mul N)
          (claim.equal sheets none points
          (record { numbers = e ∙ ap (λ (m : ℕ). m * count) (sym (one-mul (N + N'))); below = below }));
    }

pub several-over-p : (n n' k k' count : ℕ) (first second : List ℕ) → AcceptedKey n n' first → AcceptedKey k k' second →
    (sheets : SheetsInTurn prime (max n k + max n' k') count first second) → SeveralOverP (max n k) (max n' k') count first second sheets
several-over-p n n' k k' count first second is is' =
    plainly (max n k) (max n' k') count first second (several prime prime-lawful first second n n' k k' count is is')
