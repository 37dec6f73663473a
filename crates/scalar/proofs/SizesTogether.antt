-- The numbers of a sum together: how large they are, for a caller who bounds a sum as a whole.
use Prim.Native.Nat.{ℕ, ◌+◌, ◌≤◌, ◌<◌}
use mathlib.Core.Path.{◌≡◌}
use native.Mathlib.Omega.{arith}
use Rattle.algebra.specs.Arithmetic.{sum_below, whole}
use Rattle.algebra.proofs.WholeNumberSums.{total-le, total-add, total-const}
use Rattle.quadratic.specs.Unreduced.{size_of_part}
use Rattle.quadratic.specs.declared.unreduced.Wide.{Wide}
use Rattle.scalar.specs.declared.unreduced.Sum.{Sum}

-- at most two that grow by less than 2^34 each grow by less than 2^35 together
pub little-together : (n : ℕ) (sizes more : ℕ → ℕ) → n ≤ 2 → ((i : ℕ) → more i < sizes i + 17179869184) →
    sum_below whole n more < sum_below whole n sizes + 34359738368
little-together n sizes more few little =
    let most = total-le n more (λ i. sizes i + 17179869183) (λ i l. omega (arith, little i)) in
    omega (arith, few, most, total-add n sizes (λ i. 17179869183), total-const n 17179869183)

-- over p the sum is the one number, over p² both parts
pub one-number : (x : Sum) → sum_below whole 1 (λ i. x.number) ≡ x.number
unfolding sum_below
one-number x = omega arith

pub two-parts : (x : Wide) → sum_below whole 2 (size_of_part x) ≡ x.u + x.v
unfolding sum_below size_of_part
two-parts x = omega arith
