-- `field::Fp::plus_times` meets its contract.
use Prim.Native.Nat.{ℕ, ◌*◌, ◌%◌, ◌≤◌, ◌<◌}
use mathlib.Core.Path.{◌≡◌, sym, ◌∙◌}
use native.Mathlib.Nat.{mul-le-mul}
use native.Mathlib.Omega.{arith}
use Rattle.field.specs.Fp.{p}
use Rattle.field.proofs.EqualElements.{number-held}
use Rattle.field.proofs.Remainders.{mod-mul-mod}
use Rattle.field.proofs.fp.Fp.plus_times.Goals as goal

fits : (number other : ℕ) → number < 8589934592 → other < p → number * other ≤ 18446744054382198786
fits number other l l' =
    let m : number ≤ 8589934591 = omega arith in let m' : other ≤ 2147483646 = omega arith in omega (arith, mul-le-mul m m')

-- what is added is the product modulo p
is : (c : goal.After-folded) → c.folded.result % p ≡ (c.args.number % p * c.other.inside.0) % p
is c = c.folded.ensures.0 ∙ sym (mod-mul-mod _ _ p)

pub returns : goal.returns
returns c =
    rw (← number-held c.other.invariant c.other.view_is)
    (omega (arith, is c), omega (arith, c.folded.ensures.1, fits _ _ c.requires.1 c.other.invariant))
