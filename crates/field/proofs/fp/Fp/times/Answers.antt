-- `field::Fp::times` meets its contract: the element is at most 2^31 - 2, so that the bits of the product from bit 31 on are less than the
-- number by one for each 2^30 in it.
use Prim.Native.Nat.{ℕ, ◌*◌, ◌≤◌, ◌<◌}
use mathlib.Core.Path.{sym, ◌∙◌}
use native.Mathlib.Nat.{mul-le-mul}
use native.Mathlib.Omega.{arith}
use Rattle.field.specs.Fp.{p}
use Rattle.field.proofs.EqualElements.{number-held}
use Rattle.field.proofs.Remainders.{mod-mul-mod}
use Rattle.field.proofs.fp.Fp.times.Goals as goal

fits : (number other : ℕ) → (number < 8589934592) × (other < p) → number * other ≤ number * 2147483646
fits number other below = let l : number ≤ number = omega arith in let m : other ≤ 2147483646 = omega arith in mul-le-mul l m

pub returns : goal.returns
returns c =
    rw (← number-held c.other.invariant c.other.view_is)
    (c.folded.ensures.0 ∙ sym (mod-mul-mod _ _ p), omega (arith, c.folded.ensures.1, fits _ _ (c.requires, c.other.invariant)))
