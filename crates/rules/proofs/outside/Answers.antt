-- `rules::outside` meets its contract: a number is 2^bits or more where something is left of it behind so many bits, and a number of 32 bits
-- is below every power from 2^32 on.
use Prim.Native.Nat.{ℕ, ◌/◌, ◌^◌, ◌<◌, min}
use mathlib.Core.Bool.{not}
use mathlib.Core.Path.{◌≡◌, ap, ◌∙◌}
use native.Mathlib.Decide.{dec_le}
use native.Mathlib.Omega.{arith}
use borrow.Author.Tests.{lt-leb}
use lib.Dec.{leb, eqb}
use Rattle.rules.proofs.PowersOfTwo.{below_power, left_behind}
use Rattle.rules.proofs.outside.Goals as goal

behind_min : (x bits least : ℕ) → x < 2 ^ 32 → least ≡ min bits 32 → not (eqb (x / 2 ^ least) 0) ≡ leb (2 ^ bits) x
behind_min x bits least l e =
    elim (dec_le bits 32) [
      | yes few ↦
          let same : least ≡ bits = omega (arith, e, few) in
          ap (λ (n : ℕ). not (eqb (x / 2 ^ n) 0)) same ∙ left_behind x bits
      | no many ↦
          let same : least ≡ 32 = omega (arith, e, many) in
          ap (λ (n : ℕ). not (eqb (x / 2 ^ n) 0)) same ∙ left_behind x 32 ∙ lt-leb (2 ^ 32) x l
          ∙ below_power x bits l (omega (arith, many))
    ]

pub returns : goal.returns
returns c = behind_min c.args.address c.args.bits c.min.result c.ranges.address.fits c.min.ensures
