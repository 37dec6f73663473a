-- `locate::place::number` meets its contract: from the highest bit down, one a turn.
use mathlib.Core.Path.{◌≡◌}
use Rattle.std.specs.Slice.Iter.{iter_rest}
use native.Mathlib.Omega.{arith}
use Rattle.location.proofs.NumbersFromBits.{all-coming, none_coming, coming-on, coming-few}
use Rattle.locate.proofs.place.number.Goals as goal

pub loop-bit-init : goal.loop-bit-init
loop-bit-init c =
    let all : iter_rest c.into_iter-bit-iterator.result.iter ≡ c.args.bits.now = cc in
    rw all (all-coming _)

pub overflow_mul-number : goal.overflow_mul-number
overflow_mul-number c =
    omega (arith, coming-few _ _ _ _ _ c.loop-bit.invariant c.in-Some.ensures.steps c.requires.0 c.requires.1)

pub overflow_add-number : goal.overflow_add-number
overflow_add-number c =
    omega (arith, coming-few _ _ _ _ _ c.loop-bit.invariant c.in-Some.ensures.steps c.requires.0 c.requires.1)

pub loop-bit-preserved : goal.loop-bit-preserved
loop-bit-preserved c = coming-on _ _ _ _ _ c.loop-bit.invariant c.in-Some.ensures.steps

pub returns : goal.returns
returns c = none_coming _ _ _ c.in-None.ensures.steps.0 c.loop-bit.invariant
