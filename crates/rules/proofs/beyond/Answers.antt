-- `rules::beyond` meets its contract: the remainder of the bits that are left is their number.
use Prim.Native.Nat.{◌+◌, ◌-◌, ◌%◌}
use mathlib.Core.Path.{◌≡◌}
use native.Mathlib.Omega.{arith}
use Rattle.field.proofs.OneShifted.{one_shifted}
use Rattle.rules.proofs.beyond.Goals as goal

pub returns : goal.returns
returns c fits =
    let left : (c.args.bits + 256 - c.args.called) % 32 ≡ c.args.bits - c.args.called =
    omega (arith, fits, c.requires) in
    rw (one_shifted 32 ((c.args.bits + 256 - c.args.called) % 32) (omega arith), left)
