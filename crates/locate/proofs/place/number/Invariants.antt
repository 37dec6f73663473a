use Rattle.std.specs.Slice.Iter.{iter_rest}
use Rattle.location.proofs.NumbersFromBits.{Coming}
use Rattle.locate.proofs.place.number.Given as goal

abbrev pub invariant-loop-bit : goal.invariant-loop-bit
invariant-loop-bit l = Coming l.bits (iter_rest l.bit-iterator.iter) l.number
