use lib.ListN.{length}
use Rattle.evaluate.proofs.CoordinatesFromBits.{Filling}
use Rattle.evaluate.proofs.point.bits.Given as goal

abbrev pub invariant-loop-coordinate : goal.invariant-loop-coordinate
invariant-loop-coordinate l = Filling l.a (length l.initial.coordinates) l.coordinates l.rest l.coordinate-index
