use Rattle.products.proofs.FilledNumbers.{Filling}
use Rattle.products.proofs.input.fill.Given as goal

abbrev pub invariant-loop-number : goal.invariant-loop-number
invariant-loop-number g l = Filling l.initial.numbers l.numbers l.number-index
