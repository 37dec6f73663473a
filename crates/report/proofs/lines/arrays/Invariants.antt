use Rattle.field.specs.Scalars.{prime}
use Rattle.evaluation.specs.Inner.{sheet_values}
use Rattle.report.proofs.ArrayLines.{Listing}
use Rattle.report.proofs.lines.arrays.Given as goal

abbrev pub invariant-loop-i : goal.invariant-loop-i
invariant-loop-i l = Listing (sheet_values prime l.sheet) l.count l.initial.text l.text l.i
