-- `records::write::record` meets its contract: in each arm the record's case is known, and the ranges of its fields.
use mathlib.Core.Path.{ap}
use native.Mathlib.Omega.{arith}
use lib.ListN.{length}
use Rattle.records.specs.Kinds.{encoded}
use Rattle.records.specs.declared.Record.{Record}
use Rattle.records.proofs.write.record.Goals as goal

pub shape-requires : goal.shape-requires
shape-requires c = omega (arith, ap (λ (r : Record). length (encoded r)) c.in-Head.is)

pub shape-requires-in-Sparse : goal.shape-requires-in-Sparse
shape-requires-in-Sparse c = omega (arith, ap (λ (r : Record). length (encoded r)) c.in-Sparse.is)

pub shape-requires-in-Recursive : goal.shape-requires-in-Recursive
shape-requires-in-Recursive c = omega (arith, ap (λ (r : Record). length (encoded r)) c.in-Recursive.is)

pub cell-requires : goal.cell-requires
cell-requires c = omega (arith, ap (λ (r : Record). length (encoded r)) c.in-Cell.is)

pub call-requires : goal.call-requires
call-requires c = omega (arith, ap (λ (r : Record). length (encoded r)) c.in-Call.is)

pub shape-requires-in-ScaledHead : goal.shape-requires-in-ScaledHead
shape-requires-in-ScaledHead c = omega (arith, ap (λ (r : Record). length (encoded r)) c.in-ScaledHead.is)

pub scaled_call-requires : goal.scaled_call-requires
scaled_call-requires c = omega (arith, ap (λ (r : Record). length (encoded r)) c.in-ScaledCall.is)

pub returns-in-Head : goal.returns-in-Head
returns-in-Head c = rw c.in-Head.is record { part = c.shape.ensures; fits = omega arith }

pub returns-in-Sparse : goal.returns-in-Sparse
returns-in-Sparse c = rw c.in-Sparse.is record { part = c.shape-in-Sparse.ensures; fits = omega arith }

pub returns-in-Recursive : goal.returns-in-Recursive
returns-in-Recursive c = rw c.in-Recursive.is record { part = c.shape-in-Recursive.ensures; fits = omega arith }

pub returns-in-Cell : goal.returns-in-Cell
returns-in-Cell c = rw c.in-Cell.is record { part = c.cell.ensures; fits = omega arith }

pub returns-in-Call : goal.returns-in-Call
returns-in-Call c = rw c.in-Call.is record { part = c.call.ensures; fits = omega arith }

pub returns-in-End : goal.returns-in-End
returns-in-End c = rw c.in-End.is record { part = c.kind.ensures; fits = tt }

pub returns-in-ScaledHead : goal.returns-in-ScaledHead
returns-in-ScaledHead c = rw c.in-ScaledHead.is record { part = c.shape-in-ScaledHead.ensures; fits = omega arith }

pub returns-in-ScaledCall : goal.returns-in-ScaledCall
returns-in-ScaledCall c = rw c.in-ScaledCall.is record { part = c.scaled_call.ensures; fits = omega arith }
