-- `records::kind_of` meets its contract: in each arm the record's case is known.
use mathlib.Core.Path.{sym, ap}
use Rattle.records.specs.Kinds.{kind_of}
use Rattle.records.proofs.kind_of.Goals as goal

pub returns-in-Head : goal.returns-in-Head
returns-in-Head c = sym (ap kind_of c.in-Head.is)

pub returns-in-Sparse : goal.returns-in-Sparse
returns-in-Sparse c = sym (ap kind_of c.in-Sparse.is)

pub returns-in-Recursive : goal.returns-in-Recursive
returns-in-Recursive c = sym (ap kind_of c.in-Recursive.is)

pub returns-in-Cell : goal.returns-in-Cell
returns-in-Cell c = sym (ap kind_of c.in-Cell.is)

pub returns-in-Call : goal.returns-in-Call
returns-in-Call c = sym (ap kind_of c.in-Call.is)

pub returns-in-End : goal.returns-in-End
returns-in-End c = sym (ap kind_of c.in-End.is)

pub returns-in-ScaledHead : goal.returns-in-ScaledHead
returns-in-ScaledHead c = sym (ap kind_of c.in-ScaledHead.is)

pub returns-in-ScaledCall : goal.returns-in-ScaledCall
returns-in-ScaledCall c = sym (ap kind_of c.in-ScaledCall.is)
