-- `editions::copy::moved` meets its contract: in each arm the record's case is known.
use mathlib.Core.Path.{sym, ap, ◌∙◌}
use Rattle.records.specs.declared.Record.{Record}
use Rattle.editions.specs.Move.{moved_record}
use Rattle.editions.proofs.copy.moved.Goals as goal

pub returns-in-Head : goal.returns-in-Head
returns-in-Head c = sym (ap moved_record c.in-Head.is)

pub returns-in-Sparse : goal.returns-in-Sparse
returns-in-Sparse c = sym (ap moved_record c.in-Sparse.is)

pub returns-in-Recursive : goal.returns-in-Recursive
returns-in-Recursive c = sym (ap moved_record c.in-Recursive.is)

pub returns-in-Cell : goal.returns-in-Cell
returns-in-Cell c = sym (ap moved_record c.in-Cell.is)

pub returns-in-Call : goal.returns-in-Call
returns-in-Call c = ap Record.ScaledCall c.with_factor.ensures ∙ sym (ap moved_record c.in-Call.is)

pub returns-in-ScaledHead : goal.returns-in-ScaledHead
returns-in-ScaledHead c = sym (ap moved_record c.in-ScaledHead.is)

pub returns-in-ScaledCall : goal.returns-in-ScaledCall
returns-in-ScaledCall c = ap Record.Call c.without_factor.ensures ∙ sym (ap moved_record c.in-ScaledCall.is)
