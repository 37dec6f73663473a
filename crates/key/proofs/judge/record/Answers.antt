-- `key::judge::record` meets its contract: in each arm the record's case is known.
use Rattle.key.specs.Check.{rules_behind}
use Rattle.key.proofs.judge.record.Goals as goal

pub returns-in-Head : goal.returns-in-Head
unfolding rules_behind
returns-in-Head c = rw c.in-Head.is c.head.ensures

pub returns-in-Sparse : goal.returns-in-Sparse
unfolding rules_behind
returns-in-Sparse c = rw c.in-Sparse.is c.array_opening.ensures

pub returns-in-Recursive : goal.returns-in-Recursive
unfolding rules_behind
returns-in-Recursive c = rw c.in-Recursive.is c.array_opening-in-Recursive.ensures

pub returns-in-Cell : goal.returns-in-Cell
unfolding rules_behind
returns-in-Cell c = rw c.in-Cell.is c.cell.ensures

pub returns-in-Call : goal.returns-in-Call
unfolding rules_behind
returns-in-Call c = rw c.in-Call.is c.call.ensures

pub returns-in-End : goal.returns-in-End
unfolding rules_behind
returns-in-End c = rw c.in-End.is c.end.ensures

pub returns-in-ScaledHead : goal.returns-in-ScaledHead
unfolding rules_behind
returns-in-ScaledHead c = rw c.in-ScaledHead.is c.head-in-ScaledHead.ensures

pub returns-in-ScaledCall : goal.returns-in-ScaledCall
unfolding rules_behind
returns-in-ScaledCall c = rw c.in-ScaledCall.is c.scaled_call.ensures
