-- `records::write::call` meets its contract: the fields are written one behind the other.
use Rattle.records.proofs.write.call.Goals as goal

pub returns : goal.returns
returns c = cc
