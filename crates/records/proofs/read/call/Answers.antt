-- `records::read::call` meets its contract: the fields lie one behind the other.
use mathlib.Core.List.{[], ◌∷◌}
use Rattle.records.proofs.FieldBytes.{fields_at}
use Rattle.records.proofs.read.call.Goals as goal

pub returns : goal.returns
returns c =
    let start = c.args in
    cc (fields_at 2 (4 ∷ 4 ∷ []) start.bytes.now start.at)
