-- `IndexedKey::sparse` meets its contract: the opening's kind says which entries follow.
use mathlib.Core.Path.{◌≡◌}
use lib.ListN.{get_or}
use Rattle.std.proofs.Common.{rules}
use Rattle.key.proofs.IndexedKey.{opens-cells, opens-calls}
use Rattle.indexed.proofs.IndexedKey.sparse.Goals as goal

pub returns-clause-sparse : goal.returns-clause-sparse
returns-clause-sparse c is =
    let two : get_or c.args.self.now.bytes.now (get_or c.args.self.now.starts.now c.args.i 0) 0 ≡ 2 = search rules in
    opens-cells _ _ c.args.self.now.indexed c.args.i c.requires two

pub returns-clause-recursive : goal.returns-clause-recursive
returns-clause-recursive c other =
    let not-two : get_or c.args.self.now.bytes.now (get_or c.args.self.now.starts.now c.args.i 0) 0 ≡ 2 → ⊥ = search rules in
    opens-calls _ _ c.args.self.now.indexed c.args.i c.requires not-two
