-- `IndexedKey::arrays` meets its contract: a key has at most 1,024 arrays.
use native.Mathlib.Omega.{arith}
use Rattle.key.proofs.IndexedKey.{accepts}
use Rattle.indexed.proofs.IndexedKey.arrays.Goals as goal

pub returns-clause-few : goal.returns-clause-few
returns-clause-few c =
    let indexed = c.args.self.now.indexed in
    omega (arith, c.args.self.now.counted, (accepts _ _ indexed).at_most_1024)
