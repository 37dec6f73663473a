-- `IndexedKey::opening` meets its contract: each opening lies in the key.
use Rattle.key.proofs.IndexedKey.{opening-inside}
use Rattle.indexed.proofs.IndexedKey.opening.Goals as goal

pub returns-clause-inside : goal.returns-clause-inside
returns-clause-inside c = (opening-inside _ _ c.args.self.now.indexed c.args.i c.requires).0

pub returns-clause-short : goal.returns-clause-short
returns-clause-short c = (opening-inside _ _ c.args.self.now.indexed c.args.i c.requires).1
