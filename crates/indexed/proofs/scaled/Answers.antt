-- `indexed::scaled` meets its contract: an accepted key begins with a head, whose kind says the edition.
use Rattle.key.proofs.IndexedKey.{edition-byte}
use Rattle.indexed.proofs.scaled.Goals as goal

pub bounds-key-0 : goal.bounds-key-0
bounds-key-0 c = (edition-byte _ c.requires.0 c.requires.1).0

pub returns : goal.returns
returns c = (edition-byte _ c.requires.0 c.requires.1).1
