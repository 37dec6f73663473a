-- `evaluate::over` meets its contract: a short key has a short table, and the factors of every accepted key are limited.
use borrow.Author.Rules.{rules}
use Rattle.key.proofs.FactorLimits.{key-limited}
use Rattle.evaluate.proofs.over.Goals as goal

pub returns-then-key-lt-SHORT : goal.returns-then-key-lt-SHORT
returns-then-key-lt-SHORT g c = search (rules, key-limited)

pub returns : goal.returns
returns g c = search (rules, key-limited)
