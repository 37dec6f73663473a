-- `compare::over` meets its contract: the tables have places for all arrays of short keys, or of any.
use Rattle.comparison.proofs.Agreement.{agreement}
use Rattle.comparison.proofs.CompareCases.{both_told}
use Rattle.compare.proofs.over.Goals as goal

pub returns-then-second-lt-SHORT-clause-agreement : goal.returns-then-second-lt-SHORT-clause-agreement
returns-then-second-lt-SHORT-clause-agreement g c = agreement g.S.Scalar.elements.scalars g.S.Scalar.lawful.lawful _ _

pub returns-then-second-lt-SHORT-clause-limit : goal.returns-then-second-lt-SHORT-clause-limit
returns-then-second-lt-SHORT-clause-limit g c = both_told g.S.Scalar.elements.scalars _ _ _ _ _ _ c.by_tables.ensures.factors

pub returns-clause-agreement : goal.returns-clause-agreement
returns-clause-agreement g c = agreement g.S.Scalar.elements.scalars g.S.Scalar.lawful.lawful _ _

pub returns-clause-limit : goal.returns-clause-limit
returns-clause-limit g c = both_told g.S.Scalar.elements.scalars _ _ _ _ _ _ c.by_tables-2.ensures.factors
