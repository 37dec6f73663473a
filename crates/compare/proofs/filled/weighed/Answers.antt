-- `compare::filled::weighed` meets its contract: nothing is multiplied where the weight is 1.
use native.Mathlib.Omega.{arith}
use Rattle.comparison.proofs.FilledByTables.{all-used}
use Rattle.compare.proofs.filled.weighed.Goals as goal

pub returns-then-left-eq0-clause-values : goal.returns-then-left-eq0-clause-values
returns-then-left-eq0-clause-values g c =
    all-used g.S.Scalar.elements g.S.Scalar.lawful c.args.own c.args.tables.now.most c.args.tables.now.rowwise.now
    c.args.tables.now.columnwise.now (omega (arith, c.if-left-eq0.true)) (omega (arith, c.if-left-eq0.true)) _
    (g.S.Scalar.lawful.valid _) (g.S.Scalar.lawful.valid _) (g.S.Scalar.lawful.valid _)
