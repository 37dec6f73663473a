-- `IndexedKey::bits` meets its contract: the two numbers of the shape, each at most 30.
use mathlib.Core.Path.{ap}
use native.Mathlib.Omega.{arith}
use Rattle.records.specs.declared.Shape.{Shape}
use Rattle.key.proofs.IndexedKey.{accepts}
use Rattle.indexed.proofs.IndexedKey.bits.Goals as goal

pub returns-clause-few : goal.returns-clause-few
returns-clause-few c =
    let rows = ap (λ (s : Shape). s.rows) c.shape-own.ensures in
    let columns = ap (λ (s : Shape). s.columns) c.shape-own.ensures in
    let well = (accepts _ _ c.args.self.now.indexed).well_formed in
    let fits = well.arrays_fit c.args.i c.requires in
    omega (arith, rows, columns, fits.rows_at_most, fits.columns_at_most, well.rows_at_most_30, well.columns_at_most_30)
