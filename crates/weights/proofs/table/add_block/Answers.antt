-- `weights::table::add_block` meets its contract: the weight over no bits is 1, and the others are made from it.
use Rattle.weights.proofs.OneLimbBlock.{block_made}
use Rattle.weights.proofs.table.add_block.Goals as goal

pub returns : goal.returns
returns g c =
    block_made g.S.Scalar.elements c.args.table.now _ c.args.block _ c.requires.0 c.requires.1 c.put.ensures _ c.grow.ensures
