-- `weights::table::prepare` meets its contract: the factors of the coordinates, and where there are places for them the blocks of limbs.
use Prim.Native.Nat.{ℕ, ◌+◌, ◌*◌, ◌/◌}
use mathlib.Core.Path.{ap, subst, ◌∙◌}
use lib.ListN.{length}
use Rattle.scalar.proofs.NumbersRead.{counted-is, valid-at}
use Rattle.weights.specs.Side.{FilledUp}
use Rattle.weights.proofs.PreparedTable.{blocks-fit, tabled-long}
use Rattle.weights.proofs.table.prepare.Goals as goal

pub add_blocks-requires : goal.add_blocks-requires
add_blocks-requires g c =
    let 𝓔 = g.S.Scalar.elements in
    let 𝓛 = g.S.Scalar.lawful in
    let numbers = c.args.coordinates.now in
    let limbs = (length numbers / c.WIDTH.result + 4) / 5 in
    let count = counted-is 𝓔 𝓛 numbers c.WIDTH.result (c.WIDTH.ensures ∙ g.met.S.Scalar.width) in
    blocks-fit 𝓔 𝓛 (𝓔.scalars.elements numbers) c.args.table.now c.pair_up.new.table c.requires.coordinates_len_bound.0
    c.requires.ready c.pair_up.ensures c.if-table-gt-PLACES.true limbs (ap (λ (n : ℕ). (n + 4) / 5) count) c.fill_up.new.table
    (subst (λ (n : ℕ). FilledUp 𝓔 c.pair_up.new.table n (5 * limbs) c.fill_up.new.table) count c.fill_up.ensures)
    (valid-at 𝓔 𝓛 numbers c.requires.coordinates_len_bound.1)

pub returns-then-table-gt-PLACES : goal.returns-then-table-gt-PLACES
returns-then-table-gt-PLACES g c =
    let 𝓔 = g.S.Scalar.elements in
    let 𝓛 = g.S.Scalar.lawful in
    let numbers = c.args.coordinates.now in
    let limbs = (length numbers / c.WIDTH.result + 4) / 5 in
    let count = counted-is 𝓔 𝓛 numbers c.WIDTH.result (c.WIDTH.ensures ∙ g.met.S.Scalar.width) in
    tabled-long 𝓔 𝓛 (𝓔.scalars.elements numbers) c.args.table.now c.pair_up.new.table c.requires.coordinates_len_bound.0
    c.requires.ready c.pair_up.ensures c.if-table-gt-PLACES.true limbs (ap (λ (n : ℕ). (n + 4) / 5) count) c.fill_up.new.table
    (subst (λ (n : ℕ). FilledUp 𝓔 c.pair_up.new.table n (5 * limbs) c.fill_up.new.table) count c.fill_up.ensures) _
    c.add_blocks.ensures
