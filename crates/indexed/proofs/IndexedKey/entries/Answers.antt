-- `IndexedKey::entries` meets its contract: the entries end in the key.
use Prim.Native.Nat.{◌+◌, ◌≤◌}
use native.Mathlib.Omega.{arith}
use lib.ListN.{length}
use Rattle.std.proofs.Common.{rules}
use Rattle.key.proofs.EntriesLeft.{runs-ahead}
use Rattle.key.proofs.IndexedKey.{entries-run, behind-inside}
use Rattle.indexed.proofs.IndexedKey.entries.Goals as goal

pub slice_bounds-result-count : goal.slice_bounds-result-count
slice_bounds-result-count c =
    let indexed = c.args.self.now.indexed in
    let ahead = runs-ahead _ _ _ _ (entries-run _ _ indexed c.args.i c.requires) in
    omega (arith, ahead, c.opening-from.ensures.offset, c.behind-to.ensures)

pub slice_bounds-result-end : goal.slice_bounds-result-end
slice_bounds-result-end c =
    let indexed = c.args.self.now.indexed in
    let inside = behind-inside _ _ indexed c.args.i c.requires in
    let l : c.behind-to.result ≤ length c.args.self.now.bytes.now = omega (arith, inside, c.behind-to.ensures) in
    search rules

pub slice_bounds-result-start : goal.slice_bounds-result-start
slice_bounds-result-start c =
    let indexed = c.args.self.now.indexed in
    let ahead = runs-ahead _ _ _ _ (entries-run _ _ indexed c.args.i c.requires) in
    let l : c.opening-from.result + 3 ≤ c.behind-to.result = omega (arith, ahead, c.opening-from.ensures.offset, c.behind-to.ensures) in
    search rules
