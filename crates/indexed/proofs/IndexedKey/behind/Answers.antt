-- `IndexedKey::behind` meets its contract: behind the last array stands the end.
use Prim.Native.Nat.{◌+◌, ◌≤◌, ◌<◌}
use mathlib.Core.Path.{◌≡◌, ◌∙◌}
use native.Mathlib.Omega.{arith}
use lib.ListN.{length, get_or}
use Rattle.std.proofs.Common.{rules}
use Rattle.key.proofs.IndexedKey.{key-some, behind-next, behind-last}
use Rattle.indexed.proofs.IndexedKey.behind.Goals as goal

pub overflow_sub-result : goal.overflow_sub-result
overflow_sub-result c = key-some _ _ c.args.self.now.indexed

pub returns-in-Some : goal.returns-in-Some
returns-in-Some c =
    let next : c.in-Some.next.now ≡ get_or c.args.self.now.starts.now (c.args.i + 1) 0 = search rules in
    let more : c.args.i + 1 < length c.args.self.now.starts.now = search rules in
    next ∙ behind-next _ _ c.args.self.now.indexed c.args.i (omega (arith, more, c.args.self.now.counted))

pub returns-in-None : goal.returns-in-None
returns-in-None c =
    let last : length c.args.self.now.starts.now ≤ c.args.i + 1 = search rules in
    behind-last _ _ c.args.self.now.indexed c.args.i (omega (arith, last, c.requires, c.args.self.now.counted))
