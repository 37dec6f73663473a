-- `judge::first_over` meets its contract: all numbers are below p, or the first that is not is searched.
use Prim.Native.Nat.{ℕ}
use mathlib.Core.Bool.{Bool, true}
use mathlib.Core.List.{List}
use mathlib.Core.Path.{◌≡◌, refl}
use lib.Dec.{leb}
use borrow.Author.Rules.{rules}
use borrow.Author.Tests.{tests}
use Rattle.std.proofs.lemmas.Fn.{fold_over, fronts}
use Rattle.std.proofs.lemmas.Iterator.{YieldsList-from_slice}
use Rattle.std.proofs.lemmas.Iterator.Search.{position_from_yields_List}
use Rattle.algebra.specs.Points.{Below}
use Rattle.field.specs.Fp.{p}
use Rattle.judge.proofs.FirstOver.{below-turn, found-none, found_by-position}
use Rattle.judge.proofs.first_over.Goals as goal

pub returns-then-fold : goal.returns-then-fold
returns-then-fold c =
    found-none _
    (fold_over fronts (λ y. y.now) _ (λ (ys : List ℕ) (below : Bool). below ≡ true → Below p ys) _ (λ ys a x b f i k. (below-turn ys x.now a b (search (rules, tests)) i, refl)) _ c.args.numbers.now true _
    (YieldsList-from_slice {s = c.iter.result} c.args.numbers.now cc).runs (λ e. tt) c.fold.ensures.ran c.if-fold.true)

pub returns : goal.returns
returns c =
    found_by-position _ _
    (position_from_yields_List (λ x. leb p x) _ _ _ c.position.ensures.ran (YieldsList-from_slice c.args.numbers.now cc)
    (λ x b q k. search (rules, tests)))
