-- `key::run::head` meets its contract: the walk stands behind a head that keeps its rules, and no head does where it stops before one.
use Prim.Native.Nat.{ℕ, min, ◌/◌, ◌≤◌}
use mathlib.Core.Bool.{true}
use mathlib.Core.List.{List, []}
use mathlib.Core.Logic.{◌⊎◌, inl, inr}
use mathlib.Core.Path.{◌≡◌, refl, sym, subst}
use native.Mathlib.Omega.{arith}
use lib.Dec.{eqb}
use lib.ListN.{length, get_or}
use Rattle.records.specs.Kinds.{kind_of, shape_of}
use Rattle.records.specs.declared.Record.{Record}
use Rattle.key.specs.Encoding.{head_record}
use Rattle.key.specs.Inner.{opens_or_ends, seen_in, Here, Only}
use Rattle.rules.specs.Rules.{head_rules}
use Rattle.key.specs.declared.seen.Seen.{Seen}
use Rattle.key.proofs.BehindRuns.{head_passed}
use Rattle.key.proofs.CheckSoFar.{begins}
use Rattle.key.proofs.RecordTried.{fails-other, fails-short, fails-broken}
use Rattle.key.proofs.WhereRunsStop.{NoHead, only-opens-first, only-opens-next}
use Rattle.rules.proofs.Verdicts.{told-kept, told-broken}
use Rattle.key.proofs.run.head.Goals as goal

-- where no head passes, the walk stands at the start
at-start : (key : List ℕ) (seen : Seen) → length key ≤ 65536 → seen ≡ seen_in [] → NoHead key true 0 →
    ((starts : List ℕ) → min 1024 (length key / 3) ≤ length starts → Here key starts seen 0) ×
    ((starts : List ℕ) → Only opens_or_ends key starts seen 0)
at-start key seen short is fails = (
  λ starts room. subst (λ (s : Seen). Here key starts s 0) (sym is) (begins key starts short room),
  λ starts. subst (λ (s : Seen). Only opens_or_ends key starts s 0) (sym is) (only-opens-first key starts fails),
)

-- a first byte that is 1 or 7 is the kind of the edition's head
head-kind : (kind rows columns : ℕ) → ((kind ≡ 1 → ⊥) × (kind ≡ 7)) ⊎ (kind ≡ 1) →
    kind ≡ kind_of (head_record (eqb kind 7) rows columns)
head-kind kind rows columns (inl two) = rw two.1 refl
head-kind kind rows columns (inr one) = rw one refl

pub returns-then-key-lt3 : goal.returns-then-key-lt3
returns-then-key-lt3 c =
    let key = c.args.key.now in
    let told = at-start _ _ c.requires c.nothing.ensures (
      fails-short key Record.Head (head_rules true) 0 3 (λ x. refl) (omega (arith, c.if-key-lt3.true)),
      fails-short key Record.ScaledHead (head_rules true) 0 3 (λ x. refl) (omega (arith, c.if-key-lt3.true)),
    ) in
    record { here = told.0; only = told.1 }

pub returns-then-not-scaled : goal.returns-then-not-scaled
returns-then-not-scaled c =
    let key = c.args.key.now in
    let told = at-start _ _ c.requires c.nothing.ensures (
      fails-other key Record.Head (head_rules true) 0 1 (λ x. refl) c.if-key-ne1.true,
      fails-other key Record.ScaledHead (head_rules true) 0 7 (λ x. refl) c.if-not-scaled.true,
    ) in
    record { here = told.0; only = told.1 }

pub returns-then-is_err : goal.returns-then-is_err
returns-then-is_err c =
    let key = c.args.key.now in
    let broken = told-broken 0 (head_rules true c.shape-shape.result) c.head.result c.is_err.result
    c.head.ensures c.is_err.ensures.value c.if-is_err.true in
    let told = at-start _ _ c.requires c.nothing.ensures (
      fails-broken key Record.Head (head_rules true) 0 1 (λ x. refl) shape_of (λ x. refl) c.shape-shape.result c.shape-shape.ensures broken,
      fails-broken key Record.ScaledHead (head_rules true) 0 7 (λ x. refl) shape_of (λ x. refl) c.shape-shape.result c.shape-shape.ensures
          broken,
    ) in
    record { here = told.0; only = told.1 }

pub returns : goal.returns
returns c =
    let key = c.args.key.now in
    let shape = c.shape-shape.result in
    let scaled = eqb (get_or key 0 0) 7 in
    let kept = told-kept 0 (head_rules true shape) c.head.result c.is_err.result c.head.ensures
    c.is_err.ensures.value c.if-is_err.false in record {
      here = λ starts room. subst (λ (s : Seen). Here key starts s 3) (sym c.headed.ensures)
          (head_passed key starts c.requires room shape (omega (arith, c.if-key-lt3.false)) c.shape-shape.ensures kept
          scaled (head-kind (get_or key 0 0) shape.rows shape.columns (elim c.else-key-ne1.branch [
            | goal.else-key-ne1-via-then-key-ne1+else-not-scaled w ↦ inl (w.if-key-ne1.true, w.if-not-scaled.false)
            | goal.else-key-ne1-via-else-key-ne1 w ↦ inr w.if-key-ne1.false
          ])));
      only = λ starts. subst (λ (s : Seen). Only opens_or_ends key starts s 3) (sym c.headed.ensures)
          (only-opens-next key starts scaled shape 3);
    }
