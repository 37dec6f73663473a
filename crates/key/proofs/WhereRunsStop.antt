-- What stands where the runs stop: behind entries only an opening or an end can keep its rules, and behind arrays only an end.
use Rattle.std.specs.Prelude.{is_ok}
use Rattle.std.specs.Prelude.{Result, Ok, Err}
use Prim.Native.Nat.{ℕ, ◌+◌, ◌<◌}
use mathlib.Core.Bool.{Bool, true, false}
use mathlib.Core.List.{flat_map, List, [], ◌∷◌}
use mathlib.Core.Path.{◌≡◌, refl, sym, subst, ◌∙◌}
use native.Mathlib.Omega.{arith}
use borrow.Author.Tests.{eqb-true, eqb-false, not-false}
use lib.ListN.{length, get_or, drop}
use Rattle.refusal.specs.Outcome.{refusal_of}
use Rattle.refusal.specs.declared.Refusal.{Refusal}
use Rattle.records.specs.Kinds.{shape_fields, shape_of}
use Rattle.records.specs.Layout.{fields_in}
use Rattle.records.specs.Take.{taken_outcome, taken_at}
use Rattle.records.specs.declared.Record.{Record}
use Rattle.records.specs.declared.Shape.{Shape}
use Rattle.rules.specs.Inner.{held_to, call_rules_in, scaled_call_rules_in, AllKept}
use Rattle.rules.specs.Rules.{Rule, head_rules, opening_rules, cell_rules}
use Rattle.rules.specs.declared.Opening.{Opening}
use Rattle.key.specs.Check.{checked_key}
use Rattle.key.specs.Inner.{rules_seen, opens_or_ends, seen_in, passed, verdict_on, Here, Only, Fails}
use Rattle.key.specs.Reading.{is_end}
use Rattle.key.specs.declared.seen.Seen.{Seen}
use Rattle.key.proofs.SeenVerdict.{rules-kept}
use Rattle.key.proofs.CheckOneRecord.{breaks}
use Rattle.key.proofs.RecordTried.{fails-other, fails-short, fails-broken}

-- ---- behind entries

-- no head of either edition passes
abbrev pub NoHead : List ℕ → Bool → ℕ → Type 0
NoHead key first at = Fails key Record.Head (head_rules first) at × Fails key Record.ScaledHead (head_rules first) at

-- no call of either edition passes
abbrev pub NoCall : List ℕ → List ℕ → Bool → Opening → ℕ → ℕ → Type 0
NoCall key starts scaled array arrays at =
    Fails key Record.Call (call_rules_in key starts scaled array arrays) at ×
    Fails key Record.ScaledCall (scaled_call_rules_in key starts scaled array arrays) at

-- a head behind the first record breaks a rule, and so does an entry of another kind than the array that is open, or a call of the other
-- edition
pub late-head : (key : List ℕ) (at : ℕ) (first : Bool) → first ≡ false → NoHead key first at
late-head key at first late = (
  λ x next taken kept. eqb-false 0 0 (sym (not-false first kept.0) ∙ late) refl,
  λ x next taken kept. eqb-false 0 0 (sym (not-false first kept.0) ∙ late) refl,
)

pub not-sparse : (key : List ℕ) (array : Opening) (at : ℕ) → (array.kind ≡ 2 → ⊥) → Fails key Record.Cell (cell_rules array) at
not-sparse key array at other x next taken kept = other (eqb-true array.kind 2 (not-false _ kept.0))

pub not-recursive : (key starts : List ℕ) (scaled : Bool) (array : Opening) (arrays at : ℕ) → (array.kind ≡ 3 → ⊥) →
    NoCall key starts scaled array arrays at
not-recursive key starts scaled array arrays at other = (
  λ x next taken kept. other (eqb-true array.kind 3 (not-false _ kept.0)),
  λ x next taken kept. other (eqb-true array.kind 3 (not-false _ kept.0)),
)

pub no_call : (key starts : List ℕ) (scaled : Bool) (array : Opening) (arrays at : ℕ) → scaled ≡ false →
    Fails key Record.Call (call_rules_in key starts false array arrays) at → NoCall key starts scaled array arrays at
no_call key starts scaled array arrays at one fails = (
  subst (λ (s : Bool). Fails key Record.Call (call_rules_in key starts s array arrays) at) (sym one) fails,
  λ x next taken kept. eqb-false 0 0 (sym (not-false scaled kept.1.0) ∙ one) refl,
)

pub no-scaled-call : (key starts : List ℕ) (scaled : Bool) (array : Opening) (arrays at : ℕ) → scaled ≡ true →
    Fails key Record.ScaledCall (scaled_call_rules_in key starts true array arrays) at → NoCall key starts scaled array arrays at
no-scaled-call key starts scaled array arrays at two fails = (
  λ x next taken kept. eqb-false 0 0 (sym two ∙ kept.1.0) refl,
  subst (λ (s : Bool). Fails key Record.ScaledCall (scaled_call_rules_in key starts s array arrays) at) (sym two) fails,
)

module _ (key starts : List ℕ) (seen : Seen) (at : ℕ) where
  pub only-opens : NoHead key seen.first at → Fails key Record.Cell (cell_rules seen.array) at →
      NoCall key starts seen.scaled seen.array seen.arrays at → Only opens_or_ends key starts seen at
  only-opens heads cells calls = go
    where
      go : (item : Record) (next : ℕ) → taken_at key at ≡ taken_outcome (Ok (item, next)) →
          AllKept (rules_seen seen key starts item) → opens_or_ends item ≡ true
      go (Record.Head shape) next taken kept = absurd (heads.0 shape next taken kept)
      go (Record.Sparse shape) next taken kept = refl
      go (Record.Recursive shape) next taken kept = refl
      go (Record.Cell cell) next taken kept = absurd (cells cell next taken kept)
      go (Record.Call call) next taken kept = absurd (calls.0 call next taken kept)
      go Record.End next taken kept = refl
      go (Record.ScaledHead shape) next taken kept = absurd (heads.1 shape next taken kept)
      go (Record.ScaledCall call) next taken kept = absurd (calls.1 call next taken kept)

module _ (key starts : List ℕ) where
  -- before any array is open no entry keeps its rules
  unopened : (seen : Seen) (at : ℕ) → seen.array.kind ≡ 0 → NoHead key seen.first at → Only opens_or_ends key starts seen at
  unopened seen at none heads =
      only-opens key starts seen at heads (not-sparse key seen.array at (λ e. omega (arith, none, e)))
      (not-recursive key starts seen.scaled seen.array seen.arrays at (λ e. omega (arith, none, e)))

  -- at the start, if no head passes
  pub only-opens-first : NoHead key true 0 → Only opens_or_ends key starts (seen_in []) 0
  unfolding flat_map
  only-opens-first heads = unopened (seen_in []) 0 refl heads

  -- behind a head
  pub only-opens-next : (scaled : Bool) (shape : Shape) (at : ℕ) → Only opens_or_ends key starts (passed (seen_in []) scaled shape 0 0) at
  unfolding flat_map
  only-opens-next scaled shape at = unopened (passed (seen_in []) scaled shape 0 0) at refl (late-head key at false refl)

-- ---- behind arrays

module _ (key : List ℕ) (seen : Seen) (at : ℕ) where
  abbrev rules : Shape → List Rule
  rules = opening_rules seen.first seen.head seen.arrays

  -- neither kind of opening passes
  abbrev pub NoneOpens : Type 0
  NoneOpens = Fails key Record.Sparse rules at × Fails key Record.Recursive rules at

  pub only-ends : (starts : List ℕ) → Only opens_or_ends key starts seen at → NoneOpens → Only is_end key starts seen at
  only-ends starts only none = go
    where
      go : (item : Record) (next : ℕ) → taken_at key at ≡ taken_outcome (Ok (item, next)) →
          AllKept (rules_seen seen key starts item) → is_end item ≡ true
      go (Record.Head shape) next taken kept = only (Record.Head shape) next taken kept
      go (Record.Sparse shape) next taken kept = absurd (none.0 shape next taken kept)
      go (Record.Recursive shape) next taken kept = absurd (none.1 shape next taken kept)
      go (Record.Cell cell) next taken kept = only (Record.Cell cell) next taken kept
      go (Record.Call call) next taken kept = only (Record.Call call) next taken kept
      go Record.End next taken kept = refl
      go (Record.ScaledHead shape) next taken kept = only (Record.ScaledHead shape) next taken kept
      go (Record.ScaledCall call) next taken kept = only (Record.ScaledCall call) next taken kept

  pub other-kind : (get_or key at 0 ≡ 2 → ⊥) → (get_or key at 0 ≡ 3 → ⊥) → NoneOpens
  other-kind two three =
      (fails-other key Record.Sparse rules at 2 (λ x. refl) two, fails-other key Record.Recursive rules at 3 (λ x. refl) three)

  pub cut_off : length key < at + 3 → NoneOpens
  cut_off short =
      (fails-short key Record.Sparse rules at 3 (λ x. refl) short, fails-short key Record.Recursive rules at 3 (λ x. refl) short)

  pub opening-broken : (shape : Shape) → shape_fields shape ≡ fields_in (1 ∷ 1 ∷ []) (drop (at + 1) key) →
      is_ok (held_to (Ok tt) at (rules shape)) ≡ false → NoneOpens
  opening-broken shape fields broken = (
    fails-broken key Record.Sparse rules at 2 (λ x. refl) shape_of (λ x. refl) shape fields broken,
    fails-broken key Record.Recursive rules at 3 (λ x. refl) shape_of (λ x. refl) shape fields broken,
  )

-- ---- a run and the judge

-- A run passes exactly what `judged` passes. Behind its entries the judge goes on (`cells-walked`, `calls-walked`, `scaled-calls-walked`,
-- by `Here`); and where it stops before an entry of its kind, what the judge finds of that entry is check's refusal.
pub record RefusedAt (key starts : List ℕ) (seen : Seen) (at next : ℕ) (item : Record) : Type 0 where
  pub refusal : Refusal
  pub found : verdict_on seen key starts at next item ≡ Err refusal
  pub answered : checked_key key ≡ refusal_of refusal

pub run-stopped : {A : Type 0} (key starts : List ℕ) (seen : Seen) (at : ℕ) (item : A → Record) → Here key starts seen at →
    Fails key item (λ (x : A). rules_seen seen key starts (item x)) at → (x : A) (next : ℕ) →
    taken_at key at ≡ taken_outcome (Ok ((item x), next)) → RefusedAt key starts seen at next (item x)
run-stopped key starts seen at item H fails x next taken = go (verdict_on seen key starts at next (item x)) refl
  where
    go : (v : Result (Unit {0}) Refusal) → verdict_on seen key starts at next (item x) ≡ v → RefusedAt key starts seen at next (item x)
    go (Err f) e = record { refusal = f; found = e; answered = breaks H (item x) next taken f e }
    go (Ok _) e = absurd (fails x next taken (rules-kept seen key starts at next (item x) e))
