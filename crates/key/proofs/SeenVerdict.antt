-- By what the code has seen of the records before, its verdict on a record and its counts are the definition's.
use Rattle.std.specs.Prelude.{Ok}
use Prim.Native.Nat.{ℕ, ◌-◌}
use mathlib.Core.List.{flat_map, List, [], ◌∷◌, ◌++◌, append-nil}
use mathlib.Core.Path.{◌≡◌, refl, ap, subst, ◌∙◌}
use native.Mathlib.Omega.{arith}
use lib.ListN.{length}
use Rattle.refusal.specs.Outcome.{Outcome}
use Rattle.records.specs.declared.Record.{Record}
use Rattle.records.specs.declared.Shape.{Shape}
use Rattle.rules.specs.Inner.{held_to, AllKept}
use Rattle.rules.specs.Rules.{Rule, call_rules, scaled_call_rules}
use Rattle.rules.proofs.Verdicts.{held_kept}
use Rattle.key.specs.Before.{opening_in, opened, open_now, head_of, is_scaled, count_of, call_count}
use Rattle.key.specs.Check.{counts_of, first_broken, rules_of, rules_behind, judged_by}
use Rattle.key.specs.Inner.{ShapesStand, counts_seen, rules_seen, verdict_on, seen_in}
use Rattle.key.specs.declared.seen.Seen.{Seen}
use Rattle.key.proofs.JoinedLists.{flat_map-append}
use Rattle.key.proofs.OpeningShapes.{called-shape}
use Rattle.key.proofs.RecordsBefore.{count-append}
use Rattle.key.proofs.VerdictIsFirstBroken.{settled, held-settled}

-- the rules by what was seen are those of the definition
rules-seen : (before : List Record) (key starts : List ℕ) → ShapesStand key starts (opened before) → (item : Record) →
    rules_seen (seen_in before) key starts item ≡ rules_of before item
unfolding rules_of
rules-seen before key starts stand (Record.Head shape) = refl
rules-seen before key starts stand (Record.Sparse shape) = refl
rules-seen before key starts stand (Record.Recursive shape) = refl
rules-seen before key starts stand (Record.Cell cell) = refl
rules-seen before key starts stand (Record.Call call) =
    ap (λ (called : Shape). call_rules (is_scaled before) (open_now (opened before)) (length (opened before) - 1) called call)
    (called-shape key starts (opened before) stand call.id)
rules-seen before key starts stand Record.End = refl
rules-seen before key starts stand (Record.ScaledHead shape) = refl
rules-seen before key starts stand (Record.ScaledCall call) =
    ap (λ (called : Shape). scaled_call_rules (is_scaled before) (open_now (opened before)) (length (opened before) - 1) called call)
    (called-shape key starts (opened before) stand call.id)

-- where the verdict is that the rules are kept, they are: by what was seen
pub rules-kept : (seen : Seen) (key starts : List ℕ) (at next : ℕ) (item : Record) →
    verdict_on seen key starts at next item ≡ (Ok tt) → AllKept (rules_seen seen key starts item)
rules-kept seen key starts at next item e =
    (held_kept (Ok tt) at (rules_seen seen key starts item)
    (held_kept (held_to (Ok tt) at (rules_seen seen key starts item)) next (rules_behind item next (length key)) e).0).1

module _ (before : List Record) (key starts : List ℕ) (stand : ShapesStand key starts (opened before)) (at next : ℕ)
    (item : Record) where
  -- the code's verdict means what the definition says
  pub verdict-judges : {A : Type 0} (rest : Outcome A) →
      settled (verdict_on (seen_in before) key starts at next item) rest ≡
      judged_by (length key) before (record { item = item; at = at; next = next }) rest
  verdict-judges rest =
      held-settled (held_to (Ok tt) at (rules_seen (seen_in before) key starts item)) next (rules_behind item next (length key)) rest
      ∙ held-settled (Ok tt) at (rules_seen (seen_in before) key starts item)
      (first_broken next (rules_behind item next (length key)) rest)
      ∙ ap (λ (rules : List Rule). first_broken at rules (first_broken next (rules_behind item next (length key)) rest))
      (rules-seen before key starts stand item)

  -- and by the definition
  pub verdict-kept : verdict_on (seen_in before) key starts at next item ≡ (Ok tt) → AllKept (rules_of before item)
  verdict-kept e = subst AllKept (rules-seen before key starts stand item) (rules-kept (seen_in before) key starts at next item e)

-- ---- the end

-- an end changes no count
pub counts_end : (before : List Record) → counts_of (before ++ (Record.End ∷ [])) ≡ counts_seen (seen_in before)
unfolding count_of flat_map
counts_end before =
    let openings : opened (before ++ (Record.End ∷ [])) ≡ opened before =
    flat_map-append opening_in before (Record.End ∷ []) ∙ append-nil (opened before) in
    let cells : count_of 0x04 (before ++ (Record.End ∷ [])) ≡ count_of 0x04 before =
    omega (arith, count-append 0x04 before (Record.End ∷ [])) in
    let calls : call_count (before ++ (Record.End ∷ [])) ≡ call_count before =
    omega (arith, count-append 0x05 before (Record.End ∷ []), count-append 0x08 before (Record.End ∷ [])) in
    λ i. record {
      arrays = length (openings i);
      cells = cells i;
      calls = calls i;
      rows = (head before i).rows;
      columns = (head before i).columns;
    }
  where
    head : (before : List Record) → head_of (before ++ (Record.End ∷ [])) ≡ head_of before
    head [] = refl
    head (r ∷ before) = refl
