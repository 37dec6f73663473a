-- Records that keep all their rules are accepted.
use Prim.Native.Nat.{ℕ, ◌+◌, ◌≤◌}
use mathlib.Core.Bool.{Bool, cond}
use mathlib.Core.List.{flat_map, List, [], ◌∷◌, ◌++◌, append-nil}
use mathlib.Core.Path.{◌≡◌, refl, sym, ap, subst, ◌∙◌}
use native.Mathlib.Omega.{arith}
use borrow.Author.Tests.{le-ltb}
use lib.ListN.{length, length-append}
use lib.Seq.{append_snoc}
use Rattle.refusal.specs.Outcome.{Outcome, given}
use Rattle.records.specs.Kinds.{encoded, bytes_of_all}
use Rattle.records.specs.declared.Record.{Record}
use Rattle.arrays.specs.WellFormed.{Each}
use Rattle.rules.specs.Inner.{AllKept}
use Rattle.rules.specs.Rules.{Rule, after_rules}
use Rattle.key.specs.Check.{first_broken, rules_of, rules_behind, judged_by, judged, counts_of}
use Rattle.key.specs.Reading.{Located}
use Rattle.key.specs.declared.Counts.{Counts}
use Rattle.key.proofs.EndOrOnward.{Onward, behind-onward}
use Rattle.key.proofs.RecordsReadBack.{laid}

all-kept : {A : Type 0} (place : ℕ) (rules : List Rule) (rest : Outcome A) → AllKept rules →
    first_broken place rules rest ≡ rest
unfolding first_broken
all-kept place [] rest kept = refl
all-kept place (rule ∷ rules) rest kept = rw kept.0 (all-kept place rules rest kept.1)

-- each of some records keeps its rules behind those before it
abbrev pub Keeping : List Record → List Record → Type 0
Keeping before [] = Unit {0}
Keeping before (r ∷ records) = AllKept (rules_of before r) × Keeping (before ++ (r ∷ [])) records

pub keeping-append : (before records more : List Record) → Keeping before records → Keeping (before ++ records) more →
    Keeping before (records ++ more)
keeping-append before [] more kept rest = rw (append-nil before) at rest
keeping-append before (r ∷ records) more kept rest =
    (kept.0, keeping-append (before ++ (r ∷ [])) records more kept.1 (rw (append_snoc before r records) rest))

-- nothing but an end is held to what stands behind it
behind-kept : (len next : ℕ) (r : Record) → Onward r → AllKept (rules_behind r next len)
unfolding rules_behind
behind-kept len next r onward = subst AllKept (sym (ap (λ (b : Bool). cond b (after_rules next len) []) onward)) tt

end-behind-kept : (len next : ℕ) → len ≤ next → AllKept (rules_behind Record.End next len)
unfolding rules_behind
end-behind-kept len next whole = (le-ltb next len whole, tt)

judged-kept : (len : ℕ) (before : List Record) (x : Located) (rest : Outcome Counts) → AllKept (rules_of before x.item) →
    AllKept (rules_behind x.item x.next len) → judged_by len before x rest ≡ rest
judged-kept len before x rest kept behind =
    all-kept x.at (rules_of before x.item) (first_broken x.next (rules_behind x.item x.next len) rest) kept
    ∙ all-kept x.next (rules_behind x.item x.next len) rest behind

-- records that keep their rules, the last an end and the key's last byte, are accepted with their counts
pub keeping-accepted : (len at : ℕ) (before records : List Record) → Each Onward records →
    Keeping before (records ++ (Record.End ∷ [])) → len ≡ at + length (bytes_of_all (records ++ (Record.End ∷ []))) →
    judged len before (laid at (records ++ (Record.End ∷ []))) ≡ given (counts_of (before ++ (records ++ (Record.End ∷ []))))
unfolding judged laid flat_map
keeping-accepted len at before [] onward kept whole =
    judged-kept len before (record { item = Record.End; at = at; next = at + length (encoded Record.End) })
    (given (counts_of (before ++ (Record.End ∷ [])))) kept.0 (end-behind-kept len (at + length (encoded Record.End)) (omega arith))
keeping-accepted len at before (r ∷ records) onward kept whole =
    judged-kept len before (record { item = r; at = at; next = at + length (encoded r) }) _ kept.0
    (behind-kept len (at + length (encoded r)) r onward.0)
    ∙ ap (judged len (before ++ (r ∷ [])))
    (behind-onward r onward.0 (laid (at + length (encoded r)) (records ++ (Record.End ∷ []))))
    ∙ keeping-accepted len (at + length (encoded r)) (before ++ (r ∷ [])) records onward.1 kept.1
    (omega (arith, length-append (encoded r) (bytes_of_all (records ++ (Record.End ∷ [])))))
    ∙ ap (λ (l : List Record). given (counts_of l)) (append_snoc before r (records ++ (Record.End ∷ [])))
