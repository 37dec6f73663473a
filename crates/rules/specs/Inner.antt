-- What the contracts of inner functions cite: it mirrors the code. No public promise rests on it.
use Rattle.refusal.specs.declared.Refusal.{Refusal}
use Rattle.std.specs.Prelude.{Result, Ok, Err}
use Rattle.std.specs.Prelude.{ℕ, ◌+◌, ◌-◌, ◌≤◌, ◌<◌, Bool, true, false, cond, List, [], ◌∷◌, ◌≡◌, ltb, length, get_or}
use Rattle.refusal.specs.declared.Reason.{Reason}
use Rattle.records.specs.declared.Call.{Call}
use Rattle.records.specs.declared.ScaledCall.{ScaledCall}
use Rattle.records.specs.declared.Shape.{Shape}
use Rattle.arrays.specs.WellFormed.{Each}
use Rattle.rules.specs.Rules.{Rule, called_rules, call_rules, scaled_call_rules}
use Rattle.rules.specs.declared.Opening.{Opening}

-- a verdict stands where it is a refusal already, or where the rule is kept
abbrev pub unless_broken : Result (Unit {0}) Refusal → Reason → Bool → ℕ → Result (Unit {0}) Refusal
unless_broken (Err f) reason broken place = Err f
unless_broken (Ok _) reason true place = Err (record { reason = reason; place = place })
unless_broken (Ok _) reason false place = Ok tt

-- a verdict after some rules, all at one place
abbrev pub held_to : Result (Unit {0}) Refusal → ℕ → List Rule → Result (Unit {0}) Refusal
held_to verdict place [] = verdict
held_to verdict place (rule ∷ rules) = held_to (unless_broken verdict rule.reason rule.broken place) place rules

-- rules that are all kept
abbrev pub AllKept : List Rule → Type 0
AllKept rules = Each (λ rule. rule.broken ≡ false) rules

-- ---- the called array

-- the shape in the two bytes behind an opening's kind
abbrev pub shape_read : List ℕ → ℕ → Shape
shape_read key at = record { rows = get_or key (at + 1) 0; columns = get_or key (at + 2) 0 }

-- a table whose first places hold offsets of a key, with room for an opening at each
pub record Noted (key starts : List ℕ) (arrays : ℕ) : Type 0 where
  pub room : arrays ≤ length starts
  pub inside : (i : ℕ) → i < arrays → get_or starts i 0 + 2 < length key

-- the shape of the array numbered i, one of so many; 0 and 0 where there is no such array
abbrev pub called_shape : List ℕ → List ℕ → ℕ → ℕ → Shape
called_shape key starts arrays i = cond (ltb i arrays) (shape_read key (get_or starts i 0)) (record { rows = 0; columns = 0 })

-- a shape of at most 30 bits a side
abbrev pub Narrow : Shape → Type 0
Narrow shape = (shape.rows ≤ 30) × (shape.columns ≤ 30)

-- the rules of a call in the array that is open, the last of so many
abbrev pub called_rules_in : List ℕ → List ℕ → Shape → ℕ → Call → List Rule
called_rules_in key starts shape arrays call = called_rules shape (arrays - 1) (called_shape key starts arrays call.id) call

abbrev pub call_rules_in : List ℕ → List ℕ → Bool → Opening → ℕ → Call → List Rule
call_rules_in key starts scaled array arrays call =
    call_rules scaled array (arrays - 1) (called_shape key starts arrays call.id) call

abbrev pub scaled_call_rules_in : List ℕ → List ℕ → Bool → Opening → ℕ → ScaledCall → List Rule
scaled_call_rules_in key starts scaled array arrays call =
    scaled_call_rules scaled array (arrays - 1) (called_shape key starts arrays call.id) call
