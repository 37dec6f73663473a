-- Records that run to a key's end: the one that is taken next, and those behind it.
use Rattle.std.specs.Prelude.{Ok}
use Prim.Native.Nat.{ℕ, ◌+◌, ◌≤◌, ◌<◌}
use mathlib.Core.List.{List, [], ◌∷◌}
use mathlib.Core.Path.{◌≡◌, refl, sym, ap, subst, ◌∙◌}
use native.Mathlib.Omega.{arith}
use lib.ListN.{length}
use Rattle.refusal.specs.Outcome.{refusal_of}
use Rattle.refusal.specs.declared.Refusal.{Refusal}
use Rattle.refusal.proofs.Outcomes.{ok-injective, given-not-refused}
use Rattle.records.specs.Kinds.{encoded}
use Rattle.records.specs.Take.{taken_outcome, taken_at}
use Rattle.records.specs.declared.Record.{Record}
use Rattle.records.proofs.Answers.{taken-injective}
use Rattle.records.proofs.TakeCases.{given-onward}
use Rattle.key.specs.Index.{Runs}

module _ (key : List ℕ) (at : ℕ) where
  -- the record that is taken is the first of them, and the others run from behind it
  pub record Next (todo : List Record) (item : Record) (next : ℕ) : Type 0 where
    pub rest : List Record
    pub is : todo ≡ item ∷ rest
    pub further : next ≡ at + length (encoded item)
    pub runs : Runs key next rest (length key)

  -- one is taken only before the key's end
  pub taken-inside : (item : Record) (next : ℕ) → taken_at key at ≡ taken_outcome (Ok (item, next)) →
      (at < next) × (next ≤ length key)
  taken-inside item next taken = given-onward key at _ taken

  pub run-next : (todo : List Record) → Runs key at todo (length key) → (item : Record) (next : ℕ) →
      taken_at key at ≡ taken_outcome (Ok (item, next)) → Next todo item next
  run-next [] runs item next taken = absurd (omega (arith, runs, taken-inside item next taken))
  run-next (r ∷ rest) runs item next taken =
      let same = ok-injective (taken-injective (Ok (r, at + length (encoded r))) (Ok (item, next)) (sym runs.0 ∙ taken)) in
      let is : r ≡ item = ap (λ (x : Record × ℕ). x.0) same in
      let further : at + length (encoded r) ≡ next = ap (λ (x : Record × ℕ). x.1) same in
      record {
        rest = rest;
        is = ap (λ (r : Record). r ∷ rest) is;
        further = sym further ∙ ap (λ (r : Record). at + length (encoded r)) is;
        runs = subst (λ (m : ℕ). Runs key m rest (length key)) further runs.1;
      }

  -- before the end a record is taken, and at the end there is none left
  pub run-taken : (todo : List Record) → Runs key at todo (length key) → at < length key → (f : Refusal) → taken_at key at ≡ refusal_of f → ⊥
  run-taken [] runs l f refused = omega (arith, runs)
  run-taken (r ∷ rest) runs l f refused = given-not-refused (sym runs.0 ∙ refused)

  pub run-ended : (todo : List Record) → Runs key at todo (length key) → length key ≤ at → todo ≡ []
  run-ended [] runs l = refl
  run-ended (r ∷ rest) runs l = absurd (omega (arith, taken-inside r _ runs.0))
