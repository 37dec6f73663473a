-- What the index promises, from what the walk finds.
use Rattle.refusal.specs.declared.Refusal.{Refusal}
use Rattle.std.specs.Prelude.{Result}
use Prim.Native.Nat.{ℕ, ◌≤◌, ◌<◌}
use mathlib.Core.List.{List}
use mathlib.Core.Path.{◌≡◌, sym, ap, ◌∙◌}
use borrow.Author.Tests.{lt-ltb}
use lib.ListN.{length, take}
use lib.Seq.{length-take-le}
use Rattle.refusal.specs.Outcome.{given, refused, refuse}
use Rattle.refusal.specs.declared.Reason.{Reason}
use Rattle.refusal.proofs.Outcomes.{given-not-refused}
use Rattle.key.specs.Check.{checked_outcome, checked_key}
use Rattle.key.specs.Index.{starts_of, Indexing}
use Rattle.key.specs.declared.Counts.{Counts}

pub too_long : (key : List ℕ) → 65536 < length key → checked_key key ≡ refuse Reason.KeyTooLong 65536
unfolding checked_key
too_long key long = simp (lt-ltb 65536 (length key) long)

module _ (key : List ℕ) (answer : Result Counts Refusal) (after : List ℕ) where
  abbrev Promise : Type 0
  Promise = (checked_outcome answer ≡ checked_key key) × Indexing key after

  pub refused-promise : (number place : ℕ) → checked_outcome answer ≡ refused number place → checked_key key ≡ refused number place →
      Promise
  refused-promise number place e f = (e ∙ sym f, λ counts g. absurd (given-not-refused (sym g ∙ f)))

  -- the first places hold the offsets, as many as there are
  pub accepted-promise : (counts : Counts) (arrays : ℕ) → checked_outcome answer ≡ given counts → checked_key key ≡ given counts →
      arrays ≤ length after → starts_of key ≡ take arrays after → Promise
  accepted-promise counts arrays e f room s =
      (e ∙ sym f, λ _ _. ap (λ (n : ℕ). take n after) (ap length s ∙ length-take-le arrays after room) ∙ sym s)
