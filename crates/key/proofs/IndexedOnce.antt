-- A key is indexed by a table in one way at most: its counts are those that check answers.
use Prim.Native.Nat.{ℕ, ◌≤◌, ◌<◌}
use mathlib.Core.HLevel.{Σ_prop_path}
use mathlib.Core.List.{List}
use mathlib.Core.Path.{◌≡◌, sym, ◌∙◌}
use lib.ListN.{length, get_or}
use Rattle.std.proofs.Props.{props}
use Rattle.refusal.specs.Outcome.{given}
use Rattle.refusal.proofs.Outcomes.{given-injective}
use Rattle.key.specs.Check.{checked_key}
use Rattle.key.specs.Index.{starts_of}
use Rattle.key.specs.Indexed.{Indexed}
use Rattle.key.specs.KeyArrays.{key_arrays}
use Rattle.key.specs.declared.Counts.{Counts}

module _ (key starts : List ℕ) where
  -- what is said of the counts, and of the table
  abbrev Fields : Counts → Type 0
  Fields counts =
      (checked_key key ≡ given counts) ×
      (length (key_arrays key) ≤ length starts) ×
      ((i : ℕ) → i < length (key_arrays key) → get_or starts i 0 ≡ get_or (starts_of key) i 0)

  Fields-prop : (counts : Counts) → IsProp (Fields counts)
  Fields-prop counts = hlevel props

  whole : Indexed key starts → (counts : Counts) × Fields counts
  whole one = (one.counts, (one.accepted, one.room, one.offsets))

  pub Indexed-prop : IsProp (Indexed key starts)
  unfolding whole
  Indexed-prop one other =
      let same : whole one ≡ whole other = Σ_prop_path Fields-prop (given-injective (sym one.accepted ∙ other.accepted)) in
      λ i. record { counts = (same i).0; accepted = (same i).1.0; room = (same i).1.1; offsets = (same i).1.2 }
