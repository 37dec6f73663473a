-- There and back gives the first bytes.
use Prim.Native.Nat.{ℕ, ◌≤◌}
use mathlib.Core.Bool.{Bool, not}
use mathlib.Core.List.{List}
use mathlib.Core.Path.{◌≡◌, sym, ap, ap₂, ◌∙◌}
use native.Mathlib.Omega.{arith}
use lib.ListN.{length}
use Rattle.refusal.specs.Outcome.{given}
use Rattle.records.specs.Put.{overwritten}
use Rattle.records.proofs.NumberBytes.{AreBytes}
use Rattle.arrays.specs.Arrays.{Array}
use Rattle.key.specs.Accepted.{Accepted}
use Rattle.key.specs.Encoding.{key_bytes}
use Rattle.key.specs.KeyArrays.{key_arrays, key_scaled}
use Rattle.key.specs.declared.Counts.{Counts}
use Rattle.key.proofs.Acceptance.{acceptance}
use Rattle.editions.specs.Move.{moved_key, moving}
use Rattle.editions.proofs.MovedKey.{Movable, twice, moved-accepted, moved-arrays, moved-edition, moved-factors}
use Rattle.editions.proofs.MovedRecords.{moved-is}
use Rattle.editions.proofs.MovingCases.{copy-given}

module _ (key : List ℕ) (are : AreBytes key) (counts : Counts) (movable : Movable key counts) where
  a : Accepted key counts
  a = acceptance key counts movable.accepted

  pub moved_back : moved_key (moved_key key) ≡ key
  moved_back =
      moved-is (moved_key key) counts (moved-accepted key counts movable)
      ∙ ap₂ (λ (scaled : Bool) (arrays : List Array). key_bytes (not scaled) counts.rows counts.columns arrays)
      (moved-edition key counts movable) (moved-arrays key counts movable)
      ∙ ap (λ (scaled : Bool). key_bytes scaled counts.rows counts.columns (key_arrays key)) (twice (key_scaled key))
      ∙ sym (a.bytes are)

  -- the copy can be moved in its turn, to any buffer that has room for the key
  pub moves-back : (buffer : List ℕ) → length key ≤ length buffer →
      moving (moved_key key) buffer ≡ record { answer = given (length key); buffer = overwritten key buffer 0 }
  moves-back buffer room =
      copy-given (moved_key key) buffer counts (moved-accepted key counts movable) (moved-factors key counts movable)
      (omega (arith, ap length moved_back, a.at_most_65536)) (omega (arith, ap length moved_back))
      ∙ ap (λ (bytes : List ℕ). record { answer = given (length bytes); buffer = overwritten bytes buffer 0 }) moved_back
