-- The bytes of an array's entries: they stand behind the opening, and all its entries are left there.
use Prim.Native.Nat.{ℕ, ◌+◌, ◌<◌}
use mathlib.Core.List.{List}
use mathlib.Core.Path.{◌≡◌, refl}
use native.Mathlib.Omega.{arith}
use lib.ListN.{length, get_or}
use Rattle.arrays.specs.Arrays.{array_at}
use Rattle.key.specs.KeyArrays.{key_arrays}
use Rattle.key.proofs.EntriesLeft.{runs-ahead, Left, entries-left}
use Rattle.key.proofs.EntryChunks.{Rest, rest-begun}
use Rattle.key.proofs.IndexedKey.{entries-run, behind-inside}
use Rattle.indexed.specs.Entries.{behind, between}
use Rattle.indexed.specs.declared.IndexedKey.{IndexedKey}

module _ (key : IndexedKey) (i : ℕ) (there : i < length (key_arrays key.bytes.now)) where
  -- the offset of its first entry
  abbrev pub first_at : ℕ
  first_at = get_or key.starts.now i 0 + 3

  pub entries-stand : (bytes : List ℕ) → bytes ≡ between key.bytes.now first_at (behind key.bytes.now i) →
      Rest key.bytes.now (behind key.bytes.now i) bytes first_at
  entries-stand bytes is =
      rest-begun _ _ bytes first_at is (omega (arith, runs-ahead _ _ _ _ (entries-run _ _ key.indexed i there)))
      (behind-inside _ _ key.indexed i there).0

  pub entries-here : Left key.bytes.now i (behind key.bytes.now i) (array_at (key_arrays key.bytes.now) i).entries first_at
  entries-here = entries-left _ _ key.indexed i there _ refl
