-- The check so far: where the walk over a key's records begins, and what is known where it stands.
use Prim.Native.Nat.{ℕ, min, suc, ◌/◌, ◌≤◌}
use mathlib.Core.List.{flat_map, List, []}
use mathlib.Core.Path.{◌≡◌, refl, ap}
use native.Mathlib.Omega.{arith}
use borrow.Author.Tests.{le-ltb}
use lib.ListN.{length, length-map}
use Rattle.key.specs.Before.{opened, count_of, call_count}
use Rattle.key.specs.Check.{checked_key}
use Rattle.rules.specs.Inner.{Noted}
use Rattle.key.specs.Inner.{seen_in, Here}
use Rattle.key.specs.Reading.{Located, items}
use Rattle.key.specs.declared.seen.Seen.{Seen}
use Rattle.key.proofs.RecordsBefore.{opened-most, count_most, calls-most}

-- the walk begins at the first byte, with nothing seen
pub begins : (key starts : List ℕ) → length key ≤ 65536 → min 1024 (length key / 3) ≤ length starts → Here key starts (seen_in []) 0
unfolding checked_key flat_map
begins key starts short room =
    record {
      past = [];
      steps = suc (length key);
      within = omega arith;
      enough = omega arith;
      few = omega arith;
      arrays_most = omega arith;
      spaced = omega arith;
      seen_is = refl;
      narrow_head = (omega arith, omega arith);
      narrow_array = (omega arith, omega arith);
      room = room;
      shapes = λ i l. absurd (omega arith);
      offsets_hold = refl;
      read = refl;
      same = rw (le-ltb 65536 (length key) short);
    }

module _ {key starts : List ℕ} {seen : Seen} {at : ℕ} (H : Here key starts seen at) where
  -- there are no more records than bytes
  pub counts-most : (seen.arrays ≤ at) × (seen.cells ≤ at) × (seen.calls ≤ at)
  counts-most =
      let few : length (items H.past) ≤ at = omega (arith, length-map H.past (λ (x : Located). x.item), H.few) in
      let arrays : seen.arrays ≡ length (opened (items H.past)) = ap (λ (s : Seen). s.arrays) H.seen_is in
      let cells : seen.cells ≡ count_of 0x04 (items H.past) = ap (λ (s : Seen). s.cells) H.seen_is in
      let calls : seen.calls ≡ call_count (items H.past) = ap (λ (s : Seen). s.calls) H.seen_is in
      omega
      (arith, few, arrays, cells, calls, opened-most (items H.past), count_most 0x04 (items H.past), calls-most (items H.past))

  -- the offsets of the arrays so far are noted
  pub noted : Noted key starts seen.arrays
  noted =
      let arrays : seen.arrays ≡ length (opened (items H.past)) = ap (λ (s : Seen). s.arrays) H.seen_is in
      record {
        room = omega (arith, arrays, H.arrays_most, H.spaced, H.within, H.room);
        inside = λ i l. (H.shapes i (omega (arith, arrays, l))).0;
      }
