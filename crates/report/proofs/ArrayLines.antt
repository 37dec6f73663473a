-- The lines of the arrays, written one behind the other.
use Prim.Native.Nat.{ℕ, zero, suc, ◌+◌, ◌*◌, ◌≤◌, ◌<◌}
use mathlib.Core.List.{List, ◌++◌}
use mathlib.Core.Path.{◌≡◌, refl, ap, ap₂}
use native.Mathlib.Omega.{arith}
use lib.ListN.{length, length-append}
use Rattle.arrays.specs.Arrays.{Values}
use Rattle.report.specs.Inner.{HasRoom, Appended}
use Rattle.report.specs.declared.text.Text.{Text}
use Rattle.report.specs.Printed.{array_line, array_lines}
use Rattle.report.proofs.BytesWritten.{appended-none, appended-more, room-behind}

-- lines of values that are the same
pub lines_same : (values others : ℕ → Values) (count : ℕ) → ((i : ℕ) → i < count → values i ≡ others i) →
    array_lines values count ≡ array_lines others count
lines_same values others zero same = refl
lines_same values others (suc i) same =
    ap₂ (λ (lines line : List ℕ). lines ++ line) (lines_same values others i (λ j l. same j (omega arith)))
    (ap (array_line i) (same i (omega arith)))

-- the lines of the first i arrays were written, each of at most 84 bytes
pub record Listing (values : ℕ → Values) (count : ℕ) (before after : Text) (i : ℕ) : Type 0 where
  pub listed : Appended before (array_lines values i) after
  pub few : length (array_lines values i) ≤ 84 * i
  pub within : i ≤ count

pub listing-begun : (values : ℕ → Values) (count : ℕ) (text : Text) → text.at ≤ length text.bytes.now → Listing values count text text 0
listing-begun values count text l = record { listed = appended-none text l; few = omega arith; within = omega arith }

module _ (values : ℕ → Values) (count : ℕ) (before mid : Text) (i : ℕ) (l : Listing values count before mid i) where
  -- there is room for one line more
  pub listing-room : HasRoom before (84 * count) → i < count → HasRoom mid 84
  listing-room room less = room-behind (array_lines values i) (84 * i) (84 * count) 84 l.listed l.few room (omega arith)

  pub listing-turn : (after : Text) → i < count → Appended mid (array_line i (values i)) after → length (array_line i (values i)) ≤ 84 →
      Listing values count before after (i + 1)
  listing-turn after less a most =
      let next : i + 1 ≡ suc i = omega arith in
      rw next
      record {
        listed = appended-more (array_lines values i) (array_line i (values i)) l.listed a;
        few = omega (arith, length-append (array_lines values i) (array_line i (values i)), l.few, most);
        within = omega arith;
      }

  pub listing-done : count ≤ i → Appended before (array_lines values count) mid
  listing-done all = rw (let e : count ≡ i = omega (arith, l.within) in e) l.listed
