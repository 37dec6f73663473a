-- The field of p elements obeys the laws of a field in which keys are evaluated.
use Prim.Native.Nat.{ℕ}
use mathlib.Core.List.{List, [], ◌∷◌}
use mathlib.Core.Path.{◌≡◌, refl, sym, ap}
use native.Mathlib.Nat.{mod-eq_of_lt}
use native.Mathlib.Omega.{arith}
use lib.ListN.{length}
use Rattle.algebra.specs.Digits.{digits}
use Rattle.field.specs.Scalars.{prime, Lawful}
use Rattle.field.proofs.FpField.{fp-ring, fp-field}

pub one_number : (list : List ℕ) → length list ≡ 1 → (x : ℕ) × (x ∷ [] ≡ list)
one_number [] e = absurd (omega arith)
one_number (x ∷ []) e = (x, refl)
one_number (x ∷ y ∷ list) e = absurd (omega arith)

unfoldable pub prime-lawful : Lawful prime
unfolding fp-field fp-ring digits
prime-lawful = record {
  field = fp-field;
  size_is = refl;
  respects = record {
    on_nought = refl;
    on_unit = refl;
    on_add = λ a b. refl;
    on_sub = λ a b. refl;
    on_mul = λ a b. refl;
  };
  embed_valid = λ x l. l;
  embed_once = λ x y l l' e. e;
  numbers_width = λ x. refl;
  numbers_all = one_number;
  numbers_below = λ x valid. (valid, tt);
  below_valid = λ x below. below.0;
  none_made = refl;
  made_again = λ x rest. refl;
  numbered = λ i l. ap (λ (d : ℕ). d ∷ []) (sym (mod-eq_of_lt l));
}
