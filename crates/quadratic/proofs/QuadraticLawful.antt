-- The field of p² elements obeys the laws of a field in which keys are evaluated.
use Prim.Native.Nat.{ℕ, ◌*◌, ◌/◌, ◌%◌, ◌<◌}
use mathlib.Core.List.{List, [], ◌∷◌}
use mathlib.Core.Path.{◌≡◌, refl, ap}
use native.Mathlib.Omega.{arith}
use lib.ListN.{length}
use Rattle.algebra.specs.Digits.{digits}
use Rattle.algebra.specs.Respects.{Respects}
use Rattle.field.specs.Fp.{p, fp}
use Rattle.field.specs.Scalars.{Lawful}
use Rattle.quadratic.specs.Fp2.{TwoParts, fp2}
use Rattle.quadratic.specs.Quadratic.{two_by_two, quadratic}
use Rattle.quadratic.proofs.Fp2Field.{fp2-ring, fp2-field}
use Rattle.quadratic.proofs.Products.{parts-equal}

times-real : (a b : ℕ) → (a * b) % p ≡ fp.sub (fp.mul a b) (fp.mul 0 0)
times-real a b = omega arith

times_none : (a b : ℕ) → 0 ≡ fp.add (fp.mul a 0) (fp.mul 0 b)
times_none a b = omega arith

-- numbers without a second part add, subtract and multiply as those of the field of p
pub embed-respects : Respects fp fp2 quadratic.embed
embed-respects = record {
  on_nought = refl;
  on_unit = refl;
  on_add = λ a b. refl;
  on_sub = λ a b. refl;
  on_mul = λ a b. parts-equal (times-real a b) (times_none a b);
}

pub two-numbers : (list : List ℕ) → length list ≡ 2 → (x : TwoParts) × (quadratic.numbers x ≡ list)
two-numbers [] e = absurd (omega arith)
two-numbers (u ∷ []) e = absurd (omega arith)
two-numbers (u ∷ v ∷ []) e = (record { u = u; v = v }, refl)
two-numbers (u ∷ v ∷ w ∷ list) e = absurd (omega arith)

unfoldable pub quadratic-lawful : Lawful quadratic
unfolding fp2-field fp2-ring digits two_by_two
quadratic-lawful = record {
  field = fp2-field;
  size_is = refl;
  respects = embed-respects;
  embed_valid = λ x l. (l, omega arith);
  embed_once = λ x y l l' e. ap (λ (t : TwoParts). t.u) e;
  numbers_width = λ x. refl;
  numbers_all = two-numbers;
  numbers_below = λ x valid. (valid.0, (valid.1, tt));
  below_valid = λ x below. (below.0, below.1.0);
  none_made = refl;
  made_again = λ x rest. refl;
  numbered = λ i l. ap (λ (d : ℕ). (i % p) ∷ d ∷ []) (second i l);
}
  where
    second : (i : ℕ) → i < 4611686014132420609 → i / p ≡ (i / p) % p
    second i l = omega arith
