-- Products in the field of p²: with p - 1 for -1, a product is one of whole numbers, whose parts are then reduced.
use Prim.Native.Nat.{ℕ, ◌+◌, ◌-◌, ◌*◌, ◌%◌, ◌≤◌}
use mathlib.Core.Path.{◌≡◌, sym, ap, ap₂, ◌∙◌}
use native.Mathlib.Nat.{add-mod}
use native.Mathlib.Omega.{arith}
use Rattle.field.specs.Fp.{p}
use Rattle.field.proofs.Remainders.{same_rest, mod-mul-mod}
use Rattle.quadratic.specs.Fp2.{TwoParts, fp2}

pub parts-equal : {x y : TwoParts} → x.u ≡ y.u → x.v ≡ y.v → x ≡ y
parts-equal e f = λ i. record { u = e i; v = f i }

-- both parts modulo p
abbrev pub reduced : TwoParts → TwoParts
reduced x = record { u = x.u % p; v = x.v % p }

-- sum and product before they are reduced, the product with p - 1 for -1
abbrev pub plus : TwoParts → TwoParts → TwoParts
plus x y = record { u = x.u + y.u; v = x.v + y.v }

abbrev pub times : TwoParts → TwoParts → TwoParts
times x y = record { u = x.u * y.u + 2147483646 * (x.v * y.v); v = x.u * y.v + x.v * y.u }

less_one : (x y : ℕ) → (x % p + (p - y % p % p)) % p ≡ (x + 2147483646 * y) % p
less_one x y = omega arith

pub add-reduced : (x y : TwoParts) → fp2.add (reduced x) (reduced y) ≡ reduced (plus x y)
add-reduced x y = parts-equal (sym (add-mod x.u y.u p)) (sym (add-mod x.v y.v p))

pub mul_is : (x y : TwoParts) → fp2.mul x y ≡ reduced (times x y)
mul_is x y = parts-equal (less_one (x.u * y.u) (x.v * y.v)) (sym (add-mod (x.u * y.v) (x.v * y.u) p))

pub times-comm : (x y : TwoParts) → times x y ≡ times y x
times-comm x y = parts-equal (omega arith) (omega arith)

pub times-assoc : (x y z : TwoParts) → times (times x y) z ≡ times x (times y z)
times-assoc x y z = parts-equal (omega arith) (omega arith)

pub times-plus : (x y z : TwoParts) → times x (plus y z) ≡ plus (times x y) (times x z)
times-plus x y z = parts-equal (omega arith) (omega arith)

-- a factor may be reduced before the product is
sum-reduced : (a b c d : ℕ) → (a % p * b + c % p * d) % p ≡ (a * b + c * d) % p
sum-reduced a b c d =
    add-mod (a % p * b) (c % p * d) p
    ∙ ap₂ (λ (s t : ℕ). (s + t) % p) (mod-mul-mod a b p) (mod-mul-mod c d p)
    ∙ sym (add-mod (a * b) (c * d) p)

pub left-reduced : (x y : TwoParts) → reduced (times (reduced x) y) ≡ reduced (times x y)
left-reduced x y =
    parts-equal
    (ap (λ (n : ℕ). n % p) (turned (x.u % p) y.u (x.v % p) y.v)
    ∙ sum-reduced x.u y.u x.v (2147483646 * y.v)
    ∙ ap (λ (n : ℕ). n % p) (sym (turned x.u y.u x.v y.v)))
    (sum-reduced x.u y.v x.v y.u)
  where
    turned : (a b c d : ℕ) → a * b + 2147483646 * (c * d) ≡ a * b + c * (2147483646 * d)
    turned a b c d = omega arith

pub right-reduced : (x y : TwoParts) → reduced (times x (reduced y)) ≡ reduced (times x y)
right-reduced x y =
    ap (λ (t : TwoParts). reduced t) (times-comm x (reduced y))
    ∙ left-reduced y x
    ∙ ap (λ (t : TwoParts). reduced t) (times-comm y x)

-- the product from the sums s and t, in which 2·p - v stands for -v
pub product_is : (x y : TwoParts) (s t : ℕ) → y.v ≤ 4294967294 → s ≡ x.u * y.u + x.v * (4294967294 - y.v) →
    t ≡ x.u * y.v + x.v * y.u → reduced (record { u = s; v = t }) ≡ fp2.mul (reduced x) (reduced y)
product_is x y s t l es et =
    parts-equal
    (ap (λ (n : ℕ). n % p) es
    ∙ same_rest p (x.u * y.u + x.v * (4294967294 - y.v)) (x.u * y.u + 2147483646 * (x.v * y.v)) (x.v * y.v) (2 * x.v)
    (omega (arith, ap (λ (n : ℕ). x.v * n) (whole y.v l))))
    (ap (λ (n : ℕ). n % p) et)
    ∙ sym (left-reduced x y)
    ∙ sym (right-reduced (reduced x) y)
    ∙ sym (mul_is (reduced x) (reduced y))
  where
    whole : (v : ℕ) → v ≤ 4294967294 → 4294967294 - v + v ≡ 4294967294
    whole v l = omega arith
