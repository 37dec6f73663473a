-- Remainders of products.
use Prim.Native.Nat.{ℕ, ◌+◌, ◌*◌, ◌/◌, ◌%◌}
use mathlib.Core.Path.{◌≡◌, sym, ap, ◌∙◌}
use native.Mathlib.Nat.{mul_comm, div-add-mod, add-mul-mod_self_left}
use native.Mathlib.Omega.{arith}

-- two numbers that differ by multiples of n have the same remainder
pub same_rest : (n x y k l : ℕ) → x + n * k ≡ y + n * l → x % n ≡ y % n
same_rest n x y k l e =
    sym (add-mul-mod_self_left x n k) ∙ (ap (λ (z : ℕ). z % n) e ∙ add-mul-mod_self_left y n l)

-- a factor may be reduced before the product is
pub mod-mul-mod : (a b n : ℕ) → (a % n * b) % n ≡ (a * b) % n
mod-mul-mod a b n = same_rest n (a % n * b) (a * b) (a / n * b) 0 (omega (arith, ap (λ (x : ℕ). x * b) (div-add-mod a n)))

pub mul-mod-mod : (a b n : ℕ) → (a * (b % n)) % n ≡ (a * b) % n
mul-mod-mod a b n = rw (mul_comm a (b % n), mod-mul-mod, mul_comm b a)
