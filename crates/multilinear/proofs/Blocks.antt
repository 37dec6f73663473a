-- Blocks of 2^K numbers (004, Definition 5): they fit, and a block of a block is a block (Lemma 1, composition).
use Prim.Native.Nat.{ℕ, ◌+◌, ◌-◌, ◌*◌, ◌^◌, ◌≤◌, ◌<◌}
use mathlib.Core.Path.{◌≡◌, sym, ap, ◌∙◌}
use native.Mathlib.Nat.{mul-le-mul_right, sub-add_cancel}
use native.Mathlib.Omega.{arith}
use lib.Pow.{pow-add}

-- the block numbered a, of 2^K numbers, lies within the 2^k numbers
pub block-fits : (k K a : ℕ) → K ≤ k → a < 2 ^ (k - K) → a * 2 ^ K + 2 ^ K ≤ 2 ^ k
block-fits k K a fits l =
    omega (arith, mul-le-mul_right (2 ^ K) l, pow-add 2 (k - K) K, ap (λ (e : ℕ). 2 ^ e) (sub-add_cancel fits))

-- block a of 2^K numbers within block b of 2^J numbers begins where the block b·2^(J-K) + a of 2^K numbers begins
pub block-of-block : (J K a b : ℕ) → K ≤ J → b * 2 ^ J + a * 2 ^ K ≡ (b * 2 ^ (J - K) + a) * 2 ^ K
block-of-block J K a b fits =
    ap (λ (n : ℕ). b * n + a * 2 ^ K) (sym (ap (λ (e : ℕ). 2 ^ e) (sub-add_cancel fits)) ∙ pow-add 2 (J - K) K) ∙ omega arith

-- and that is one of the blocks of the 2^k numbers
pub block-of-block-fits : (k J K a b : ℕ) → J ≤ k → K ≤ J → b < 2 ^ (k - J) → a < 2 ^ (J - K) →
    b * 2 ^ (J - K) + a < 2 ^ (k - K)
block-of-block-fits k J K a b fits fits' l l' =
    let steps : k - J + (J - K) ≡ k - K = omega arith in
    omega (arith, mul-le-mul_right (2 ^ (J - K)) l, pow-add 2 (k - J) (J - K), ap (λ (e : ℕ). 2 ^ e) steps)
