-- The elements of the field of p elements: the numbers below p.
use Rattle.std.specs.Prelude.{ℕ, ◌<◌, ◌%◌, ◌≡◌}
use Rattle.std.specs.Coded.{Coded, code_by, coded_ℕ, le_prop}
use Rattle.std.proofs.Common.{arith, mod-lt}
use mathlib.Core.HLevel.{is_prop→PathP}
use Rattle.field.specs.Fp.{p}

-- a number that is below p
pub record Element : Type 0 where
  pub number : ℕ
  pub below : number < p

-- the element that a number is modulo p
abbrev pub element_of : ℕ → Element
element_of n = record { number = n % p; below = mod-lt n (omega arith) }

-- a number below p is its own remainder
pub below-itself : {n : ℕ} → n < p → n % p ≡ n
below-itself l = omega (arith, l)

-- elements that are the same number are the same: that it is below p is so in one way
pub same-element : {x y : Element} → x.number ≡ y.number → x ≡ y
same-element {x} {y} e =
    λ i. record { number = e i; below = is_prop→PathP (λ j. e j < p) (λ j. le_prop) x.below y.below i }

-- an element is stored as its number
abbrev pub element_code : Coded Element
element_code = code_by ℕ coded_ℕ (λ e. e.number) element_of (λ e. same-element (below-itself e.below))
