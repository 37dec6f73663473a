-- Powers of two: a number of 32 bits against a higher one, what is left of a number behind some bits, and one less than a number against
-- another.
use Prim.Native.Nat.{ℕ, ◌+◌, ◌-◌, ◌/◌, ◌^◌, ◌≤◌, ◌<◌}
use mathlib.Core.Bool.{false, not}
use mathlib.Core.Path.{◌≡◌, sym, ap, ◌∙◌}
use native.Mathlib.Decide.{dec_le}
use native.Mathlib.Nat.{lt_of_lt_of_le}
use native.Mathlib.Omega.{arith}
use borrow.Author.Tests.{le-leb, lt-leb}
use lib.Dec.{leb, eqb}
use lib.Pow.{pow_mono, pow_pos}
use Rattle.std.proofs.Math.Nat.{div-eq_of_lt}
use Rattle.std.proofs.lemmas.Bool.{ne_eqb}
use Rattle.std.proofs.lemmas.Nat.{le-div}

-- a number of 32 bits is below every higher power
pub below_power : (x bits : ℕ) → x < 2 ^ 32 → 32 ≤ bits → false ≡ leb (2 ^ bits) x
below_power x bits h g = sym (lt-leb (2 ^ bits) x (lt_of_lt_of_le h (pow_mono g)))

-- something is left of a number behind some bits where it is their power of two or more
pub left_behind : (x bits : ℕ) → not (eqb (x / 2 ^ bits) 0) ≡ leb (2 ^ bits) x
left_behind x bits =
    elim (dec_le (2 ^ bits) x) [
      | yes l ↦
          let some : 1 ≤ x / 2 ^ bits = le-div 1 x (2 ^ bits) (pow_pos bits) (omega (arith, l)) in
          ap not (ne_eqb (x / 2 ^ bits) 0 (λ e. absurd (omega (arith, some, e)))) ∙ sym (le-leb (2 ^ bits) x l)
      | no l ↦
          let none : x / 2 ^ bits ≡ 0 = div-eq_of_lt (omega (arith, l)) in
          ap (λ (n : ℕ). not (eqb n 0)) none ∙ sym (lt-leb (2 ^ bits) x (omega (arith, l)))
    ]

-- one less than a number, against another
pub less_one : (a b : ℕ) → leb (a - 1) b ≡ leb a (b + 1)
less_one a b =
    elim (dec_le a (b + 1)) [
      | yes l ↦ le-leb (a - 1) b (omega arith) ∙ sym (le-leb a (b + 1) l)
      | no l ↦ lt-leb (a - 1) b (omega arith) ∙ sym (lt-leb a (b + 1) (omega arith))
    ]
