-- The values of both types are the elements of fields in which keys are evaluated.
use Rattle.std.specs.Prelude.{ℕ, ◌%◌, true, ◌≤◌, ◌&&◌, eqb, ◌≡◌}
use Rattle.std.proofs.Common.{ap, arith, mod-lt, eq-eqb, eqb-true}
use Rattle.std.proofs.lemmas.Bool.{and_from, and_parts}
use Rattle.field.specs.Fp.{p}
use Rattle.field.specs.declared.fp.Fp.{Fp}
use Rattle.field.proofs.PrimeLawful.{prime-lawful}
use Rattle.quadratic.specs.Fp2.{TwoParts}
use Rattle.quadratic.specs.Parts.{parts}
use Rattle.quadratic.specs.Unreduced.{remainders}
use Rattle.quadratic.specs.declared.Fp2.{Fp2}
use Rattle.quadratic.specs.declared.unreduced.Unreduced.{Unreduced}
use Rattle.quadratic.proofs.QuadraticLawful.{quadratic-lawful}
use Rattle.quadratic.proofs.TwoByTwo.{two-count}
use Rattle.scalar.specs.Elements.{LawfulElements, singles, doubles}

unfoldable pub singles-lawful : LawfulElements Fp singles
singles-lawful = record {
  lawful = prime-lawful;
  some = omega arith;
  valid = λ x. prime-lawful.below_valid x.number (x.below, tt);
  counted = λ numbers. omega arith;
}

unfoldable pub doubles-lawful : LawfulElements Fp2 doubles
doubles-lawful = record {
  lawful = quadratic-lawful;
  some = omega arith;
  valid = λ x. quadratic-lawful.below_valid (doubles.element x) (x.u.below, (x.v.below, tt));
  counted = two-count;
}

-- and remainders by p are, in each part
pub singles-valid : (n : ℕ) → singles-lawful.lawful.field.ring.Valid (n % p)
unfolding singles-lawful
singles-valid n = prime-lawful.below_valid (n % p) (mod-lt n (omega arith), tt)

pub doubles-valid : (x : Unreduced) → doubles-lawful.lawful.field.ring.Valid (remainders x)
unfolding doubles-lawful
doubles-valid x = quadratic-lawful.below_valid (remainders x) (mod-lt x.u (omega arith), (mod-lt x.v (omega arith), tt))

-- equal values are one element, and values that are one element are equal
pub singles-same : (x y : Fp) → eqb x.number y.number ≡ true → x.number ≡ y.number
singles-same x y e = eqb-true x.number y.number e

pub singles-alike : (x y : Fp) → x.number ≡ y.number → eqb x.number y.number ≡ true
singles-alike x y e = eq-eqb x.number y.number e

pub doubles-same : (x y : Fp2) → eqb x.u.number y.u.number && eqb x.v.number y.v.number ≡ true → parts x ≡ parts y
doubles-same x y e =
    let (here, there) = and_parts (eqb x.u.number y.u.number) (eqb x.v.number y.v.number) e in
    let u = eqb-true x.u.number y.u.number here in
    let v = eqb-true x.v.number y.v.number there in
    λ t. record { u = u t; v = v t }

pub doubles-alike : (x y : Fp2) → parts x ≡ parts y → eqb x.u.number y.u.number && eqb x.v.number y.v.number ≡ true
doubles-alike x y e =
    and_from (eqb x.u.number y.u.number) (eqb x.v.number y.v.number) (eq-eqb x.u.number y.u.number (ap (λ (r : TwoParts). r.u) e))
    (eq-eqb x.v.number y.v.number (ap (λ (r : TwoParts). r.v) e))

-- an element has at most two numbers
pub singles-narrow : singles.scalars.width ≤ 2
singles-narrow = omega arith

pub doubles-narrow : doubles.scalars.width ≤ 2
doubles-narrow = omega arith
