-- The field of p² elements u + v·i with i² = -1 (E2), u and v numbers of the field of p.
use Rattle.std.specs.Prelude.{ℕ, ◌<◌}
use Rattle.algebra.specs.Arithmetic.{Arithmetic}
use Rattle.field.specs.Fp.{p, fp}

-- u + v·i
pub record TwoParts : Type 0 where
  pub u : ℕ
  pub v : ℕ

-- both parts are below p
abbrev pub Reduced : TwoParts → Type 0
Reduced x = (x.u < p) × (x.v < p)

-- (u + v·i)(u' + v'·i) = (u·u' - v·v') + (u·v' + v·u')·i
abbrev pub fp2 : Arithmetic
fp2 = record {
  Carrier = TwoParts;
  nought = record { u = 0; v = 0 };
  unit = record { u = 1; v = 0 };
  add = λ x y. record { u = fp.add x.u y.u; v = fp.add x.v y.v };
  sub = λ x y. record { u = fp.sub x.u y.u; v = fp.sub x.v y.v };
  mul = λ x y.
      record {
        u = fp.sub (fp.mul x.u y.u) (fp.mul x.v y.v);
        v = fp.add (fp.mul x.u y.v) (fp.mul x.v y.u);
      };
}
