-- Sums that are not reduced: how large they grow, entry by entry.
use Prim.Native.Nat.{ℕ, ◌+◌, ◌*◌, ◌≤◌, ◌<◌}
use mathlib.Core.Path.{◌≡◌, ap}
use native.Mathlib.Omega.{arith}
use Rattle.scalar.specs.Elements.{Elements}
use Rattle.evaluation.specs.Evaluate.{ValuesOf, Counted}
use Rattle.evaluation.specs.Inner.{added_to}
use Rattle.evaluate.specs.Inner.{reduced_in, Begun, Light, Grown}
use Rattle.evaluate.specs.declared.entry.Sums.{Sums}

-- sums of which each number has grown by less than 2^34 for each byte before an offset, and the factors by at most 60
pub record Bounded {T : Type 0} (size : T → ℕ → ℕ) (sums : Sums T) (at : ℕ) : Type 0 where
  pub a-bound : (i : ℕ) → size sums.a i ≤ 17179869184 * at
  pub b-bound : (i : ℕ) → size sums.b i ≤ 17179869184 * at
  pub c-bound : (i : ℕ) → size sums.c i ≤ 17179869184 * at
  pub factors-bound : sums.factors ≤ 60 * at

module _ {T : Type 0} (size : T → ℕ → ℕ) where
  pub bounded-light : (sums : Sums T) (at : ℕ) → at ≤ 65536 → Bounded size sums at → Light size sums
  bounded-light sums at l b =
      record {
        a_light = λ i. omega (arith, b.a-bound i);
        b_light = λ i. omega (arith, b.b-bound i);
        c_light = λ i. omega (arith, b.c-bound i);
        factors_light = omega (arith, b.factors-bound);
      }

module _ {E T : Type 0} (𝓔 : Elements E) (sum : T → 𝓔.scalars.arithmetic.Carrier) (size : T → ℕ → ℕ) where
  pub bounded-begun : (sums : Sums T) (at : ℕ) → Begun 𝓔 sum size sums → Bounded size sums at
  bounded-begun sums at b =
      record {
        a-bound = λ i. omega (arith, b.a_none i);
        b-bound = λ i. omega (arith, b.b_none i);
        c-bound = λ i. omega (arith, b.c_none i);
        factors-bound = omega (arith, ap (λ (x : Counted 𝓔.scalars). x.factors) b.is);
      }

  pub bounded-onward : (sums more : Sums T) (counted : Counted 𝓔.scalars) (at next : ℕ) → at < next →
      Grown 𝓔 sum size sums counted more → Bounded size sums at → Bounded size more next
  bounded-onward sums more counted at next l g b =
      record {
        a-bound = λ i. omega (arith, b.a-bound i, g.a_most i);
        b-bound = λ i. omega (arith, b.b-bound i, g.b_most i);
        c-bound = λ i. omega (arith, b.c-bound i, g.c_most i);
        factors-bound = omega (arith, b.factors-bound, g.factors_most);
      }

  -- a sum that is another with an element added to it, and has not grown too much
  abbrev pub More : T → 𝓔.scalars.arithmetic.Carrier → T → Type 0
  More before x more =
      (sum more ≡ 𝓔.scalars.arithmetic.add (sum before) x) × ((i : ℕ) → size more i < size before i + 17179869184)

  pub grown : (sums : Sums T) (values : ValuesOf 𝓔.scalars) (weight : 𝓔.scalars.arithmetic.Carrier) (factors : ℕ) (more : Sums T) →
      More sums.a (𝓔.scalars.arithmetic.mul values.a weight) more.a → More sums.b (𝓔.scalars.arithmetic.mul values.b weight) more.b →
      More sums.c (𝓔.scalars.arithmetic.mul values.c weight) more.c → more.factors ≡ sums.factors + factors → factors ≤ 60 →
      Grown 𝓔 sum size sums (added_to 𝓔.scalars (reduced_in 𝓔 sum sums) values weight factors) more
  grown sums values weight factors more of-a of-b of_c count few =
      record {
        is = λ t. record { values = record { a = of-a.0 t; b = of-b.0 t; c = of_c.0 t }; factors = count t };
        a_most = of-a.1;
        b_most = of-b.1;
        c_most = of_c.1;
        factors_most = omega (arith, count);
      }
