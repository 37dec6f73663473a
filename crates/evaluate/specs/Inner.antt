-- What the contracts of inner functions cite. No public promise rests on it.
use Rattle.std.specs.Prelude.{ℕ, ◌+◌, ◌≤◌, ◌<◌, ◌≡◌}
use Rattle.scalar.specs.Elements.{Elements}
use Rattle.evaluation.specs.Evaluate.{Counted}
use Rattle.evaluation.specs.Inner.{no_entries}
use Rattle.evaluate.specs.declared.entry.Sums.{Sums}

-- the three elements that sums are, which are not reduced yet, and their factors
abbrev pub reduced_in : {E T : Type 0} (𝓔 : Elements E) → (T → 𝓔.scalars.arithmetic.Carrier) → Sums T → Counted 𝓔.scalars
reduced_in 𝓔 sum sums = record { values = record { a = sum sums.a; b = sum sums.b; c = sum sums.c }; factors = sums.factors }

-- sums of nothing
pub record Begun {E T : Type 0} (𝓔 : Elements E) (sum : T → 𝓔.scalars.arithmetic.Carrier) (size : T → ℕ → ℕ) (sums : Sums T) : Type 0 where
  pub is : reduced_in 𝓔 sum sums ≡ no_entries 𝓔.scalars
  pub a_none : (i : ℕ) → size sums.a i ≡ 0
  pub b_none : (i : ℕ) → size sums.b i ≡ 0
  pub c_none : (i : ℕ) → size sums.c i ≡ 0

-- sums to which more can be added: each of their numbers is below 2^63
pub record Light {T : Type 0} (size : T → ℕ → ℕ) (sums : Sums T) : Type 0 where
  pub a_light : (i : ℕ) → size sums.a i < 9223372036854775808
  pub b_light : (i : ℕ) → size sums.b i < 9223372036854775808
  pub c_light : (i : ℕ) → size sums.c i < 9223372036854775808
  pub factors_light : sums.factors < 9223372036854775808

-- sums that have become others, which are these elements with these factors: each number of the three by less than 2^34, the factors by at
-- most 60
pub record Grown {E T : Type 0} (𝓔 : Elements E) (sum : T → 𝓔.scalars.arithmetic.Carrier) (size : T → ℕ → ℕ) (sums : Sums T)
    (counted : Counted 𝓔.scalars) (more : Sums T) : Type 0 where
  pub is : reduced_in 𝓔 sum more ≡ counted
  pub a_most : (i : ℕ) → size more.a i < size sums.a i + 17179869184
  pub b_most : (i : ℕ) → size more.b i < size sums.b i + 17179869184
  pub c_most : (i : ℕ) → size more.c i < size sums.c i + 17179869184
  pub factors_most : more.factors ≤ sums.factors + 60
