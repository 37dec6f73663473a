-- Prime numbers.
use Rattle.std.specs.Prelude.{ℕ, ◌<◌, ◌⊎◌, ◌≡◌}
use Rattle.std.specs.Int.{◌∣◌}

pub record Prime (n : ℕ) : Type 0 where
  pub more_than_one : 1 < n
  pub divisors : (d : ℕ) → d ∣ n → (d ≡ 1) ⊎ (d ≡ n)
