-- What a call's position means on one side, rows or columns.
use Rattle.std.specs.Prelude.{ℕ, ◌+◌, ◌-◌, ◌*◌, ◌^◌, ◌≤◌, ◌<◌}

-- On a called side of K bits, `start K a` is how far position a moves it, and a calling side of k bits has `positions k K`
-- positions for it.
pub record Placing : Type 0 where
  pub start : ℕ → ℕ → ℕ
  pub positions : ℕ → ℕ → ℕ

-- a position is one of the blocks of 2^K numbers: position a moves by a·2^K (004, Definition 5)
abbrev pub blocks : Placing
blocks = record { start = λ K a. a * 2 ^ K; positions = λ k K. 2 ^ (k - K) }

-- at each of its positions a called side lies within its caller's
abbrev pub Within : Placing → Type 0
Within P = (k K a : ℕ) → K ≤ k → a < P.positions k K → P.start K a + 2 ^ K ≤ 2 ^ k
