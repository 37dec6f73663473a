-- A number and its bits.
use Prim.Native.Nat.{ℕ, zero, suc, ◌+◌, ◌*◌, ◌/◌, ◌%◌, ◌^◌, ◌≤◌, ◌<◌}
use mathlib.Core.Bool.{cond}
use mathlib.Core.List.{List, [], ◌∷◌, ◌++◌, append-nil, append_assoc}
use mathlib.Core.Path.{◌≡◌, refl, sym, ap, ap₂, ◌∙◌}
use native.Mathlib.Nat.{pow-suc}
use native.Mathlib.Omega.{arith}
use lib.Dec.{eqb}
use lib.ListN.{length, length-append}
use lib.Pow.{pow_mono}
use Rattle.std.proofs.Math.Seq.{drop-append_seam}
use Rattle.algebra.specs.Points.{Below}
use Rattle.algebra.proofs.CoordinatesBelow.{below-drop}
use Rattle.field.specs.Fp.{fp}
use Rattle.multilinear.specs.Weight.{bits}
use Rattle.location.specs.Locate.{from_bits}

pub from-below : (list : List ℕ) → Below 2 list → from_bits list < 2 ^ length list
unfolding from_bits
from-below [] below = omega arith
from-below (bit ∷ list) below = omega (arith, below.0, from-below list below.1, pow-suc 2 (length list))

-- the bits of the number are the list that it was made of
pub bits-from : (list : List ℕ) → Below 2 list → bits fp (length list) (from_bits list) ≡ list
unfolding from_bits bits
bits-from [] below = refl
bits-from (bit ∷ list) below =
    ap₂ (λ (b half : ℕ). cond (eqb b 1) 1 0 ∷ bits fp (length list) half) low high
    ∙ ap₂ (λ (b : ℕ) (rest : List ℕ). b ∷ rest) (lowest bit below.0) (bits-from list below.1)
  where
    low : (bit + 2 * from_bits list) % 2 ≡ bit
    low = omega (arith, below.0)

    high : (bit + 2 * from_bits list) / 2 ≡ from_bits list
    high = omega (arith, below.0)

    lowest : (b : ℕ) → b < 2 → cond (eqb b 1) 1 0 ≡ b
    lowest zero l = refl
    lowest (suc zero) l = refl
    lowest (suc (suc b)) l = absurd (omega arith)

-- ---- from the highest bit down

-- bits of which the first are still to come, and the number of those behind them
pub record Coming (list coming : List ℕ) (number : ℕ) : Type 0 where
  pub behind : List ℕ
  pub whole : list ≡ coming ++ behind
  pub is : number ≡ from_bits behind

pub all-coming : (list : List ℕ) → Coming list list 0
unfolding from_bits
all-coming list = record { behind = []; whole = sym (append-nil list); is = refl }

pub none_coming : (list coming : List ℕ) (number : ℕ) → length coming ≡ 0 → Coming list coming number → number ≡ from_bits list
none_coming list [] number none c = c.is ∙ ap from_bits (sym c.whole)
none_coming list (bit ∷ coming) number none c = absurd (omega arith)

module _ (list coming before : List ℕ) (bit number : ℕ) (c : Coming list coming number) (is : coming ≡ before ++ bit ∷ []) where
  whole_on : list ≡ before ++ (bit ∷ c.behind)
  whole_on = c.whole ∙ ap (λ (xs : List ℕ). xs ++ c.behind) is ∙ append_assoc before (bit ∷ []) c.behind

  is-on : bit + 2 * number ≡ from_bits (bit ∷ c.behind)
  unfolding from_bits
  is-on = ap (λ (n : ℕ). bit + 2 * n) c.is

  pub coming-on : Coming list before (bit + 2 * number)
  coming-on = record { behind = bit ∷ c.behind; whole = whole_on; is = is-on }

  -- at most 30 bits make a number below 2^30
  pub coming-few : Below 2 list → length list ≤ 30 → bit + 2 * number < 2 ^ 30
  coming-few below few =
      let behind : List ℕ = bit ∷ c.behind in
      let there : Below 2 behind =
      rw drop-append_seam at (below-drop 2 (length before) (before ++ behind) (rw whole_on at below)) in
      let long : length list ≡ length before + length behind = ap length whole_on ∙ length-append before behind in
      omega (arith, is-on, from-below behind there, pow_mono {i = length behind} {j = 30} (omega (arith, long)))
