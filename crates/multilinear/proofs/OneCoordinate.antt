-- One coordinate of a point, the others kept: the extension of a matrix is a line in it. The row coordinates and the column coordinates are
-- one list, so that a coordinate of either side is the same case.
use Prim.Native.Nat.{ℕ, suc, ◌+◌, ◌*◌, ◌/◌, ◌%◌, ◌^◌}
use mathlib.Core.Bool.{Bool, true, false, cond}
use mathlib.Core.List.{List, [], ◌∷◌, ◌++◌}
use mathlib.Core.Path.{◌≡◌, sym, ap, ap₂, ◌∙◌}
use native.Mathlib.Omega.{arith}
use lib.Dec.{eqb}
use lib.ListN.{length, take, drop, length-append, length-drop}
use lib.Seq.{length-take-le}
use Rattle.algebra.specs.Arithmetic.{Arithmetic, sum_below}
use Rattle.algebra.specs.Field.{Ring}
use Rattle.algebra.proofs.Lines.{line}
use Rattle.algebra.proofs.Rings.{nought-add, nought-mul, unit-mul}
use Rattle.algebra.proofs.Sums.{sum_same, sum-add, sum-mul}
use Rattle.multilinear.specs.Extension.{weighted, extension}
use Rattle.multilinear.specs.Matrix.{Matrix}
use Rattle.multilinear.specs.Weight.{weight}
use Rattle.multilinear.proofs.Bits.{sub_self, sub-nought}
use Rattle.multilinear.proofs.Weights.{weight-valid, weight-split}

module _ (𝓐 : Arithmetic) where
  open 𝓐 use {Carrier}

  -- the extension of a matrix at a point whose first n coordinates are the rows'
  abbrev pub jointly : Matrix 𝓐 → ℕ → List Carrier → Carrier
  jointly m n point = extension 𝓐 m (take n point) (drop n point)

module _ (𝓐 : Arithmetic) (𝓡 : Ring 𝓐) where
  open 𝓐 use {Carrier, nought, unit, add, sub, mul}
  open 𝓡 use {valid_mul, add-nought, mul_comm, mul_assoc, mul-add}

  -- ---- lines

  line-mul : (a b c r : Carrier) → mul a (line 𝓐 b c r) ≡ line 𝓐 (mul a b) (mul a c) r
  unfolding line
  line-mul a b c r =
      mul-add a (mul b (sub unit r)) (mul c r) ∙ ap₂ add (sym (mul_assoc a b (sub unit r))) (sym (mul_assoc a c r))

  line-sum : (n : ℕ) (f g : ℕ → Carrier) (r : Carrier) →
      sum_below 𝓐 n (λ x. line 𝓐 (f x) (g x) r) ≡ line 𝓐 (sum_below 𝓐 n f) (sum_below 𝓐 n g) r
  unfolding line
  line-sum n f g r =
      sum-add 𝓐 𝓡 n (λ x. mul (f x) (sub unit r)) (λ x. mul (g x) r) ∙ ap₂ add (sum-mul 𝓐 𝓡 n f (sub unit r)) (sum-mul 𝓐 𝓡 n g r)

  line_low : (a r : Carrier) → line 𝓐 a nought r ≡ mul (sub unit r) a
  unfolding line
  line_low a r =
      ap (add (mul a (sub unit r))) (nought-mul 𝓐 𝓡 r) ∙ add-nought (mul a (sub unit r)) (valid_mul a (sub unit r)) ∙ mul_comm a (sub unit r)

  line-high : (b r : Carrier) → line 𝓐 nought b r ≡ mul r b
  unfolding line
  line-high b r =
      ap (λ (x : Carrier). add x (mul b r)) (nought-mul 𝓐 𝓡 (sub unit r)) ∙ nought-add 𝓐 𝓡 (mul b r) (valid_mul b r) ∙ mul_comm b r

  -- ---- weights

  -- what a bit takes of a coordinate, times what is left
  bit-line : (bit : Bool) (r rest : Carrier) → rest ≡ mul unit rest →
      mul (cond bit r (sub unit r)) rest
      ≡ line 𝓐 (mul (cond bit nought (sub unit nought)) rest) (mul (cond bit unit (sub unit unit)) rest) r
  bit-line true r rest whole =
      sym (line-high rest r) ∙ ap₂ (λ (a b : Carrier). line 𝓐 a b r) (sym (nought-mul 𝓐 𝓡 rest)) whole
  bit-line false r rest whole =
      sym (line_low rest r)
      ∙ ap₂ (λ (a b : Carrier). line 𝓐 a b r)
      (whole ∙ ap (λ (x : Carrier). mul x rest) (sym (sub-nought 𝓐 𝓡)))
      (sym (nought-mul 𝓐 𝓡 rest) ∙ ap (λ (x : Carrier). mul x rest) (sym (sub_self 𝓐 𝓡)))

  weight-line : (a : ℕ) (before later : List Carrier) (r : Carrier) →
      weight 𝓐 a (before ++ (r ∷ later))
      ≡ line 𝓐 (weight 𝓐 a (before ++ (nought ∷ later))) (weight 𝓐 a (before ++ (unit ∷ later))) r
  unfolding weight
  weight-line a [] later r =
      bit-line (eqb (a % 2) 1) r (weight 𝓐 (a / 2) later)
      (sym (unit-mul 𝓐 𝓡 (weight 𝓐 (a / 2) later) (weight-valid 𝓐 𝓡 (a / 2) later)))
  weight-line a (b ∷ before) later r =
      ap (mul (cond (eqb (a % 2) 1) b (sub unit b))) (weight-line (a / 2) before later r) ∙ line-mul _ _ _ r

  -- ---- extensions

  module _ (m : Matrix 𝓐) (n n' : ℕ) where
    -- row x and column y together weigh what the number y·2^n + x weighs at all coordinates
    joint-sum : (point : List Carrier) → length point ≡ n + n' →
        jointly 𝓐 m n point ≡ sum_below 𝓐 (2 ^ n) (λ x. sum_below 𝓐 (2 ^ n') (λ y. mul (m x y) (weight 𝓐 (y * 2 ^ n + x) point)))
    unfolding weighted
    joint-sum point e =
        ap₂ (λ (k k' : ℕ). weighted 𝓐 m (2 ^ k) (2 ^ k') (λ x. weight 𝓐 x (take n point)) (λ y. weight 𝓐 y (drop n point)))
        (length-take-le n point (omega arith)) (length-drop n point ∙ omega arith)
        ∙ sum_same 𝓐 (2 ^ n) _ _ (λ x l. sum_same 𝓐 (2 ^ n') _ _ (λ y l'.
        mul_assoc (m x y) (weight 𝓐 x (take n point)) (weight 𝓐 y (drop n point))
        ∙ ap (mul (m x y)) (sym (weight-split 𝓐 𝓡 n y x point l))))

    pub extension-line : (before later : List Carrier) (r : Carrier) → length before + suc (length later) ≡ n + n' →
        jointly 𝓐 m n (before ++ (r ∷ later))
        ≡ line 𝓐 (jointly 𝓐 m n (before ++ (nought ∷ later))) (jointly 𝓐 m n (before ++ (unit ∷ later))) r
    extension-line before later r count =
        joint-sum (before ++ (r ∷ later)) (whole r)
        ∙ sum_same 𝓐 (2 ^ n) _ _ (λ x l. sum_same 𝓐 (2 ^ n') _ _ (λ y l'.
        ap (mul (m x y)) (weight-line (y * 2 ^ n + x) before later r) ∙ line-mul _ _ _ r) ∙ line-sum (2 ^ n') _ _ r)
        ∙ line-sum (2 ^ n) _ _ r
        ∙ sym (ap₂ (λ (a b : Carrier). line 𝓐 a b r)
        (joint-sum (before ++ (nought ∷ later)) (whole nought)) (joint-sum (before ++ (unit ∷ later)) (whole unit)))
      where
        whole : (c : Carrier) → length (before ++ (c ∷ later)) ≡ n + n'
        whole c = length-append before (c ∷ later) ∙ count
