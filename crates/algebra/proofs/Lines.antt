-- Lines over a finite field: a line that is zero at two elements is zero everywhere.
use Prim.Native.Nat.{ℕ, ◌-◌, ◌*◌, ◌≤◌, ◌<◌}
use mathlib.Core.Logic.{◌⊎◌, inl, inr}
use mathlib.Core.Path.{◌≡◌, sym, ap, ◌∙◌}
use Rattle.algebra.specs.Arithmetic.{Arithmetic, sum_below, whole}
use Rattle.algebra.specs.Field.{Ring, FiniteField}
use Rattle.algebra.proofs.Fields.{decide, no-zero-divisors}
use Rattle.algebra.proofs.Rings.{nought-add, nought-mul, add-mul, cancel, cancel-nought, equal}
use Rattle.algebra.proofs.WholeNumberSums.{total-but-one}

-- the line that is a at 0 and b at 1
unfoldable pub line : (𝓐 : Arithmetic) → 𝓐.Carrier → 𝓐.Carrier → 𝓐.Carrier → 𝓐.Carrier
line 𝓐 a b r = 𝓐.add (𝓐.mul a (𝓐.sub 𝓐.unit r)) (𝓐.mul b r)

module _ (𝓐 : Arithmetic) (𝓡 : Ring 𝓐) where
  open 𝓐 use {Carrier, unit, add, sub, mul}
  open 𝓡 use {Valid, valid_unit, valid_add, add_comm, add_assoc, sub-add, mul-unit, mul-add}

  pub line-valid : (a b r : Carrier) → Valid (line 𝓐 a b r)
  unfolding line
  line-valid a b r = valid_add (mul a (sub unit r)) (mul b r)

  -- a·(1 - r) + b·r = a·(1 - r) + ((b - a)·r + a·r) = (b - a)·r + a
  line-slope : (a b r : Carrier) → Valid a → Valid b → Valid r → line 𝓐 a b r ≡ add (mul (sub b a) r) a
  unfolding line
  line-slope a b r v w u =
      ap (add (mul a (sub unit r)))
      (ap (λ (x : Carrier). mul x r) (sym (sub-add b a w v)) ∙ add-mul 𝓐 𝓡 (sub b a) a r ∙ add_comm (mul (sub b a) r) (mul a r))
      ∙ sym (add_assoc (mul a (sub unit r)) (mul a r) (mul (sub b a) r))
      ∙ ap (λ (x : Carrier). add x (mul (sub b a) r))
      (sym (mul-add a (sub unit r) r) ∙ ap (mul a) (sub-add unit r valid_unit u) ∙ mul-unit a v)
      ∙ add_comm a (mul (sub b a) r)

module _ (𝓐 : Arithmetic) (𝓕 : FiniteField 𝓐) where
  open 𝓐 use {Carrier, nought, add, sub, mul}
  open 𝓕 use {ring, size, element, element_valid, element_distinct}
  open ring use {Valid, valid_nought, valid_sub, valid_mul, sub-add, mul-add}

  -- two places where a line is nought are one place, or the line is nought at both ends: (b - a)·(r - s) = 0
  line-once : (a b r s : Carrier) → Valid a → Valid b → Valid r → Valid s →
      line 𝓐 a b r ≡ nought → line 𝓐 a b s ≡ nought → (r ≡ s) ⊎ ((a ≡ nought) × (b ≡ nought))
  line-once a b r s va vb vr vs er es =
      go (no-zero-divisors 𝓐 𝓕 (sub b a) (sub r s) (valid_sub b a) (valid_sub r s) product)
    where
      slope : mul (sub b a) r ≡ mul (sub b a) s
      slope =
          cancel 𝓐 ring (mul (sub b a) r) (mul (sub b a) s) a (valid_mul (sub b a) r) (valid_mul (sub b a) s) va
          (sym (line-slope 𝓐 ring a b r va vb vr) ∙ er ∙ sym es ∙ line-slope 𝓐 ring a b s va vb vs)

      product : mul (sub b a) (sub r s) ≡ nought
      product =
          cancel-nought 𝓐 ring (mul (sub b a) (sub r s)) (mul (sub b a) s) (valid_mul (sub b a) (sub r s)) (valid_mul (sub b a) s)
          (sym (mul-add (sub b a) (sub r s) s) ∙ ap (mul (sub b a)) (sub-add r s vr vs) ∙ slope)

      -- a line without slope is a everywhere
      flat-nought : sub b a ≡ nought → a ≡ nought
      flat-nought flat =
          sym (nought-add 𝓐 ring a va)
          ∙ ap (λ (x : Carrier). add x a) (sym (nought-mul 𝓐 ring r) ∙ ap (λ (x : Carrier). mul x r) (sym flat))
          ∙ sym (line-slope 𝓐 ring a b r va vb vr) ∙ er

      go : (sub b a ≡ nought) ⊎ (sub r s ≡ nought) → (r ≡ s) ⊎ ((a ≡ nought) × (b ≡ nought))
      go (inl flat) = inr (flat-nought flat, equal 𝓐 ring b a vb va flat ∙ flat-nought flat)
      go (inr e) = inl (equal 𝓐 ring r s vr vs e)

  -- so if the terms of a sum over all elements are c or more where such a line is not nought, the sum is (size - 1)·c or more
  pub line-total : (a b : Carrier) → Valid a → Valid b → (a ≡ nought → b ≡ nought → ⊥) → (c : ℕ) (f : ℕ → ℕ) →
      ((x : ℕ) → x < size → (line 𝓐 a b (element x) ≡ nought → ⊥) → c ≤ f x) → (size - 1) * c ≤ sum_below whole size f
  line-total a b va vb some c f others =
      total-but-one c f (λ x. line 𝓐 a b (element x) ≡ nought) size
      (λ x l. decide 𝓐 𝓕 (line 𝓐 a b (element x)) nought (line-valid 𝓐 ring a b (element x)) valid_nought) once others
    where
      once : (x y : ℕ) → x < size → y < size → line 𝓐 a b (element x) ≡ nought → line 𝓐 a b (element y) ≡ nought → x ≡ y
      once x y l k p q = go (line-once a b (element x) (element y) va vb (element_valid x l) (element_valid y k) p q)
        where
          go : (element x ≡ element y) ⊎ ((a ≡ nought) × (b ≡ nought)) → x ≡ y
          go (inl e) = element_distinct x y l k e
          go (inr both) = absurd (some both.0 both.1)
