-- The sheet as the pass fills it: behind i arrays it holds their values, and the next array's values are worked out from them.
use Prim.Native.Nat.{ℕ, suc, ◌+◌, ◌*◌, ◌≤◌, ◌<◌}
use mathlib.Core.List.{List, ◌++◌}
use mathlib.Core.Path.{◌≡◌, refl, sym, ap, ap₂, subst, ◌∙◌}
use native.Mathlib.Nat.{mul-le-mul_left}
use native.Mathlib.Omega.{arith}
use lib.ListN.{length, get_or, drop}
use lib.Seq.{sets}
use Rattle.field.specs.Scalars.{Scalars, element_at, Lawful}
use Rattle.arrays.specs.Arrays.{Part, A, B, C, value_of, Array, array_at}
use Rattle.arrays.specs.Pass.{array_value, value_at, values_below}
use Rattle.arrays.specs.Placing.{blocks}
use Rattle.arrays.specs.Side.{Side}
use Rattle.arrays.specs.WellFormed.{WellFormed}
use Rattle.arrays.proofs.Parts.{value-by, values_same}
use Rattle.arrays.proofs.PassValues.{value-now, values-prefix, array-value-same, value-valid}
use Rattle.evaluation.specs.Evaluate.{ValuesOf}
use Rattle.evaluation.specs.Inner.{ValuesBelow, sheet_values, Filled, next_counted, passed_values}
use Rattle.evaluation.specs.Sheet.{words_of, places_of, words_below, laid}
use Rattle.evaluation.proofs.WordsOfArray.{listed, words-places, below-made}
use Rattle.evaluation.proofs.WordsOnSheet.{word-before, laid-is, laid_more, laid-length}

module _ (𝓢 : Scalars) (𝓛 : Lawful 𝓢) where
  -- values that are elements have numbers below p
  pub values-below : (values : ValuesOf 𝓢) → ((part : Part) → 𝓛.field.ring.Valid (value_of part values)) → ValuesBelow 𝓢 values
  values-below values valid =
      record {
        a_below = 𝓛.numbers_below values.a (valid A);
        b_below = 𝓛.numbers_below values.b (valid B);
        c_below = 𝓛.numbers_below values.c (valid C);
      }

module _ (𝓢 : Scalars) (𝓛 : Lawful 𝓢) (arrays : List Array) (S S' : Side 𝓢.arithmetic) where
  open 𝓢.arithmetic use {Carrier, nought}

  -- a part's values by the pass, of the arrays numbered below n
  abbrev below : Part → ℕ → List Carrier
  below part n = values_below 𝓢.arithmetic 𝓢.embed (value_of part) S S' arrays n

  abbrev words : ℕ → List ℕ
  words i = words_of 𝓢 (passed_values 𝓢 arrays S S' i)

  each : (i : ℕ) → length (words i) ≡ places_of 𝓢
  each i = words-places 𝓢 𝓛 (passed_values 𝓢 arrays S S' i)

  pub passed-valid : (i : ℕ) (part : Part) → 𝓛.field.ring.Valid (value_of part (passed_values 𝓢 arrays S S' i))
  passed-valid i part =
      subst 𝓛.field.ring.Valid (sym (value-by (λ part. value_at 𝓢.arithmetic (below part (length arrays)) i) part))
      (value-valid 𝓢.arithmetic 𝓛.field.ring 𝓢.embed (value_of part) S S' arrays (length arrays) i)

  -- the lent sheet, and how it stands behind i arrays
  pub record Passing (lent : List ℕ) (i : ℕ) (sheet : List ℕ) : Type 0 where
    pub holds : sheet ≡ laid 0 words i lent
    pub most : i ≤ length arrays

  pub passing-begun : (lent : List ℕ) → Passing lent 0 lent
  unfolding words_below
  passing-begun lent = record { holds = refl; most = omega arith }

  module _ (lent : List ℕ) (room : places_of 𝓢 * length arrays ≤ length lent) (i : ℕ) (sheet : List ℕ)
      (passing : Passing lent i sheet) where
    pub passing-length : length sheet ≡ length lent
    passing-length = ap length passing.holds ∙ laid-length 0 words i lent

    -- the elements on the sheet: the values of those arrays, and what is behind them
    abbrev behind : List ℕ
    behind = drop (0 + places_of 𝓢 * i) lent

    made : 𝓢.elements sheet ≡ words_below (λ j. listed (passed_values 𝓢 arrays S S' j)) i ++ 𝓢.elements behind
    made =
        ap 𝓢.elements
        (passing.holds
        ∙ laid-is (places_of 𝓢) words each 0 i lent (omega (arith, room, mul-le-mul_left (places_of 𝓢) passing.most)))
        ∙ below-made 𝓢 𝓛 (passed_values 𝓢 arrays S S') i behind

    value : (j k : ℕ) → j < i → k < 3 →
        element_at 𝓢 sheet (3 * j + k) ≡ get_or (listed (passed_values 𝓢 arrays S S' j)) k nought
    value j k l m =
        ap (λ (xs : List Carrier). get_or xs (3 * j + k) nought) made
        ∙ word-before nought 3 (λ j. listed (passed_values 𝓢 arrays S S' j)) (λ j. refl) (𝓢.elements behind) i j k l m

    pub on_sheet : (j : ℕ) → j < i → sheet_values 𝓢 sheet j ≡ passed_values 𝓢 arrays S S' j
    on_sheet j l =
        let first : 3 * j ≡ 3 * j + 0 = omega arith in
        let a = ap (element_at 𝓢 sheet) first ∙ value j 0 l (omega arith) in
        let b = value j 1 l (omega arith) in
        let c = value j 2 l (omega arith) in
        λ t. record { a = a t; b = b t; c = c t }

    pub passing-filled : Filled 𝓢 i sheet
    passing-filled =
        record {
          room = omega (arith, passing-length, room, mul-le-mul_left (places_of 𝓢) passing.most);
          below = λ j l. subst (ValuesBelow 𝓢) (sym (on_sheet j l)) (values-below 𝓢 𝓛 _ (passed-valid j));
        }

    -- what is worked out from the sheet is the next value
    next-passed : (n n' : ℕ) → WellFormed blocks blocks n n' arrays → i < length arrays →
        (next_counted 𝓢 arrays S S' sheet i).values ≡ passed_values 𝓢 arrays S S' i
    next-passed n n' well l = values_same _ _ one
      where
        earlier : (part : Part) (j : ℕ) → j < i → value_of part (sheet_values 𝓢 sheet j) ≡ value_at 𝓢.arithmetic (below part i) j
        earlier part j m =
            ap (value_of part) (on_sheet j m)
            ∙ value-by (λ part. value_at 𝓢.arithmetic (below part (length arrays)) j) part
            ∙ sym (values-prefix 𝓢.arithmetic 𝓢.embed (value_of part) S S' arrays j i (length arrays) m
            passing.most)

        one : (part : Part) →
            array_value 𝓢.arithmetic 𝓢.embed (value_of part) S S' arrays
            (λ j. value_of part (sheet_values 𝓢 sheet j)) (array_at arrays i)
            ≡ value_at 𝓢.arithmetic (below part (length arrays)) i
        one part =
            array-value-same 𝓢.arithmetic 𝓢.embed (value_of part) S S' arrays blocks blocks i
            (λ j. value_of part (sheet_values 𝓢 sheet j)) (value_at 𝓢.arithmetic (below part i)) (earlier part) (array_at arrays i)
            (well.arrays_fit i l).entries_fit
            ∙ sym (value-now 𝓢.arithmetic 𝓢.embed (value_of part) S S' arrays i (length arrays) l)

    pub passing-turn : (n n' : ℕ) → WellFormed blocks blocks n n' arrays → i < length arrays → (values : ValuesOf 𝓢)
        (after : List ℕ) → values ≡ (next_counted 𝓢 arrays S S' sheet i).values →
        after ≡ sets sheet (places_of 𝓢 * i) (words_of 𝓢 values) → Passing lent (i + 1) after
    passing-turn n n' well l values after e stored =
        let one : suc i ≡ i + 1 = omega arith in
        let at : places_of 𝓢 * i ≡ 0 + places_of 𝓢 * i = omega arith in
        record {
          holds =
              stored
              ∙ ap (λ (v : ValuesOf 𝓢). sets sheet (places_of 𝓢 * i) (words_of 𝓢 v)) (e ∙ next-passed n n' well l)
              ∙ ap₂ (λ (s : List ℕ) (n : ℕ). sets s n (words i)) passing.holds at
              ∙ laid_more (places_of 𝓢) words each 0 i lent
              ∙ ap (λ (n : ℕ). laid 0 words n lent) one;
          most = omega arith;
        }

    pub passing-done : (count : ℕ) → count ≡ length arrays → count ≤ i → sheet ≡ laid 0 words count lent
    passing-done count e l =
        let all : i ≡ count = omega (arith, passing.most) in
        passing.holds ∙ ap (λ (n : ℕ). laid 0 words n lent) all
