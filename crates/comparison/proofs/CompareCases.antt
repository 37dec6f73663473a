-- What compare answers and leaves on the sheet, by what its judgements come to.
use Prim.Native.Nat.{ℕ, ◌+◌, ◌-◌, ◌*◌, ◌≤◌}
use mathlib.Core.List.{List}
use mathlib.Core.Path.{◌≡◌, refl, sym, ap, ◌∙◌}
use native.Mathlib.Nat.{mul-add, mul-le-mul_right}
use native.Mathlib.Omega.{arith}
use lib.ListN.{length}
use Rattle.refusal.specs.Outcome.{Outcome, given, refused}
use Rattle.refusal.specs.declared.Which.{Which}
use Rattle.field.specs.Scalars.{Scalars}
use Rattle.key.specs.Check.{checked_key}
use Rattle.key.specs.declared.Counts.{Counts}
use Rattle.key.proofs.FactorLimits.{key-limited}
use Rattle.judge.specs.Judged.{together, pair_judged}
use Rattle.judge.proofs.KeysTogether.{pair-known}
use Rattle.comparison.specs.Compare.{Answer, Comparison, refused_for, naming, likeness, compared, both_limit, BothLimited}
use Rattle.comparison.specs.Filled.{filled_values, filled_factors, own_sheet}

-- a refused call: the sheet is as it was
abbrev pub refused_call : Which → ℕ → ℕ → List ℕ → Comparison
refused_call which number place sheet = record { answer = refused_for which number place; factors = 0; sheet = sheet }

naming-refused : (which : Which) (o : Outcome Counts) (sheet : List ℕ) (next : Counts → Comparison) (number place : ℕ) →
    o ≡ refused number place → naming which o sheet next ≡ refused_call which number place sheet
unfolding naming
naming-refused which o sheet next number place e = ap (λ (o : Outcome Counts). naming which o sheet next) e

naming-given : (which : Which) (o : Outcome Counts) (sheet : List ℕ) (next : Counts → Comparison) (counts : Counts) →
    o ≡ given counts → naming which o sheet next ≡ next counts
unfolding naming
naming-given which o sheet next counts e = ap (λ (o : Outcome Counts). naming which o sheet next) e

module _ (𝓢 : Scalars) (first second rows columns sheet : List ℕ) where
  pub first-refused : (number place : ℕ) → checked_key first ≡ refused number place →
      compared 𝓢 first second rows columns sheet ≡ refused_call Which.First number place sheet
  first-refused number place e = naming-refused Which.First (checked_key first) sheet _ number place e

  module _ (one : Counts) (accepts : checked_key first ≡ given one) where
    pub second-refused : (number place : ℕ) → checked_key second ≡ refused number place →
        compared 𝓢 first second rows columns sheet ≡ refused_call Which.Second number place sheet
    second-refused number place e =
        naming-given Which.First (checked_key first) sheet _ one accepts
        ∙ naming-refused Which.Second (checked_key second) sheet _ number place e

    module _ (other : Counts) (accepts' : checked_key second ≡ given other) where
      pub neither-refused : (number place : ℕ) → pair_judged 𝓢.width rows columns (length sheet) one other ≡ refused number place →
          compared 𝓢 first second rows columns sheet ≡ refused_call Which.Neither number place sheet
      neither-refused number place e =
          naming-given Which.First (checked_key first) sheet _ one accepts
          ∙ naming-given Which.Second (checked_key second) sheet _ other accepts'
          ∙ naming-refused Which.Neither (pair_judged 𝓢.width rows columns (length sheet) one other) sheet _ number place e

      pub both-evaluated : (both : Counts) → pair_judged 𝓢.width rows columns (length sheet) one other ≡ given both →
          compared 𝓢 first second rows columns sheet
          ≡ record {
            answer = likeness 𝓢 (filled_values 𝓢 first one rows columns) (filled_values 𝓢 second other rows columns);
            factors = filled_factors first one both.rows both.columns + filled_factors second other both.rows both.columns;
            sheet = own_sheet 𝓢 second other rows columns (own_sheet 𝓢 first one rows columns sheet);
          }
      both-evaluated both e =
          naming-given Which.First (checked_key first) sheet _ one accepts
          ∙ naming-given Which.Second (checked_key second) sheet _ other accepts'
          ∙ naming-given Which.Neither (pair_judged 𝓢.width rows columns (length sheet) one other) sheet _ both e

-- what the three judgements have given where compare refuses nothing
pub record Judged (𝓢 : Scalars) (first second rows columns sheet : List ℕ) : Type 0 where
  pub one : Counts
  pub other : Counts
  pub both : Counts
  pub accepts : checked_key first ≡ given one
  pub accepts' : checked_key second ≡ given other
  pub admits : pair_judged 𝓢.width rows columns (length sheet) one other ≡ given both

-- where compare answers no refusal, both keys are accepted, and the point and the sheet are admitted
module _ (𝓢 : Scalars) (first second rows columns sheet : List ℕ)
    (some : (which : Which) (number place : ℕ) → (compared 𝓢 first second rows columns sheet).answer ≡ refused_for which number place → ⊥) where
  refused-not : {A : Type 0} (which : Which) (number place : ℕ) →
      compared 𝓢 first second rows columns sheet ≡ refused_call which number place sheet → A
  refused-not which number place e = absurd (some which number place (ap (λ (x : Comparison). x.answer) e))

  pub not-refused : Judged 𝓢 first second rows columns sheet
  not-refused = firstly (checked_key first) refl
    where
      thirdly : (one other : Counts) → checked_key first ≡ given one → checked_key second ≡ given other → (o : Outcome Counts) →
          pair_judged 𝓢.width rows columns (length sheet) one other ≡ o → Judged 𝓢 first second rows columns sheet
      thirdly one other accepts accepts' (given both) admits =
          record { one = one; other = other; both = both; accepts = accepts; accepts' = accepts'; admits = admits }
      thirdly one other accepts accepts' (refused number place) e =
          refused-not Which.Neither number place
          (neither-refused 𝓢 first second rows columns sheet one accepts other accepts' number place e)

      secondly : (one : Counts) → checked_key first ≡ given one → (o : Outcome Counts) → checked_key second ≡ o →
          Judged 𝓢 first second rows columns sheet
      secondly one accepts (given other) accepts' = thirdly one other accepts accepts' _ refl
      secondly one accepts (refused number place) e =
          refused-not Which.Second number place (second-refused 𝓢 first second rows columns sheet one accepts number place e)

      firstly : (o : Outcome Counts) → checked_key first ≡ o → Judged 𝓢 first second rows columns sheet
      firstly (given one) accepts = secondly one accepts _ refl
      firstly (refused number place) e =
          refused-not Which.First number place (first-refused 𝓢 first second rows columns sheet number place e)

-- what is answered and left on the sheet
pub promised : (𝓢 : Scalars) (first second rows columns sheet : List ℕ) (answer : Answer) (factors : ℕ) (after : List ℕ) →
    compared 𝓢 first second rows columns sheet ≡ record { answer = answer; factors = factors; sheet = after } →
    (answer ≡ (compared 𝓢 first second rows columns sheet).answer) ×
    ((factors ≡ (compared 𝓢 first second rows columns sheet).factors) × (after ≡ (compared 𝓢 first second rows columns sheet).sheet))
promised 𝓢 first second rows columns sheet answer factors after e = (
  sym (ap (λ (x : Comparison). x.answer) e),
  (sym (ap (λ (x : Comparison). x.factors) e), sym (ap (λ (x : Comparison). x.sheet) e)),
)

-- ---- the limit of the factors

-- what two keys have at most, each of a limit s·a or t·b of its own and x or y unused coordinates, where no side is larger than m
limits-add : (s t m a b x y factors others : ℕ) → s ≤ m → t ≤ m → x ≤ m → y ≤ m → factors ≤ s * a → others ≤ t * b →
    factors + x + (others + y) ≤ m * (a + b) + 2 * m
limits-add s t m a b x y factors others l l' few few' limited limited' =
    omega (arith, mul-le-mul_right a l, mul-le-mul_right b l', mul-add m a b)

module _ (first second : List ℕ) (one other : Counts) (accepts : checked_key first ≡ given one) (accepts' : checked_key second ≡ given other)
  where
    filled-limited :
        filled_factors first one (together one other).rows (together one other).columns
        + filled_factors second other (together one other).rows (together one other).columns
        ≤ both_limit one other
    filled-limited =
        let both = together one other in
        let entries : both.cells + both.calls ≡ one.cells + one.calls + (other.cells + other.calls) = omega arith in
        rw entries
        (omega (
          arith,
          limits-add (one.rows + one.columns) (other.rows + other.columns) (both.rows + both.columns)
              (one.cells + one.calls) (other.cells + other.calls)
              (both.rows - one.rows + (both.columns - one.columns)) (both.rows - other.rows + (both.columns - other.columns)) _ _
              (omega arith) (omega arith) (omega arith) (omega arith)
              (key-limited first one accepts) (key-limited second other accepts'),
        ))

pub both-limited : (𝓢 : Scalars) (first second rows columns sheet : List ℕ) →
    BothLimited first second (compared 𝓢 first second rows columns sheet).factors
both-limited 𝓢 first second rows columns sheet one other accepts accepts' =
    go (pair_judged 𝓢.width rows columns (length sheet) one other) refl
  where
    go : (o : Outcome Counts) → pair_judged 𝓢.width rows columns (length sheet) one other ≡ o →
        (compared 𝓢 first second rows columns sheet).factors ≤ both_limit one other
    go (refused number place) e =
        let none = ap (λ (x : Comparison). x.factors)
        (neither-refused 𝓢 first second rows columns sheet one accepts other accepts' number place e) in
        omega (arith, none)
    go (given both) e =
        let are = (pair-known 𝓢.width rows columns one other (length sheet) both e).0 in
        let counted = ap (λ (x : Comparison). x.factors)
        (both-evaluated 𝓢 first second rows columns sheet one accepts other accepts' both e)
        ∙ ap (λ (c : Counts). filled_factors first one c.rows c.columns + filled_factors second other c.rows c.columns) are in
        omega (arith, counted, filled-limited first second one other accepts accepts')

-- so are the factors that a call tells
pub both_told : (𝓢 : Scalars) (first second rows columns sheet : List ℕ) (factors : ℕ) →
    factors ≡ (compared 𝓢 first second rows columns sheet).factors → BothLimited first second factors
both_told 𝓢 first second rows columns sheet factors told one other accepts accepts' =
    omega (arith, told, both-limited 𝓢 first second rows columns sheet one other accepts accepts')
