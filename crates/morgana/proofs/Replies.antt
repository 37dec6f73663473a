-- What a reply tells: no other answer has it, `same` is 1 exactly where compare's answer is "same", and the factors keep to their limit.
use Rattle.refusal.specs.declared.PairRefusal.{PairRefusal}
use Rattle.key.specs.declared.Counts.{Counts}
use Rattle.compare.specs.declared.Likeness.{Likeness}
use Rattle.std.specs.Prelude.{Option, Some, None, Result, Ok, Err}
use Prim.Native.Nat.{ℕ, ◌≤◌}
use mathlib.Core.List.{List, [], ◌∷◌}
use mathlib.Core.Path.{◌≡◌, refl, sym, ap, ◌∙◌}
use native.Mathlib.Omega.{arith}
use lib.Dec.{eqb}
use Rattle.refusal.specs.Number.{number_of}
use Rattle.refusal.specs.Outcome.{given}
use Rattle.refusal.specs.declared.Refusal.{Refusal}
use Rattle.refusal.specs.declared.Which.{Which}
use Rattle.refusal.proofs.Numbers.{number-injective, number-some}
use Rattle.refusal.proofs.Outcomes.{ok-injective}
use Rattle.key.specs.Check.{checked_outcome}
use Rattle.field.specs.declared.fp.Fp.{Fp}
use Rattle.field.proofs.EqualElements.{fp-equal}
use Rattle.quadratic.specs.declared.Fp2.{Fp2}
use Rattle.evaluate.specs.Answer.{evaluated_outcome}
use Rattle.evaluate.specs.declared.Counted.{Counted}
use Rattle.evaluate.specs.declared.Values.{Values}
use Rattle.evaluate.proofs.Answers.{evaluated-injective}
use Rattle.comparison.specs.AgreementBound.{is_same}
use Rattle.comparison.specs.Compare.{Answer, same, different, refused_for, BothLimited}
use Rattle.compare.specs.Answer.{likeness_answer, compared_answer, compared_factors}
use Rattle.compare.specs.declared.Compared.{Compared}
use Rattle.evaluate_quadratic.specs.Answer.{evaluated_outcome as quadratic_outcome}
use Rattle.evaluate_quadratic.proofs.Answers.{evaluated-injective as quadratic-injective}
use Rattle.locate.specs.Answer.{located_answer}
use Rattle.locate.specs.declared.Cell.{Cell}
use Rattle.price.specs.Price.{priced_outcome}
use Rattle.editions.specs.Move.{copied_outcome}
use Rattle.morgana.specs.Reply.{check_reply, evaluate_reply, quadratic_reply, key_number, compare_reply, shorter_reply, locate_reply, price_reply, move_reply}
use Rattle.morgana.specs.declared.CheckReply.{CheckReply}
use Rattle.morgana.specs.declared.CompareReply.{CompareReply}
use Rattle.morgana.specs.declared.EvaluateReply.{EvaluateReply}
use Rattle.morgana.specs.declared.LocateReply.{LocateReply}
use Rattle.morgana.specs.declared.MoveReply.{MoveReply}
use Rattle.morgana.specs.declared.PriceReply.{PriceReply}
use Rattle.morgana.specs.declared.QuadraticReply.{QuadraticReply}
use Rattle.morgana.specs.declared.ShorterReply.{ShorterReply}

-- a refusal is told by its number and its place
refusal-told : (f g : Refusal) → number_of f.reason ≡ number_of g.reason → f.place ≡ g.place → f ≡ g
refusal-told f g numbers places =
    let reasons = number-injective f.reason g.reason numbers in
    λ i. record { reason = reasons i; place = places i }

-- Results that have one reply are one, where a reply tells their values apart: its number is 0 where nothing is refused, and where something
-- is, the refusal's.
module _ {A R : Type 0} (reply : Result A Refusal → R) (number place : R → ℕ) (given-number : (a : A) → number (reply (Ok a)) ≡ 0)
    (refused-number : (f : Refusal) → number (reply (Err f)) ≡ number_of f.reason)
    (refused-place : (f : Refusal) → place (reply (Err f)) ≡ f.place) (apart : (a b : A) → reply (Ok a) ≡ reply (Ok b) → a ≡ b) where
  result-told : (r s : Result A Refusal) → reply r ≡ reply s → r ≡ s
  result-told (Ok a) (Ok b) e = ap Ok (apart a b e)
  result-told (Ok a) (Err g) e = absurd (number-some g.reason (sym (refused-number g) ∙ sym (ap number e) ∙ given-number a))
  result-told (Err f) (Ok b) e = absurd (number-some f.reason (sym (refused-number f) ∙ ap number e ∙ given-number b))
  result-told (Err f) (Err g) e =
      ap Err (refusal-told f g (sym (refused-number f) ∙ ap number e ∙ refused-number g)
      (sym (refused-place f) ∙ ap place e ∙ refused-place g))

pub check-told : (r s : Result Counts Refusal) → check_reply (checked_outcome r) ≡ check_reply (checked_outcome s) → r ≡ s
check-told =
    result-told (λ r. check_reply (checked_outcome r)) (λ x. x.number) (λ x. x.place) (λ a. refl) (λ f. refl) (λ f. refl) (λ a b e i.
    record {
      arrays = ap (λ (x : CheckReply). x.arrays) e i;
      cells = ap (λ (x : CheckReply). x.cells) e i;
      calls = ap (λ (x : CheckReply). x.calls) e i;
      rows = ap (λ (x : CheckReply). x.rows) e i;
      columns = ap (λ (x : CheckReply). x.columns) e i;
    })

pub evaluate-told : (r s : Result (Counted Fp) Refusal) → evaluate_reply (evaluated_outcome r) ≡ evaluate_reply (evaluated_outcome s) → r ≡ s
evaluate-told =
    result-told (λ r. evaluate_reply (evaluated_outcome r)) (λ x. x.number) (λ x. x.place) (λ a. refl) (λ f. refl) (λ f. refl) (λ a b e.
    ok-injective (evaluated-injective (Ok a) (Ok b) (λ i.
    given
    (record {
      values = record {
        a = ap (λ (x : EvaluateReply). x.a) e i;
        b = ap (λ (x : EvaluateReply). x.b) e i;
        c = ap (λ (x : EvaluateReply). x.c) e i;
      };
      factors = ap (λ (x : EvaluateReply). x.factors) e i;
    }))))

pub quadratic-told : (r s : Result (Counted Fp2) Refusal) → quadratic_reply (quadratic_outcome r) ≡ quadratic_reply (quadratic_outcome s) → r ≡ s
quadratic-told =
    result-told (λ r. quadratic_reply (quadratic_outcome r)) (λ x. x.number) (λ x. x.place) (λ a. refl) (λ f. refl) (λ f. refl) (λ a b e.
    ok-injective (quadratic-injective (Ok a) (Ok b) (λ i.
    given
    (record {
      values = record {
        a = record { u = ap (λ (x : QuadraticReply). x.a_u) e i; v = ap (λ (x : QuadraticReply). x.a_v) e i };
        b = record { u = ap (λ (x : QuadraticReply). x.b_u) e i; v = ap (λ (x : QuadraticReply). x.b_v) e i };
        c = record { u = ap (λ (x : QuadraticReply). x.c_u) e i; v = ap (λ (x : QuadraticReply). x.c_v) e i };
      };
      factors = ap (λ (x : QuadraticReply). x.factors) e i;
    }))))

pub move-told : (r s : Result ℕ Refusal) → move_reply (copied_outcome r) ≡ move_reply (copied_outcome s) → r ≡ s
move-told =
    result-told (λ r. move_reply (copied_outcome r)) (λ x. x.number) (λ x. x.place) (λ a. refl) (λ f. refl) (λ f. refl)
    (λ a b. ap (λ (x : MoveReply). x.length))

pub price-told : (r s : Result ℕ Refusal) → price_reply (priced_outcome r) ≡ price_reply (priced_outcome s) → r ≡ s
price-told =
    result-told (λ r. price_reply (priced_outcome r)) (λ x. x.number) (λ x. x.place) (λ a. refl) (λ f. refl) (λ f. refl)
    (λ a b. ap (λ (x : PriceReply). x.pence))

which-told : (v w : Which) → key_number v ≡ key_number w → v ≡ w
which-told Which.First Which.First e = refl
which-told Which.First Which.Second e = absurd (omega (arith, e))
which-told Which.First Which.Neither e = absurd (omega (arith, e))
which-told Which.Second Which.First e = absurd (omega (arith, e))
which-told Which.Second Which.Second e = refl
which-told Which.Second Which.Neither e = absurd (omega (arith, e))
which-told Which.Neither Which.First e = absurd (omega (arith, e))
which-told Which.Neither Which.Second e = absurd (omega (arith, e))
which-told Which.Neither Which.Neither e = refl

-- a refusal by a call that takes two keys is told by the key's number, its own number and its place
pair-refusal-told : (f g : PairRefusal) → key_number f.key ≡ key_number g.key → number_of f.refusal.reason ≡ number_of g.refusal.reason →
    f.refusal.place ≡ g.refusal.place → f ≡ g
pair-refusal-told f g keys numbers places =
    let key = which-told f.key g.key keys in
    let refusal = refusal-told f.refusal g.refusal numbers places in
    λ i. record { key = key i; refusal = refusal i }

not-refused : (l : Likeness) (factors : ℕ) → (compare_reply (likeness_answer l) factors).number ≡ 0
not-refused Likeness.Same factors = refl
not-refused Likeness.Different factors = refl

pub compare-told : (r s : Result Compared PairRefusal) →
    compare_reply (compared_answer r) (compared_factors r) ≡ compare_reply (compared_answer s) (compared_factors s) → r ≡ s
compare-told (Ok r) (Ok s) e = ap Ok (likely r.likeness s.likeness r.factors s.factors e)
  where
    likely : (l m : Likeness) (f g : ℕ) → compare_reply (likeness_answer l) f ≡ compare_reply (likeness_answer m) g →
        ◌≡◌ {A = Compared} (record { likeness = l; factors = f }) (record { likeness = m; factors = g })
    likely Likeness.Same Likeness.Same f g e = λ i. record { likeness = Likeness.Same; factors = ap (λ (x : CompareReply). x.factors) e i }
    likely Likeness.Same Likeness.Different f g e = absurd (omega (arith, ap (λ (x : CompareReply). x.same) e))
    likely Likeness.Different Likeness.Same f g e = absurd (omega (arith, ap (λ (x : CompareReply). x.same) e))
    likely Likeness.Different Likeness.Different f g e =
        λ i. record { likeness = Likeness.Different; factors = ap (λ (x : CompareReply). x.factors) e i }
compare-told (Ok r) (Err h) e = absurd (number-some h.refusal.reason (sym (ap (λ (x : CompareReply). x.number) e) ∙ not-refused r.likeness r.factors))
compare-told (Err g) (Ok s) e = absurd (number-some g.refusal.reason (ap (λ (x : CompareReply). x.number) e ∙ not-refused s.likeness s.factors))
compare-told (Err g) (Err h) e =
    ap Err (pair-refusal-told g h (ap (λ (x : CompareReply). x.key) e) (ap (λ (x : CompareReply). x.number) e)
    (ap (λ (x : CompareReply). x.place) e))

pub shorter-told : (v w : Which) (first second first' second' : List ℕ) →
    shorter_reply v first second ≡ shorter_reply w first' second' → v ≡ w
shorter-told v w first second first' second' e = which-told v w (ap (λ (x : ShorterReply). x.key) e)

-- the numbers and the lengths of what is handed back of a key of three bytes and one of two
shorter-replies :
    shorter_reply Which.First (1 ∷ 2 ∷ 3 ∷ []) (4 ∷ 5 ∷ []) ∷ shorter_reply Which.Second (1 ∷ 2 ∷ 3 ∷ []) (4 ∷ 5 ∷ []) ∷
    shorter_reply Which.Neither (1 ∷ 2 ∷ 3 ∷ []) (4 ∷ 5 ∷ []) ∷ []
    ≡ record { key = 1; length = 3 } ∷ record { key = 2; length = 2 } ∷ record { key = 0; length = 0 } ∷ []
shorter-replies = refl

values-told : (v w : Values Fp) → v.a.number ≡ w.a.number → v.b.number ≡ w.b.number → v.c.number ≡ w.c.number → v ≡ w
values-told v w a b c =
    let first = fp-equal {x = v.a} {y = w.a} a in
    let second = fp-equal {x = v.b} {y = w.b} b in
    let third = fp-equal {x = v.c} {y = w.c} c in
    λ i. record { a = first i; b = second i; c = third i }

pub locate-told : (r s : Result (Option Cell) PairRefusal) → locate_reply (located_answer r) ≡ locate_reply (located_answer s) → r ≡ s
locate-told (Ok None) (Ok None) e = refl
locate-told (Ok None) (Ok (Some cell)) e = absurd (omega (arith, ap (λ (x : LocateReply). x.same) e))
locate-told (Ok None) (Err g) e = absurd (omega (arith, ap (λ (x : LocateReply). x.same) e))
locate-told (Ok (Some cell)) (Ok None) e = absurd (omega (arith, ap (λ (x : LocateReply). x.same) e))
locate-told (Ok (Some cell)) (Ok (Some other)) e =
    let row = ap (λ (x : LocateReply). x.row) e in
    let column = ap (λ (x : LocateReply). x.column) e in
    let first = values-told cell.first other.first (ap (λ (x : LocateReply). x.first_a) e)
    (ap (λ (x : LocateReply). x.first_b) e) (ap (λ (x : LocateReply). x.first_c) e) in
    let second = values-told cell.second other.second (ap (λ (x : LocateReply). x.second_a) e)
    (ap (λ (x : LocateReply). x.second_b) e) (ap (λ (x : LocateReply). x.second_c) e) in
    λ i. Ok (Some (record { row = row i; column = column i; first = first i; second = second i }))
locate-told (Ok (Some cell)) (Err g) e =
    absurd (number-some g.refusal.reason (sym (ap (λ (x : LocateReply). x.number) e)))
locate-told (Err f) (Ok None) e = absurd (omega (arith, ap (λ (x : LocateReply). x.same) e))
locate-told (Err f) (Ok (Some other)) e =
    absurd (number-some f.refusal.reason (ap (λ (x : LocateReply). x.number) e))
locate-told (Err f) (Err g) e =
    ap Err (pair-refusal-told f g (ap (λ (x : LocateReply). x.key) e) (ap (λ (x : LocateReply). x.number) e)
    (ap (λ (x : LocateReply). x.place) e))

pub same-told : (answer : Answer) (factors : ℕ) → eqb (compare_reply answer factors).same 1 ≡ is_same answer
unfolding is_same
same-told same factors = refl
same-told different factors = refl
same-told (refused_for which number place) factors = refl

-- the factors that a reply tells are within the limit
factors-told : (answer : Answer) (factors limit : ℕ) → factors ≤ limit → (compare_reply answer factors).factors ≤ limit
factors-told same factors limit l = l
factors-told different factors limit l = l
factors-told (refused_for which number place) factors limit l = omega arith

pub limit-told : (first second : List ℕ) (reply : CompareReply) (answer : Answer) (factors : ℕ) → reply ≡ compare_reply answer factors →
    BothLimited first second factors → BothLimited first second reply.factors
limit-told first second reply answer factors told limited one other accepts accepts' =
    omega (
      arith,
      ap (λ (x : CompareReply). x.factors) told,
      factors-told answer factors _ (limited one other accepts accepts'),
    )
