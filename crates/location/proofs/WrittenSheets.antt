-- A sheet on which keys were compared. Compare answers the same on it, and leaves on it what it would have left on the sheet that was lent.
use Prim.Native.Nat.{ℕ, ◌+◌, ◌*◌, ◌/◌, ◌%◌, ◌≤◌, ◌<◌}
use mathlib.Core.List.{List}
use mathlib.Core.Path.{◌≡◌, refl, sym, ap, subst, ◌∙◌}
use native.Mathlib.Decide.{dec_le}
use native.Mathlib.Omega.{arith}
use lib.ListN.{length, get_or, take, drop}
use lib.Seq.{ext_get_or}
use Rattle.refusal.specs.Outcome.{Outcome, given, refused}
use Rattle.refusal.specs.declared.Which.{Which}
use Rattle.field.specs.Scalars.{prime}
use Rattle.field.proofs.PrimeLawful.{prime-lawful}
use Rattle.key.specs.Check.{checked_key}
use Rattle.key.specs.declared.Counts.{Counts}
use Rattle.judge.specs.Judged.{together, pair_judged}
use Rattle.comparison.specs.Compare.{Comparison, naming, compared, likeness}
use Rattle.comparison.specs.Filled.{filled_values, filled_factors, own_sheet}
use Rattle.comparison.proofs.SheetHandedOn.{compared-length}
use Rattle.comparison.proofs.SheetAfterCompare.{second-stands, first-beyond, behind-both}
use Rattle.location.specs.Inner.{BothAccepted, PointOfTwo, WrittenOn}
use Rattle.location.proofs.OneOfTwoDiffers.{admitted}

-- ---- the answer, which depends on the sheet by its length alone

judged-alike : (which : Which) (o : Outcome Counts) (sheet sheet' : List ℕ) (next next' : Counts → Comparison) →
    ((counts : Counts) → (next counts).answer ≡ (next' counts).answer) →
    (naming which o sheet next).answer ≡ (naming which o sheet' next').answer
unfolding naming
judged-alike which (refused number place) sheet sheet' next next' alike = refl
judged-alike which (given counts) sheet sheet' next next' alike = alike counts

pub answer-alike : (first second rows columns sheet sheet' : List ℕ) → length sheet ≡ length sheet' →
    (compared prime first second rows columns sheet).answer ≡ (compared prime first second rows columns sheet').answer
answer-alike first second rows columns sheet sheet' as_long =
    judged-alike Which.First (checked_key first) sheet sheet' _ _ (λ one.
    judged-alike Which.Second (checked_key second) sheet sheet' _ _ (λ other.
    ap (λ (places : ℕ). (naming Which.Neither (pair_judged 1 rows columns places one other) sheet (λ both.
    record {
      answer = likeness prime (filled_values prime first one rows columns) (filled_values prime second other rows columns);
      factors = filled_factors first one both.rows both.columns + filled_factors second other both.rows both.columns;
      sheet = own_sheet prime second other rows columns (own_sheet prime first one rows columns sheet);
    })).answer) as_long
    ∙ judged-alike Which.Neither (pair_judged 1 rows columns (length sheet') one other) sheet sheet' _ _ (λ both. refl)))

-- ---- the sheet

module _ (first second : List ℕ) (one other : Counts) (n : ℕ) (point : List ℕ) (is : PointOfTwo one other n point) where
  module _ (sheet : List ℕ) (both : BothAccepted first second one other (length sheet)) where
    admits : pair_judged 1 (take n point) (drop n point) (length sheet) one other ≡ given (together one other)
    admits = admitted first second one other sheet both n point is

    pub after-written : WrittenOn one other sheet (compared prime first second (take n point) (drop n point) sheet).sheet
    after-written =
        record {
          as_long = compared-length prime first second (take n point) (drop n point) sheet;
          behind =
              behind-both prime prime-lawful first second (take n point) (drop n point) sheet one other (together one other) both.accepts
              both.accepts' admits;
        }

  -- on a sheet that comparisons have written on, and on the one that was lent
  module _ (lent sheet : List ℕ) (written : WrittenOn one other lent sheet) (both : BothAccepted first second one other (length sheet)) where
    both-lent : BothAccepted first second one other (length lent)
    both-lent = subst (BothAccepted first second one other) written.as_long both

    abbrev left : List ℕ → List ℕ
    left s = (compared prime first second (take n point) (drop n point) s).sheet

    second-place : (k : ℕ) → k < 3 * other.arrays → get_or (left sheet) k 0 ≡ get_or (left lent) k 0
    second-place k l =
        let at : k ≡ 3 * (k / 3) + k % 3 = omega arith in
        subst (λ (k : ℕ). get_or (left sheet) k 0 ≡ get_or (left lent) k 0) (sym at)
        (second-stands prime prime-lawful first second (take n point) (drop n point) sheet one other (together one other) both.accepts
        both.accepts' (admits sheet both) (k / 3) (k % 3) (omega arith) (omega arith)
        ∙ sym (second-stands prime prime-lawful first second (take n point) (drop n point) lent one other (together one other) both.accepts
        both.accepts' (admits lent both-lent) (k / 3) (k % 3) (omega arith) (omega arith)))

    first-place : (k : ℕ) → 3 * other.arrays ≤ k → k < 3 * one.arrays → get_or (left sheet) k 0 ≡ get_or (left lent) k 0
    first-place k beyond l =
        let at : k ≡ 3 * (k / 3) + k % 3 = omega arith in
        subst (λ (k : ℕ). get_or (left sheet) k 0 ≡ get_or (left lent) k 0) (sym at)
        (first-beyond prime prime-lawful first second (take n point) (drop n point) sheet one other (together one other) both.accepts
        both.accepts' (admits sheet both) (k / 3) (k % 3) (omega arith) (omega arith) (omega arith)
        ∙ sym (first-beyond prime prime-lawful first second (take n point) (drop n point) lent one other (together one other) both.accepts
        both.accepts' (admits lent both-lent) (k / 3) (k % 3) (omega arith) (omega arith) (omega arith)))

    behind-place : (k : ℕ) → 3 * other.arrays ≤ k → 3 * one.arrays ≤ k → get_or (left sheet) k 0 ≡ get_or (left lent) k 0
    behind-place k beyond beyond' =
        (after-written sheet both).behind k beyond' beyond ∙ written.behind k beyond' beyond
        ∙ sym ((after-written lent both-lent).behind k beyond' beyond)

    pub left-alike : (compared prime first second (take n point) (drop n point) sheet).sheet
        ≡ (compared prime first second (take n point) (drop n point) lent).sheet
    left-alike =
        ext_get_or 0 (left sheet) (left lent)
        (compared-length prime first second (take n point) (drop n point) sheet ∙ written.as_long
        ∙ sym (compared-length prime first second (take n point) (drop n point) lent))
        (λ k _. go k (dec_le (3 * other.arrays) k) (dec_le (3 * one.arrays) k))
      where
        go : (k : ℕ) → Dec (3 * other.arrays ≤ k) → Dec (3 * one.arrays ≤ k) → get_or (left sheet) k 0 ≡ get_or (left lent) k 0
        go k (no few) _ = second-place k (omega arith)
        go k (yes beyond) (no few) = first-place k beyond (omega arith)
        go k (yes beyond) (yes beyond') = behind-place k beyond beyond'

-- ---- one comparison behind the other

pub written_none : (one other : Counts) (sheet : List ℕ) → WrittenOn one other sheet sheet
written_none one other sheet = record { as_long = refl; behind = λ k l l'. refl }

pub written-again : (one other : Counts) (lent sheet after : List ℕ) → WrittenOn one other lent sheet → WrittenOn one other sheet after →
    WrittenOn one other lent after
written-again one other lent sheet after before now =
    record { as_long = now.as_long ∙ before.as_long; behind = λ k l l'. now.behind k l l' ∙ before.behind k l l' }
