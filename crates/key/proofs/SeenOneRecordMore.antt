-- What the code has seen behind one record more.
use Prim.Native.Nat.{ℕ, ◌+◌, ◌≤◌, ◌<◌}
use mathlib.Core.Bool.{false, false≢true}
use mathlib.Core.List.{flat_map, List, [], ◌∷◌, ◌++◌, append-nil}
use mathlib.Core.Path.{◌≡◌, refl, sym, ap, ◌∙◌}
use native.Mathlib.Nat.{pos_of_ne-zero}
use native.Mathlib.Omega.{arith}
use borrow.Author.Tests.{eqb-false, eqb-true, ltb-false, leb-false, not-false}
use lib.Dec.{eqb}
use lib.ListN.{length, length-append}
use Rattle.records.specs.declared.Record.{Record}
use Rattle.records.specs.declared.Shape.{Shape}
use Rattle.rules.specs.Inner.{AllKept, Narrow}
use Rattle.rules.specs.Rules.{not_open, opening_rules}
use Rattle.rules.specs.declared.Opening.{Opening}
use Rattle.key.specs.Before.{opening_in, opened, open_now, first_of, shape_in, head_of, is_scaled_head, is_scaled, count_of, call_count}
use Rattle.key.specs.Check.{rules_of}
use Rattle.key.specs.Inner.{seen_in, after}
use Rattle.key.specs.declared.seen.Seen.{Seen}
use Rattle.key.proofs.NonzeroTest.{not-nought}
use Rattle.key.proofs.RecordsBefore.{opened_one, opened-most, count-append, open-last, first-stays, some-open}
use Rattle.key.proofs.EndOrOnward.{Onward}

follows : (before : List Record) (item : Record) → false ≡ eqb (length (before ++ (item ∷ []))) 0
follows before item = sym (not-nought (length (before ++ (item ∷ []))) (omega (arith, length-append before (item ∷ []))))

-- where an array of a kind is open, a record was read
open-begun : (before : List Record) (kind : ℕ) → 0 < kind → not_open kind (open_now (opened before)).kind ≡ false → 0 < length before
open-begun before kind some e = omega (arith, some-open (opened before) kind some e, opened-most before)

module _ (before : List Record) where
  -- counts with a record more
  abbrev Counted : Record → ℕ → ℕ → Type 0
  Counted item cells calls =
      (cells ≡ count_of 0x04 before + count_of 0x04 (item ∷ [])) × (calls ≡ call_count before + call_count (item ∷ []))

  counted : (item : Record) (cells calls : ℕ) → Counted item cells calls →
      (cells ≡ count_of 0x04 (before ++ (item ∷ []))) × (calls ≡ call_count (before ++ (item ∷ [])))
  counted item cells calls counts = (
    counts.0 ∙ sym (count-append 0x04 before (item ∷ [])),
    omega (arith, counts.1, count-append 0x05 before (item ∷ []), count-append 0x08 before (item ∷ [])),
  )

  -- what is seen behind a record that opens nothing and follows another
  passed-seen : (item : Record) (cells calls : ℕ) → opening_in item ≡ [] → 0 < length before → Counted item cells calls →
      record {
        first = false;
        scaled = is_scaled before;
        head = head_of before;
        array = open_now (opened before);
        arrays = length (opened before);
        cells = cells;
        calls = calls;
      } ≡ seen_in (before ++ (item ∷ []))
  passed-seen item cells calls none some counts =
      let now = counted item cells calls counts in
      let same : opened before ≡ opened (before ++ (item ∷ [])) =
      sym (append-nil (opened before)) ∙ ap (λ (o : List Opening). opened before ++ o) (sym none) ∙ sym (opened_one before item) in
      let first : first_of before ≡ first_of (before ++ (item ∷ [])) = sym (first-stays before (item ∷ []) some) in
      λ i. record {
        first = follows before item i;
        scaled = is_scaled_head (first i);
        head = shape_in (first i);
        array = open_now (same i);
        arrays = length (same i);
        cells = now.0 i;
        calls = now.1 i;
      }

  -- what is seen behind an array's opening
  opening-seen : (item : Record) (o : Opening) → opening_in item ≡ o ∷ [] → 0 < length before →
      Counted item (count_of 0x04 before) (call_count before) →
      record {
        first = false;
        scaled = is_scaled before;
        head = head_of before;
        array = o;
        arrays = length (opened before) + 1;
        cells = count_of 0x04 before;
        calls = call_count before;
      } ≡ seen_in (before ++ (item ∷ []))
  opening-seen item o one some counts =
      let now = counted item (count_of 0x04 before) (call_count before) counts in
      let more : opened (before ++ (item ∷ [])) ≡ opened before ++ (o ∷ []) =
      opened_one before item ∙ ap (λ (x : List Opening). opened before ++ x) one in
      let first : first_of before ≡ first_of (before ++ (item ∷ [])) = sym (first-stays before (item ∷ []) some) in
      let array : o ≡ open_now (opened (before ++ (item ∷ []))) = sym (ap open_now more ∙ open-last (opened before) o) in
      let arrays : length (opened before) + 1 ≡ length (opened (before ++ (item ∷ []))) =
      sym (ap length more ∙ length-append (opened before) (o ∷ [])) in
      λ i. record {
        first = follows before item i;
        scaled = is_scaled_head (first i);
        head = shape_in (first i);
        array = array i;
        arrays = arrays i;
        cells = now.0 i;
        calls = now.1 i;
      }

-- what is seen behind a record that keeps its rules and is no end
pub seen_next : (before : List Record) (item : Record) → Onward item → AllKept (rules_of before item) →
    after (seen_in before) item ≡ seen_in (before ++ (item ∷ []))
unfolding count_of rules_of flat_map
seen_next [] (Record.Head shape) on kept = refl
seen_next (r ∷ before) (Record.Head shape) on kept =
    absurd (omega (arith, eqb-true (length (r ∷ before)) 0 (not-false _ kept.0)))
seen_next before (Record.Sparse shape) on kept =
    opening-seen before (Record.Sparse shape) (record { kind = 0x02; shape = shape }) refl
    (pos_of_ne-zero (eqb-false (length before) 0 kept.0)) (omega arith)
seen_next before (Record.Recursive shape) on kept =
    opening-seen before (Record.Recursive shape) (record { kind = 0x03; shape = shape }) refl
    (pos_of_ne-zero (eqb-false (length before) 0 kept.0)) (omega arith)
seen_next before (Record.Cell cell) on kept =
    passed-seen before (Record.Cell cell) (count_of 0x04 before + 1) (call_count before) refl
    (open-begun before 0x02 (omega arith) kept.0) (omega arith)
seen_next before (Record.Call call) on kept =
    passed-seen before (Record.Call call) (count_of 0x04 before) (call_count before + 1) refl
    (open-begun before 0x03 (omega arith) kept.0) (omega arith)
seen_next before Record.End on kept = absurd (false≢true (sym on))
seen_next [] (Record.ScaledHead shape) on kept = refl
seen_next (r ∷ before) (Record.ScaledHead shape) on kept =
    absurd (omega (arith, eqb-true (length (r ∷ before)) 0 (not-false _ kept.0)))
seen_next before (Record.ScaledCall call) on kept =
    passed-seen before (Record.ScaledCall call) (count_of 0x04 before) (call_count before + 1) refl
    (open-begun before 0x03 (omega arith) kept.0) (omega arith)

-- at most 1,024 arrays are opened behind a record that keeps its rules
pub arrays-next : (before : List Record) (item : Record) → AllKept (rules_of before item) → length (opened before) ≤ 1024 →
    length (opened before ++ opening_in item) ≤ 1024
unfolding rules_of
arrays-next before item kept most = omega (arith, length-append (opened before) (opening_in item), go item kept)
  where
    go : (item : Record) → AllKept (rules_of before item) → length (opened before) + length (opening_in item) ≤ 1024
    go (Record.Head shape) kept = omega (arith, most)
    go (Record.Sparse shape) kept = omega (arith, leb-false 1024 (length (opened before)) kept.1.0)
    go (Record.Recursive shape) kept = omega (arith, leb-false 1024 (length (opened before)) kept.1.0)
    go (Record.Cell cell) kept = omega (arith, most)
    go (Record.Call call) kept = omega (arith, most)
    go Record.End kept = omega (arith, most)
    go (Record.ScaledHead shape) kept = omega (arith, most)
    go (Record.ScaledCall call) kept = omega (arith, most)

-- the head and the array that is open have at most 30 bits a side behind a record that keeps its rules
pub narrow_next : (before : List Record) (seen : Seen) → seen ≡ seen_in before → (item : Record) → AllKept (rules_of before item) →
    Narrow seen.head → Narrow seen.array.shape → Narrow (after seen item).head × Narrow (after seen item).array.shape
unfolding rules_of
narrow_next before seen is item kept head array = go item kept
  where
    opening : (shape : Shape) → AllKept (opening_rules (eqb (length before) 0) (head_of before) (length (opened before)) shape) →
        Narrow shape
    opening shape kept =
        let rows : (head_of before).rows ≡ seen.head.rows = ap (λ (s : Seen). s.head.rows) (sym is) in
        let columns : (head_of before).columns ≡ seen.head.columns = ap (λ (s : Seen). s.head.columns) (sym is) in (
          omega (arith, rows, head, ltb-false (head_of before).rows shape.rows kept.1.1.0),
          omega (arith, columns, head, ltb-false (head_of before).columns shape.columns kept.1.1.1.0),
        )

    go : (item : Record) → AllKept (rules_of before item) → Narrow (after seen item).head × Narrow (after seen item).array.shape
    go (Record.Head shape) kept = ((ltb-false 30 shape.rows kept.1.0, ltb-false 30 shape.columns kept.1.1.0), array)
    go (Record.Sparse shape) kept = (head, opening shape kept)
    go (Record.Recursive shape) kept = (head, opening shape kept)
    go (Record.Cell cell) kept = (head, array)
    go (Record.Call call) kept = (head, array)
    go Record.End kept = (head, array)
    go (Record.ScaledHead shape) kept = ((ltb-false 30 shape.rows kept.1.0, ltb-false 30 shape.columns kept.1.1.0), array)
    go (Record.ScaledCall call) kept = (head, array)
