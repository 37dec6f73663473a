-- The records of an accepted key are a head, and what makes it the key of well_formed arrays.
use Prim.Native.Nat.{ℕ, ◌+◌, ◌≤◌}
use mathlib.Core.Bool.{Bool, true, false, cond}
use mathlib.Core.List.{flat_map, List, [], ◌∷◌}
use mathlib.Core.Path.{◌≡◌, refl, sym, ap, subst, ◌∙◌}
use native.Mathlib.Omega.{arith}
use borrow.Author.Tests.{ltb-false, eqb-true, eqb-false, not-false}
use lib.Dec.{ltb}
use lib.ListN.{length}
use Rattle.refusal.specs.Outcome.{Outcome, given, refused, refuse}
use Rattle.refusal.specs.declared.Reason.{Reason}
use Rattle.refusal.proofs.Outcomes.{given-not-refused}
use Rattle.records.specs.Kinds.{encoded, record_of}
use Rattle.records.specs.Take.{Found, taken_at}
use Rattle.records.specs.declared.Record.{Record}
use Rattle.records.specs.declared.Shape.{Shape}
use Rattle.records.proofs.FoundIsRecord.{found-taken}
use Rattle.rules.specs.Inner.{AllKept}
use Rattle.key.specs.Check.{rules_of, judged, checked_key}
use Rattle.key.specs.Encoding.{head_record}
use Rattle.key.specs.Reading.{Reading, behind, read_at, read_from, reading_of, located_in, items, records_in}
use Rattle.key.specs.declared.Counts.{Counts}
use Rattle.key.proofs.ArrayOrEntryMore.{before}
use Rattle.key.proofs.Encodings.{head-length}
use Rattle.key.proofs.RestOfAcceptedKey.{Finished, from, judged-given}

-- the first record of an accepted key is a head of either edition, of at most 30 bits
record Headed (r : Record) : Type 0 where
  pub scaled : Bool
  pub shape : Shape
  pub is : r ≡ head_record scaled shape.rows shape.columns
  pub rows : shape.rows ≤ 30
  pub columns : shape.columns ≤ 30

first_head : (r : Record) → AllKept (rules_of [] r) → Headed r
unfolding rules_of flat_map
first_head (Record.Head shape) kept =
    record {
      scaled = false;
      shape = shape;
      is = refl;
      rows = ltb-false 30 shape.rows kept.1.0;
      columns = ltb-false 30 shape.columns kept.1.1.0;
    }
first_head (Record.Sparse shape) kept = absurd (eqb-false 0 0 kept.0 refl)
first_head (Record.Recursive shape) kept = absurd (eqb-false 0 0 kept.0 refl)
first_head (Record.Cell cell) kept = absurd (omega (arith, eqb-true 0 2 (not-false _ kept.0)))
first_head (Record.Call call) kept = absurd (omega (arith, eqb-true 0 3 (not-false _ kept.0)))
first_head Record.End kept = absurd (eqb-false 0 0 kept.0 refl)
first_head (Record.ScaledHead shape) kept =
    record {
      scaled = true;
      shape = shape;
      is = refl;
      rows = ltb-false 30 shape.rows kept.1.0;
      columns = ltb-false 30 shape.columns kept.1.1.0;
    }
first_head (Record.ScaledCall call) kept = absurd (omega (arith, eqb-true 0 3 (not-false _ kept.0)))

-- a head is no end
behind-head : (scaled : Bool) (n n' : ℕ) (rest : Reading) → behind (head_record scaled n n') rest ≡ rest
behind-head false n n' rest = refl
behind-head true n n' rest = refl

-- a key that is accepted has at most 65,536 bytes, and its records are judged
pub judged-key : (key : List ℕ) (counts : Counts) → checked_key key ≡ given counts →
    (length key ≤ 65536) × (judged (length key) [] (reading_of key) ≡ given counts)
unfolding checked_key
judged-key key counts e = go (ltb 65536 (length key)) refl e
  where
    go : (b : Bool) → ltb 65536 (length key) ≡ b →
        cond b (refuse Reason.KeyTooLong 65536) (judged (length key) [] (reading_of key)) ≡ given counts →
        (length key ≤ 65536) × (judged (length key) [] (reading_of key) ≡ given counts)
    go true is f = absurd (given-not-refused (sym f))
    go false is f = (ltb-false 65536 (length key) is, f)

module _ (key : List ℕ) (counts : Counts) where
  -- the records of an accepted key: a head, and what makes it the key of well_formed arrays
  pub record Made (all : List Record) : Type 0 where
    pub scaled : Bool
    pub n : ℕ
    pub n' : ℕ
    pub rest : List Record
    pub is : all ≡ head_record scaled n n' ∷ rest
    pub finished : Finished key scaled n n' counts (length key) 3 (head_record scaled n n' ∷ []) rest

  pub made : checked_key key ≡ given counts → Made (records_in key)
  unfolding read_from read_at judged located_in flat_map
  made e = taken (taken_at key 0) refl (judged-key key counts e).1
    where
      taken : (t : Outcome Found) → taken_at key 0 ≡ t →
          judged (length key) [] (read_at 0 t (read_from (length key) key)) ≡ given counts →
          Made (items (located_in (read_at 0 t (read_from (length key) key))))
      taken (refused number place) is f = absurd (given-not-refused (sym f))
      taken (given found) is f =
          let r : Record = record_of found.kind found.fields in
          let next : ℕ = found.next in
          let k = judged-given (length key) [] (record { item = r; at = 0; next = next })
          (judged (length key) (r ∷ []) (behind r (read_from (length key) key next))) counts f in
          let h = first_head r k.0 in
          let finished = from key h.scaled h.shape.rows h.shape.columns counts (length key) (length key) next []
          (record { rows_at_most_30 = h.rows; columns_at_most_30 = h.columns; arrays_fit = λ i l. absurd (omega arith) })
          tt (omega arith)
          (ap (judged (length key) (head_record h.scaled h.shape.rows h.shape.columns ∷ []))
          (sym (behind-head h.scaled h.shape.rows h.shape.columns (read_from (length key) key next)))
          ∙ ap (λ (r : Record). judged (length key) (r ∷ []) (behind r (read_from (length key) key next))) (sym h.is) ∙ k.2) in
          record {
            scaled = h.scaled;
            n = h.shape.rows;
            n' = h.shape.columns;
            rest = items (located_in (read_from (length key) key next));
            is =
                ap (λ (r : Record). r ∷ items (located_in (behind r (read_from (length key) key next)))) h.is
                ∙ ap (λ (rest : Reading). head_record h.scaled h.shape.rows h.shape.columns ∷ items (located_in rest))
                (behind-head h.scaled h.shape.rows h.shape.columns (read_from (length key) key next));
            finished =
                subst
                (λ (at : ℕ). Finished key h.scaled h.shape.rows h.shape.columns counts (length key) at
                (before h.scaled h.shape.rows h.shape.columns []) (items (located_in (read_from (length key) key next))))
                ((found-taken key 0 found is).1 ∙ ap (λ (r : Record). 0 + length (encoded r)) h.is
                ∙ ap (λ (n : ℕ). 0 + n) (head-length h.scaled h.shape.rows h.shape.columns))
                finished;
          }
