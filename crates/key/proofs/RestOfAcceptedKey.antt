-- What is read behind the records of well_formed arrays, up to the end of an accepted key, makes them the records of its key.
use Prim.Native.Nat.{ℕ, zero, suc, ◌+◌, ◌≤◌, ◌<◌}
use mathlib.Core.Bool.{Bool, true, false, cond}
use mathlib.Core.List.{flat_map, List, [], ◌∷◌, ◌++◌, map}
use mathlib.Core.Logic.{◌⊎◌, inl, inr}
use mathlib.Core.Path.{◌≡◌, refl, sym, ap, ap₂, subst, ◌∙◌}
use native.Mathlib.Nat.{pos_of_ne-zero}
use native.Mathlib.Omega.{arith}
use borrow.Author.Tests.{eqb-false, ltb-false, eqb-true, not-false}
use lib.ListN.{length, length-append, length-map}
use lib.Seq.{append_snoc}
use Rattle.refusal.specs.Outcome.{Outcome, given, refused, refuse}
use Rattle.refusal.proofs.Outcomes.{given-injective, given-not-refused}
use Rattle.records.specs.Kinds.{encoded, record_of, bytes_of_all}
use Rattle.records.specs.Take.{Found, taken_at}
use Rattle.records.specs.declared.Record.{Record}
use Rattle.records.specs.declared.Shape.{Shape}
use Rattle.records.proofs.FoundIsRecord.{found-taken}
use Rattle.arrays.specs.Arrays.{Array}
use Rattle.arrays.specs.Placing.{blocks}
use Rattle.arrays.specs.WellFormed.{WellFormed, LastOfShape}
use Rattle.rules.specs.Inner.{AllKept}
use Rattle.key.specs.Before.{opened, open_now}
use Rattle.key.specs.Check.{first_broken, rules_of, rules_behind, judged_by, counts_of, judged}
use Rattle.key.specs.Encoding.{arrays_records, key_records, InEdition}
use Rattle.key.specs.Reading.{Located, Reading, behind, read_at, read_from, located_in, items}
use Rattle.rules.specs.Rules.{Rule, end_rules}
use Rattle.key.specs.declared.Counts.{Counts}
use Rattle.rules.specs.declared.Opening.{Opening}
use Rattle.key.proofs.ArrayOrEntryMore.{before, Grown, opened-before}
use Rattle.key.proofs.ArraysBefore.{open-now}
use Rattle.key.proofs.Encodings.{head-shape, opening_of}
use Rattle.key.proofs.KeptRecordFits.{grown}
use Rattle.key.proofs.Offsets.{offset_behind}
use Rattle.key.proofs.EndOrOnward.{Onward, behind-onward, ends-or-not}

-- where rules and what follows them give a result, all of them are kept
kept-given : {A : Type 0} (place : ℕ) (rules : List Rule) (rest : Outcome A) (a : A) → first_broken place rules rest ≡ given a →
    AllKept rules × (rest ≡ given a)
unfolding first_broken
kept-given place [] rest a e = (tt, e)
kept-given place (rule ∷ rules) rest a e = go rule.broken refl e (kept-given place rules rest a)
  where
    go : (b : Bool) → rule.broken ≡ b → cond b (refuse rule.reason place) (first_broken place rules rest) ≡ given a →
        (first_broken place rules rest ≡ given a → AllKept rules × (rest ≡ given a)) → AllKept (rule ∷ rules) × (rest ≡ given a)
    go true is f later = absurd (given-not-refused (sym f))
    go false is f later = ((is, (later f).0), (later f).1)

pub judged-given : {A : Type 0} (len : ℕ) (earlier : List Record) (x : Located) (rest : Outcome A) (a : A) →
    judged_by len earlier x rest ≡ given a →
    AllKept (rules_of earlier x.item) × AllKept (rules_behind x.item x.next len) × (rest ≡ given a)
judged-given len earlier x rest a e =
    let outer = kept-given x.at (rules_of earlier x.item) (first_broken x.next (rules_behind x.item x.next len) rest) a e in
    let inner = kept-given x.next (rules_behind x.item x.next len) rest a outer.1 in
    (outer.0, inner.0, inner.1)

module _ (key : List ℕ) (scaled : Bool) (n n' : ℕ) (counts : Counts) where
  -- the records of some arrays and what is read behind them are the records of a key of well_formed arrays
  pub record Finished (len at : ℕ) (earlier rest : List Record) : Type 0 where
    pub arrays : List Array
    pub records : earlier ++ rest ≡ key_records scaled n n' arrays
    pub well : WellFormed blocks blocks n n' arrays
    pub written : InEdition scaled arrays
    pub last : LastOfShape n n' arrays
    pub most : length arrays ≤ 1024
    pub counts-are : counts ≡ counts_of (key_records scaled n n' arrays)
    pub whole : len ≤ offset_behind at rest

  -- an end that keeps its rules
  last-shaped : (arrays : List Array) → AllKept (rules_of (before scaled n n' arrays) Record.End) → LastOfShape n n' arrays
  unfolding rules_of
  last-shaped arrays kept =
      let held = subst (λ (os : List Opening). AllKept (end_rules (record { rows = n; columns = n' }) (length os) (open_now os)))
      (opened-before scaled n n' arrays)
      (subst (λ (head : Shape). AllKept (end_rules head (length (opened (before scaled n n' arrays))) (open_now (opened (before scaled n n' arrays)))))
      (head-shape scaled n n' (arrays_records scaled arrays)) kept) in
      let some : 0 < length arrays = omega (arith, pos_of_ne-zero (eqb-false (length (map opening_of arrays)) 0 held.0), length-map arrays opening_of) in
      let shaped = subst (λ (o : Opening). AllKept (end_rules (record { rows = n; columns = n' }) (length (map opening_of arrays)) o))
      (open-now arrays some) held in
      record {
        some_array = some;
        rows_equal = eqb-true _ _ (not-false _ shaped.1.0);
        columns_equal = eqb-true _ _ (not-false _ shaped.1.1.0);
      }

  end-behind : (len next : ℕ) → AllKept (rules_behind Record.End next len) → len ≤ next
  unfolding rules_behind
  end-behind len next kept = ltb-false next len kept.0

  -- what is read behind the records of some arrays, up to the end of an accepted key
  pub from : (steps len at : ℕ) (arrays : List Array) → WellFormed blocks blocks n n' arrays → InEdition scaled arrays → length arrays ≤ 1024 →
      judged len (before scaled n n' arrays) (read_from steps key at) ≡ given counts →
      Finished len at (before scaled n n' arrays) (items (located_in (read_from steps key at)))
  unfolding read_from read_at judged located_in flat_map
  from zero len at arrays well written most e = absurd (given-not-refused (sym e))
  from (suc steps) len at arrays well written most e = taken (taken_at key at) refl e (from steps len)
    where
      Later : Type 0
      Later = (at : ℕ) (arrays : List Array) → WellFormed blocks blocks n n' arrays → InEdition scaled arrays → length arrays ≤ 1024 →
          judged len (before scaled n n' arrays) (read_from steps key at) ≡ given counts →
          Finished len at (before scaled n n' arrays) (items (located_in (read_from steps key at)))

      -- behind a record that is no end
      onward : (r : Record) (next : ℕ) → next ≡ at + length (encoded r) → Onward r → Grown scaled n n' (before scaled n n' arrays ++ (r ∷ [])) →
          judged len (before scaled n n' arrays ++ (r ∷ [])) (behind r (read_from steps key next)) ≡ given counts → Later →
          Finished len at (before scaled n n' arrays) (r ∷ items (located_in (behind r (read_from steps key next))))
      onward r next ahead on g f later =
          let b = behind-onward r on (read_from steps key next) in
          let l = later next g.arrays g.well g.written g.most (ap₂ (judged len) (sym g.is) (sym b) ∙ f) in
          record {
            arrays = l.arrays;
            records =
                ap (λ (rest : Reading). before scaled n n' arrays ++ (r ∷ items (located_in rest))) b
                ∙ sym (append_snoc (before scaled n n' arrays) r (items (located_in (read_from steps key next))))
                ∙ ap (λ (rs : List Record). rs ++ items (located_in (read_from steps key next))) g.is ∙ l.records;
            well = l.well;
            written = l.written;
            last = l.last;
            most = l.most;
            counts-are = l.counts-are;
            whole =
                omega (
                  arith,
                  l.whole,
                  ap (λ (rest : Reading). length (bytes_of_all (items (located_in rest)))) b,
                  length-append (encoded r) (bytes_of_all (items (located_in (behind r (read_from steps key next))))),
                );
          }

      -- behind the end
      finished : (r : Record) (next : ℕ) → next ≡ at + length (encoded r) → r ≡ Record.End → LastOfShape n n' arrays → len ≤ next →
          judged len (before scaled n n' arrays ++ (r ∷ [])) (behind r (read_from steps key next)) ≡ given counts →
          Finished len at (before scaled n n' arrays) (r ∷ items (located_in (behind r (read_from steps key next))))
      finished r next ahead is last long f =
          subst (λ (r : Record). judged len (before scaled n n' arrays ++ (r ∷ [])) (behind r (read_from steps key next)) ≡ given counts →
          Finished len at (before scaled n n' arrays) (r ∷ items (located_in (behind r (read_from steps key next))))) (sym is)
          (λ f. record {
            arrays = arrays;
            records = refl;
            well = well;
            written = written;
            last = last;
            most = most;
            counts-are = sym (given-injective f);
            whole = omega (arith, ap (λ (r : Record). length (encoded r)) is);
          })
          f

      judges : (r : Record) (next : ℕ) → next ≡ at + length (encoded r) → (r ≡ Record.End) ⊎ Onward r →
          AllKept (rules_of (before scaled n n' arrays) r) → AllKept (rules_behind r next len) →
          judged len (before scaled n n' arrays ++ (r ∷ [])) (behind r (read_from steps key next)) ≡ given counts → Later →
          Finished len at (before scaled n n' arrays) (r ∷ items (located_in (behind r (read_from steps key next))))
      judges r next ahead (inl is) kept behind f later =
          finished r next ahead is (last-shaped arrays (subst (λ (r : Record). AllKept (rules_of (before scaled n n' arrays) r)) is kept))
          (end-behind len next (subst (λ (r : Record). AllKept (rules_behind r next len)) is behind)) f
      judges r next ahead (inr on) kept behind f later = onward r next ahead on (grown scaled n n' arrays r on kept well written most) f later

      taken : (t : Outcome Found) → taken_at key at ≡ t →
          judged len (before scaled n n' arrays) (read_at at t (read_from steps key)) ≡ given counts → Later →
          Finished len at (before scaled n n' arrays) (items (located_in (read_at at t (read_from steps key))))
      taken (refused number place) e f later = absurd (given-not-refused (sym f))
      taken (given found) e f later =
          let r : Record = record_of found.kind found.fields in
          let k = judged-given len (before scaled n n' arrays) (record { item = r; at = at; next = found.next })
          (judged len (before scaled n n' arrays ++ (r ∷ [])) (behind r (read_from steps key found.next))) counts f in
          judges r found.next (found-taken key at found e).1 (ends-or-not r) k.0 k.1 k.2 later
