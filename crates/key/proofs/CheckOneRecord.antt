-- What taking and judging a record means for the check's answer, from where the walk stands.
use Rattle.std.specs.Prelude.{Result, Ok, Err}
use Prim.Native.Nat.{ℕ, zero, suc, ◌+◌, ◌*◌, ◌≤◌, ◌<◌}
use mathlib.Core.Bool.{true}
use mathlib.Core.List.{flat_map, List, [], ◌∷◌, ◌++◌, map, map-append, append-nil}
use mathlib.Core.Path.{◌≡◌, sym, ap, ap₂, subst, ◌∙◌}
use native.Mathlib.Omega.{arith}
use lib.ListN.{length, take, length-append}
use lib.Seq.{append_snoc}
use Rattle.refusal.specs.Outcome.{given, refusal_of}
use Rattle.refusal.specs.declared.Refusal.{Refusal}
use Rattle.records.specs.Kinds.{encoded}
use Rattle.records.specs.Take.{taken_outcome, taken_at}
use Rattle.records.specs.declared.Record.{Record}
use Rattle.records.proofs.PresentIsTaken.{taken-present}
use Rattle.rules.specs.Inner.{AllKept, Narrow}
use Rattle.rules.specs.declared.Opening.{Opening}
use Rattle.key.specs.Before.{opening_in, opened}
use Rattle.key.specs.Check.{rules_of, judged, checked_key}
use Rattle.key.specs.Index.{starts_in, starts_of}
use Rattle.key.specs.Inner.{Stands, ShapesStand, verdict_on, seen_in, after, counts_seen, Here}
use Rattle.key.specs.Reading.{is_end, Located, Reading, located, behind, read_from, reading_of, located_in, items}
use Rattle.key.specs.declared.seen.Seen.{Seen}
use Rattle.key.proofs.RecordsBefore.{opened_one, one-opening}
use Rattle.key.proofs.JoinedLists.{flat_map-append}
use Rattle.key.proofs.EndOrOnward.{Onward, is-end, behind-onward}
use Rattle.key.proofs.ReadingSteps.{read-record, read-stopped}
use Rattle.key.proofs.SeenVerdict.{verdict-judges, verdict-kept, counts_end}
use Rattle.key.proofs.SeenOneRecordMore.{seen_next, arrays-next, narrow_next}
use Rattle.key.proofs.OpeningShapes.{opening-stands}
use Rattle.key.proofs.OffsetTable.{stored, places-next, stored-length, starts-next}
use Rattle.key.proofs.VerdictIsFirstBroken.{settled}

-- a list of located records with one more
items-one : (past : List Located) (x : Located) → items (past ++ (x ∷ [])) ≡ items past ++ (x.item ∷ [])
items-one past x = map-append (λ (y : Located). y.item) past (x ∷ [])

opening-wide : (item : Record) → 3 * length (opening_in item) ≤ length (encoded item)
opening-wide (Record.Head shape) = omega arith
opening-wide (Record.Sparse shape) = omega arith
opening-wide (Record.Recursive shape) = omega arith
opening-wide (Record.Cell cell) = omega arith
opening-wide (Record.Call call) = omega arith
opening-wide Record.End = omega arith
opening-wide (Record.ScaledHead shape) = omega arith
opening-wide (Record.ScaledCall call) = omega arith

module _ {key starts : List ℕ} {seen : Seen} {at : ℕ} (H : Here key starts seen at) where
  -- there is a step left
  record Ready : Type 0 where
    pub later : ℕ
    pub enough : length key < at + suc later
    pub read : located_in (reading_of key) ≡ H.past ++ located_in (read_from (suc later) key at)
    pub same : checked_key key ≡ judged (length key) (items H.past) (read_from (suc later) key at)

  ready : Ready
  ready = go H.steps H.enough H.read H.same
    where
      go : (steps : ℕ) → length key < at + steps → located_in (reading_of key) ≡ H.past ++ located_in (read_from steps key at) →
          checked_key key ≡ judged (length key) (items H.past) (read_from steps key at) → Ready
      go zero enough read same = absurd (omega (arith, H.within))
      go (suc later) enough read same = record { later = later; enough = enough; read = read; same = same }

  -- no record can be taken
  pub stops : (f : Refusal) → taken_at key at ≡ taken_outcome (Err f) → checked_key key ≡ refusal_of f
  unfolding judged
  stops f e = ready.same ∙ ap (judged (length key) (items H.past)) (read-stopped ready.later key at _ _ e)

  module _ (item : Record) (next : ℕ) (e : taken_at key at ≡ taken_outcome (Ok (item, next))) where
    this : Located
    this = record { item = item; at = at; next = next }

    rest : Reading
    rest = behind item (read_from ready.later key next)

    abbrev verdict : (Result (Unit {0}) Refusal)
    verdict = verdict_on seen key starts at next item

    -- the answer goes by the verdict on the record
    turns : checked_key key ≡ settled verdict (judged (length key) (items H.past ++ (item ∷ [])) rest)
    unfolding judged this rest
    turns =
        ready.same ∙ ap (judged (length key) (items H.past)) (read-record ready.later key at item next e)
        ∙ sym (verdict-judges (items H.past) key starts H.shapes at next item
        (judged (length key) (items H.past ++ (item ∷ [])) (behind item (read_from ready.later key next))))
        ∙ ap (λ (s : Seen). settled (verdict_on s key starts at next item)
        (judged (length key) (items H.past ++ (item ∷ [])) (behind item (read_from ready.later key next))))
        (sym H.seen_is)

    -- the record breaks a rule
    pub breaks : (f : Refusal) → verdict ≡ Err f → checked_key key ≡ refusal_of f
    breaks f v = turns ∙ ap (λ (w : Result (Unit {0}) Refusal). settled w (judged (length key) (items H.past ++ (item ∷ [])) rest)) v

    module _ (v : verdict ≡ (Ok tt)) where
      goes : checked_key key ≡ judged (length key) (items H.past ++ (item ∷ [])) rest
      goes = turns ∙ ap (λ (w : Result (Unit {0}) Refusal). settled w (judged (length key) (items H.past ++ (item ∷ [])) rest)) v

      -- the record is the end of an accepted key, and the openings' offsets are all noted
      pub ends : is_end item ≡ true → checked_key key ≡ given (counts_seen seen)
      unfolding judged rest
      ends end =
          goes
          ∙ ap (λ (r : Record). judged (length key) (items H.past ++ (r ∷ [])) (behind r (read_from ready.later key next)))
          (is-end item end)
          ∙ ap given (counts_end (items H.past) ∙ ap counts_seen (sym H.seen_is))

      pub all_noted : is_end item ≡ true → starts_of key ≡ take seen.arrays starts
      unfolding located_in flat_map
      all_noted end =
          ap starts_in ready.read
          ∙ flat_map-append (λ (x : Located). map (λ (o : Opening). x.at) (opening_in x.item)) H.past (located_in (read_from (suc ready.later) key at))
          ∙ ap (λ (r : Reading). starts_in H.past ++ starts_in (located_in r)) (read-record ready.later key at item next e)
          ∙ ap (λ (r : Record). starts_in H.past ++
          starts_in (located_in (located (record { item = r; at = at; next = next }) (behind r (read_from ready.later key next)))))
          (is-end item end)
          ∙ append-nil (starts_in H.past) ∙ sym H.offsets_hold
          ∙ ap (λ (s : Seen). take s.arrays starts) (sym H.seen_is)

    -- the record keeps its rules and is no end, and the walk goes on behind it
    module _ (v : verdict ≡ (Ok tt)) (on : Onward item) (forward : at < next) (inside : next ≤ length key) where
      before : List Record
      before = items H.past

      kept : AllKept (rules_of before item)
      unfolding before
      kept =
          verdict-kept (items H.past) key starts H.shapes at next item
          (ap (λ (s : Seen). verdict_on s key starts at next item) (sym H.seen_is) ∙ v)

      reads_on : rest ≡ read_from ready.later key next
      unfolding rest
      reads_on = behind-onward item on (read_from ready.later key next)

      openings : opened (items (H.past ++ (this ∷ []))) ≡ opened before ++ opening_in item
      unfolding this before
      openings = ap opened (items-one H.past this) ∙ opened_one (items H.past) item

      more : items (H.past ++ (this ∷ [])) ≡ before ++ (item ∷ [])
      unfolding this before
      more = items-one H.past (record { item = item; at = at; next = next })

      arrays-are : seen.arrays ≡ length (opened before)
      unfolding before
      arrays-are = ap (λ (s : Seen). s.arrays) H.seen_is

      arrays_fit : length (opened before ++ opening_in item) ≤ 1024
      unfolding before
      arrays_fit = arrays-next before item kept H.arrays_most

      -- an opening has three bytes
      spaced-next : 3 * length (opened before ++ opening_in item) ≤ next
      unfolding before
      spaced-next =
          omega
          (arith, length-append (opened before) (opening_in item), H.spaced, (taken-present key at item next e).1, opening-wide item)

      -- so that the table has a place for it
      place-left : length (opened before ++ opening_in item) ≤ length starts
      place-left = omega (arith, arrays_fit, spaced-next, inside, H.room)

      narrow : Narrow (after seen item).head × Narrow (after seen item).array.shape
      unfolding before
      narrow = narrow_next before seen H.seen_is item kept H.narrow_head H.narrow_array

      pub goes_on : Here key (stored starts seen.arrays at (opening_in item)) (after seen item) next
      unfolding before this located_in flat_map
      goes_on =
          record {
            past = H.past ++ (this ∷ []);
            steps = ready.later;
            within = inside;
            enough = omega (arith, ready.enough);
            few = omega (arith, length-append H.past (this ∷ []), H.few);
            arrays_most = omega (arith, ap length openings, arrays_fit);
            spaced = omega (arith, ap length openings, spaced-next);
            seen_is =
                ap (λ (s : Seen). after s item) H.seen_is ∙ seen_next before item on kept ∙ ap seen_in (sym more);
            narrow_head = narrow.0;
            narrow_array = narrow.1;
            room = omega (arith, stored-length starts seen.arrays at (opening_in item), H.room);
            shapes =
                subst (λ (os : List Opening). ShapesStand key (stored starts seen.arrays at (opening_in item)) os) (sym openings)
                (subst (λ (n : ℕ). ShapesStand key (stored starts n at (opening_in item)) (opened before ++ opening_in item)) (sym arrays-are)
                (places-next (Stands key) starts at (opened before) (opening_in item) (one-opening item) place-left
                H.shapes (opening-stands key at next item e)));
            offsets_hold =
                ap₂ (λ (os : List Opening) (n : ℕ). take (length os) (stored starts n at (opening_in item))) openings arrays-are
                ∙ starts-next (opened before) (opening_in item) starts at (one-opening item) place-left
                ∙ ap (λ (s : List ℕ). s ++ map (λ opening. at) (opening_in item)) H.offsets_hold
                ∙ ap (λ (s : List ℕ). starts_in H.past ++ s) (sym (append-nil (map (λ opening. at) (opening_in item))))
                ∙ sym (flat_map-append (λ (x : Located). map (λ (o : Opening). x.at) (opening_in x.item)) H.past (this ∷ []));
            read =
                ready.read
                ∙ ap (λ (r : Reading). H.past ++ located_in r)
                (read-record ready.later key at item next e
                ∙ ap (located this) (behind-onward item on (read_from ready.later key next)))
                ∙ sym (append_snoc H.past this (located_in (read_from ready.later key next)));
            same = goes v ∙ ap₂ (judged (length key)) (sym more) reads_on;
          }
