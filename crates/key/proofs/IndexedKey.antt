-- What stands at the offsets of an accepted key that is indexed: each array's opening, and its entries behind it.
use Rattle.std.specs.Prelude.{Ok}
use Prim.Native.Nat.{ℕ, ◌+◌, ◌-◌, ◌≤◌, ◌<◌}
use mathlib.Core.Bool.{Bool, true, false}
use mathlib.Core.List.{List, [], ◌∷◌, ◌++◌}
use mathlib.Core.Path.{◌≡◌, refl, sym, ap, subst, ◌∙◌}
use native.Mathlib.Decide.{dec_lt}
use native.Mathlib.Omega.{arith}
use lib.Dec.{eqb}
use lib.ListN.{length, get_or, get_or-append}
use lib.Seq.{get_or_at}
use Rattle.refusal.specs.Outcome.{given}
use Rattle.records.specs.Kinds.{encoded}
use Rattle.records.specs.Take.{taken_outcome, taken_at}
use Rattle.records.specs.declared.Record.{Record}
use Rattle.records.proofs.PresentIsTaken.{taken-present}
use Rattle.records.proofs.TakeCases.{given-onward}
use Rattle.arrays.specs.Arrays.{Entries, cells, calls, Array, array_at}
use Rattle.arrays.proofs.EachElement.{each_at}
use Rattle.key.specs.Accepted.{Accepted}
use Rattle.key.specs.Encoding.{opening_record, entry_records, head_record, EntriesIn}
use Rattle.key.specs.Check.{checked_key}
use Rattle.key.specs.Index.{starts_of, Runs}
use Rattle.key.specs.Inner.{Stands}
use Rattle.key.specs.Indexed.{Indexed, Sparse, Recursive}
use Rattle.key.specs.KeyArrays.{key_arrays, key_scaled}
use Rattle.key.specs.declared.Counts.{Counts}
use Rattle.key.proofs.Acceptance.{acceptance, first-record}
use Rattle.key.proofs.OpeningShapes.{opening-stands}

opening-length : (k k' : ℕ) (entries : Entries) → length (encoded (opening_record k k' entries)) ≡ 3
opening-length k k' (cells list) = refl
opening-length k k' (calls list) = refl

-- the first byte says the edition
pub edition-byte : (key : List ℕ) (counts : Counts) → checked_key key ≡ given counts →
    (0 < length key) × (eqb (get_or key 0 0) 0x07 ≡ key_scaled key)
edition-byte key counts accepted = first (key_scaled key) counts.rows counts.columns (first-record key counts accepted)
  where
    first : (scaled : Bool) (n n' : ℕ) → taken_at key 0 ≡ taken_outcome (Ok ((head_record scaled n n'), 3)) →
        (0 < length key) × (eqb (get_or key 0 0) 0x07 ≡ scaled)
    first false n n' taken =
        (omega (arith, given-onward key 0 _ taken), ap (λ (k : ℕ). eqb k 0x07) (taken-present key 0 (head_record false n n') 3 taken).0.kind)
    first true n n' taken =
        (omega (arith, given-onward key 0 _ taken), ap (λ (k : ℕ). eqb k 0x07) (taken-present key 0 (head_record true n n') 3 taken).0.kind)

module _ (key starts : List ℕ) (indexed : Indexed key starts) where
  pub accepts : Accepted key indexed.counts
  accepts = acceptance key indexed.counts indexed.accepted

  -- the offset behind an array's entries
  abbrev pub behind_array : ℕ → ℕ
  behind_array i = get_or (starts_of key ++ ((length key - 1) ∷ [])) (i + 1) 0

  module _ (i : ℕ) (l : i < length (key_arrays key)) where
    abbrev own : Array
    own = array_at (key_arrays key) i

    opening : Record
    opening = opening_record own.row_bits own.column_bits own.entries

    opened : taken_at key (get_or starts i 0) ≡ taken_outcome (Ok (opening, (get_or starts i 0 + 3)))
    unfolding opening
    opened =
        subst
        (λ (from : ℕ). taken_at key from ≡ taken_outcome (Ok (opening, (from + 3))))
        (sym (indexed.offsets i l))
        ((accepts.index.runs i l).0
        ∙ ap (λ (n : ℕ). taken_outcome (Ok (opening, (get_or (starts_of key) i 0 + n)))) (opening-length _ _ own.entries))

    -- the entries run from three bytes behind the opening's offset on
    pub entries-run : Runs key (get_or starts i 0 + 3) (entry_records (key_scaled key) own.entries) (behind_array i)
    entries-run =
        subst
        (λ (from : ℕ). Runs key (from + 3) (entry_records (key_scaled key) own.entries) (behind_array i))
        (sym (indexed.offsets i l))
        (subst
        (λ (n : ℕ). Runs key (get_or (starts_of key) i 0 + n) (entry_records (key_scaled key) own.entries) (behind_array i))
        (opening-length _ _ own.entries)
        (accepts.index.runs i l).1)

    -- and they can be written in the key's edition
    pub entries-written : EntriesIn (key_scaled key) own.entries
    entries-written = each_at (λ array. EntriesIn (key_scaled key) array.entries) (key_arrays key) _ accepts.in_edition i l

    pub opening-inside : (get_or starts i 0 + 3 ≤ length key) × (length key ≤ 65536)
    opening-inside = ((given-onward key (get_or starts i 0) _ opened).1, accepts.at_most_65536)

    -- the opening's kind says which entries follow
    pub opens-cells : get_or key (get_or starts i 0) 0 ≡ 2 → Sparse own.entries
    unfolding opening
    opens-cells e = go own.entries opened
      where
        go : (entries : Entries) →
            taken_at key (get_or starts i 0) ≡
            taken_outcome (Ok ((opening_record own.row_bits own.column_bits entries), (get_or starts i 0 + 3))) →
            Sparse entries
        go (cells list) taken = tt
        go (calls list) taken = absurd (omega (arith, e, (taken-present key (get_or starts i 0) (Record.Recursive _) _ taken).0.kind))

    pub opens-calls : (get_or key (get_or starts i 0) 0 ≡ 2 → ⊥) → Recursive own.entries
    unfolding opening
    opens-calls other = go own.entries opened
      where
        go : (entries : Entries) →
            taken_at key (get_or starts i 0) ≡
            taken_outcome (Ok ((opening_record own.row_bits own.column_bits entries), (get_or starts i 0 + 3))) →
            Recursive entries
        go (cells list) taken = absurd (other (taken-present key (get_or starts i 0) (Record.Sparse _) _ taken).0.kind)
        go (calls list) taken = tt

    -- its shape stands behind its kind
    pub opening-shape : Stands key (get_or starts i 0) (record { rows = own.row_bits; columns = own.column_bits })
    unfolding opening
    opening-shape = go own.entries opened
      where
        go : (entries : Entries) →
            taken_at key (get_or starts i 0) ≡
            taken_outcome (Ok ((opening_record own.row_bits own.column_bits entries), (get_or starts i 0 + 3))) →
            Stands key (get_or starts i 0) (record { rows = own.row_bits; columns = own.column_bits })
        go (cells list) e = (opening-stands key (get_or starts i 0) _ (Record.Sparse _) e).0
        go (calls list) e = (opening-stands key (get_or starts i 0) _ (Record.Recursive _) e).0

  pub key-some : 1 ≤ length key
  key-some = let l = (given-onward key (length key - 1) _ accepts.index.end).0 in omega (arith, l)

  module _ (i : ℕ) where
    pub behind-next : i + 1 < length (key_arrays key) → get_or starts (i + 1) 0 ≡ behind_array i
    behind-next l =
        indexed.offsets (i + 1) l
        ∙ sym (get_or-append (starts_of key) ((length key - 1) ∷ []) 0 (i + 1) (omega (arith, l, accepts.index.one_each)))

    pub behind-last : i + 1 ≡ length (key_arrays key) → length key - 1 ≡ behind_array i
    behind-last e = sym (get_or_at (starts_of key) (length key - 1) [] 0 (i + 1) (accepts.index.one_each ∙ sym e))

    pub behind-inside : i < length (key_arrays key) → (behind_array i ≤ length key) × (length key ≤ 65536)
    behind-inside l =
        elim (dec_lt (i + 1) (length (key_arrays key))) [
          | yes m ↦ (omega (arith, behind-next m, opening-inside (i + 1) m), accepts.at_most_65536)
          | no m ↦ (let e : i + 1 ≡ length (key_arrays key) = omega (arith, l, m) in
              (omega (arith, behind-last e), accepts.at_most_65536))
        ]
