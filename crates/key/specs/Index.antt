-- Where a key's arrays begin, and what the index leaves in its table.
use Rattle.std.specs.Prelude.{Ok}
use Rattle.std.specs.Prelude.{ℕ, ◌+◌, ◌-◌, ◌<◌, ◌≡◌, length, get_or, take}
use mathlib.Core.List.{List, [], ◌∷◌, ◌++◌, map, flat_map}
use Rattle.refusal.specs.Outcome.{given}
use Rattle.records.specs.Kinds.{encoded}
use Rattle.records.specs.Take.{taken_outcome, taken_at}
use Rattle.records.specs.declared.Record.{Record}
use Rattle.arrays.specs.Arrays.{Array, array_at}
use Rattle.key.specs.Before.{opening_in}
use Rattle.key.specs.Check.{checked_key}
use Rattle.key.specs.Encoding.{array_records}
use Rattle.key.specs.KeyArrays.{key_scaled}
use Rattle.key.specs.Reading.{Located, reading_of, located_in}
use Rattle.key.specs.declared.Counts.{Counts}

-- the offsets of the openings among some records
abbrev pub starts_in : List Located → List ℕ
starts_in records = flat_map (λ x. map (λ opening. x.at) (opening_in x.item)) records

-- the offset of each array of a key
abbrev pub starts_of : List ℕ → List ℕ
starts_of key = starts_in (located_in (reading_of key))

-- what the index leaves in its table: where a key is accepted, the first places hold the offset of each array
abbrev pub Indexing : List ℕ → List ℕ → Type 0
Indexing key table = (counts : Counts) → checked_key key ≡ given counts → take (length (starts_of key)) table ≡ starts_of key

-- ---- what the offsets mean

-- the records are taken from a key one behind the other, the first at an offset, and behind the last is the offset `to`
abbrev pub Runs : List ℕ → ℕ → List Record → ℕ → Type 0
Runs key from [] to = from ≡ to
Runs key from (r ∷ records) to =
    (taken_at key from ≡ taken_outcome (Ok (r, (from + length (encoded r))))) ×
    Runs key (from + length (encoded r)) records to

-- The offsets index the arrays of a key: array i's opening is taken at the offset numbered i, and its entries run from there
-- to the next opening or to the end, which is the key's last byte.
pub record Indexes (key starts : List ℕ) (arrays : List Array) : Type 0 where
  pub one_each : length starts ≡ length arrays
  pub runs : (i : ℕ) → i < length arrays →
      Runs key (get_or starts i 0) (array_records (key_scaled key) (array_at arrays i)) (get_or (starts ++ ((length key - 1) ∷ [])) (i + 1) 0)
  pub end : taken_at key (length key - 1) ≡ taken_outcome (Ok (Record.End, (length key)))
