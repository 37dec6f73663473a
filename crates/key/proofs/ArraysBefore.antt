-- What the records before a record say where they are a head and the records of some arrays.
use Prim.Native.Nat.{ℕ, zero, suc, ◌-◌, ◌<◌}
use mathlib.Core.Bool.{Bool, false}
use mathlib.Core.List.{flat_map, List, [], ◌∷◌, ◌++◌, map, map-append, append-nil}
use mathlib.Core.Path.{◌≡◌, refl, sym, ap, ◌∙◌}
use native.Mathlib.Omega.{arith}
use lib.Dec.{eqb}
use lib.ListN.{length, get_or, length-append, length-map}
use Rattle.records.specs.declared.Record.{Record}
use Rattle.arrays.specs.Arrays.{cells, Array, array_at}
use Rattle.key.specs.Before.{opening_in, opened, opening_at, open_now, shape_in, head_of, is_scaled_head, is_scaled}
use Rattle.rules.specs.declared.Opening.{Opening}
use Rattle.key.proofs.Encodings.{opening_of}
use Rattle.key.proofs.JoinedLists.{flat_map-append}
use Rattle.key.proofs.NonzeroTest.{not-nought}
use Rattle.key.proofs.RecordsBefore.{open-last, first-stays}

-- some records, the first a head of an edition, of n row bits and n' column bits, open these arrays
pub record Past (scaled : Bool) (n n' : ℕ) (arrays : List Array) (before : List Record) : Type 0 where
  pub some-record : 0 < length before
  pub edition : is_scaled before ≡ scaled
  pub head : head_of before ≡ record { rows = n; columns = n' }
  pub openings : opened before ≡ map opening_of arrays

module _ (scaled : Bool) (n n' : ℕ) (before : List Record) where
  -- more records open more arrays
  pub past-append : (arrays more : List Array) (records : List Record) → Past scaled n n' arrays before →
      opened records ≡ map opening_of more → Past scaled n n' (arrays ++ more) (before ++ records)
  past-append arrays more records past e =
      record {
        some-record = omega (arith, past.some-record, length-append before records);
        edition = ap is_scaled_head (first-stays before records past.some-record) ∙ past.edition;
        head = ap shape_in (first-stays before records past.some-record) ∙ past.head;
        openings =
            flat_map-append opening_in before records
            ∙ ap (λ (l : List Opening). l ++ opened records) past.openings
            ∙ ap (λ (l : List Opening). map opening_of arrays ++ l) e
            ∙ sym (map-append opening_of arrays more);
      }

  -- a cell or a call opens none
  pub past-entry : (arrays : List Array) (r : Record) → Past scaled n n' arrays before → opening_in r ≡ [] →
      Past scaled n n' arrays (before ++ (r ∷ []))
  unfolding flat_map
  past-entry arrays r past e =
      rw (append-nil arrays) at
      (past-append arrays [] (r ∷ []) past (append-nil (opening_in r) ∙ e))

  pub not_first-past : (arrays : List Array) → Past scaled n n' arrays before → eqb (length before) 0 ≡ false
  not_first-past arrays past = not-nought (length before) past.some-record

-- ---- the openings of some arrays

-- an image, within the list, whatever is taken beyond it
get_d_map : {A B : Type 0} (f : A → B) (xs : List A) (i : ℕ) (a : A) (b : B) → i < length xs → get_or (map f xs) i b ≡ f (get_or xs i a)
get_d_map f [] i a b l = absurd (omega arith)
get_d_map f (x ∷ xs) zero a b l = refl
get_d_map f (x ∷ xs) (suc i) a b l = get_d_map f xs i a b (omega arith)

pub opening-at : (arrays : List Array) (i : ℕ) → i < length arrays → opening_at (map opening_of arrays) i ≡ opening_of (array_at arrays i)
opening-at arrays i h =
    get_d_map opening_of arrays i (record { row_bits = 0; column_bits = 0; entries = cells [] })
    (record { kind = 0; shape = record { rows = 0; columns = 0 } }) h

pub open-now : (arrays : List Array) → 0 < length arrays →
    open_now (map opening_of arrays) ≡ opening_of (array_at arrays (length arrays - 1))
open-now arrays h =
    ap (λ (n : ℕ). opening_at (map opening_of arrays) (n - 1)) (length-map arrays opening_of)
    ∙ opening-at arrays (length arrays - 1) (omega arith)

-- behind an array's opening that array is open
pub array-open : (done : List Array) (array : Array) → open_now (map opening_of (done ++ (array ∷ []))) ≡ opening_of array
array-open done array = ap open_now (map-append opening_of done (array ∷ [])) ∙ open-last (map opening_of done) (opening_of array)
