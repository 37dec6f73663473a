-- The records of well_formed arrays keep their rules, each behind the head and the arrays' records before it.
use Prim.Native.Nat.{ℕ, ◌-◌, ◌≤◌, ◌<◌}
use mathlib.Core.Bool.{Bool, true, false, not}
use mathlib.Core.List.{List, [], ◌∷◌, ◌++◌, map}
use mathlib.Core.Path.{◌≡◌, refl, sym, ap, ◌∙◌}
use native.Mathlib.Omega.{arith}
use borrow.Author.Tests.{lt-leb, eq-eqb}
use lib.Dec.{eqb}
use lib.ListN.{length, length-append, length-map, get_or-append}
use Rattle.records.specs.declared.Record.{Record}
use Rattle.arrays.specs.Arrays.{Cell, Call, Entries, cells, calls, Array, array_at}
use Rattle.arrays.specs.Placing.{blocks}
use Rattle.arrays.specs.WellFormed.{Each, CellFits, CallFits, EntriesFit, LastOfShape}
use Rattle.rules.specs.Inner.{AllKept}
use Rattle.key.specs.Before.{opening_in, opened, opening_at, open_now, head_of, is_scaled}
use Rattle.key.specs.Check.{rules_of}
use Rattle.key.specs.Encoding.{head_record, cell_record, call_record, opening_record, entry_records}
use Rattle.rules.specs.Rules.{unlike, opening_rules}
use Rattle.rules.specs.declared.Opening.{Opening}
use Rattle.key.proofs.ArraysBefore.{Past, past-entry, not_first-past, opening-at, open-now, array-open}
use Rattle.key.proofs.Encodings.{array_with, call-unopened, opening_of}
use Rattle.key.proofs.KeepsRulesIsAccepted.{Keeping}
use Rattle.key.proofs.NonzeroTest.{not-nought}

-- ---- the head, an opening and the end

pub head-kept : (scaled : Bool) (n n' : ℕ) → n ≤ 30 → n' ≤ 30 → AllKept (rules_of [] (head_record scaled n n'))
unfolding rules_of
head-kept false n n' l l' = (refl, omega (arith, lt-leb))
head-kept true n n' l l' = (refl, omega (arith, lt-leb))

-- both kinds of opening have the same rules
opening-rules : (k k' : ℕ) (entries : Entries) (before : List Record) →
    rules_of before (opening_record k k' entries) ≡
    opening_rules (eqb (length before) 0) (head_of before) (length (opened before)) (record { rows = k; columns = k' })
unfolding rules_of
opening-rules k k' (cells list) before = refl
opening-rules k k' (calls list) before = refl

pub opening-kept : (scaled : Bool) (n n' k k' : ℕ) (entries : Entries) (done : List Array) (before : List Record) → Past scaled n n' done before →
    length done < 1024 → k ≤ n → k' ≤ n' → AllKept (rules_of before (opening_record k k' entries))
opening-kept scaled n n' k k' entries done before past few l l' =
    rw (opening-rules k k' entries before, past.head)
    (not_first-past scaled n n' before done past, omega (arith, lt-leb, ap length past.openings, length-map done opening_of))

-- the same bits
alike : (n k : ℕ) → k ≡ n → unlike n k ≡ false
alike n k e = ap not (eq-eqb k n e)

pub end_kept : (scaled : Bool) (n n' : ℕ) (all : List Array) (before : List Record) → Past scaled n n' all before → LastOfShape n n' all →
    AllKept (rules_of before Record.End)
unfolding rules_of
end_kept scaled n n' all before past last =
    rw (past.head, past.openings, open-now all last.some_array)
    (omega (arith, not-nought, alike, last, length-map all opening_of))

-- ---- the entries of the array that is open

-- a cell behind a sparse opening, and a call behind a recursive one
cell_kept : (k k' : ℕ) (before : List Record) (c : Cell) →
    open_now (opened before) ≡ record { kind = 0x02; shape = record { rows = k; columns = k' } } → CellFits k k' c →
    AllKept (rules_of before (cell_record c))
unfolding rules_of
cell_kept k k' before c now fits = rw now (refl, omega (arith, lt-leb, fits))

call_kept : (scaled : Bool) (all : List Array) (i k k' : ℕ) (before : List Record) (c : Call) → is_scaled before ≡ scaled →
    open_now (opened before) ≡ record { kind = 0x03; shape = record { rows = k; columns = k' } } →
    length (opened before) - 1 ≡ i → opening_at (opened before) c.id ≡ opening_of (array_at all c.id) →
    CallFits blocks blocks all i k k' c → AllKept (rules_of before (call_record scaled c))
unfolding rules_of
call_kept false all i k k' before c edition now own called fits =
    rw (edition, now, own, called) (refl, (refl, omega (arith, lt-leb, fits)))
call_kept true all i k k' before c edition now own called fits =
    rw (edition, now, own, called) (refl, (refl, omega (arith, lt-leb, fits)))

-- entries that open no array, each of which keeps its rules behind the same openings
list-kept : (scaled : Bool) (n n' : ℕ) (arrays : List Array) {A : Type 0} (item : A → Record) (P : A → Type 0) →
    ((x : A) → opening_in (item x) ≡ []) →
    ((before : List Record) (x : A) → Past scaled n n' arrays before → P x → AllKept (rules_of before (item x))) →
    (list : List A) (before : List Record) → Past scaled n n' arrays before → Each P list → Keeping before (map item list)
list-kept scaled n n' arrays item P none keeps [] before past fit = tt
list-kept scaled n n' arrays item P none keeps (x ∷ list) before past fit = (
  keeps before x past fit.0,
  list-kept scaled n n' arrays item P none keeps list (before ++ (item x ∷ []))
      (past-entry scaled n n' before arrays (item x) past (none x)) fit.1,
)

-- an array's entries, behind its opening and the arrays that are done
pub entries-kept : (scaled : Bool) (n n' : ℕ) (all done todo : List Array) (k k' : ℕ) (entries : Entries) →
    all ≡ (done ++ (array_with k k' entries ∷ [])) ++ todo → (before : List Record) →
    Past scaled n n' (done ++ (array_with k k' entries ∷ [])) before → EntriesFit blocks blocks all (length done) k k' entries →
    Keeping before (entry_records scaled entries)
entries-kept scaled n n' all done todo k k' (cells list) e before past fit =
    list-kept scaled n n' (done ++ (array_with k k' (cells list) ∷ [])) cell_record (CellFits k k') (λ c. refl)
    (λ earlier c held fits.
    cell_kept k k' earlier c (ap open_now held.openings ∙ array-open done (array_with k k' (cells list))) fits)
    list before past fit
entries-kept scaled n n' all done todo k k' (calls list) e before past fit =
    list-kept scaled n n' sofar (call_record scaled) (CallFits blocks blocks all (length done) k k') (call-unopened scaled)
    (λ earlier c held fits.
    call_kept scaled all (length done) k k' earlier c held.edition
    (ap open_now held.openings ∙ array-open done array)
    (ap (λ (l : List Opening). length l - 1) held.openings ∙ ap (λ (m : ℕ). m - 1) (length-map sofar opening_of) ∙ own)
    (ap (λ (l : List Opening). opening_at l c.id) held.openings ∙ called c.id fits.earlier)
    fits)
    list before past fit
  where
    array : Array
    array = array_with k k' (calls list)

    sofar : List Array
    sofar = done ++ (array ∷ [])

    own : length sofar - 1 ≡ length done
    own = omega (arith, length-append done (array ∷ []))

    called : (id : ℕ) → id < length done → opening_at (map opening_of sofar) id ≡ opening_of (array_at all id)
    called id h =
        let within : id < length sofar = omega (arith, own) in
        opening-at sofar id within
        ∙ ap opening_of (sym (ap (λ (l : List Array). array_at l id) e ∙ get_or-append sofar todo _ id within))
