-- What one record more changes in what the records before say, and that they open and count no more than they are.
use Prim.Native.Nat.{ℕ, ◌+◌, ◌-◌, ◌≤◌, ◌<◌}
use mathlib.Core.Bool.{Bool, true, false, cond}
use mathlib.Core.List.{flat_map, List, [], ◌∷◌, ◌++◌, append-nil}
use mathlib.Core.Path.{◌≡◌, refl, sym, ap, ◌∙◌}
use native.Mathlib.Nat.{add_assoc}
use native.Mathlib.Omega.{arith}
use borrow.Author.Tests.{eqb-true, not-false}
use lib.Dec.{eqb}
use lib.ListN.{length, length-append}
use lib.Seq.{get_or_at}
use Rattle.records.specs.Kinds.{kind_of}
use Rattle.records.specs.declared.Record.{Record}
use Rattle.key.specs.Before.{opening_in, opened, open_now, first_of, count_of, call_count}
use Rattle.rules.specs.Rules.{not_open}
use Rattle.rules.specs.declared.Opening.{Opening}
use Rattle.key.proofs.JoinedLists.{flat_map-append}

pub count-append : (kind : ℕ) (records more : List Record) → count_of kind (records ++ more) ≡ count_of kind records + count_of kind more
unfolding count_of
count-append kind [] more = omega arith
count-append kind (r ∷ records) more =
    ap (λ (n : ℕ). cond (eqb (kind_of r) kind) 1 0 + n) (count-append kind records more)
    ∙ sym (add_assoc (cond (eqb (kind_of r) kind) 1 0) (count_of kind records) (count_of kind more))

-- the openings behind one record more
pub opened_one : (before : List Record) (item : Record) → opened (before ++ (item ∷ [])) ≡ opened before ++ opening_in item
unfolding flat_map
opened_one before item = flat_map-append opening_in before (item ∷ []) ∙ ap (λ (o : List Opening). opened before ++ o) (append-nil (opening_in item))

at_most_one : (b : Bool) → cond b 1 0 ≤ 1
at_most_one true = omega arith
at_most_one false = omega arith

at-most-one-call : (r : Record) → cond (eqb (kind_of r) 0x05) 1 0 + cond (eqb (kind_of r) 0x08) 1 0 ≤ 1
at-most-one-call (Record.Head shape) = omega arith
at-most-one-call (Record.Sparse shape) = omega arith
at-most-one-call (Record.Recursive shape) = omega arith
at-most-one-call (Record.Cell cell) = omega arith
at-most-one-call (Record.Call call) = omega arith
at-most-one-call Record.End = omega arith
at-most-one-call (Record.ScaledHead shape) = omega arith
at-most-one-call (Record.ScaledCall call) = omega arith

-- some records have no more of a kind among them than they are, and open no more arrays
pub count_most : (kind : ℕ) (records : List Record) → count_of kind records ≤ length records
unfolding count_of
count_most kind [] = omega arith
count_most kind (r ∷ records) = omega (arith, at_most_one (eqb (kind_of r) kind), count_most kind records)

-- nor more calls
pub calls-most : (records : List Record) → call_count records ≤ length records
unfolding count_of
calls-most [] = omega arith
calls-most (r ∷ records) = omega (arith, at-most-one-call r, calls-most records)

pub one-opening : (r : Record) → length (opening_in r) ≤ 1
one-opening (Record.Head shape) = omega arith
one-opening (Record.Sparse shape) = omega arith
one-opening (Record.Recursive shape) = omega arith
one-opening (Record.Cell cell) = omega arith
one-opening (Record.Call call) = omega arith
one-opening Record.End = omega arith
one-opening (Record.ScaledHead shape) = omega arith
one-opening (Record.ScaledCall call) = omega arith

pub opened-most : (records : List Record) → length (opened records) ≤ length records
unfolding flat_map
opened-most [] = omega arith
opened-most (r ∷ records) = omega (arith, length-append (opening_in r) (opened records), one-opening r, opened-most records)

-- ---- the array that is open

pub open-last : (openings : List Opening) (o : Opening) → open_now (openings ++ (o ∷ [])) ≡ o
open-last openings o =
    get_or_at openings o [] (record { kind = 0; shape = record { rows = 0; columns = 0 } }) (length (openings ++ (o ∷ [])) - 1)
    (omega (arith, length-append openings (o ∷ [])))

-- ---- the head

-- behind the first record the head is known
pub first-stays : (records more : List Record) → 0 < length records → first_of (records ++ more) ≡ first_of records
first-stays [] more some = absurd (omega arith)
first-stays (r ∷ records) more some = refl

-- where an array of a kind is open, one was opened
pub some-open : (openings : List Opening) (kind : ℕ) → 0 < kind → not_open kind (open_now openings).kind ≡ false → 0 < length openings
some-open [] kind some e = omega (arith, eqb-true 0 kind (not-false _ e))
some-open (o ∷ openings) kind some e = omega arith
