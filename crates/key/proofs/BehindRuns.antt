-- Behind a run of entries, a head or an opening the walk stands where it would have come to record by record.
use Rattle.std.specs.Prelude.{Ok}
use Prim.Native.Nat.{ℕ, min, ◌+◌, ◌-◌, ◌*◌, ◌/◌, ◌≤◌, ◌<◌}
use mathlib.Core.Bool.{Bool, true, false}
use mathlib.Core.List.{List, [], ◌∷◌, map}
use mathlib.Core.Path.{◌≡◌, refl, sym, ap, ap₂, subst, ◌∙◌}
use native.Mathlib.Decide.{ℕ_discrete}
use native.Mathlib.Omega.{arith}
use borrow.Author.Tests.{leb-false}
use lib.ListN.{length, get_or, drop, set}
use Rattle.records.specs.Kinds.{kind_of, shape_fields, encoded}
use Rattle.records.specs.Layout.{fields_in}
use Rattle.records.specs.Take.{taken_outcome, taken_at}
use Rattle.records.specs.declared.Cell.{Cell}
use Rattle.records.specs.declared.Record.{Record}
use Rattle.records.specs.declared.Shape.{Shape}
use Rattle.records.proofs.PresentIsTaken.{present-taken}
use Rattle.records.proofs.TakeCases.{given-onward}
use Rattle.arrays.specs.WellFormed.{Each}
use Rattle.key.specs.Before.{count_of}
use Rattle.key.specs.Check.{rules_behind}
use Rattle.key.specs.Encoding.{head_record}
use Rattle.key.specs.Index.{Runs}
use Rattle.rules.specs.Inner.{call_rules_in, scaled_call_rules_in, AllKept}
use Rattle.key.specs.Inner.{IsEntry, rules_seen, seen_in, opening, passed, after, Run, Here}
use Rattle.rules.specs.Rules.{Rule, head_rules, cell_rules, opening_rules}
use Rattle.key.specs.declared.seen.Seen.{Seen}
use Rattle.key.proofs.CheckSoFar.{begins}
use Rattle.rules.proofs.Verdicts.{kept-held}
use Rattle.key.proofs.CheckOneRecord.{goes_on}

-- ---- one entry

-- an entry that keeps its rules is passed, and the table stays
pub entry-passed : {key starts : List ℕ} {seen : Seen} {at : ℕ} (item : Record) → IsEntry item → Here key starts seen at →
    taken_at key at ≡ taken_outcome (Ok (item, (at + length (encoded item)))) → at + length (encoded item) ≤ length key →
    AllKept (rules_seen seen key starts item) → Here key starts (after seen item) (at + length (encoded item))
unfolding rules_behind
entry-passed (Record.Head shape) entry H e room kept = absurd entry
entry-passed (Record.Sparse shape) entry H e room kept = absurd entry
entry-passed (Record.Recursive shape) entry H e room kept = absurd entry
entry-passed {seen = seen} {at = at} (Record.Cell cell) entry H e room kept =
    goes_on H (Record.Cell cell) _ e (kept-held (Ok tt) at (cell_rules seen.array cell) kept refl) refl (omega arith) room
entry-passed {key = key} {starts = starts} {seen = seen} {at = at} (Record.Call call) entry H e room kept =
    goes_on H (Record.Call call) _ e
    (kept-held (Ok tt) at (call_rules_in key starts seen.scaled seen.array seen.arrays call) kept refl) refl (omega arith) room
entry-passed Record.End entry H e room kept = absurd entry
entry-passed (Record.ScaledHead shape) entry H e room kept = absurd entry
entry-passed {key = key} {starts = starts} {seen = seen} {at = at} (Record.ScaledCall call) entry H e room kept =
    goes_on H (Record.ScaledCall call) _ e
    (kept-held (Ok tt) at (scaled_call_rules_in key starts seen.scaled seen.array seen.arrays call) kept refl) refl (omega arith)
    room

-- behind an entry the rules of entries are what they were
rules-stay : (seen : Seen) (key starts : List ℕ) (item other : Record) → IsEntry item → IsEntry other →
    rules_seen (after seen item) key starts other ≡ rules_seen seen key starts other
rules-stay seen key starts (Record.Cell a) (Record.Cell b) entry again = refl
rules-stay seen key starts (Record.Cell a) (Record.Call b) entry again = refl
rules-stay seen key starts (Record.Call a) (Record.Cell b) entry again = refl
rules-stay seen key starts (Record.Call a) (Record.Call b) entry again = refl
rules-stay seen key starts (Record.Cell a) (Record.ScaledCall b) entry again = refl
rules-stay seen key starts (Record.Call a) (Record.ScaledCall b) entry again = refl
rules-stay seen key starts (Record.ScaledCall a) (Record.Cell b) entry again = refl
rules-stay seen key starts (Record.ScaledCall a) (Record.Call b) entry again = refl
rules-stay seen key starts (Record.ScaledCall a) (Record.ScaledCall b) entry again = refl
rules-stay seen key starts (Record.Head _) other entry again = elim entry [ ]
rules-stay seen key starts (Record.Sparse _) other entry again = elim entry [ ]
rules-stay seen key starts (Record.Recursive _) other entry again = elim entry [ ]
rules-stay seen key starts (Record.Cell a) (Record.Head _) entry again = elim again [ ]
rules-stay seen key starts (Record.Cell a) (Record.Sparse _) entry again = elim again [ ]
rules-stay seen key starts (Record.Cell a) (Record.Recursive _) entry again = elim again [ ]
rules-stay seen key starts (Record.Cell a) Record.End entry again = elim again [ ]
rules-stay seen key starts (Record.Cell a) (Record.ScaledHead _) entry again = elim again [ ]
rules-stay seen key starts (Record.Call a) (Record.Head _) entry again = elim again [ ]
rules-stay seen key starts (Record.Call a) (Record.Sparse _) entry again = elim again [ ]
rules-stay seen key starts (Record.Call a) (Record.Recursive _) entry again = elim again [ ]
rules-stay seen key starts (Record.Call a) Record.End entry again = elim again [ ]
rules-stay seen key starts (Record.Call a) (Record.ScaledHead _) entry again = elim again [ ]
rules-stay seen key starts Record.End other entry again = elim entry [ ]
rules-stay seen key starts (Record.ScaledHead _) other entry again = elim entry [ ]
rules-stay seen key starts (Record.ScaledCall a) (Record.Head _) entry again = elim again [ ]
rules-stay seen key starts (Record.ScaledCall a) (Record.Sparse _) entry again = elim again [ ]
rules-stay seen key starts (Record.ScaledCall a) (Record.Recursive _) entry again = elim again [ ]
rules-stay seen key starts (Record.ScaledCall a) Record.End entry again = elim again [ ]
rules-stay seen key starts (Record.ScaledCall a) (Record.ScaledHead _) entry again = elim again [ ]

-- ---- a run of entries

-- what is seen behind some records
abbrev after_all : Seen → List Record → Seen
after_all seen [] = seen
after_all seen (r ∷ records) = after_all (after seen r) records

-- records that run lie within the key
runs-inside : (key : List ℕ) (from : ℕ) (records : List Record) (to : ℕ) → Runs key from records to → from ≤ length key →
    (from ≤ to) × (to ≤ length key)
runs-inside key from [] to run inside = omega (arith, run, inside)
runs-inside key from (r ∷ records) to run inside =
    let o = given-onward key from _ run.0 in
    omega (arith, o, runs-inside key (from + length (encoded r)) records to run.1 o.1)

pub run_inside : {A : Type 0} {key : List ℕ} {item : A → Record} {rules : A → List Rule} {from to : ℕ} → Run key item rules from to →
    from ≤ length key → (from ≤ to) × (to ≤ length key)
run_inside {item = item} run inside = runs-inside _ _ (map item run.entries) _ run.runs inside

module _ {A : Type 0} (item : A → Record) (entry : (x : A) → IsEntry (item x)) (key starts : List ℕ) where
  -- the walk stands behind the entries that a run goes over
  run-walked : (list : List A) (seen : Seen) (from to : ℕ) → Here key starts seen from → Runs key from (map item list) to →
      Each (λ (x : A). AllKept (rules_seen seen key starts (item x))) list → Here key starts (after_all seen (map item list)) to
  run-walked [] seen from to H runs kept = subst (λ (n : ℕ). Here key starts seen n) runs H
  run-walked (x ∷ list) seen from to H runs kept =
      run-walked list (after seen (item x)) (from + length (encoded (item x))) to
      (entry-passed (item x) (entry x) H runs.0 (given-onward key from _ runs.0).1 kept.0)
      runs.1 (stay list kept.1)
    where
      stay : (list : List A) → Each (λ (y : A). AllKept (rules_seen seen key starts (item y))) list →
          Each (λ (y : A). AllKept (rules_seen (after seen (item x)) key starts (item y))) list
      stay [] all = tt
      stay (y ∷ list) all =
          (subst AllKept (sym (rules-stay seen key starts (item x) (item y) (entry x) (entry y))) all.0, stay list all.1)

  -- entries of one width
  run-width : (width : ℕ) → ((x : A) → length (encoded (item x)) ≡ width) → (list : List A) (from to : ℕ) →
      Runs key from (map item list) to → to ≡ from + width * length list
  run-width width wide [] from to runs = omega (arith, runs)
  run-width width wide (x ∷ list) from to runs =
      omega (arith, run-width width wide list (from + length (encoded (item x))) to runs.1, wide x)

-- so many cells and calls more
abbrev more : Seen → ℕ → ℕ → Seen
more seen cells calls = passed seen seen.scaled seen.head (seen.cells + cells) (seen.calls + calls)

none_more : (seen : Seen) → seen.first ≡ false → seen ≡ more seen 0 0
none_more seen first =
    let cells : seen.cells ≡ seen.cells + 0 = omega arith in
    let calls : seen.calls ≡ seen.calls + 0 = omega arith in
    λ i. record {
      first = first i;
      scaled = seen.scaled;
      head = seen.head;
      array = seen.array;
      arrays = seen.arrays;
      cells = cells i;
      calls = calls i;
    }

more-more : (seen : Seen) (cells calls cells' calls' : ℕ) → more (more seen cells calls) cells' calls' ≡ more seen (cells + cells') (calls + calls')
more-more seen cells calls cells' calls' =
    let e : seen.cells + cells + cells' ≡ seen.cells + (cells + cells') = omega arith in
    let f : seen.calls + calls + calls' ≡ seen.calls + (calls + calls') = omega arith in
    ap₂ (passed seen seen.scaled seen.head) e f

-- the counts behind entries of one kind, each of which adds so many
entries-counted : {A : Type 0} (item : A → Record) (cells calls : ℕ) →
    ((seen : Seen) (x : A) → after seen (item x) ≡ more seen cells calls) → (list : List A) (seen : Seen) → seen.first ≡ false →
    after_all seen (map item list) ≡ more seen (cells * length list) (calls * length list)
entries-counted item cells calls each [] seen first =
    let e : 0 ≡ cells * 0 = omega arith in
    let f : 0 ≡ calls * 0 = omega arith in
    none_more seen first ∙ ap₂ (more seen) e f
entries-counted item cells calls each (x ∷ list) seen first =
    let e : cells + cells * length list ≡ cells * length (x ∷ list) = omega arith in
    let f : calls + calls * length list ≡ calls * length (x ∷ list) = omega arith in
    ap (λ (s : Seen). after_all s (map item list)) (each seen x)
    ∙ entries-counted item cells calls each list (more seen cells calls) refl
    ∙ more-more seen cells calls (cells * length list) (calls * length list) ∙ ap₂ (more seen) e f

cell-seen : (seen : Seen) (c : Cell) → after seen (Record.Cell c) ≡ more seen 1 0
cell-seen seen c =
    let calls : seen.calls ≡ seen.calls + 0 = omega arith in
    ap (passed seen seen.scaled seen.head (seen.cells + 1)) calls

call-seen : (seen : Seen) → passed seen seen.scaled seen.head seen.cells (seen.calls + 1) ≡ more seen 0 1
call-seen seen =
    let cells : seen.cells ≡ seen.cells + 0 = omega arith in
    ap (λ (n : ℕ). passed seen seen.scaled seen.head n (seen.calls + 1)) cells

-- behind a run the walk stands where it would have come to one by one
module _ {key starts : List ℕ} {seen : Seen} {from to : ℕ} (H : Here key starts seen from) (first : seen.first ≡ false) where
  walked : {A : Type 0} (item : A → Record) → ((x : A) → IsEntry (item x)) → (width cells calls : ℕ) →
      ((x : A) → length (encoded (item x)) ≡ width) → ((seen : Seen) (x : A) → after seen (item x) ≡ more seen cells calls) →
      (run : Run key item (λ x. rules_seen seen key starts (item x)) from to) → (all-cells all-calls : ℕ) →
      (to ≡ from + width * length run.entries →
      (all-cells ≡ cells * length run.entries) × (all-calls ≡ calls * length run.entries)) →
      Here key starts (more seen all-cells all-calls) to
  walked item entry width cells calls wide each run all-cells all-calls are =
      let counts = are (run-width item entry key starts width wide run.entries from to run.runs) in
      subst (λ (s : Seen). Here key starts s to)
      (entries-counted item cells calls each run.entries seen first ∙ ap₂ (more seen) (sym counts.0) (sym counts.1))
      (run-walked item entry key starts run.entries seen from to H run.runs run.kept)

  pub cells-walked : Run key Record.Cell (cell_rules seen.array) from to →
      Here key starts (passed seen seen.scaled seen.head (seen.cells + (to - from) / 21) (seen.calls + 0)) to
  cells-walked run =
      walked Record.Cell (λ c. tt) 21 1 0 (λ c. refl) cell-seen run ((to - from) / 21) 0 (λ e. omega (arith, e))

  pub calls-walked : seen.scaled ≡ false → Run key Record.Call (call_rules_in key starts false seen.array seen.arrays) from to →
      Here key starts (passed seen seen.scaled seen.head (seen.cells + 0) (seen.calls + (to - from) / 11)) to
  calls-walked one run =
      walked Record.Call (λ c. tt) 11 0 1 (λ c. refl) (λ s c. call-seen s)
      (subst (λ (b : Bool). Run key Record.Call (call_rules_in key starts b seen.array seen.arrays) from to) (sym one) run)
      0 ((to - from) / 11) (λ e. omega (arith, e))

  pub scaled-calls-walked : seen.scaled ≡ true →
      Run key Record.ScaledCall (scaled_call_rules_in key starts true seen.array seen.arrays) from to →
      Here key starts (passed seen seen.scaled seen.head (seen.cells + 0) (seen.calls + (to - from) / 15)) to
  scaled-calls-walked two run =
      walked Record.ScaledCall (λ c. tt) 15 0 1 (λ c. refl) (λ s c. call-seen s)
      (subst (λ (b : Bool). Run key Record.ScaledCall (scaled_call_rules_in key starts b seen.array seen.arrays) from to) (sym two) run)
      0 ((to - from) / 15) (λ e. omega (arith, e))

-- ---- a head and an opening

-- a head that keeps its rules is passed, as the first record
module _ (key starts : List ℕ) (short : length key ≤ 65536) (places : min 1024 (length key / 3) ≤ length starts) (shape : Shape)
    (room : 3 ≤ length key) (fields : shape_fields shape ≡ fields_in (1 ∷ 1 ∷ []) (drop 1 key)) (kept : AllKept (head_rules true shape)) where
  pub head_passed : (scaled : Bool) → get_or key 0 0 ≡ kind_of (head_record scaled shape.rows shape.columns) →
      Here key starts (passed (seen_in []) scaled shape 0 0) 3
  unfolding rules_behind count_of
  head_passed false kind =
      goes_on (begins key starts short places) (Record.Head shape) 3
      (present-taken key 0 (Record.Head shape) (record { kind = kind; room = room; fields = fields }))
      (kept-held (Ok tt) 0 (head_rules true shape) kept refl) refl (omega arith) room
  head_passed true kind =
      goes_on (begins key starts short places) (Record.ScaledHead shape) 3
      (present-taken key 0 (Record.ScaledHead shape) (record { kind = kind; room = room; fields = fields }))
      (kept-held (Ok tt) 0 (head_rules true shape) kept refl) refl (omega arith) room

-- an opening that keeps its rules is passed, and its offset noted
pub opening-passed : {key starts : List ℕ} {seen : Seen} {at : ℕ} → Here key starts seen at → (kind : ℕ) (shape : Shape) → 2 ≤ kind → kind ≤ 3 →
    kind ≡ get_or key at 0 → at + 3 ≤ length key → shape_fields shape ≡ fields_in (1 ∷ 1 ∷ []) (drop (at + 1) key) →
    AllKept (opening_rules seen.first seen.head seen.arrays shape) →
    Here key (set starts seen.arrays at) (opening seen kind shape) (at + 3)
unfolding rules_behind
opening-passed {key = key} {starts = starts} {seen = seen} {at = at} H kind shape low high is room fields kept =
    let held = kept-held (Ok tt) at (opening_rules seen.first seen.head seen.arrays shape) kept refl in
    elim (ℕ_discrete kind 2) [
      | yes e ↦ subst Behind (sym e)
          (goes_on H (Record.Sparse shape) (at + 3)
          (present-taken key at (Record.Sparse shape) (record { kind = sym is ∙ e; room = room; fields = fields })) held refl
          (omega arith) room)
      | no other ↦ (let e : kind ≡ 3 = omega (arith, other, low, high) in
          subst Behind (sym e)
          (goes_on H (Record.Recursive shape) (at + 3)
          (present-taken key at (Record.Recursive shape) (record { kind = sym is ∙ e; room = room; fields = fields })) held refl
          (omega arith) room))
    ]
  where
    Behind : ℕ → Type 0
    Behind k = Here key (set starts seen.arrays at) (opening seen k shape) (at + 3)

pub arrays-fewer : (first : Bool) (head : Shape) (arrays : ℕ) (shape : Shape) → AllKept (opening_rules first head arrays shape) →
    arrays < 1024
arrays-fewer first head arrays shape kept = leb-false 1024 arrays kept.1.0
