-- What check answers for a key (01, 'An accepted key' and 'Order'; 02, E9). The records before are all that a judgement of a record
-- goes by.
use Rattle.std.specs.Prelude.{Result, ℕ, ◌-◌, cond, List, [], ◌∷◌, ◌++◌, ltb, eqb, length}
use Rattle.refusal.specs.Outcome.{Outcome, given, refused, refuse, outcome}
use Rattle.refusal.specs.declared.Reason.{Reason}
use Rattle.refusal.specs.declared.Refusal.{Refusal}
use Rattle.records.specs.declared.Record.{Record}
use Rattle.rules.specs.Rules.{Rule, head_rules, opening_rules, cell_rules, call_rules, scaled_call_rules, end_rules, after_rules}
use Rattle.key.specs.Before.{opened, opening_at, open_now, head_of, is_scaled, count_of, call_count}
use Rattle.key.specs.Reading.{Located, Reading, ended, stopped, located, is_end, reading_of}
use Rattle.key.specs.declared.Counts.{Counts}

-- what is answered: the counts of an accepted key, with n and n'
abbrev pub checked_outcome : Result Counts Refusal → Outcome Counts
checked_outcome = outcome

-- the first of some rules that is broken refuses, at a place; where all are kept, `rest` answers
unfoldable pub first_broken : {A : Type 0} → ℕ → List Rule → Outcome A → Outcome A
first_broken place [] rest = rest
first_broken place (rule ∷ rules) rest = cond rule.broken (refuse rule.reason place) (first_broken place rules rest)

-- the rules of a record, by the records before it
unfoldable pub rules_of : List Record → Record → List Rule
rules_of before (Record.Head shape) = head_rules (eqb (length before) 0) shape
rules_of before (Record.Sparse shape) =
    opening_rules (eqb (length before) 0) (head_of before) (length (opened before)) shape
rules_of before (Record.Recursive shape) =
    opening_rules (eqb (length before) 0) (head_of before) (length (opened before)) shape
rules_of before (Record.Cell cell) = cell_rules (open_now (opened before)) cell
rules_of before (Record.Call call) =
    call_rules (is_scaled before) (open_now (opened before)) (length (opened before) - 1)
    (opening_at (opened before) call.id).shape call
rules_of before Record.End = end_rules (head_of before) (length (opened before)) (open_now (opened before))
rules_of before (Record.ScaledHead shape) = head_rules (eqb (length before) 0) shape
rules_of before (Record.ScaledCall call) =
    scaled_call_rules (is_scaled before) (open_now (opened before)) (length (opened before) - 1)
    (opening_at (opened before) call.id).shape call

-- what may stand behind a record, up to the key's length: behind an end, nothing
unfoldable pub rules_behind : Record → ℕ → ℕ → List Rule
rules_behind r next len = cond (is_end r) (after_rules next len) []

-- a record is held to its rules at its offset, and then to those behind it at the offset there
abbrev pub judged_by : {A : Type 0} → ℕ → List Record → Located → Outcome A → Outcome A
judged_by len before x rest =
    first_broken x.at (rules_of before x.item) (first_broken x.next (rules_behind x.item x.next len) rest)

-- an accepted key's counts of arrays, cells and calls over its records, and the head's n and n'
abbrev pub counts_of : List Record → Counts
counts_of records =
    record {
      arrays = length (opened records);
      cells = count_of 0x04 records;
      calls = call_count records;
      rows = (head_of records).rows;
      columns = (head_of records).columns;
    }

-- Record by record: the check stops at the first that cannot be taken or breaks a rule. `len` is the key's length.
unfoldable pub judged : ℕ → List Record → Reading → Outcome Counts
judged len before ended = given (counts_of before)
judged len before (stopped number place) = refused number place
judged len before (located x rest) = judged_by len before x (judged len (before ++ (x.item ∷ [])) rest)

-- a key over 65,536 bytes is refused before all else
unfoldable pub checked_key : List ℕ → Outcome Counts
checked_key key = cond (ltb 65536 (length key)) (refuse Reason.KeyTooLong 65536) (judged (length key) [] (reading_of key))
