-- The rules that a record must keep, in the order of 01's 'Order' (02, E9 for those of edition 2), each with the reason for which it
-- refuses. `scaled` says whether the key is of edition 2. n and n' are the head's bits, k and k' those of the array that is
-- open, K and K' those of a called one.
use Rattle.std.specs.Prelude.{ℕ, ◌-◌, ◌^◌, Bool, not, List, [], ◌∷◌, ltb, leb, eqb}
use Rattle.refusal.specs.declared.Reason.{Reason}
use Rattle.field.specs.Fp.{p}
use Rattle.records.specs.Kinds.{without_factor}
use Rattle.records.specs.declared.Call.{Call}
use Rattle.records.specs.declared.Cell.{Cell}
use Rattle.records.specs.declared.ScaledCall.{ScaledCall}
use Rattle.records.specs.declared.Shape.{Shape}
use Rattle.rules.specs.declared.Opening.{Opening}

-- ---- what breaks a rule, in plain numbers

-- 4: a head that is not the first record, or another record that is
abbrev pub not_first : Bool → Bool
not_first first = not first

abbrev pub no_head : Bool → Bool
no_head first = first

-- 4: a cell or a call where the array that is open is not of its kind
abbrev pub not_open : ℕ → ℕ → Bool
not_open wanted kind = not (eqb kind wanted)

-- 4: a call of one edition in a key of the other
abbrev pub edition_two : Bool → Bool
edition_two scaled = scaled

abbrev pub edition_one : Bool → Bool
edition_one scaled = not scaled

-- 4: an end before any array
abbrev pub no_array : ℕ → Bool
no_array opened = eqb opened 0

-- 6: a 1,025th array
abbrev pub arrays_over : ℕ → Bool
arrays_over opened = leb 1024 opened

-- 5: bits over 30, or over the head's
abbrev pub bits_over : ℕ → ℕ → Bool
bits_over most bits = ltb most bits

-- 7: a row or a column outside an array of these bits
abbrev pub outside : ℕ → ℕ → Bool
outside k address = leb (2 ^ k) address

-- 8: a value or a factor of p or more
abbrev pub p_or_more : ℕ → Bool
p_or_more value = leb p value

-- 9: an id not below the number of its own array
abbrev pub not_earlier : ℕ → ℕ → Bool
not_earlier own id = leb own id

-- 10: a called array larger in rows or columns
abbrev pub larger : ℕ → ℕ → Bool
larger k K = ltb k K

-- 11: a position too great
abbrev pub beyond : ℕ → ℕ → ℕ → Bool
beyond k K a = leb (2 ^ (k - K)) a

-- 12: the last array's bits are not the head's
abbrev pub unlike : ℕ → ℕ → Bool
unlike n k = not (eqb k n)

-- 13: bytes after the end
abbrev pub bytes_after : ℕ → ℕ → Bool
bytes_after next length = ltb next length

-- ---- the rules of each kind of record

pub record Rule : Type 0 where
  pub reason : Reason
  pub broken : Bool

abbrev pub rule : Reason → Bool → Rule
rule reason broken = record { reason = reason; broken = broken }

-- a head is the first record
abbrev pub head_rules : Bool → Shape → List Rule
head_rules first shape =
    rule Reason.RecordMisplaced (not_first first) ∷
    rule Reason.BitsTooMany (bits_over 30 shape.rows) ∷
    rule Reason.BitsTooMany (bits_over 30 shape.columns) ∷
    []

-- an opening is not the first; `arrays` were opened before it
abbrev pub opening_rules : Bool → Shape → ℕ → Shape → List Rule
opening_rules first head arrays shape =
    rule Reason.RecordMisplaced (no_head first) ∷
    rule Reason.ArraysTooMany (arrays_over arrays) ∷
    rule Reason.BitsTooMany (bits_over head.rows shape.rows) ∷
    rule Reason.BitsTooMany (bits_over head.columns shape.columns) ∷
    []

-- a cell follows a sparse opening
abbrev pub cell_rules : Opening → Cell → List Rule
cell_rules array cell =
    rule Reason.RecordMisplaced (not_open 0x02 array.kind) ∷
    rule Reason.CellOutside (outside array.shape.rows cell.row) ∷
    rule Reason.CellOutside (outside array.shape.columns cell.column) ∷
    rule Reason.ValueTooGreat (p_or_more cell.a) ∷
    rule Reason.ValueTooGreat (p_or_more cell.b) ∷
    rule Reason.ValueTooGreat (p_or_more cell.c) ∷
    []

-- a call of either edition in the array numbered `own`, which has this shape; `called` is the shape of the array that it names
abbrev pub called_rules : Shape → ℕ → Shape → Call → List Rule
called_rules shape own called call =
    rule Reason.CalledNotEarlier (not_earlier own call.id) ∷
    rule Reason.CalledTooLarge (larger shape.rows called.rows) ∷
    rule Reason.CalledTooLarge (larger shape.columns called.columns) ∷
    rule Reason.PositionTooGreat (beyond shape.rows called.rows call.down) ∷
    rule Reason.PositionTooGreat (beyond shape.columns called.columns call.right) ∷
    []

-- a call of edition 1 follows a recursive opening in a key of edition 1
abbrev pub call_rules : Bool → Opening → ℕ → Shape → Call → List Rule
call_rules scaled array own called call =
    rule Reason.RecordMisplaced (not_open 0x03 array.kind) ∷
    rule Reason.RecordMisplaced (edition_two scaled) ∷
    called_rules array.shape own called call

-- a call of edition 2 follows a recursive opening in a key of edition 2, and its factor is a number of the field
abbrev pub scaled_call_rules : Bool → Opening → ℕ → Shape → ScaledCall → List Rule
scaled_call_rules scaled array own called call =
    rule Reason.RecordMisplaced (not_open 0x03 array.kind) ∷
    rule Reason.RecordMisplaced (edition_one scaled) ∷
    rule Reason.ValueTooGreat (p_or_more call.factor) ∷
    called_rules array.shape own called (without_factor call)

-- an end follows an array, which has the head's shape; `arrays` were opened before it
abbrev pub end_rules : Shape → ℕ → Opening → List Rule
end_rules head arrays array =
    rule Reason.RecordMisplaced (no_array arrays) ∷
    rule Reason.LastShapeWrong (unlike head.rows array.shape.rows) ∷
    rule Reason.LastShapeWrong (unlike head.columns array.shape.columns) ∷
    []

-- and nothing follows an end
abbrev pub after_rules : ℕ → ℕ → List Rule
after_rules next length = rule Reason.BytesAfterEnd (bytes_after next length) ∷ []
