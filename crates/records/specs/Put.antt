-- What putting a record at an offset answers, and every byte of the buffer afterwards (01, 'Single cells, and writing
-- records' and 'Order').
use Rattle.std.specs.Prelude.{Result, ℕ, ◌+◌, ◌-◌, cond, List, ◌++◌, ltb, length, take, drop}
use Rattle.refusal.specs.Outcome.{Outcome, given, refuse, outcome}
use Rattle.refusal.specs.declared.Reason.{Reason}
use Rattle.refusal.specs.declared.Refusal.{Refusal}
use Rattle.records.specs.Kinds.{encoded}
use Rattle.records.specs.declared.Record.{Record}

-- what is answered: the offset behind the record
abbrev pub written_outcome : Result ℕ Refusal → Outcome ℕ
written_outcome = outcome

-- an answer, and the buffer as it is then
pub record Putting : Type 0 where
  pub answer : Outcome ℕ
  pub buffer : List ℕ

-- a list with some bytes at an offset; those before and behind them stay
abbrev pub overwritten : List ℕ → List ℕ → ℕ → List ℕ
overwritten bytes buffer at = take at buffer ++ bytes ++ drop (at + length bytes) buffer

-- an offset greater than the buffer's length is refused, then a record that doesn't fit behind it
unfoldable pub put_at : Record → List ℕ → ℕ → Putting
put_at r buffer at =
    cond (ltb (length buffer) at)
    (record { answer = refuse Reason.OffsetTooGreat (length buffer); buffer = buffer })
    (cond (ltb (length buffer - at) (length (encoded r)))
    (record { answer = refuse Reason.BufferTooShort (length (encoded r)); buffer = buffer })
    (record { answer = given (at + length (encoded r)); buffer = overwritten (encoded r) buffer at }))
