-- Records written are read back the same, and records read and written again give the same bytes (demand 2).
use Rattle.std.specs.Prelude.{Result, Ok, ℕ, ◌+◌, ◌-◌, ◌≤◌, ◌<◌, List, ◌≡◌, length, take, drop}
use Rattle.refusal.specs.Outcome.{given}
use Rattle.refusal.specs.declared.Refusal.{Refusal}
use Rattle.records.specs.Put.{overwritten, put_at}
use Rattle.records.specs.Take.{taken_outcome, taken_at}
use Rattle.records.specs.declared.Record.{Record}

-- A put of the item at an offset gave this answer and left this buffer. Where the answer is a next offset, a take at the
-- offset gives the item and that next offset.
abbrev pub ReadBack : Record → (Result ℕ Refusal) → List ℕ → ℕ → Type 0
ReadBack item answer buffer at =
    (next : ℕ) → answer ≡ Ok next → taken_at buffer at ≡ taken_outcome (Ok (item, next))

-- The item was taken from the bytes at an offset, with this next offset.
pub record Again (item : Record) (bytes : List ℕ) (at next : ℕ) : Type 0 where
  -- it lies within the bytes
  pub onward : at < next
  pub within : next ≤ length bytes
  -- put there again, it leaves the bytes as they are, and the next offset is the same
  pub there : put_at item bytes at ≡ record { answer = given next; buffer = bytes }
  -- put at an offset of any buffer that has room there, it writes exactly the bytes that it was taken from
  pub elsewhere : (buffer : List ℕ) (to : ℕ) → to + (next - at) ≤ length buffer →
      put_at item buffer to ≡
      record { answer = given (to + (next - at)); buffer = overwritten (take (next - at) (drop at bytes)) buffer to }

-- A take at an offset gave this answer.
abbrev pub WrittenAgain : (Result (Record × ℕ) Refusal) → List ℕ → ℕ → Type 0
WrittenAgain answer bytes at = (item : Record) (next : ℕ) → answer ≡ Ok (item, next) → Again item bytes at next
