-- What taking a record at an offset answers (01, 'Records' and 'Order').
use Rattle.std.specs.Prelude.{Result, ℕ, ◌+◌, cond, List, [], ◌∷◌, ltb, length, drop}
use Rattle.std.proofs.Math.Option.{Option, none, some}
use Rattle.refusal.specs.Outcome.{Outcome, given, refuse, outcome_of}
use Rattle.refusal.specs.declared.Reason.{Reason}
use Rattle.refusal.specs.declared.Refusal.{Refusal}
use Rattle.records.specs.Kinds.{kind_of, fields_of}
use Rattle.records.specs.Layout.{layout, lookup, fields_in, total}
use Rattle.records.specs.declared.Record.{Record}

-- a record that was taken: its kind, its fields, and the offset behind it
pub record Found : Type 0 where
  pub kind : ℕ
  pub fields : List ℕ
  pub next : ℕ

-- what is answered: the record's kind and fields, and the offset behind it
abbrev pub taken_outcome : Result (Record × ℕ) Refusal → Outcome Found
taken_outcome = outcome_of (λ taken. record { kind = kind_of taken.0; fields = fields_of taken.0; next = taken.1 })

-- a kind, the widths that the layout has for it, and the bytes behind it: an unknown kind is refused, then a body cut off
unfoldable pub taken_as : ℕ → ℕ → Option (List ℕ) → List ℕ → Outcome Found
taken_as at kind none rest = refuse Reason.KindUnknown at
taken_as at kind (some widths) rest =
    cond (ltb (length rest) (total widths))
    (refuse Reason.RecordIncomplete at)
    (given (record { kind = kind; fields = fields_in widths rest; next = at + (1 + total widths) }))

-- the bytes from the offset on: none at all is refused
unfoldable pub taken_from : ℕ → List ℕ → Outcome Found
taken_from at [] = refuse Reason.RecordIncomplete at
taken_from at (kind ∷ rest) = taken_as at kind (lookup layout kind) rest

-- an offset greater than the slice's length is refused before all else
unfoldable pub taken_at : List ℕ → ℕ → Outcome Found
taken_at bytes at = cond (ltb (length bytes) at) (refuse Reason.OffsetTooGreat (length bytes)) (taken_from at (drop at bytes))
