-- What the contracts of inner functions cite. No public promise rests on it.
use Rattle.std.specs.Prelude.{ℕ, ◌+◌, ◌≤◌, List, ◌≡◌, length}
use Rattle.std.proofs.lemmas.List.Edits.{sets}
use Rattle.report.specs.declared.text.Text.{Text}

-- some bytes were written at a place of a text: there was room, they stand there, all else is as it was, and `next` is the place
-- behind them
pub record Wrote (before : List ℕ) (at : ℕ) (bytes after : List ℕ) (next : ℕ) : Type 0 where
  pub fits : at + length bytes ≤ length before
  pub text : after ≡ sets before at bytes
  pub behind : next ≡ at + length bytes

-- a text has places for so many bytes behind those that are written
abbrev pub HasRoom : Text → ℕ → Type 0
HasRoom text count = text.at + count ≤ length text.bytes.now

-- the same text, with some bytes written behind those that were
pub record Appended (before : Text) (bytes : List ℕ) (after : Text) : Type 0 where
  pub same : after.bytes.ghost_name ≡ before.bytes.ghost_name
  pub wrote : Wrote before.bytes.now before.at bytes after.bytes.now after.at
