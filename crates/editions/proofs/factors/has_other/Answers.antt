-- `editions::factors::has_other` meets its contract: only a call of edition 2 has a factor.
use mathlib.Core.Bool.{false}
use mathlib.Core.Path.{◌≡◌, refl, sym, ap}
use Rattle.records.specs.declared.Record.{Record}
use Rattle.records.specs.declared.ScaledCall.{ScaledCall}
use Rattle.editions.specs.Move.{has_other_factor}
use Rattle.editions.proofs.factors.has_other.Goals as goal

-- a record of any of the other kinds
without : (item : Record) → ((call : ScaledCall) → item ≡ Record.ScaledCall call → ⊥) → false ≡ has_other_factor item
without (Record.Head shape) other = refl
without (Record.Sparse shape) other = refl
without (Record.Recursive shape) other = refl
without (Record.Cell cell) other = refl
without (Record.Call call) other = refl
without Record.End other = refl
without (Record.ScaledHead shape) other = refl
without (Record.ScaledCall call) other = absurd (other call refl)

pub returns-in-ScaledCall : goal.returns-in-ScaledCall
returns-in-ScaledCall c = sym (ap has_other_factor c.in-ScaledCall.is)

pub returns-in_default : goal.returns-in_default
returns-in_default c = without c.args.item c.in_default.not-ScaledCall
