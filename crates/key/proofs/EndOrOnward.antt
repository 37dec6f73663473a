-- A record is an end or not, and behind one that is no end is read what follows.
use mathlib.Core.Bool.{Bool, true, false, cond, false≢true}
use mathlib.Core.Logic.{◌⊎◌, inl, inr}
use mathlib.Core.Path.{◌≡◌, refl, ap}
use Rattle.records.specs.declared.Record.{Record}
use Rattle.key.specs.Reading.{Reading, ended, is_end, behind}

-- a record that is no end
abbrev pub Onward : Record → Type 0
Onward r = is_end r ≡ false

pub is-end : (r : Record) → is_end r ≡ true → r ≡ Record.End
is-end (Record.Head shape) e = absurd (false≢true e)
is-end (Record.Sparse shape) e = absurd (false≢true e)
is-end (Record.Recursive shape) e = absurd (false≢true e)
is-end (Record.Cell cell) e = absurd (false≢true e)
is-end (Record.Call call) e = absurd (false≢true e)
is-end Record.End e = refl
is-end (Record.ScaledHead shape) e = absurd (false≢true e)
is-end (Record.ScaledCall call) e = absurd (false≢true e)

-- an end or not
pub ends-or-not : (r : Record) → (r ≡ Record.End) ⊎ Onward r
ends-or-not r = go (is_end r) refl
  where
    go : (b : Bool) → is_end r ≡ b → (r ≡ Record.End) ⊎ Onward r
    go true e = inl (is-end r e)
    go false e = inr e

pub behind-onward : (r : Record) → Onward r → (rest : Reading) → behind r rest ≡ rest
behind-onward r onward rest = ap (λ (b : Bool). cond b ended rest) onward
