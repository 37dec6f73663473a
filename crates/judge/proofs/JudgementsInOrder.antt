-- Judgements in order: a first one, another behind it, and then that of the sheet.
-- What the first one is does not matter: check, for a single key.
use Rattle.std.specs.Prelude.{Result, Ok, Err}
use Prim.Native.Nat.{ℕ, ◌*◌, ◌≤◌}
use mathlib.Core.Path.{◌≡◌, sym, ap, ◌∙◌}
use Rattle.refusal.specs.Outcome.{Outcome, given, and_then}
use Rattle.refusal.specs.declared.Refusal.{Refusal}
use Rattle.key.specs.Check.{checked_outcome}
use Rattle.key.specs.declared.Counts.{Counts}
use Rattle.judge.specs.Inner.{FewArrays}
use Rattle.judge.specs.Judged.{sheet_judged}
use Rattle.judge.proofs.NothingRefused.{Gives, then-gives, sheet-gives}

module _ (first : Outcome Counts) (judge : Counts → Outcome Counts) where
  -- where the first two give the same counts, the sheet is left
  pub sheet-left : (width places : ℕ) (counts : Counts) → first ≡ given counts → judge counts ≡ given counts →
      and_then (and_then first judge) (sheet_judged width places) ≡ sheet_judged width places counts
  sheet-left width places counts e e' =
      ap (λ (o : Outcome Counts). and_then (and_then o judge) (sheet_judged width places)) e
      ∙ ap (λ (o : Outcome Counts). and_then o (sheet_judged width places)) e'

  module _ (Holds : Counts → Type 0) where
    -- a call that is judged by the first and then by `judge`
    pub record Judged (judged : Result Counts Refusal) : Type 0 where
      pub gives : Gives judge Holds
      pub judges : checked_outcome judged ≡ and_then first judge

    -- and then by the places of its sheet
    pub record Admitted (width places : ℕ) (admitted : Result Counts Refusal) : Type 0 where
      pub gives : Gives judge Holds
      pub admits : checked_outcome admitted ≡ and_then (and_then first judge) (sheet_judged width places)

    -- where nothing is refused, the first gives the counts, the judgement holds of them, and there are places for all arrays
    pub given-known : Gives judge Holds → (width places : ℕ) (counts : Counts) →
        and_then (and_then first judge) (sheet_judged width places) ≡ given counts →
        (first ≡ given counts) × Holds counts × (width * counts.arrays ≤ places)
    given-known gives width places counts e =
        let (judged, room) =
        then-gives (sheet_judged width places) (λ c. width * c.arrays ≤ places) (sheet-gives width places)
        (and_then first judge) counts e in
        let (accepted, holds) = then-gives judge Holds gives first counts judged in
        (accepted, holds, room)

    pub judged-call : (checked judged : Result Counts Refusal) → Gives judge Holds → checked_outcome checked ≡ first →
        checked_outcome judged ≡ and_then (checked_outcome checked) judge → Judged judged
    judged-call checked judged gives checks judges =
        record { gives = gives; judges = judges ∙ ap (λ (o : Outcome Counts). and_then o judge) checks }

    pub admitted-call : (judged admitted : Result Counts Refusal) (width places : ℕ) → Judged judged →
        checked_outcome admitted ≡ and_then (checked_outcome judged) (sheet_judged width places) → Admitted width places admitted
    admitted-call judged admitted width places call admits =
        record {
          gives = call.gives;
          admits = admits ∙ ap (λ (o : Outcome Counts). and_then o (sheet_judged width places)) call.judges;
        }

    -- where the first gives few arrays, so does what is judged
    pub few-arrays : ((counts : Counts) → first ≡ given counts → counts.arrays ≤ 1024) → (judged : Result Counts Refusal) → Judged judged →
        FewArrays judged
    few-arrays few (Err f) call = tt
    few-arrays few (Ok counts) call =
        few counts (then-gives judge Holds call.gives first counts (sym call.judges)).0

    pub admitted-known : (width places : ℕ) (admitted : Result Counts Refusal) → Admitted width places admitted → (counts : Counts) →
        admitted ≡ Ok counts → (first ≡ given counts) × Holds counts × (width * counts.arrays ≤ places)
    admitted-known width places admitted call counts e =
        given-known call.gives width places counts (sym call.admits ∙ ap checked_outcome e)
