-- What is said of a copy in the other edition, said of the buffer that a call leaves.
use Prim.Native.Nat.{ℕ, ◌+◌}
use mathlib.Core.List.{List}
use mathlib.Core.Path.{sym, ap₂, subst, ◌∙◌}
use lib.ListN.{length, take, drop}
use lib.Seq.{take-append_seam}
use Rattle.field.specs.Scalars.{Scalars}
use Rattle.records.proofs.NumberBytes.{AreBytes}
use Rattle.key.specs.declared.Counts.{Counts}
use Rattle.editions.specs.Move.{moved_key}
use Rattle.editions.specs.OtherEdition.{OtherEdition, Moves}
use Rattle.editions.proofs.AnswersAlike.{moved-alike}
use Rattle.editions.proofs.MovedBack.{moves-back}
use Rattle.editions.proofs.MovedKey.{Movable, moved-accepted, moved-edition, moved-arrays}
use Rattle.editions.proofs.MovingCases.{Copies, given-copies}

pub moved_other : (𝓢 : Scalars) (key : List ℕ) → AreBytes key → (counts : Counts) → Movable key counts → OtherEdition 𝓢 key (moved_key key)
moved_other 𝓢 key are counts movable =
    record {
      accepted = (counts, moved-accepted key counts movable);
      edition = moved-edition key counts movable;
      arrays = moved-arrays key counts movable;
      alike = moved-alike 𝓢 key counts movable;
      back = moves-back key are counts movable;
    }

pub moves : (𝓢 : Scalars) (key buffer : List ℕ) → Moves 𝓢 key buffer
moves 𝓢 key buffer are copy e =
    let c : Copies key buffer copy = given-copies key buffer copy e in
    subst (OtherEdition 𝓢 key)
    (sym (ap₂ take c.is c.holds ∙ take-append_seam (moved_key key) (drop (0 + length (moved_key key)) buffer)))
    (moved_other 𝓢 key are c.counts (record { accepted = c.accepted; factors-one = c.none; at_most_65536 = c.few }))
