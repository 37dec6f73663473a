-- What moving answers and leaves, by cases, and what an answer that gives a length shows of the key.
use Prim.Native.Nat.{ℕ, ◌≤◌, ◌<◌}
use mathlib.Core.List.{List, [], ◌∷◌}
use mathlib.Core.Path.{◌≡◌, refl, sym, ap, ◌∙◌}
use native.Mathlib.Decide.{dec_le}
use native.Mathlib.Omega.{arith}
use borrow.Author.Tests.{lt-ltb, le-ltb}
use lib.ListN.{length}
use Rattle.refusal.specs.Outcome.{Outcome, given, refused, refuse, and_then}
use Rattle.refusal.specs.declared.Reason.{Reason}
use Rattle.refusal.proofs.Outcomes.{given-injective, given-not-refused}
use Rattle.records.specs.Put.{overwritten}
use Rattle.key.specs.Check.{checked_key}
use Rattle.key.specs.declared.Counts.{Counts}
use Rattle.editions.specs.Move.{moved_key, other_factors, factors_judged, length_judged, room_judged, copy_judged, move_judged, Moving, written, moving}

-- a refusal leaves the buffer as it was
abbrev pub untouched : Outcome ℕ → List ℕ → Moving
untouched answer buffer = record { answer = answer; buffer = buffer }

module _ (key buffer : List ℕ) where
  -- a call is what its judgement makes it
  by : (judgement : Outcome ℕ) → move_judged key (length buffer) ≡ judgement → moving key buffer ≡ written judgement (moved_key key) buffer
  by judgement e = ap (λ (o : Outcome ℕ). written o (moved_key key) buffer) e

  pub key-refused : (number place : ℕ) → checked_key key ≡ refused number place → moving key buffer ≡ untouched (refused number place) buffer
  unfolding written
  key-refused number place e =
      by (refused number place)
      (ap (λ (o : Outcome Counts). and_then o (λ (counts : Counts). copy_judged (other_factors key) (length (moved_key key)) (length buffer))) e)

  module _ (counts : Counts) (accepted : checked_key key ≡ given counts) where
    judged : (offsets : List ℕ) → other_factors key ≡ offsets →
        move_judged key (length buffer) ≡ copy_judged offsets (length (moved_key key)) (length buffer)
    judged offsets e =
        ap (λ (o : Outcome Counts). and_then o (λ (counts : Counts). copy_judged (other_factors key) (length (moved_key key)) (length buffer)))
        accepted
        ∙ ap (λ (list : List ℕ). copy_judged list (length (moved_key key)) (length buffer)) e

    pub factor-refused : (at : ℕ) (more : List ℕ) → other_factors key ≡ at ∷ more →
        moving key buffer ≡ untouched (refuse Reason.FactorNotOne at) buffer
    unfolding written factors_judged
    factor-refused at more e = by (refuse Reason.FactorNotOne at) (judged (at ∷ more) e)

    module _ (none : other_factors key ≡ []) where
      pub length-refused : 65536 < length (moved_key key) →
          moving key buffer ≡ untouched (refuse Reason.MovedTooLong (length (moved_key key))) buffer
      unfolding written factors_judged length_judged
      length-refused l =
          by (refuse Reason.MovedTooLong (length (moved_key key)))
          (judged [] none ∙ simp (lt-ltb 65536 (length (moved_key key)) l))

      pub room-refused : length (moved_key key) ≤ 65536 → length buffer < length (moved_key key) →
          moving key buffer ≡ untouched (refuse Reason.BufferTooShort (length (moved_key key))) buffer
      unfolding written factors_judged length_judged room_judged
      room-refused few l =
          by (refuse Reason.BufferTooShort (length (moved_key key)))
          (judged [] none ∙ simp (le-ltb 65536 (length (moved_key key)) few, lt-ltb (length buffer) (length (moved_key key)) l))

      pub copy-given : length (moved_key key) ≤ 65536 → length (moved_key key) ≤ length buffer →
          moving key buffer ≡ record { answer = given (length (moved_key key)); buffer = overwritten (moved_key key) buffer 0 }
      unfolding written factors_judged length_judged room_judged
      copy-given few room =
          by (given (length (moved_key key)))
          (judged [] none ∙ simp (le-ltb 65536 (length (moved_key key)) few, le-ltb (length buffer) (length (moved_key key)) room))

  -- a length is answered only where nothing is refused, and it is the copy's
  pub record Copies (copy : ℕ) : Type 0 where
    pub counts : Counts
    pub accepted : checked_key key ≡ given counts
    pub none : other_factors key ≡ []
    pub few : length (moved_key key) ≤ 65536
    pub is : copy ≡ length (moved_key key)
    pub holds : (moving key buffer).buffer ≡ overwritten (moved_key key) buffer 0

  pub given-copies : (copy : ℕ) → (moving key buffer).answer ≡ given copy → Copies copy
  given-copies copy e = checked (checked_key key) refl
    where
      -- no refusal is a length
      not-refused : (number place : ℕ) → moving key buffer ≡ untouched (refused number place) buffer → ⊥
      not-refused number place f = given-not-refused (sym e ∙ ap (λ (m : Moving). m.answer) f)

      fitting : (counts : Counts) → checked_key key ≡ given counts → other_factors key ≡ [] → Dec (length (moved_key key) ≤ 65536) →
          Dec (length (moved_key key) ≤ length buffer) → Copies copy
      fitting counts accepted none (no long) room = absurd (not-refused _ _ (length-refused counts accepted none (omega arith)))
      fitting counts accepted none (yes few) (no short) = absurd (not-refused _ _ (room-refused counts accepted none few (omega arith)))
      fitting counts accepted none (yes few) (yes room) =
          let all = copy-given counts accepted none few room in
          record {
            counts = counts;
            accepted = accepted;
            none = none;
            few = few;
            is = given-injective (sym e ∙ ap (λ (m : Moving). m.answer) all);
            holds = ap (λ (m : Moving). m.buffer) all;
          }

      sought : (counts : Counts) → checked_key key ≡ given counts → (offsets : List ℕ) → other_factors key ≡ offsets → Copies copy
      sought counts accepted (at ∷ more) f = absurd (not-refused _ _ (factor-refused counts accepted at more f))
      sought counts accepted [] none =
          fitting counts accepted none (dec_le (length (moved_key key)) 65536) (dec_le (length (moved_key key)) (length buffer))

      checked : (o : Outcome Counts) → checked_key key ≡ o → Copies copy
      checked (refused number place) f = absurd (not-refused number place (key-refused number place f))
      checked (given counts) f = sought counts f (other_factors key) refl
