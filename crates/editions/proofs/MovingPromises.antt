-- What moving promises, from what the code finds.
use Rattle.std.specs.Prelude.{Result}
use Prim.Native.Nat.{ℕ, ◌≤◌, ◌<◌}
use mathlib.Core.List.{List, [], ◌∷◌}
use mathlib.Core.Path.{◌≡◌, refl, sym, ap, ◌∙◌}
use native.Mathlib.Omega.{arith}
use lib.ListN.{length, get_or}
use Rattle.refusal.specs.Outcome.{given, refused, refuse, refusal_of}
use Rattle.refusal.specs.declared.Reason.{Reason}
use Rattle.refusal.specs.declared.Refusal.{Refusal}
use Rattle.records.specs.Put.{overwritten}
use Rattle.key.specs.Check.{checked_key}
use Rattle.key.specs.declared.Counts.{Counts}
use Rattle.editions.specs.Move.{copied_outcome, moved_key, other_factors, Moving, moving}
use Rattle.editions.proofs.MovingCases.{untouched, key-refused, factor-refused, length-refused, room-refused, copy-given}

module _ (key buffer : List ℕ) (answer : Result ℕ Refusal) where
  abbrev Promise : List ℕ → Type 0
  Promise after = (copied_outcome answer ≡ (moving key buffer).answer) × (after ≡ (moving key buffer).buffer)

  refused-promise : (number place : ℕ) → copied_outcome answer ≡ refused number place → moving key buffer ≡ untouched (refused number place) buffer →
      Promise buffer
  refused-promise number place says is =
      (says ∙ sym (ap (λ (m : Moving). m.answer) is), sym (ap (λ (m : Moving). m.buffer) is))

  -- the key's own refusal
  pub key-promise : (f : Refusal) → checked_key key ≡ refusal_of f → copied_outcome answer ≡ refusal_of f → Promise buffer
  key-promise f checked says = refused-promise _ _ says (key-refused key buffer _ _ checked)

  module _ (counts : Counts) (accepted : checked_key key ≡ given counts) where
    -- 55 at the first offset, which lies in the key
    pub factor-promise : (other : ℕ) → other ≡ get_or (other_factors key) 0 (length key) → other < length key →
        copied_outcome answer ≡ refuse Reason.FactorNotOne other → Promise buffer
    factor-promise other first inside says = go (other_factors key) refl first
      where
        go : (offsets : List ℕ) → other_factors key ≡ offsets → other ≡ get_or offsets 0 (length key) → Promise buffer
        go [] is e = absurd (omega (arith, e))
        go (at ∷ more) is e =
            refused-promise _ _ says
            (factor-refused key buffer counts accepted other more (is ∙ ap (λ (x : ℕ). x ∷ more) (sym e)))

    module _ (none : other_factors key ≡ []) (len : ℕ) (is : len ≡ length (moved_key key)) where
      -- the refusals that name the copy's length
      pub length-promise : 65536 < len → copied_outcome answer ≡ refuse Reason.MovedTooLong len → Promise buffer
      length-promise long says =
          refused-promise _ _ (says ∙ ap (refuse Reason.MovedTooLong) is)
          (length-refused key buffer counts accepted none (omega (arith, is)))

      pub room-promise : len ≤ 65536 → length buffer < len → copied_outcome answer ≡ refuse Reason.BufferTooShort len → Promise buffer
      room-promise few short says =
          refused-promise _ _ (says ∙ ap (refuse Reason.BufferTooShort) is)
          (room-refused key buffer counts accepted none (omega (arith, is)) (omega (arith, is)))

      pub copy-promise : len ≤ 65536 → len ≤ length buffer → copied_outcome answer ≡ given len → (after : List ℕ) →
          after ≡ overwritten (moved_key key) buffer 0 → Promise after
      copy-promise few room says after holds =
          let all = copy-given key buffer counts accepted none (omega (arith, is)) (omega (arith, is)) in
          (says ∙ ap given is ∙ sym (ap (λ (m : Moving). m.answer) all), holds ∙ sym (ap (λ (m : Moving). m.buffer) all))
