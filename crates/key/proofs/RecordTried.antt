-- What trying a record at an offset says: it passes where it is of its kind and keeps its rules.
-- None passes where the record there is of another kind, is cut off, or breaks a rule.
use Rattle.std.specs.Prelude.{is_ok}
use Rattle.std.specs.Prelude.{Ok}
use Prim.Native.Nat.{ℕ, ◌+◌, ◌≤◌, ◌<◌}
use mathlib.Core.Bool.{Bool, true, false}
use mathlib.Core.List.{List}
use mathlib.Core.Path.{◌≡◌, refl, sym, ap, subst, ◌∙◌}
use native.Mathlib.Omega.{arith}
use borrow.Author.Tests.{eqb-false}
use lib.ListN.{length, get_or, drop}
use Rattle.records.specs.Kinds.{kind_of, fields_of, widths_of, encoded}
use Rattle.records.specs.Layout.{fields_in}
use Rattle.records.specs.declared.Record.{Record}
use Rattle.records.proofs.PresentIsTaken.{present-taken, taken-present}
use Rattle.rules.specs.Inner.{held_to, AllKept}
use Rattle.key.specs.Inner.{Fails, Tried}
use Rattle.rules.specs.Rules.{Rule}
use Rattle.rules.proofs.Verdicts.{held_kept, kept-held, is-kept}

-- Records of one kind, each given back by its fields.
module _ {A : Type 0} (key : List ℕ) (item : A → Record) (rules : A → List Rule) (at : ℕ) where
  -- the record at the offset is of another kind
  pub fails-other : (kind : ℕ) → ((x : A) → kind_of (item x) ≡ kind) → (get_or key at 0 ≡ kind → ⊥) → Fails key item rules at
  fails-other kind kinds other x next taken kept = other ((taken-present key at (item x) next taken).0.kind ∙ kinds x)

  -- it is cut off
  pub fails-short : (width : ℕ) → ((x : A) → length (encoded (item x)) ≡ width) → length key < at + width → Fails key item rules at
  fails-short width wide short x next taken kept =
      omega (arith, (taken-present key at (item x) next taken).0.room, wide x, short)

  module _ (kind : ℕ) (kinds : (x : A) → kind_of (item x) ≡ kind) (of : List ℕ → A) (back : (x : A) → of (fields_of (item x)) ≡ x)
      (x : A) (fields : fields_of (item x) ≡ fields_in (widths_of kind) (drop (at + 1) key)) where
    -- it breaks a rule
    pub fails-broken : is_ok (held_to (Ok tt) at (rules x)) ≡ false → Fails key item rules at
    fails-broken broken y next taken kept =
        let same : y ≡ x =
        sym (back y)
        ∙ ap of
        ((taken-present key at (item y) next taken).0.fields
        ∙ ap (λ (k : ℕ). fields_in (widths_of k) (drop (at + 1) key)) (kinds y) ∙ sym fields)
        ∙ back x in
        let held = kept-held (Ok tt) at (rules x) (subst (λ (z : A). AllKept (rules z)) same kept) refl in
        absurd (eqb-false 0 0 (sym (ap is_ok held) ∙ broken) refl)

    -- it is judged
    pub tried : get_or key at 0 ≡ kind → at + length (encoded (item x)) ≤ length key → (answer : Bool) →
        answer ≡ is_ok (held_to (Ok tt) at (rules x)) → Tried answer key item rules at
    tried is room true e =
        record {
          entry = x;
          taken =
              present-taken key at (item x)
              (record {
                kind = is ∙ sym (kinds x);
                room = room;
                fields = fields ∙ ap (λ (k : ℕ). fields_in (widths_of k) (drop (at + 1) key)) (sym (kinds x));
              });
          kept = (held_kept (Ok tt) at (rules x) (is-kept _ (sym e))).1;
        }
    tried is room false e = fails-broken (sym e)
