-- A run grows by one entry at a time.
-- What is known at an offset: a run from there on is one from the beginning on.
use Prim.Native.Nat.{ℕ, ◌+◌, ◌<◌}
use mathlib.Core.Bool.{Bool, true, false, not}
use mathlib.Core.List.{List, [], ◌∷◌, map}
use mathlib.Core.Path.{◌≡◌, refl, sym, subst}
use borrow.Author.Tests.{eqb-false}
use lib.ListN.{length}
use Rattle.records.specs.Kinds.{encoded}
use Rattle.records.specs.declared.Record.{Record}
use Rattle.key.specs.Index.{Runs}
use Rattle.key.specs.Inner.{Fails, Tried, Run}
use Rattle.rules.specs.Rules.{Rule}
use Rattle.key.proofs.RecordTried.{fails-short}

abbrev pub Gone : {A : Type 0} → List ℕ → (A → Record) → (A → List Rule) → ℕ → ℕ → Type 0
Gone key item rules from at = (to : ℕ) → Run key item rules at to → Run key item rules from to

-- Entries of one width, tried one by one.
module _ {A : Type 0} (key : List ℕ) (item : A → Record) (rules : A → List Rule) (width : ℕ)
    (wide : (x : A) → length (encoded (item x)) ≡ width) (from at : ℕ) (gone : Gone key item rules from at) where
  -- the run so far is one
  so_far : Run key item rules from at
  so_far = gone at (record { entries = []; runs = refl; kept = tt })

  -- it goes on where the next entry passes
  pub gone-on : (kept : Bool) → not kept ≡ false → Tried kept key item rules at → Gone key item rules from (at + width)
  gone-on false e this = absurd (eqb-false 0 0 e refl)
  gone-on true e this =
      λ to run. gone to
      (record {
        entries = this.entry ∷ run.entries;
        runs = (
          this.taken,
          subst (λ (n : ℕ). Runs key (at + n) (map item run.entries) to) (sym (wide this.entry)) run.runs,
        );
        kept = (this.kept, run.kept);
      })

  -- and stops where it does not, or where there is no room for one
  pub gone-up-to : (kept : Bool) → not kept ≡ true → Tried kept key item rules at →
      Run key item rules from at × Fails key item rules at
  gone-up-to true e this = absurd (eqb-false 0 0 (sym e) refl)
  gone-up-to false e this = (so_far, this)

  pub gone-to-the-end : length key < at + width → Run key item rules from at × Fails key item rules at
  gone-to-the-end short = (so_far, fails-short key item rules at width wide short)
