-- A record is taken at an offset exactly where it is present there: its kind and its fields stand in the bytes.
use Rattle.std.specs.Prelude.{Ok}
use Prim.Native.Nat.{ℕ, ◌+◌, ◌≤◌}
use mathlib.Core.List.{List}
use mathlib.Core.Path.{◌≡◌, sym, ap, ◌∙◌}
use native.Mathlib.Omega.{arith}
use lib.ListN.{length, get_or, drop}
use Rattle.records.specs.Inner.{size_of}
use Rattle.records.specs.Kinds.{kind_of, fields_of, widths_of, encoded}
use Rattle.records.specs.Layout.{fields_in}
use Rattle.records.specs.Take.{Found, taken_outcome, taken_at}
use Rattle.records.specs.declared.Record.{Record}
use Rattle.records.proofs.RecordSizes.{size-encoded}
use Rattle.records.proofs.TakeCases.{read-given, given-whole}

pub record Present (bytes : List ℕ) (at : ℕ) (item : Record) : Type 0 where
  pub kind : get_or bytes at 0 ≡ kind_of item
  pub room : at + length (encoded item) ≤ length bytes
  pub fields : fields_of item ≡ fields_in (widths_of (kind_of item)) (drop (at + 1) bytes)

module _ (bytes : List ℕ) (at : ℕ) (item : Record) where
  pub present-taken : Present bytes at item → taken_at bytes at ≡ taken_outcome (Ok (item, (at + length (encoded item))))
  present-taken here =
      let size : size_of (get_or bytes at 0) ≡ length (encoded item) = ap size_of here.kind ∙ size-encoded item in
      sym (read-given bytes at (omega (arith, here.room)) (λ none. omega (arith, none, size)) (kind_of item) (fields_of item)
      (length (encoded item)) (sym size) (omega (arith, here.room)) (sym here.kind)
      (here.fields ∙ ap (λ (k : ℕ). fields_in (widths_of k) (drop (at + 1) bytes)) (sym here.kind)))

  pub taken-present : (next : ℕ) → taken_at bytes at ≡ taken_outcome (Ok (item, next)) →
      Present bytes at item × (next ≡ at + length (encoded item))
  taken-present next e =
      let whole = given-whole bytes at _ e in
      let kind : kind_of item ≡ get_or bytes at 0 = ap (λ (t : Found). t.kind) whole.is in
      let size : size_of (get_or bytes at 0) ≡ length (encoded item) = ap size_of (sym kind) ∙ size-encoded item in (
        record {
          kind = sym kind;
          room = omega (arith, whole.room, whole.known, size);
          fields =
              ap (λ (t : Found). t.fields) whole.is
              ∙ ap (λ (k : ℕ). fields_in (widths_of k) (drop (at + 1) bytes)) (sym kind);
        },
        omega (arith, ap (λ (t : Found). t.next) whole.is, whole.known, size),
      )
