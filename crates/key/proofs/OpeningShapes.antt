-- Where an opening is taken, its shape stands in the two bytes behind its kind.
use Rattle.std.specs.Prelude.{Ok}
use Prim.Native.Nat.{ℕ, ◌+◌, ◌<◌}
use mathlib.Core.Bool.{Bool, cond}
use mathlib.Core.List.{List, [], ◌∷◌}
use mathlib.Core.Path.{◌≡◌, refl, sym, ap, ◌∙◌}
use native.Mathlib.Decide.{dec_le}
use native.Mathlib.Omega.{arith}
use borrow.Author.Tests.{lt-ltb, le-ltb}
use lib.ListN.{length, get_or, take, drop, get_or-eq_default}
use lib.Seq.{drop-drop}
use Rattle.records.specs.Kinds.{kind_of, shape_fields, fields_of, widths_of, encoded}
use Rattle.records.specs.Layout.{number_in, fields_in}
use Rattle.records.specs.Take.{taken_outcome, taken_at}
use Rattle.records.specs.declared.Record.{Record}
use Rattle.records.specs.declared.Shape.{Shape}
use Rattle.records.proofs.NumberBytes.{byte-in}
use Rattle.records.proofs.PresentIsTaken.{taken-present}
use Rattle.arrays.specs.WellFormed.{Each}
use Rattle.key.specs.Before.{opening_in, opening_at}
use Rattle.rules.specs.Inner.{shape_read, called_shape}
use Rattle.key.specs.Inner.{Stands, ShapesStand}
use Rattle.rules.specs.declared.Opening.{Opening}

module _ (key : List ℕ) (at next : ℕ) where
  shape-stands : (item : Record) (shape : Shape) → fields_of item ≡ shape_fields shape → widths_of (kind_of item) ≡ 1 ∷ 1 ∷ [] →
      length (encoded item) ≡ 3 → taken_at key at ≡ taken_outcome (Ok (item, next)) → Stands key at shape
  shape-stands item shape f w three e =
      let here = (taken-present key at item next e).0 in
      let fields : shape_fields shape ≡ fields_in (1 ∷ 1 ∷ []) (drop (at + 1) key) =
      sym f ∙ here.fields ∙ ap (λ (ws : List ℕ). fields_in ws (drop (at + 1) key)) w in
      let inside : at + 2 < length key = omega (arith, here.room, three) in
      let two : at + 2 ≡ at + 1 + 1 = omega arith in
      let rows : get_or key (at + 1) 0 ≡ shape.rows =
      sym (byte-in key (at + 1) (omega arith)) ∙ sym (ap (λ (l : List ℕ). get_or l 0 0) fields) in
      let columns : get_or key (at + 2) 0 ≡ shape.columns =
      ap (λ (n : ℕ). get_or key n 0) two
      ∙ sym (byte-in key (at + 1 + 1) (omega arith))
      ∙ ap (λ (l : List ℕ). number_in (take 1 l)) (sym (drop-drop 1 (at + 1) key))
      ∙ sym (ap (λ (l : List ℕ). get_or l 1 0) fields) in
      (inside, λ t. record { rows = rows t; columns = columns t })

  pub opening-stands : (item : Record) → taken_at key at ≡ taken_outcome (Ok (item, next)) →
      Each (λ (o : Opening). Stands key at o.shape) (opening_in item)
  opening-stands (Record.Head shape) e = tt
  opening-stands (Record.Sparse shape) e = (shape-stands (Record.Sparse shape) shape refl refl refl e, tt)
  opening-stands (Record.Recursive shape) e = (shape-stands (Record.Recursive shape) shape refl refl refl e, tt)
  opening-stands (Record.Cell cell) e = tt
  opening-stands (Record.Call call) e = tt
  opening-stands Record.End e = tt
  opening-stands (Record.ScaledHead shape) e = tt
  opening-stands (Record.ScaledCall call) e = tt

-- what is read of a called array is the shape of the opening with its number
pub called-shape : (key starts : List ℕ) (openings : List Opening) → ShapesStand key starts openings → (i : ℕ) →
    called_shape key starts (length openings) i ≡ (opening_at openings i).shape
called-shape key starts openings stand i =
    elim (dec_le (length openings) i) [
      | yes l ↦ ap choice (le-ltb i (length openings) l)
          ∙ ap (λ (o : Opening). o.shape)
          (sym (get_or-eq_default openings (record { kind = 0; shape = record { rows = 0; columns = 0 } }) l))
      | no l ↦ (let below : i < length openings = omega (arith, l) in
          ap choice (lt-ltb i (length openings) below) ∙ (stand i below).1)
    ]
  where
    choice : Bool → Shape
    choice b = cond b (shape_read key (get_or starts i 0)) (record { rows = 0; columns = 0 })
