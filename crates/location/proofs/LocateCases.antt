-- What locate answers and leaves on the sheet, by what compare answers at the point.
use Prim.Native.Nat.{ℕ}
use mathlib.Core.List.{List, ◌++◌}
use mathlib.Core.Path.{◌≡◌, sym, ap, subst, subst₂, ◌∙◌}
use lib.ListN.{length, take, drop}
use lib.Seq.{take-append_seam, drop-append_seam}
use Rattle.refusal.specs.declared.Which.{Which}
use Rattle.field.specs.Scalars.{prime}
use Rattle.comparison.specs.AgreementBound.{is_same}
use Rattle.comparison.specs.Compare.{Answer, same, different, refused_for, compared}
use Rattle.location.specs.Cell.{Certain}
use Rattle.location.specs.Inner.{BothAccepted, Comparable, WrittenOn}
use Rattle.location.specs.Locate.{same_at, Found, same_there, refused_as, Location, cell_point, cell_at, cell_found, by_answer, located}
use Rattle.location.proofs.CertainCell.{certain}
use Rattle.location.proofs.CellDiffers.{cell-point}
use Rattle.location.proofs.FoundDifferent.{found-different}
use Rattle.location.proofs.SettledCoordinates.{settled-alike}
use Rattle.location.proofs.WrittenSheets.{answer-alike, after-written, left-alike}

module _ (first second rows columns sheet : List ℕ) where
  located-by : (answer : Answer) → (compared prime first second rows columns sheet).answer ≡ answer →
      located first second rows columns sheet
      ≡ by_answer answer (compared prime first second rows columns sheet).sheet (cell_found first second rows columns sheet)
  located-by answer =
      ap (λ (a : Answer). by_answer a (compared prime first second rows columns sheet).sheet (cell_found first second rows columns sheet))

  -- ---- where no cell is answered

  pub located-same : (compared prime first second rows columns sheet).answer ≡ same → (answer : Found) (after : List ℕ) →
      answer ≡ same_there → after ≡ (compared prime first second rows columns sheet).sheet →
      (answer ≡ (located first second rows columns sheet).answer) × (after ≡ (located first second rows columns sheet).sheet)
  unfolding by_answer
  located-same e answer after told left = (
    told ∙ sym (ap (λ (x : Location). x.answer) (located-by same e)),
    left ∙ sym (ap (λ (x : Location). x.sheet) (located-by same e)),
  )

  pub located-refused : (which : Which) (number place : ℕ) →
      (compared prime first second rows columns sheet).answer ≡ refused_for which number place → (answer : Found) (after : List ℕ) →
      answer ≡ refused_as which number place → after ≡ (compared prime first second rows columns sheet).sheet →
      (answer ≡ (located first second rows columns sheet).answer) × (after ≡ (located first second rows columns sheet).sheet)
  unfolding by_answer
  located-refused which number place e answer after told left = (
    told ∙ sym (ap (λ (x : Location). x.answer) (located-by (refused_for which number place) e)),
    left ∙ sym (ap (λ (x : Location). x.sheet) (located-by (refused_for which number place) e)),
  )

  -- ---- the cell, from the sheet that the first comparison has left

  module _ (differ : (compared prime first second rows columns sheet).answer ≡ different) where
    abbrev known : Comparable first second (length rows) (rows ++ columns) (length sheet)
    known = found-different first second rows columns sheet differ

    first-written : WrittenOn known.one known.other sheet (compared prime first second rows columns sheet).sheet
    first-written =
        subst₂ (λ (r c : List ℕ). WrittenOn known.one known.other sheet (compared prime first second r c sheet).sheet)
        (take-append_seam rows columns) (drop-append_seam rows columns)
        (after-written first second known.one known.other (length rows) (rows ++ columns) known.is_point sheet known.both)

    -- the keys are found different on it too
    pub still-different : (after : List ℕ) → after ≡ (compared prime first second rows columns sheet).sheet →
        (compared prime first second rows columns after).answer ≡ different
    still-different after left =
        answer-alike first second rows columns after sheet (ap length left ∙ first-written.as_long) ∙ differ

    -- and the same cell is found from there
    cell-alike : (after : List ℕ) → WrittenOn known.one known.other sheet after →
        cell_found first second rows columns after ≡ cell_found first second rows columns sheet
    cell-alike after written =
        let n = length rows in
        let point = cell_point first second rows columns sheet in
        let same_way : cell_point first second rows columns after ≡ point =
        settled-alike (same_at first second n after) (same_at first second n sheet)
        (λ at. ap is_same (answer-alike first second (take n at) (drop n at) after sheet written.as_long)) (rows ++ columns) in
        ap (λ (x : List ℕ). cell_at first second (take n x) (drop n x) after) same_way
        ∙ (λ t. record {
          answer = (cell_at first second (take n point) (drop n point) sheet).answer;
          sheet = left-alike first second known.one known.other n point (cell-point first second rows columns sheet differ) sheet after
              written (subst (BothAccepted first second known.one known.other) (sym written.as_long) known.both) t;
        })

    pub located-cell : (middle : List ℕ) → middle ≡ (compared prime first second rows columns sheet).sheet →
        (answer : Found) (after : List ℕ) →
        answer ≡ (cell_found first second rows columns middle).answer → after ≡ (cell_found first second rows columns middle).sheet →
        (answer ≡ (located first second rows columns sheet).answer) × (after ≡ (located first second rows columns sheet).sheet)
    unfolding by_answer
    located-cell middle left answer after told ended =
        let is : cell_found first second rows columns middle ≡ located first second rows columns sheet =
        cell-alike middle (subst (WrittenOn known.one known.other sheet) (sym left) first-written)
        ∙ sym (located-by different differ) in
        (told ∙ ap (λ (x : Location). x.answer) is, ended ∙ ap (λ (x : Location). x.sheet) is)

    -- ---- on a sheet that the comparisons of the way have written on

    pub cell-left : (after : List ℕ) → WrittenOn known.one known.other sheet after → (answer : Found) (ended point : List ℕ) →
        point ≡ cell_point first second rows columns sheet →
        answer ≡ (cell_at first second (take (length rows) point) (drop (length rows) point) after).answer →
        ended ≡ (cell_at first second (take (length rows) point) (drop (length rows) point) after).sheet →
        (answer ≡ (cell_found first second rows columns sheet).answer) × (ended ≡ (cell_found first second rows columns sheet).sheet)
    cell-left after written answer ended point is told left =
        let n = length rows in (
          told ∙ ap (λ (x : List ℕ). (cell_at first second (take n x) (drop n x) after).answer) is,
          left ∙ ap (λ (x : List ℕ). (cell_at first second (take n x) (drop n x) after).sheet) is
              ∙ left-alike first second known.one known.other n (cell_point first second rows columns sheet)
              (cell-point first second rows columns sheet differ) sheet after written
              (subst (BothAccepted first second known.one known.other) (sym written.as_long) known.both),
        )

-- ---- what is promised

pub promised : (first second rows columns sheet : List ℕ) (answer : Found) (after : List ℕ) →
    (answer ≡ (located first second rows columns sheet).answer) × (after ≡ (located first second rows columns sheet).sheet) →
    (answer ≡ (located first second rows columns sheet).answer) ×
    ((after ≡ (located first second rows columns sheet).sheet) × Certain first second answer)
promised first second rows columns sheet answer after (told, left) =
    (told, (left, certain first second rows columns sheet answer told))
