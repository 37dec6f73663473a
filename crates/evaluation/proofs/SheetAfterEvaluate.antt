-- What evaluate leaves on the sheet, place by place, where it refuses nothing (demand 2).
-- With w places for each array, array i's A, B and C stand from place w·i on, and the places from w·arrays on are as they were.
use Prim.Native.Nat.{ℕ, ◌+◌, ◌*◌, ◌≤◌, ◌<◌}
use mathlib.Core.List.{List}
use mathlib.Core.Path.{◌≡◌, sym, ap, ◌∙◌}
use native.Mathlib.Omega.{arith}
use lib.ListN.{length, get_or, drop}
use Rattle.refusal.specs.Outcome.{given, and_then}
use Rattle.field.specs.Scalars.{Scalars, Lawful}
use Rattle.key.specs.Check.{checked_key}
use Rattle.key.specs.KeyArrays.{key_arrays}
use Rattle.key.specs.declared.Counts.{Counts}
use Rattle.judge.specs.Judged.{point_judged, sheet_judged}
use Rattle.judge.proofs.JudgementCases.{sheet-enough}
use Rattle.judge.proofs.JudgementsInOrder.{sheet-left}
use Rattle.evaluation.specs.Evaluate.{values_at, last_values, counted_for, evaluated}
use Rattle.evaluation.specs.Sheet.{words_of, places_of, laid}
use Rattle.evaluation.proofs.EvaluatePromises.{concluded-given}
use Rattle.evaluation.proofs.WordsOfArray.{words-places}
use Rattle.evaluation.proofs.WordsOnSheet.{laid-first, laid-behind, same-behind}

module _ (𝓢 : Scalars) (key rows columns sheet : List ℕ) (counts : Counts) (accepted : checked_key key ≡ given counts)
    (point : point_judged 𝓢.width rows columns counts ≡ given counts) (room : places_of 𝓢 * counts.arrays ≤ length sheet) where
  admitted :
      and_then (and_then (checked_key key) (point_judged 𝓢.width rows columns)) (sheet_judged (places_of 𝓢) (length sheet))
      ≡ given counts
  admitted =
      sheet-left (checked_key key) (point_judged 𝓢.width rows columns) (places_of 𝓢) (length sheet) counts accepted point
      ∙ sheet-enough (places_of 𝓢) (length sheet) counts room

  abbrev words : ℕ → List ℕ
  words i = words_of 𝓢 (values_at 𝓢 (key_arrays key) rows columns i)

  done : (given (counted_for 𝓢 key (last_values 𝓢 key rows columns)) ≡ (evaluated 𝓢 key rows columns sheet).answer) ×
      (laid 0 (λ i. words_of 𝓢 (values_at 𝓢 (key_arrays key) rows columns i)) counts.arrays sheet ≡ (evaluated 𝓢 key rows columns sheet).sheet)
  done =
      concluded-given 𝓢 _ (λ c. counted_for 𝓢 key (last_values 𝓢 key rows columns))
      (λ c. values_at 𝓢 (key_arrays key) rows columns) sheet counts (sym admitted)

  -- the answer is the last array's extensions, and the factors of the key
  pub answer-given : (evaluated 𝓢 key rows columns sheet).answer ≡ given (counted_for 𝓢 key (last_values 𝓢 key rows columns))
  answer-given = sym done.0

  -- the sheet holds every array's
  pub sheet-given : (evaluated 𝓢 key rows columns sheet).sheet
      ≡ laid 0 (λ i. words_of 𝓢 (values_at 𝓢 (key_arrays key) rows columns i)) counts.arrays sheet
  sheet-given = sym done.1

  module _ (𝓛 : Lawful 𝓢) where
    words-width : (i : ℕ) → length (words i) ≡ places_of 𝓢
    words-width i = words-places 𝓢 𝓛 (values_at 𝓢 (key_arrays key) rows columns i)

    -- with one number an element, j is 0 for A, 1 for B and 2 for C
    pub place-given : (i j : ℕ) → i < counts.arrays → j < places_of 𝓢 →
        get_or (evaluated 𝓢 key rows columns sheet).sheet (places_of 𝓢 * i + j) 0
        ≡ get_or (words_of 𝓢 (values_at 𝓢 (key_arrays key) rows columns i)) j 0
    place-given i j l m =
        ap (λ (s : List ℕ). get_or s (places_of 𝓢 * i + j) 0) sheet-given
        ∙ laid-first (places_of 𝓢) words words-width counts.arrays sheet room i j l m

    pub places_behind :
        drop (places_of 𝓢 * counts.arrays) (evaluated 𝓢 key rows columns sheet).sheet ≡ drop (places_of 𝓢 * counts.arrays) sheet
    places_behind =
        let at : places_of 𝓢 * counts.arrays ≡ 0 + places_of 𝓢 * counts.arrays = omega arith in
        ap (drop (places_of 𝓢 * counts.arrays)) sheet-given
        ∙ ap (λ (n : ℕ). drop n (laid 0 words counts.arrays sheet)) at
        ∙ laid-behind (places_of 𝓢) words words-width 0 counts.arrays sheet (omega (arith, room))
        ∙ ap (λ (n : ℕ). drop n sheet) (sym at)

    pub place-behind : (k : ℕ) → places_of 𝓢 * counts.arrays ≤ k →
        get_or (evaluated 𝓢 key rows columns sheet).sheet k 0 ≡ get_or sheet k 0
    place-behind = same-behind (places_of 𝓢 * counts.arrays) (evaluated 𝓢 key rows columns sheet).sheet sheet places_behind
