-- Numbers of four bytes, read one behind the other into a table.
use Prim.Native.Nat.{ℕ, zero, suc, ◌+◌, ◌*◌, ◌≤◌, ◌<◌}
use mathlib.Core.List.{List, [], ◌∷◌, ◌++◌}
use mathlib.Core.Path.{◌≡◌, refl, sym, ap, ap₂, ◌∙◌}
use native.Mathlib.Omega.{arith}
use lib.ListN.{length, set, take, drop}
use lib.Seq.{sets, sets-eq, length-sets, length-take-le, drop-drop, take_at}
use Rattle.records.specs.Layout.{number_in}
use Rattle.evaluation.proofs.WordsOnSheet.{sets-append}
use Rattle.report.specs.Input.{numbers_in}

numbers-length : (count : ℕ) (bytes : List ℕ) → length (numbers_in count bytes) ≡ count
numbers-length zero bytes = refl
numbers-length (suc count) bytes = ap suc (numbers-length count (drop 4 bytes))

-- one number more
numbers_more : (count : ℕ) (bytes : List ℕ) →
    numbers_in (suc count) bytes ≡ numbers_in count bytes ++ (number_in (take 4 (drop (4 * count) bytes)) ∷ [])
numbers_more zero bytes = refl
numbers_more (suc count) bytes =
    let further : 4 + 4 * count ≡ 4 * suc count = omega arith in
    ap (λ (rest : List ℕ). number_in (take 4 bytes) ∷ rest)
    (numbers_more count (drop 4 bytes)
    ∙ ap (λ (behind : List ℕ). numbers_in count (drop 4 bytes) ++ (number_in (take 4 behind) ∷ []))
    (drop-drop (4 * count) 4 bytes ∙ ap (λ (n : ℕ). drop n bytes) further))

-- the table's first i places hold the numbers from an offset on
pub record Filling (input : List ℕ) (from count : ℕ) (before table : List ℕ) (i : ℕ) : Type 0 where
  pub filled : table ≡ sets before 0 (numbers_in i (drop from input))
  pub within : i ≤ count

pub filling-length : (input : List ℕ) (from count : ℕ) (before table : List ℕ) (i : ℕ) → Filling input from count before table i →
    length table ≡ length before
filling-length input from count before table i f =
    ap length f.filled ∙ length-sets before 0 (numbers_in i (drop from input))

pub filling-turn : (input : List ℕ) (from count : ℕ) (before table : List ℕ) (i number : ℕ) → i < count →
    number ≡ number_in (take 4 (drop (from + 4 * i) input)) → Filling input from count before table i →
    Filling input from count before (set table i number) (i + 1)
filling-turn input from count before table i number l e f =
    let read : numbers_in i (drop from input) ++ (number ∷ []) ≡ numbers_in (i + 1) (drop from input) =
    ap (λ (x : ℕ). numbers_in i (drop from input) ++ (x ∷ []))
    (e ∙ ap (λ (behind : List ℕ). number_in (take 4 behind)) (sym (drop-drop (4 * i) from input)))
    ∙ sym (numbers_more i (drop from input))
    ∙ ap (λ (n : ℕ). numbers_in n (drop from input)) (let more : suc i ≡ i + 1 = omega arith in more) in
    let here : i ≡ 0 + length (numbers_in i (drop from input)) = omega (arith, numbers-length i (drop from input)) in
    record {
      filled =
          ap₂ (λ (t : List ℕ) (n : ℕ). set t n number) f.filled here
          ∙ sym (sets-append before 0 (numbers_in i (drop from input)) (number ∷ []))
          ∙ ap (sets before 0) read;
      within = omega arith;
    }

-- the part that was filled
pub filled-part : (count : ℕ) (bytes before : List ℕ) → count ≤ length before →
    take count (sets before 0 (numbers_in count bytes)) ≡ numbers_in count bytes
filled-part count bytes before room =
    ap (take count) (sets-eq (numbers_in count bytes) before 0 (omega (arith, room, numbers-length count bytes)))
    ∙ take_at (numbers_in count bytes) _ count (numbers-length count bytes)

-- which has the length that was asked for
pub filled-count : (count : ℕ) (bytes before table : List ℕ) → table ≡ sets before 0 (numbers_in count bytes) → count ≤ length before →
    count ≡ length (take count table)
filled-count count bytes before table e room =
    sym (length-take-le count table (omega (arith, room, ap length e, length-sets before 0 (numbers_in count bytes))))
