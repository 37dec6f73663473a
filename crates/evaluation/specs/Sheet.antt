-- What a call leaves on a lent sheet (01, 'Dense form and evaluation').
use Rattle.std.specs.Prelude.{ℕ, zero, suc, ◌*◌, List, [], ◌++◌}
use Rattle.std.proofs.lemmas.List.Edits.{sets}
use Rattle.field.specs.Scalars.{Scalars}
use Rattle.arrays.specs.Arrays.{Triple}

-- the numbers that one array takes: those of A, B and C in turn
abbrev pub words_of : (𝓢 : Scalars) → Triple 𝓢.arithmetic.Carrier → List ℕ
words_of 𝓢 values = 𝓢.numbers values.a ++ (𝓢.numbers values.b ++ 𝓢.numbers values.c)

-- how many they are
abbrev pub places_of : Scalars → ℕ
places_of 𝓢 = 3 * 𝓢.width

-- the words of the arrays numbered below `count`, one behind the other
unfoldable pub words_below : {X : Type 0} → (ℕ → List X) → ℕ → List X
words_below words zero = []
words_below words (suc count) = words_below words count ++ words count

-- A sheet on which those words stand from the place `base` on, every other place being as it was. Where each array has w
-- words, those of array i begin at base + w·i (`laid-at` in proofs/WordsOnSheet.antt).
abbrev pub laid : ℕ → (ℕ → List ℕ) → ℕ → List ℕ → List ℕ
laid base words count sheet = sets sheet base (words_below words count)
