-- The agreement bound (01, 'Comparing two keys'; 02, E2 and E7): one claim about compare's answers on two keys at all their points, over
-- any field in which keys are evaluated. Its size q is p or p². Demand 3 stands beside it in quotation marks, word for word: it is the
-- claim over the field of p, where q is p and a coordinate is one number, for keys of one shape.
use Rattle.std.specs.Prelude.{ℕ, ◌+◌, ◌-◌, ◌*◌, ◌^◌, ◌≤◌, max, Bool, true, false, List, ◌⊎◌, ◌≡◌, length, take, drop}
use Rattle.refusal.specs.Outcome.{given}
use Rattle.algebra.specs.Points.{count_points, Below}
use Rattle.field.specs.Fp.{p, fp}
use Rattle.field.specs.Scalars.{Scalars, size_of}
use Rattle.multilinear.specs.Agreement.{Differ}
use Rattle.multilinear.specs.Matrix.{Matrix}
use Rattle.arrays.specs.Arrays.{Part}
use Rattle.key.specs.Check.{checked_key}
use Rattle.key.specs.KeyArrays.{key_arrays}
use Rattle.key.specs.declared.Counts.{Counts}
use Rattle.evaluation.specs.Evaluate.{last_of, dense_of}
use Rattle.evaluation.specs.Sheet.{places_of}
use Rattle.comparison.specs.Compare.{Answer, same, different, refused_for, compared}

-- "Take any two accepted keys of one shape, row and column bits summing to m,": check accepts each, and each has n row bits and n'
-- column bits of its own. By E7 the shapes may differ: N and N' are the larger bits, and m is N + N'.
pub record AcceptedKey (n n' : ℕ) (key : List ℕ) : Type 0 where
  pub counts : Counts
  pub accepted : checked_key key ≡ given counts
  pub row_bits : counts.rows ≡ n
  pub column_bits : counts.columns ≡ n'

-- "and run the one-point comparison at each of the p^m points with coordinates below p,": of q^m points over a field of q elements. A
-- point is a list of the numbers of m coordinates, each number below p
pub record Point (𝓢 : Scalars) (m : ℕ) (point : List ℕ) : Type 0 where
  pub numbers : length point ≡ 𝓢.width * m
  pub below : Below p point

-- "lent a long enough sheet each time, whatever that sheet holds.": a sheet with places for every array of either key. On any other
-- 31 comes (`short-refused` in proofs/LongEnough.antt).
pub record LongEnough (𝓢 : Scalars) (first second sheet : List ℕ) : Type 0 where
  pub for_first : places_of 𝓢 * length (key_arrays first) ≤ length sheet
  pub for_second : places_of 𝓢 * length (key_arrays second) ≤ length sheet

-- a sheet for each point
pub record Sheets (𝓢 : Scalars) (m : ℕ) (first second : List ℕ) : Type 0 where
  pub lent : List ℕ → List ℕ
  pub long_enough : (point : List ℕ) → Point 𝓢 m point → LongEnough 𝓢 first second (lent point)

-- what compare answers at a point, whose first N coordinates are the rows': the answer of the very definition in its contract
abbrev pub answer_at : Scalars → ℕ → List ℕ → List ℕ → List ℕ → List ℕ → Answer
answer_at 𝓢 N first second point sheet = (compared 𝓢 first second (take (𝓢.width * N) point) (drop (𝓢.width * N) point) sheet).answer

unfoldable pub is_same : Answer → Bool
is_same same = true
is_same different = false
is_same (refused_for which number place) = false

-- The dense A, B or C of a key's last array, every sum taken modulo p. That of an accepted key is filled with zeros as it is: beyond the
-- key's rows and columns it is zero, and placed at position 0 of a larger matrix it is itself (`dense-beyond` and `dense-filled` in
-- proofs/FilledExtensions.antt).
abbrev pub last_dense : List ℕ → Part → Matrix fp
last_dense key part = dense_of (key_arrays key) (last_of (key_arrays key)) part

-- the keys differ in some cell: at some row below 2^N and column below 2^N' their dense A, their dense B or their dense C are
-- unequal
pub record DifferInCell (N N' : ℕ) (first second : List ℕ) : Type 0 where
  pub part : Part
  pub differ : Differ fp (2 ^ N) (2 ^ N') (last_dense first part) (last_dense second part)

pub record AgreementBound (𝓢 : Scalars) (N N' : ℕ) (first second : List ℕ) : Type 0 where
  -- "If the dense matrices of their last arrays differ in some cell, it answers "same" at no more than p^m - (p-1)^m of these
  -- points,": q^m - (q-1)^m over a field of q elements; where m is 0, at none
  pub differ : (sheets : Sheets 𝓢 (N + N') first second) → DifferInCell N N' first second →
      count_points p (𝓢.width * (N + N')) (λ point. is_same (answer_at 𝓢 N first second point (sheets.lent point)))
      ≤ size_of 𝓢 ^ (N + N') - (size_of 𝓢 - 1) ^ (N + N')
  -- "and "different" at all the others.": where it is not "same"; no point is refused, whether the keys differ or not
  pub others : (sheets : Sheets 𝓢 (N + N') first second) (point : List ℕ) → Point 𝓢 (N + N') point →
      let answer = answer_at 𝓢 N first second point (sheets.lent point) in (answer ≡ same) ⊎ (answer ≡ different)
  -- "If they differ in no cell, it answers "same" at every one of these points."
  pub equal : (sheets : Sheets 𝓢 (N + N') first second) → (DifferInCell N N' first second → ⊥) →
      (point : List ℕ) → Point 𝓢 (N + N') point → answer_at 𝓢 N first second point (sheets.lent point) ≡ same
  -- and at one point it answers alike on all long enough sheets (01, 'Comparing two keys')
  pub alike : (point : List ℕ) → Point 𝓢 (N + N') point → (sheet sheet' : List ℕ) → LongEnough 𝓢 first second sheet →
      LongEnough 𝓢 first second sheet' → answer_at 𝓢 N first second point sheet ≡ answer_at 𝓢 N first second point sheet'

-- The claim about two keys. Nothing is assumed but that both are accepted. It is proved in proofs/Agreement.antt.
abbrev pub Agreement : Scalars → List ℕ → List ℕ → Type 0
Agreement 𝓢 first second =
    (n n' k k' : ℕ) → AcceptedKey n n' first → AcceptedKey k k' second → AgreementBound 𝓢 (max n k) (max n' k') first second
