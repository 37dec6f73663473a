-- What the contracts of inner functions cite. No public promise rests on it.
use Rattle.std.specs.Prelude.{Result, Ok, Err, ℕ, ◌*◌, ◌≤◌, List, ◌≡◌, length}
use Rattle.refusal.specs.Outcome.{Outcome, given, outcome_of}
use Rattle.refusal.specs.declared.Refusal.{Refusal}
use Rattle.algebra.specs.Points.{Below}
use Rattle.field.specs.Fp.{p}
use Rattle.field.specs.Scalars.{Scalars}
use Rattle.key.specs.Check.{checked_key}
use Rattle.key.specs.declared.Counts.{Counts}

-- what a judgement of a key of these counts answers: the counts, where nothing is refused
abbrev pub judged : Counts → Result (Unit {0}) Refusal → Outcome Counts
judged counts = outcome_of (λ _. counts)

-- an accepted key has at most 1,024 arrays
abbrev pub FewArrays : Result Counts Refusal → Type 0
FewArrays (Ok counts) = counts.arrays ≤ 1024
FewArrays (Err f) = Unit {0}

-- so few arrays, cells and calls that those of two keys add up; every accepted key has no more (`few-records` in
-- proofs/KeysTogether.antt)
abbrev pub FewRecords : Counts → Type 0
FewRecords counts = (counts.arrays ≤ 1024) × (counts.cells ≤ 65537) × (counts.calls ≤ 65537)

-- coordinates for one side of arrays of at most n bits: enough of them, at most 30, no number beyond them, and each number below p
pub record Coordinates (𝓢 : Scalars) (n : ℕ) (numbers : List ℕ) : Type 0 where
  pub whole : length numbers ≡ 𝓢.width * length (𝓢.elements numbers)
  pub enough : n ≤ length (𝓢.elements numbers)
  pub few : length (𝓢.elements numbers) ≤ 30
  pub below : Below p numbers

-- an accepted key, and a point for it
pub record AtPoint (𝓢 : Scalars) (key rows columns : List ℕ) : Type 0 where
  pub counts : Counts
  pub accepted : checked_key key ≡ given counts
  pub rows_given : Coordinates 𝓢 counts.rows rows
  pub columns_given : Coordinates 𝓢 counts.columns columns
