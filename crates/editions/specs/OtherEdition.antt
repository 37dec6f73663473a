-- What a key's copy in the other edition is (02, E9): check, evaluate, cell, compare and locate answer the same on it, and there and back
-- gives the first bytes.
use Rattle.std.specs.Prelude.{ℕ, ◌≤◌, ◌<◌, not, List, ◌≡◌, length, get_or, take}
use Rattle.refusal.specs.Outcome.{given}
use Rattle.field.specs.Scalars.{Scalars}
use Rattle.records.specs.Put.{overwritten}
use Rattle.key.specs.Check.{checked_key}
use Rattle.key.specs.KeyArrays.{key_arrays, key_scaled}
use Rattle.key.specs.declared.Counts.{Counts}
use Rattle.evaluation.specs.Cell.{celled}
use Rattle.evaluation.specs.Evaluate.{evaluated}
use Rattle.comparison.specs.Compare.{compared}
use Rattle.location.specs.Locate.{located}
use Rattle.editions.specs.Move.{moving}

-- two keys on which check, evaluate and compare over a field, and cell and locate answer the same
pub record Alike (𝓢 : Scalars) (one other : List ℕ) : Type 0 where
  -- check
  pub checks : checked_key one ≡ checked_key other
  -- evaluate, and cell
  pub evaluates : (rows columns sheet : List ℕ) → evaluated 𝓢 one rows columns sheet ≡ evaluated 𝓢 other rows columns sheet
  pub cells : (row column : ℕ) (sheet : List ℕ) → celled one row column sheet ≡ celled other row column sheet
  -- compare, with any key as the second and as the first
  pub compares_first : (second rows columns sheet : List ℕ) →
      compared 𝓢 one second rows columns sheet ≡ compared 𝓢 other second rows columns sheet
  pub compares_second : (first rows columns sheet : List ℕ) →
      compared 𝓢 first one rows columns sheet ≡ compared 𝓢 first other rows columns sheet
  -- locate likewise
  pub locates_first : (second rows columns sheet : List ℕ) → located one second rows columns sheet ≡ located other second rows columns sheet
  pub locates_second : (first rows columns sheet : List ℕ) → located first one rows columns sheet ≡ located first other rows columns sheet

-- a copy of a key in the other edition, where keys are evaluated over a field
pub record OtherEdition (𝓢 : Scalars) (key copy : List ℕ) : Type 0 where
  pub accepted : (counts : Counts) × (checked_key copy ≡ given counts)
  pub edition : key_scaled copy ≡ not (key_scaled key)
  pub arrays : key_arrays copy ≡ key_arrays key
  pub alike : Alike 𝓢 copy key
  -- moved in its turn, to any buffer that is long enough, it gives the key's length and bytes
  pub back : (buffer : List ℕ) → length key ≤ length buffer →
      moving copy buffer ≡ record { answer = given (length key); buffer = overwritten key buffer 0 }

-- Where moving a key of bytes to a buffer answers a length, so many bytes at the buffer's start are then a copy in the other edition.
abbrev pub Moves : Scalars → List ℕ → List ℕ → Type 0
Moves 𝓢 key buffer =
    ((i : ℕ) → get_or key i 0 < 256) → (copy : ℕ) → (moving key buffer).answer ≡ given copy →
    OtherEdition 𝓢 key (take copy (moving key buffer).buffer)
