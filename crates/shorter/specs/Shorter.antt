-- The shorter of two lent keys that are the same at a point, handed back itself (02, E6).
use Rattle.std.specs.Prelude.{ℕ, cond, List, [], ◌≡◌, ltb, length}
use Rattle.std.specs.Borrow.{Bor}
use Rattle.refusal.specs.declared.Which.{Which}
use Rattle.field.specs.Scalars.{prime}
use Rattle.comparison.specs.Compare.{Answer, same, different, refused_for, compared}

-- the shorter of two keys, the first on a tie
abbrev pub shorter_key : List ℕ → List ℕ → Which
shorter_key first second = cond (ltb (length second) (length first)) Which.Second Which.First

-- where compare says "same" that key is handed back, and neither where it says "different" or refuses
unfoldable pub handed_by : Answer → Which → Which
handed_by same key = key
handed_by different key = Which.Neither
handed_by (refused_for which number place) key = Which.Neither

-- the key that is handed back whole, by what compare answers at the point
abbrev pub handed_key : List ℕ → List ℕ → List ℕ → List ℕ → List ℕ → Which
handed_key first second rows columns sheet = handed_by (compared prime first second rows columns sheet).answer (shorter_key first second)

-- how many bytes are handed back: that key's, or none
abbrev pub handed_length : Which → List ℕ → List ℕ → ℕ
handed_length Which.First first second = length first
handed_length Which.Second first second = length second
handed_length Which.Neither first second = 0

-- a part of lent bytes that is empty, and begins where they do: in the same block of memory, at the same offset
pub record EmptyBeginning (lent part : Bor (List ℕ)) : Type 0 where
  pub place : part.ref_ptr ≡ lent.ref_ptr
  pub bytes : part.now ≡ []

-- what is handed back of two lent keys: one of them itself, its place and its bytes, or the empty beginning of the first
abbrev pub HandedBack : Which → Bor (List ℕ) → Bor (List ℕ) → Bor (List ℕ) → Type 0
HandedBack Which.First first second part = part ≡ first
HandedBack Which.Second first second part = part ≡ second
HandedBack Which.Neither first second part = EmptyBeginning first part
