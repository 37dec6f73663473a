-- What is handed back, by what compare answers at the point: it is no longer than either key, and empty exactly where that is not "same".
use Prim.Native.Nat.{ℕ, ◌<◌, ◌≤◌}
use mathlib.Core.Bool.{Bool, true, false, cond}
use mathlib.Core.List.{List}
use mathlib.Core.Path.{◌≡◌, refl, sym, ap, subst, ◌∙◌}
use native.Mathlib.Omega.{arith}
use lib.Dec.{ltb}
use lib.ListN.{length}
use borrow.Author.Tests.{lt-ltb, le-ltb, ltb-true, ltb-false}
use denote.Ref.{Bor}
use Rattle.refusal.specs.declared.Which.{Which}
use Rattle.field.specs.Scalars.{prime}
use Rattle.key.proofs.IndexedKey.{edition-byte}
use Rattle.comparison.specs.AgreementBound.{Agreement, is_same}
use Rattle.comparison.specs.Compare.{Answer, same, different, refused_for, compared}
use Rattle.comparison.proofs.Answers.{refused-not-same}
use Rattle.comparison.proofs.CompareCases.{not-refused}
use Rattle.shorter.specs.Shorter.{shorter_key, handed_by, handed_key, handed_length, HandedBack}

-- the second is the shorter where it has fewer bytes, and else the first
pub second-shorter : (first second : List ℕ) → length second < length first → Which.Second ≡ shorter_key first second
second-shorter first second l = rw (lt-ltb (length second) (length first) l) refl

pub first-shorter : (first second : List ℕ) → length first ≤ length second → Which.First ≡ shorter_key first second
first-shorter first second l = rw (le-ltb (length second) (length first) l) refl

module _ (first second rows columns sheet : List ℕ) where
  -- what compare answers decides
  pub handed-by : (answer : Answer) → (compared prime first second rows columns sheet).answer ≡ answer → (key : Which) →
      key ≡ handed_by answer (shorter_key first second) → key ≡ handed_key first second rows columns sheet
  handed-by answer e key is = is ∙ sym (ap (λ (a : Answer). handed_by a (shorter_key first second)) e)

  -- it is no longer than either key
  pub no_longer : let handed = handed_length (handed_key first second rows columns sheet) first second in
      (handed ≤ length first) × (handed ≤ length second)
  unfolding handed_by
  no_longer = by (compared prime first second rows columns sheet).answer
    where
      least : (b : Bool) → ltb (length second) (length first) ≡ b →
          let handed = handed_length (cond b Which.Second Which.First) first second in (handed ≤ length first) × (handed ≤ length second)
      least true e = (omega (arith, ltb-true (length second) (length first) e), omega arith)
      least false e = (omega arith, ltb-false (length second) (length first) e)

      by : (answer : Answer) → let handed = handed_length (handed_by answer (shorter_key first second)) first second in
          (handed ≤ length first) × (handed ≤ length second)
      by same = least (ltb (length second) (length first)) refl
      by different = (omega arith, omega arith)
      by (refused_for which number place) = (omega arith, omega arith)

  -- keys that are the same at a point are accepted, and an accepted key has bytes
  both_some : (compared prime first second rows columns sheet).answer ≡ same → (0 < length first) × (0 < length second)
  both_some alike =
      let known = not-refused prime first second rows columns sheet
      (λ which number place e. refused-not-same which number place (sym e ∙ alike)) in
      ((edition-byte first known.one known.accepts).0, (edition-byte second known.other known.accepts').0)

  -- it is empty exactly where compare does not say "same"
  pub empty-told : ltb 0 (handed_length (handed_key first second rows columns sheet) first second)
      ≡ is_same (compared prime first second rows columns sheet).answer
  unfolding is_same handed_by
  empty-told = by (compared prime first second rows columns sheet).answer refl
    where
      some : (b : Bool) → 0 < length first → 0 < length second →
          ltb 0 (handed_length (cond b Which.Second Which.First) first second) ≡ true
      some true l l' = lt-ltb 0 (length second) l'
      some false l l' = lt-ltb 0 (length first) l

      by : (answer : Answer) → (compared prime first second rows columns sheet).answer ≡ answer →
          ltb 0 (handed_length (handed_by answer (shorter_key first second)) first second) ≡ is_same answer
      by same e = let bytes = both_some e in some (ltb (length second) (length first)) bytes.0 bytes.1
      by different e = refl
      by (refused_for which number place) e = refl

-- so many bytes has the part that is handed back
pub handed-length : (key : Which) (first second part : Bor (List ℕ)) → HandedBack key first second part →
    length part.now ≡ handed_length key first.now second.now
handed-length Which.First first second part is = ap (λ (x : Bor (List ℕ)). length x.now) is
handed-length Which.Second first second part is = ap (λ (x : Bor (List ℕ)). length x.now) is
handed-length Which.Neither first second part is = ap length is.bytes

-- what is promised of a part and of the sheet, where `which` has answered this key
pub promised : (first second : Bor (List ℕ)) (rows columns sheet after : List ℕ) (answered key : Which) (part : Bor (List ℕ)) →
    (answered ≡ handed_key first.now second.now rows columns sheet) ×
    ((after ≡ (compared prime first.now second.now rows columns sheet).sheet) × Agreement prime first.now second.now) →
    answered ≡ key → HandedBack key first second part →
    HandedBack (handed_key first.now second.now rows columns sheet) first second part ×
    ((after ≡ (compared prime first.now second.now rows columns sheet).sheet) ×
    ((ltb 0 (length part.now) ≡ is_same (compared prime first.now second.now rows columns sheet).answer) ×
    (((length part.now ≤ length first.now) × (length part.now ≤ length second.now)) ×
    Agreement prime first.now second.now)))
promised first second rows columns sheet after answered key part (is, (left, agrees)) told handed =
    let back = subst (λ (k : Which). HandedBack k first second part) (sym told ∙ is) handed in
    let long = handed-length (handed_key first.now second.now rows columns sheet) first second part back in
    let least = no_longer first.now second.now rows columns sheet in (
      back,
      (
        left,
        (
          ap (λ (n : ℕ). ltb 0 n) long ∙ empty-told first.now second.now rows columns sheet,
          ((omega (arith, long, least.0), omega (arith, long, least.1)), agrees),
        ),
      ),
    )
