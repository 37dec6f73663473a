-- Bytes written one behind the other.
use Prim.Native.Nat.{ℕ, ◌+◌, ◌≤◌}
use mathlib.Core.List.{List, [], ◌++◌}
use mathlib.Core.Path.{◌≡◌, refl, sym, ap, ap₂, ◌∙◌}
use native.Mathlib.Omega.{arith}
use borrow.Rule.Slice.PartMut.{put_mid}
use lib.ListN.{length, take, drop, length-append}
use lib.Seq.{sets, sets-eq, length-sets, take-length}
use Rattle.std.proofs.lemmas.Slice.{put_mid-paste}
use Rattle.evaluation.proofs.WordsOnSheet.{sets-append}
use Rattle.report.specs.Inner.{Wrote, HasRoom, Appended}
use Rattle.report.specs.Text.{labelled}
use Rattle.report.specs.declared.text.Text.{Text}
use Rattle.report.proofs.Decimals.{labelled-most}

-- a part of a text that was copied over
pub copied : (before : List ℕ) (at count : ℕ) (bytes part : List ℕ) → at + length bytes ≤ length before → part ≡ bytes →
    length bytes ≡ count → put_mid at count before part ≡ sets before at bytes
copied before at count bytes part room same e =
    put_mid-paste at count before part bytes (length bytes) same e refl
    ∙ ap (λ (xs : List ℕ). take at before ++ xs ++ drop (at + length bytes) before) (take-length bytes)
    ∙ sym (sets-eq bytes before at room)

-- ---- one text behind another

pub wrote-length : (before : List ℕ) (at : ℕ) (bytes after : List ℕ) (next : ℕ) → Wrote before at bytes after next →
    length after ≡ length before
wrote-length before at bytes after next w = ap length w.text ∙ length-sets before at bytes

pub wrote-more : (before : List ℕ) (at : ℕ) (xs mid : List ℕ) (next : ℕ) (ys after : List ℕ) (last : ℕ) →
    Wrote before at xs mid next → Wrote mid next ys after last → Wrote before at (xs ++ ys) after last
wrote-more before at xs mid next ys after last w v =
    record {
      fits = omega (arith, v.fits, w.behind, wrote-length before at xs mid next w, length-append xs ys);
      text =
          v.text ∙ ap₂ (λ (t : List ℕ) (n : ℕ). sets t n ys) w.text w.behind
          ∙ sym (sets-append before at xs ys);
      behind = omega (arith, v.behind, w.behind, length-append xs ys);
    }

-- nothing was written
pub appended-none : (text : Text) → text.at ≤ length text.bytes.now → Appended text [] text
appended-none text l = record { same = refl; wrote = record { fits = omega (arith, l); text = refl; behind = omega arith } }

pub appended-more : {before mid after : Text} (xs ys : List ℕ) → Appended before xs mid → Appended mid ys after →
    Appended before (xs ++ ys) after
appended-more xs ys a b = record { same = b.same ∙ a.same; wrote = wrote-more _ _ xs _ _ ys _ _ a.wrote b.wrote }

-- there is room behind what was written
pub room-behind : {before after : Text} (xs : List ℕ) (most room count : ℕ) → Appended before xs after → length xs ≤ most →
    HasRoom before room → most + count ≤ room → HasRoom after count
room-behind xs most room count a few l r =
    omega (arith, wrote-length _ _ xs _ _ a.wrote, a.wrote.behind, few, l, r)

-- labels and numbers of which the bytes are known to be at most so many
pub record Line (before : Text) (bytes : List ℕ) (most : ℕ) (after : Text) : Type 0 where
  pub appended : Appended before bytes after
  pub few : length bytes ≤ most

pub begun : {before after : Text} (label : List ℕ) (n : ℕ) → Appended before (labelled label n) after →
    Line before (labelled label n) (length label + 20) after
begun label n a = record { appended = a; few = labelled-most label n }

pub more : {before mid after : Text} (bytes : List ℕ) (most : ℕ) (label : List ℕ) (n : ℕ) → Line before bytes most mid →
    Appended mid (labelled label n) after → Line before (bytes ++ labelled label n) (most + (length label + 20)) after
more bytes most label n l a =
    record {
      appended = appended-more bytes (labelled label n) l.appended a;
      few = omega (arith, length-append bytes (labelled label n), l.few, labelled-most label n);
    }

pub ended : {before mid after : Text} (bytes : List ℕ) (most : ℕ) (word : List ℕ) → Line before bytes most mid →
    Appended mid word after → Line before (bytes ++ word) (most + length word) after
ended bytes most word l a =
    record {
      appended = appended-more bytes word l.appended a;
      few = omega (arith, length-append bytes word, l.few);
    }

pub room-for : {before after : Text} (bytes : List ℕ) (most room count : ℕ) → Line before bytes most after → HasRoom before room →
    most + count ≤ room → HasRoom after count
room-for bytes most room count l r e = room-behind bytes most room count l.appended l.few r e

-- a text from the start on
pub wrote-whole : (before bytes after : List ℕ) (next : ℕ) → Wrote before 0 bytes after next →
    (next ≡ length bytes) × (after ≡ bytes ++ drop (length bytes) before)
wrote-whole before bytes after next w =
    let long : 0 + length bytes ≡ length bytes = omega arith in (
      omega (arith, w.behind),
      w.text ∙ sets-eq bytes before 0 w.fits ∙ ap (λ (n : ℕ). bytes ++ drop n before) long,
    )
