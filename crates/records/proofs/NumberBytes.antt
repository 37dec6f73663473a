-- Numbers as bytes, the lowest first: a number and its bytes determine each other, whatever the width.
use Prim.Native.Nat.{ℕ, zero, suc, ◌+◌, ◌*◌, ◌/◌, ◌%◌, ◌^◌, ◌≤◌, ◌<◌}
use mathlib.Core.List.{List, [], ◌∷◌}
use mathlib.Core.Path.{◌≡◌, refl, ap, ap₂, ◌∙◌}
use native.Mathlib.Nat.{add-suc, pow-succ'}
use native.Mathlib.Numerals.{add-one}
use native.Mathlib.Omega.{arith}
use lib.ListN.{length, get_or, take, drop}
use lib.Seq.{drop-cons}
use Rattle.records.specs.Layout.{number_in, bytes_of}

-- every element is a byte
abbrev pub AreBytes : List ℕ → Type 0
AreBytes bytes = (i : ℕ) → get_or bytes i 0 < 256

pub length-bytes : (width number : ℕ) → length (bytes_of width number) ≡ width
length-bytes zero number = refl
length-bytes (suc width) number = ap suc (length-bytes width (number / 256))

digits : (x y : ℕ) → y ≡ x / 256 → x % 256 + 256 * y ≡ x
digits x y e = omega arith

-- a number that fits is read back
pub number-bytes : (width number : ℕ) → number < 256 ^ width → number_in (bytes_of width number) ≡ number
number-bytes zero number fits = omega arith
number-bytes (suc width) number fits =
    digits number (number_in (bytes_of width (number / 256))) (number-bytes width (number / 256) shorter)
  where
    shorter : number / 256 < 256 ^ width
    shorter = let f : number < 256 * 256 ^ width = rw pow-succ' at fits in omega arith

-- bytes that were read are written again
pub bytes-number : (bytes : List ℕ) → AreBytes bytes → bytes_of (length bytes) (number_in bytes) ≡ bytes
bytes-number [] are = refl
bytes-number (byte ∷ bytes) are =
    ap₂ ◌∷◌ (omega (arith, are 0))
    (ap (bytes_of (length bytes)) (omega (arith, are 0)) ∙ bytes-number bytes (λ i. are (suc i)))

-- ---- the bytes at an offset

drop-next : (bytes : List ℕ) (at k : ℕ) → at + k < length bytes →
    drop (at + k) bytes ≡ get_or bytes (at + k) 0 ∷ drop (at + suc k) bytes
drop-next bytes at k l = rw add-suc (drop-cons bytes (at + k) 0 l)

pub drop-from : (bytes : List ℕ) (at : ℕ) → at < length bytes → drop at bytes ≡ get_or bytes at 0 ∷ drop (at + 1) bytes
drop-from bytes at l = rw add-one (drop-cons bytes at 0 l)

-- ---- one, two and four bytes

pub byte-in : (bytes : List ℕ) (at : ℕ) → at < length bytes → number_in (take 1 (drop at bytes)) ≡ get_or bytes at 0
byte-in bytes at h = rw (drop-from bytes at h) (omega arith)

pub two-bytes-in : (bytes : List ℕ) (at : ℕ) → at + 2 ≤ length bytes →
    number_in (take 2 (drop at bytes)) ≡ get_or bytes at 0 + 256 * get_or bytes (at + 1) 0
two-bytes-in bytes at h =
    rw (drop-from bytes at (omega arith), drop-next bytes at 1 (omega arith)) (omega arith)

pub four-bytes-in : (bytes : List ℕ) (at : ℕ) → at + 4 ≤ length bytes →
    number_in (take 4 (drop at bytes)) ≡
    get_or bytes at 0 + 256 * get_or bytes (at + 1) 0 + 65536 * get_or bytes (at + 2) 0 + 16777216 * get_or bytes (at + 3) 0
four-bytes-in bytes at h =
    rw
    (drop-from bytes at (omega arith), drop-next bytes at 1 (omega arith), drop-next bytes at 2 (omega arith), drop-next bytes at 3 (omega arith))
    (omega arith)
