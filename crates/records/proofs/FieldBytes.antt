-- The fields of a body and its bytes determine each other, by the widths.
use Prim.Native.Nat.{ℕ, zero, suc, ◌+◌, ◌≤◌}
use mathlib.Core.List.{List, [], ◌∷◌, ◌++◌, append_assoc}
use mathlib.Core.Path.{◌≡◌, refl, sym, ap, ap₂, ◌∙◌}
use native.Mathlib.Nat.{add_assoc}
use native.Mathlib.Omega.{arith}
use lib.ListN.{length, take, drop, length-append, length-drop}
use lib.Seq.{take_at, drop_at, take-add, drop-drop, get_or-drop, length-take-le}
use Rattle.records.specs.Inner.{Fit}
use Rattle.records.specs.Layout.{number_in, bytes_of, fields_in, field_bytes, total}
use Rattle.records.proofs.NumberBytes.{AreBytes, length-bytes, number-bytes, bytes-number}

pub length_fields : (widths fields : List ℕ) → Fit widths fields → length (field_bytes widths fields) ≡ total widths
length_fields [] [] fit = refl
length_fields [] (field ∷ fields) fit = elim fit [ ]
length_fields (width ∷ widths) [] fit = elim fit [ ]
length_fields (width ∷ widths) (field ∷ fields) fit =
    length-append (bytes_of width field) (field_bytes widths fields)
    ∙ ap₂ ◌+◌ (length-bytes width field) (length_fields widths fields fit.1)

-- fields that fit are read back, whatever stands behind them
pub fields_back : (widths fields rest : List ℕ) → Fit widths fields → fields_in widths (field_bytes widths fields ++ rest) ≡ fields
fields_back [] [] rest fit = refl
fields_back [] (field ∷ fields) rest fit = elim fit [ ]
fields_back (width ∷ widths) [] rest fit = elim fit [ ]
fields_back (width ∷ widths) (field ∷ fields) rest fit =
    ap (fields_in (width ∷ widths)) (append_assoc (bytes_of width field) (field_bytes widths fields) rest)
    ∙ ap₂ ◌∷◌
    (ap number_in (take_at (bytes_of width field) (field_bytes widths fields ++ rest) width (length-bytes width field))
    ∙ number-bytes width field fit.0)
    (ap (fields_in widths) (drop_at (bytes_of width field) (field_bytes widths fields ++ rest) width (length-bytes width field))
    ∙ fields_back widths fields rest fit.1)

bytes-taken : (n : ℕ) (bytes : List ℕ) → AreBytes bytes → AreBytes (take n bytes)
bytes-taken zero bytes are i = omega arith
bytes-taken (suc n) [] are i = omega arith
bytes-taken (suc n) (byte ∷ bytes) are zero = are 0
bytes-taken (suc n) (byte ∷ bytes) are (suc i) = bytes-taken n bytes (λ j. are (suc j)) i

pub bytes-dropped : (n : ℕ) (bytes : List ℕ) → AreBytes bytes → AreBytes (drop n bytes)
bytes-dropped n bytes are i = rw (get_or-drop n bytes i 0) (are (n + i))

-- fields that were read are written again as the bytes they were
pub bytes_back : (widths bytes : List ℕ) → AreBytes bytes → total widths ≤ length bytes →
    field_bytes widths (fields_in widths bytes) ≡ take (total widths) bytes
bytes_back [] bytes are room = refl
bytes_back (width ∷ widths) bytes are room =
    ap₂ ◌++◌ first (bytes_back widths (drop width bytes) (bytes-dropped width bytes are) (omega (arith, length-drop width bytes)))
    ∙ sym (take-add width (total widths) bytes)
  where
    wide : length (take width bytes) ≡ width
    wide = length-take-le width bytes (omega arith)

    first : bytes_of width (number_in (take width bytes)) ≡ take width bytes
    first =
        ap (λ (n : ℕ). bytes_of n (number_in (take width bytes))) (sym wide)
        ∙ bytes-number (take width bytes) (bytes-taken width bytes are)

-- ---- the fields at an offset

-- the fields that begin k bytes behind an offset
abbrev pub later : List ℕ → List ℕ → ℕ → ℕ → List ℕ
later [] bytes at k = []
later (width ∷ widths) bytes at k = number_in (take width (drop (at + k) bytes)) ∷ later widths bytes at (k + width)

fields-later : (widths bytes : List ℕ) (at k : ℕ) → fields_in widths (drop (at + k) bytes) ≡ later widths bytes at k
fields-later [] bytes at k = refl
fields-later (width ∷ widths) bytes at k =
    ap (λ (fields : List ℕ). number_in (take width (drop (at + k) bytes)) ∷ fields)
    (ap (fields_in widths) (drop-drop width (at + k) bytes ∙ ap (λ (n : ℕ). drop n bytes) (add_assoc at k width))
    ∙ fields-later widths bytes at (k + width))

pub fields_at : (width : ℕ) (widths bytes : List ℕ) (at : ℕ) →
    fields_in (width ∷ widths) (drop at bytes) ≡ number_in (take width (drop at bytes)) ∷ later widths bytes at width
fields_at width widths bytes at =
    ap (λ (fields : List ℕ). number_in (take width (drop at bytes)) ∷ fields)
    (ap (fields_in widths) (drop-drop width at bytes) ∙ fields-later widths bytes at width)
