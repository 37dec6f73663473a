-- Bytes written over a buffer, and more behind them.
use Prim.Native.Nat.{ℕ, ◌+◌, ◌≤◌}
use mathlib.Core.List.{List, [], ◌++◌, append_assoc, append-nil}
use mathlib.Core.Path.{◌≡◌, sym, ap, ap₂, ◌∙◌}
use native.Mathlib.Nat.{add-zero}
use native.Mathlib.Omega.{arith}
use lib.ListN.{length, take, drop, length-append, length-drop, take-append-drop}
use lib.Seq.{length-take-le, take_at, drop_at, drop-drop}
use Rattle.records.specs.Put.{overwritten}

-- no bytes leave the buffer as it was
pub overwritten-none : (buffer : List ℕ) (at : ℕ) → overwritten [] buffer at ≡ buffer
overwritten-none buffer at =
    ap₂ (λ (front : List ℕ) (n : ℕ). front ++ drop n buffer) (append-nil (take at buffer)) (add-zero at) ∙ take-append-drop at buffer

module _ (bytes buffer : List ℕ) (at : ℕ) (fits : at + length bytes ≤ length buffer) where
  front : length (take at buffer ++ bytes) ≡ at + length bytes
  front = omega (arith, length-append (take at buffer) bytes, length-take-le at buffer (omega arith))

  pub overwritten-length : length (overwritten bytes buffer at) ≡ length buffer
  overwritten-length =
      omega (
        arith,
        length-append (take at buffer ++ bytes) (drop (at + length bytes) buffer),
        front,
        length-drop (at + length bytes) buffer,
      )

  -- bytes behind those that were written
  pub overwritten-behind : (more : List ℕ) →
      overwritten more (overwritten bytes buffer at) (at + length bytes) ≡ overwritten (bytes ++ more) buffer at
  overwritten-behind more =
      ap₂ (λ (before behind : List ℕ). before ++ more ++ behind)
      (take_at (take at buffer ++ bytes) (drop (at + length bytes) buffer) (at + length bytes) front)
      (sym (drop-drop (length more) (at + length bytes) (overwritten bytes buffer at))
      ∙ ap (drop (length more)) (drop_at (take at buffer ++ bytes) (drop (at + length bytes) buffer) (at + length bytes) front)
      ∙ drop-drop (length more) (at + length bytes) buffer)
      ∙ ap₂ (λ (before : List ℕ) (n : ℕ). before ++ drop n buffer)
      (append_assoc (take at buffer) bytes more)
      (let e : at + length bytes + length more ≡ at + length (bytes ++ more) = omega (arith, length-append bytes more) in e)
