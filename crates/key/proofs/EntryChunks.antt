-- The bytes of an array's entries, taken off one entry at a time: where what is left of them stands in the key, and what is read there.
use Prim.Native.Nat.{ℕ, ◌+◌, ◌-◌, ◌≤◌}
use mathlib.Core.List.{List, [], ◌∷◌, ◌++◌}
use mathlib.Core.Path.{◌≡◌, refl, sym, ap, ap₂, ◌∙◌}
use native.Mathlib.Omega.{arith}
use lib.ListN.{length, length-append, take, drop}
use Rattle.std.proofs.Math.Seq.{drop-append_seam}
use Rattle.std.proofs.lemmas.List.{append_assoc, take-append-drop, take-append-le, drop-append-le, drop-drop, length-take-le, length-drop}
use Rattle.records.specs.Layout.{number_in, fields_in, total}

-- fields that are whole in some bytes are the same whatever stands behind these
pub fields-front : (widths bytes behind : List ℕ) → total widths ≤ length bytes → fields_in widths (bytes ++ behind) ≡ fields_in widths bytes
fields-front [] bytes behind l = refl
fields-front (width ∷ widths) bytes behind l =
    ap₂ (λ (n : ℕ) (fields : List ℕ). n ∷ fields) (ap number_in (take-append-le width bytes behind (omega (arith, l))))
    (ap (fields_in widths) (drop-append-le width bytes behind (omega (arith, l)))
    ∙ fields-front widths (drop width bytes) behind (omega (arith, l, length-drop width bytes)))

module _ (key : List ℕ) (to : ℕ) where
  -- some bytes stand in a key from an offset up to the offset `to`
  pub record Rest (rest : List ℕ) (at : ℕ) : Type 0 where
    pub ends : at + length rest ≡ to
    pub stands : drop at key ≡ rest ++ drop to key

  pub rest-begun : (bytes : List ℕ) (from : ℕ) → bytes ≡ take (to - from) (drop from key) → from ≤ to → to ≤ length key → Rest bytes from
  rest-begun bytes from is order inside =
      let long = ap (length {A = ℕ}) is ∙ length-take-le (to - from) (drop from key) (omega (arith, inside, length-drop from key)) in
      let end : from + (to - from) ≡ to = omega (arith, order) in
      record {
        ends = omega (arith, long, order);
        stands =
            sym (take-append-drop (to - from) (drop from key))
            ∙ ap₂ (λ (front back : List ℕ). front ++ back) (sym is)
            (drop-drop (to - from) from key ∙ ap (λ (n : ℕ). drop n key) end);
      }

  -- behind a chunk off their front the others are left, and what is read in the chunk is what stands in the key
  pub record Chunk (chunk others : List ℕ) (at : ℕ) : Type 0 where
    pub onward : Rest others (at + length chunk)
    pub read : (widths : List ℕ) → 1 + total widths ≤ length chunk → fields_in widths (drop 1 chunk) ≡ fields_in widths (drop (at + 1) key)

  pub chunk-taken : (rest chunk others : List ℕ) (at : ℕ) → Rest rest at → rest ≡ chunk ++ others → Chunk chunk others at
  chunk-taken rest chunk others at left is =
      let behind = others ++ drop to key in
      let stands : drop at key ≡ chunk ++ behind =
      left.stands ∙ ap (λ (bytes : List ℕ). bytes ++ drop to key) is ∙ append_assoc chunk others (drop to key) in
      record {
        onward = record {
          ends = omega (arith, left.ends, ap (length {A = ℕ}) is, length-append chunk others);
          stands =
              sym (drop-drop (length chunk) at key) ∙ ap (drop (length chunk)) stands ∙ drop-append_seam chunk behind;
        };
        read = λ widths l.
            sym (fields-front widths (drop 1 chunk) behind (omega (arith, l, length-drop 1 chunk)))
            ∙ ap (fields_in widths)
            (sym (drop-append-le 1 chunk behind (omega (arith, l))) ∙ sym (ap (drop 1) stands) ∙ drop-drop 1 at key);
      }
