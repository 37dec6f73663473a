-- Elements that are the same number are the same, and the number of one is the one that its value holds.
use Prim.Native.Nat.{ℕ, ◌<◌}
use mathlib.Core.Path.{◌≡◌, sym, ap, ◌∙◌}
use Rattle.field.specs.Element.{Element, element_of, below-itself, same-element}
use Rattle.field.specs.Fp.{p}
use Rattle.field.specs.declared.fp.Fp.{Fp}

pub fp-equal : {x y : Fp} → x.number ≡ y.number → x ≡ y
fp-equal = same-element

pub number-held : {n : ℕ} {e : Element} → n < p → element_of n ≡ e → n ≡ e.number
number-held l e = sym (below-itself l) ∙ ap (λ (x : Element). x.number) e
