-- What the contracts of functions on elements with unreduced parts cite. No public promise rests on it.
use Rattle.std.specs.Prelude.{ℕ, zero, suc, ◌+◌, ◌/◌, ◌%◌, ◌≤◌, ◌<◌}
use Rattle.field.specs.Fp.{p}
use Rattle.quadratic.specs.Fp2.{TwoParts}
use Rattle.quadratic.specs.declared.unreduced.Unreduced.{Unreduced}
use Rattle.quadratic.specs.declared.unreduced.Wide.{Wide}

-- the element: each part modulo p
abbrev pub remainders : Unreduced → TwoParts
remainders x = record { u = x.u % p; v = x.v % p }

abbrev pub wide_remainders : Wide → TwoParts
wide_remainders x = record { u = x.u % p; v = x.v % p }

-- both parts are below a number
abbrev pub Under : ℕ → Wide → Type 0
Under n x = (x.u < n) × (x.v < n)

-- both parts of the second are at most what folding leaves of those of the first
abbrev pub FoldedFrom : Wide → Wide → Type 0
FoldedFrom x y = (y.u ≤ x.u / 2147483648 + 2147483647) × (y.v ≤ x.v / 2147483648 + 2147483647)

-- how large a part is: u has the index 0, v every other
unfoldable pub size_of_part : Wide → ℕ → ℕ
size_of_part x zero = x.u
size_of_part x (suc i) = x.v
