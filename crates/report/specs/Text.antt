-- Text as bytes: words, decimal numbers, and the two together.
use Prim.Native.Char.{code}
use Rattle.std.specs.Prelude.{ℕ, zero, suc, ◌/◌, cond, List, [], ◌∷◌, ◌++◌, ltb}
use Prim.Native.String
use Rattle.io.specs.Digits.{last_digits}

-- the bytes of a text in ASCII
abbrev pub ascii : String.String → List ℕ
ascii String.[] = []
ascii (String.◌∷◌ c text) = code c ∷ ascii text

-- how many digits a number has, where that is no more than so many and one: one digit, or one more than its tens have
unfoldable pub places_within : ℕ → ℕ → ℕ
places_within zero n = 1
places_within (suc more) n = cond (ltb n 10) 1 (suc (places_within more (n / 10)))

-- how many digits a number of 64 bits has: at most 20
abbrev pub places : ℕ → ℕ
places n = places_within 19 n

-- a number in decimal, the most significant digit first and no zero before it; 0 is one digit
abbrev pub decimal : ℕ → List ℕ
decimal n = last_digits 10 (places n) n

-- a label and a number
abbrev pub labelled : List ℕ → ℕ → List ℕ
labelled label n = label ++ decimal n
