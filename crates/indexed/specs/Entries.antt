-- Where the entries of a key's arrays end, and the bytes between two offsets. The contracts of inner functions cite it.
use Rattle.std.specs.Prelude.{ℕ, ◌+◌, ◌-◌, List, [], ◌∷◌, ◌++◌, length, get_or, take, drop}
use Rattle.key.specs.Index.{starts_of}

-- the offset behind array i's entries: that of the next opening or of the end, which is the key's last byte
abbrev pub behind : List ℕ → ℕ → ℕ
behind key i = get_or (starts_of key ++ ((length key - 1) ∷ [])) (i + 1) 0

-- the bytes from an offset up to another
abbrev pub between : List ℕ → ℕ → ℕ → List ℕ
between bytes from to = take (to - from) (drop from bytes)
