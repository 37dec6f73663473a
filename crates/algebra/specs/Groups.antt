-- Groups of k numbers, one behind the other in one list, and a test of each.
use Rattle.std.specs.Prelude.{ℕ, zero, suc, ◌*◌, Bool, true, ◌&&◌, List, take, drop}

-- the k numbers of group i, from 0 on
abbrev pub group_at : ℕ → List ℕ → ℕ → List ℕ
group_at k numbers i = take k (drop (k * i) numbers)

-- does each number below n pass the test?
unfoldable pub all_below : ℕ → (ℕ → Bool) → Bool
all_below zero test = true
all_below (suc n) test = all_below n test && test n
