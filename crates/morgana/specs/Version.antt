-- The version of the library as one number: 1,000,000 for each major, 1,000 for each minor, 1 for each patch version.
use Rattle.std.specs.Prelude.{ℕ, ◌+◌, ◌*◌}

-- 0.7.0
abbrev pub version : ℕ
version = 1000000 * 0 + 1000 * 7 + 0
