-- For worked examples: one name for the definitions by which a key is read and checked. `unfolding checking` unfolds them all.
use mathlib.Core.List.{flat_map}
use Rattle.refusal.specs.Number.{number_of}
use Rattle.records.specs.Kinds.{record_of}
use Rattle.records.specs.Take.{taken_at, taken_from, taken_as}
use Rattle.key.specs.Before.{count_of}
use Rattle.key.specs.Check.{first_broken, rules_of, rules_behind, judged, checked_key}
use Rattle.key.specs.KeyArrays.{arrays_of, cells_first, calls_first}
use Rattle.key.specs.Reading.{read_at, read_from, located_in}

unfoldable pub checking : Unit {0}
unfolding
    number_of record_of taken_at taken_from taken_as read_at read_from located_in flat_map count_of rules_of rules_behind first_broken judged
    checked_key arrays_of cells_first calls_first
checking = tt
