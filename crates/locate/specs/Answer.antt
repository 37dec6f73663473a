-- What locate answers.
use Rattle.std.specs.Prelude.{Option, Some, None, Result, Ok, Err}
use Rattle.refusal.specs.Number.{number_of}
use Rattle.refusal.specs.declared.PairRefusal.{PairRefusal}
use Rattle.evaluate.specs.Answer.{values_in}
use Rattle.location.specs.Locate.{Found, same_there, differ_in, refused_as}
use Rattle.locate.specs.declared.Cell.{Cell}

-- what a cell says
abbrev pub cell_answer : Cell → Found
cell_answer cell = differ_in cell.row cell.column (values_in cell.first) (values_in cell.second)

-- what is answered: a cell in which the keys differ, none where they are the same at the point, or the key that a refusal is about
abbrev pub located_answer : Result (Option Cell) PairRefusal → Found
located_answer (Ok None) = same_there
located_answer (Ok (Some cell)) = cell_answer cell
located_answer (Err r) = refused_as r.key (number_of r.refusal.reason) r.refusal.place
