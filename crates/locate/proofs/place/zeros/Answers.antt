-- `locate::place::zeros` meets its contract.
use Rattle.locate.proofs.place.zeros.Goals as goal

pub returns : goal.returns
returns c = λ t. record { a = c.zero.ensures t; b = c.zero-2.ensures t; c = c.zero-3.ensures t }
