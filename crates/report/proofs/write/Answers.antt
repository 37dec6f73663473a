-- `report::write` meets its contract: what is printed is written from the text's start on.
use Rattle.report.proofs.TextPromises.{promised}
use Rattle.report.proofs.write.Goals as goal

pub returns : goal.returns
returns c =
    let told = promised _ _ _ _ c.print.ensures.wrote in
    record { length = told.0; text = told.1.0; within = told.1.1 }
