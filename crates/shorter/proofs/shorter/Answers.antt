-- `shorter::shorter` meets its contract: the key that `which` answers is handed back.
use mathlib.Core.Path.{refl}
use Rattle.shorter.proofs.HandedBack.{promised}
use Rattle.shorter.proofs.shorter.Goals as goal

pub returns-in-First : goal.returns-in-First
returns-in-First c =
    let lent = c.args in
    let told = promised lent.first lent.second _ _ lent.sheet.now _ _ _ _ (c.which.ensures.key, (c.which.ensures.sheet, c.which.ensures.agreement)) c.in-First.is refl in
    record { part = told.0; sheet = told.1.0; told = told.1.1.0; least = told.1.1.1.0; agreement = told.1.1.1.1 }

pub returns-in-Second : goal.returns-in-Second
returns-in-Second c =
    let lent = c.args in
    let told = promised lent.first lent.second _ _ lent.sheet.now _ _ _ _ (c.which.ensures.key, (c.which.ensures.sheet, c.which.ensures.agreement)) c.in-Second.is refl in
    record { part = told.0; sheet = told.1.0; told = told.1.1.0; least = told.1.1.1.0; agreement = told.1.1.1.1 }

pub returns-in-Neither : goal.returns-in-Neither
returns-in-Neither c =
    let lent = c.args in
    let told = promised lent.first lent.second _ _ lent.sheet.now _ _ _ _ (c.which.ensures.key, (c.which.ensures.sheet, c.which.ensures.agreement)) c.in-Neither.is
    c.empty_beginning.ensures in
    record { part = told.0; sheet = told.1.0; told = told.1.1.0; least = told.1.1.1.0; agreement = told.1.1.1.1 }
