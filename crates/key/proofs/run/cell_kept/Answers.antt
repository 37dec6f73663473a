-- `key::run::cell_kept` meets its contract: it reads the cell and holds it to the rules.
use Rattle.std.specs.Prelude.{is_ok}
use mathlib.Core.Path.{refl, ap, ◌∙◌}
use Rattle.records.specs.Kinds.{cell_of}
use Rattle.records.specs.declared.Record.{Record}
use Rattle.rules.specs.Rules.{cell_rules}
use Rattle.key.proofs.RecordTried.{fails-other, tried}
use Rattle.key.proofs.run.cell_kept.Goals as goal

pub returns-then-key-at-ne4 : goal.returns-then-key-at-ne4
returns-then-key-at-ne4 c =
    let a = c.args in
    fails-other a.key.now Record.Cell (cell_rules a.array) a.at 4 (λ x. refl) c.if-key-at-ne4.true

pub returns : goal.returns
returns c =
    let a = c.args in
    tried a.key.now Record.Cell (cell_rules a.array) a.at 4 (λ x. refl) cell_of (λ x. refl) c.cell-c.result
    c.cell-c.ensures c.if-key-at-ne4.false c.requires c.is_ok.result (c.is_ok.ensures.value ∙ ap is_ok c.cell.ensures)
