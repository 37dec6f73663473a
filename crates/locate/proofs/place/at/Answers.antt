-- `locate::place::at` meets its contract: both keys are read at the bits, the first and then the second.
use mathlib.Core.Path.{◌≡◌, sym, ap, ◌∙◌}
use Rattle.refusal.specs.Outcome.{given}
use Rattle.refusal.proofs.Outcomes.{ok-unless}
use Rattle.key.specs.Check.{checked_outcome, checked_key}
use Rattle.location.proofs.CellRead.{few-rows, few-columns, first-accepted, second-accepted, first-asks, second-asks, both_read}
use Rattle.locate.proofs.place.at.Goals as goal
use Rattle.locate.proofs.place.at.Goals.{After-unwrap-other}

first-told : (c : After-unwrap-other) → checked_key c.args.first.now ≡ given c.unwrap-one.result
first-told c = sym c.check.ensures.answer ∙ ap checked_outcome c.unwrap-one.ensures

second-told : (c : After-unwrap-other) → checked_key c.args.second.now ≡ given c.unwrap-other.result
second-told c = sym c.check-2.ensures.answer ∙ ap checked_outcome c.unwrap-other.ensures

pub unwrap-one-requires : goal.unwrap-one-requires
unwrap-one-requires c =
    ok-unless _ (λ f e. first-accepted _ _ _ _ c.args.sheet.now c.requires _ _ (sym c.check.ensures.answer ∙ ap checked_outcome e))

pub unwrap-other-requires : goal.unwrap-other-requires
unwrap-other-requires c =
    ok-unless _ (λ f e. second-accepted _ _ _ _ c.args.sheet.now c.requires _ _ (sym c.check-2.ensures.answer ∙ ap checked_outcome e))

pub number-row-requires : goal.number-row-requires
number-row-requires c =
    (c.requires.are_bits, few-rows _ _ _ _ c.args.sheet.now c.requires)

pub number-column-requires : goal.number-column-requires
number-column-requires c =
    (c.requires.are_bits', few-columns _ _ _ _ c.args.sheet.now c.requires)

pub dense-in_first-requires : goal.dense-in_first-requires
dense-in_first-requires c =
    record { key_value = first-told (goal.at.dense-in_first-requires c).After-unwrap-other; serves = first-asks _ _ _ _ c.args.sheet.now c.requires _ (first-told (goal.at.dense-in_first-requires c).After-unwrap-other); below = (c.requires.are_bits, c.requires.are_bits') }

pub dense-in_second-requires : goal.dense-in_second-requires
dense-in_second-requires c =
    record {
      key_value = second-told (goal.at.dense-in_second-requires c).After-unwrap-other;
      serves = second-asks _ _ _ _ c.args.sheet.now c.requires _ (first-told (goal.at.dense-in_second-requires c).After-unwrap-other) _
          c.dense-in_first.ensures.sheet _ (second-told (goal.at.dense-in_second-requires c).After-unwrap-other);
      below = (c.requires.are_bits, c.requires.are_bits');
    }

pub returns : goal.returns
returns c =
    let one = c.dense-in_first.ensures in
    let other = c.dense-in_second.ensures in
    let told = both_read _ _ _ _ c.args.sheet.now c.requires _ (first-told (goal.at.returns c).After-unwrap-other) _ one.sheet _ (second-told (goal.at.returns c).After-unwrap-other) _ other.sheet _ _ _ _
    c.number-row.ensures
    c.number-column.ensures one.values other.values in
    record { answer = told.0; sheet = told.1 }
