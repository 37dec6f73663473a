-- `editions::accepted` meets its contract: 55, 56 and 32 in this order, then the copy.
use Rattle.std.specs.Prelude.{Ok, Err}
use mathlib.Core.List.{[]}
use mathlib.Core.Path.{◌≡◌, refl, ap}
use native.Mathlib.Omega.{arith}
use Rattle.refusal.specs.Outcome.{refusal_of}
use Rattle.editions.specs.Move.{other_factors}
use Rattle.editions.proofs.MovedRecords.{no_other}
use Rattle.editions.proofs.MovingPromises.{factor-promise, length-promise, room-promise, copy-promise}
use Rattle.editions.proofs.accepted.Goals as goal
use Rattle.editions.proofs.accepted.Goals.{Else-other-key}

-- behind the first test there is no factor other than 1
none : (c : Else-other-key) → other_factors c.args.key.now ≡ []
none c =
    no_other _ _ c.requires (λ i. omega (arith, c.shared_slice_known-1.given i))
    (omega (arith, c.if-other-key.false, c.first_other-other.ensures))

pub first_other-other-requires : goal.first_other-other-requires
first_other-other-requires c = (_, c.requires)

pub returns-then-other-key : goal.returns-then-other-key
returns-then-other-key c =
    let told = factor-promise _ _ (Err c.new.result) _ c.requires _ c.first_other-other.ensures c.if-other-key.true (ap refusal_of c.new.ensures) in
    record { answer = told.0; buffer = told.1 }

pub returns-then-len-gt65536 : goal.returns-then-len-gt65536
returns-then-len-gt65536 c =
    let told = length-promise _ _ (Err c.new-then-len-gt65536.result) _ c.requires (none (goal.at.returns-then-len-gt65536 c).Else-other-key) _ c.copy_length-len.ensures c.if-len-gt65536.true (ap refusal_of c.new-then-len-gt65536.ensures) in
    record { answer = told.0; buffer = told.1 }

pub returns-then-buffer-len : goal.returns-then-buffer-len
returns-then-buffer-len c =
    let told = room-promise _ _ (Err c.new-then-buffer-len.result) _ c.requires (none (goal.at.returns-then-buffer-len c).Else-other-key) _ c.copy_length-len.ensures c.if-len-gt65536.false c.if-buffer-len.true
    (ap refusal_of c.new-then-buffer-len.ensures) in
    record { answer = told.0; buffer = told.1 }

pub records-requires : goal.records-requires
records-requires c =
    record { accepted = (_, c.requires); key_in_bounds = omega (arith, c.if-buffer-len.false, c.copy_length-len.ensures) }

pub returns : goal.returns
returns c =
    let told = copy-promise _ _ (Ok c.copy_length-len.result) _ c.requires (none (goal.at.returns c).Else-other-key) _ c.copy_length-len.ensures c.if-len-gt65536.false c.if-buffer-len.false refl _
    c.records.ensures in
    record { answer = told.0; buffer = told.1 }
