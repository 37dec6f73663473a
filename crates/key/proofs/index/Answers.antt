-- `key::index` meets its contract: the walk stands before the end or the first record that breaks a rule, and the verdict on that record
-- is the answer.
use Rattle.std.specs.Prelude.{Ok, Err}
use Rattle.std.proofs.Common.{◌≡◌, true, refl, sym, ap, ◌∙◌}
use Rattle.refusal.specs.Number.{number_of}
use Rattle.refusal.specs.Outcome.{given, refusal_of}
use Rattle.refusal.proofs.Outcomes.{handed-on}
use Rattle.records.specs.Take.{taken_outcome, taken_at}
use Rattle.key.specs.Check.{checked_outcome}
use Rattle.key.specs.Inner.{counts_seen}
use Rattle.key.specs.Reading.{is_end}
use Rattle.key.proofs.CheckOneRecord.{stops, breaks, ends, all_noted}
use Rattle.key.proofs.CheckSoFar.{noted}
use Rattle.key.proofs.IndexPromises.{too_long, refused-promise, accepted-promise}
use Rattle.key.proofs.SeenVerdict.{rules-kept}
use Rattle.key.proofs.index.Goals as goal
use Rattle.key.proofs.index.Goals.{In-Ok}

pub returns-then-key-gt65536 : goal.returns-then-key-gt65536
returns-then-key-gt65536 c =
    let told = refused-promise _ (Err c.new.result) _ _ _ (ap refusal_of c.new.ensures) (too_long _ c.if-key-gt65536.true) in
    record { answer = told.0; starts = told.1 }

pub arrays-reached-requires : goal.arrays-reached-requires
arrays-reached-requires c =
    let begun = c.head-begun.ensures in
    record { key_len_bound = c.if-key-gt65536.false; here_2 = begun.here _ c.requires; only_2 = begun.only _ }

pub returns-in_default : goal.returns-in_default
returns-in_default c =
    let f = c.unwrap_err.result in
    let told = refused-promise _ (Err f) _ (number_of f.reason) f.place refl
    (stops c.arrays-reached.ensures.here f (sym c.take-taken.ensures.answer ∙ ap taken_outcome c.unwrap_err.ensures)) in
    record { answer = told.0; starts = told.1 }

-- the record that was taken
took : (c : In-Ok) → taken_at c.args.key.now c.arrays-reached.result.at ≡ taken_outcome (Ok (c.in-Ok.item, c.in-Ok.next))
took c = sym c.take-taken.ensures.answer ∙ ap taken_outcome c.in-Ok.is

pub record-requires : goal.record-requires
record-requires c =
    let H = c.arrays-reached.ensures.here in
    record { noted = noted H; narrow = H.narrow_array }

pub returns-in_err-record : goal.returns-in_err-record
returns-in_err-record c =
    let f = c.in_err-record.field-0.0 in
    let told = refused-promise _ c.from_residual.result _ (number_of f.reason) f.place (ap checked_outcome (handed-on _ c.from_residual.ensures.1))
    (breaks c.arrays-reached.ensures.here _ _ (took (goal.at.returns-in_err-record c).In-Ok) f
    (sym c.record.ensures ∙ c.in_err-record.was)) in
    record { answer = told.0; starts = told.1 }

pub returns : goal.returns
returns c =
    let item = c.in-Ok.item in
    let next = c.in-Ok.next in
    let a = c.arrays-reached in
    let H = a.ensures.here in
    let kept = sym c.record.ensures ∙ c.in_ok-record.was in
    let taken = took (goal.at.returns c).In-Ok in
    let end : is_end item ≡ true = a.ensures.only item next taken (rules-kept a.result.seen _ _ a.result.at next item kept) in
    let told = accepted-promise _ (Ok c.counts.result) _ (counts_seen a.result.seen) a.result.seen.arrays
    (ap given c.counts.ensures) (ends H item next taken kept end) (noted H).room (all_noted H item next taken kept end) in
    record { answer = told.0; starts = told.1 }
