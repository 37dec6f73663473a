-- `evaluate::array::scaled_calls` meets its contract: one call a turn.
use Prim.Native.Nat.{ℕ, ◌<◌}
use mathlib.Core.Path.{◌≡◌, refl, sym, ap, subst, ◌∙◌}
use native.Mathlib.Omega.{arith}
use lib.ListN.{length, length-append}
use Rattle.std.specs.declared.slice.ChunksExact.{ChunksExact}
use Rattle.weights.specs.Side.{prepared}
use Rattle.records.specs.Inner.{call_size}
use Rattle.indexed.specs.Entries.{behind}
use Rattle.indexed.proofs.ArrayEntries.{entries-stand, entries-here}
use Rattle.evaluation.proofs.EntriesInBytes.{CallsIn, calls-in, scaled-call-here, scaled-call-turn, calls-over}
use Rattle.evaluate.specs.Inner.{reduced_in}
use Rattle.evaluate.proofs.UnreducedSums.{bounded-begun, bounded-light, bounded-onward}
use Rattle.evaluate.proofs.array.scaled_calls.Goals as goal
use Rattle.evaluate.proofs.array.scaled_calls.Goals.{In-Some}

pub loop-bytes-init : goal.loop-bytes-init
loop-bytes-init g c =
    let 𝓔 = g.S.Scalar.elements in
    let key = c.args.key.now in
    let i = c.args.i in
    let there = c.requires.i_in_bounds in
    let gives = c.into_iter-bytes-iterator.ensures.into_iter_gives in
    let items = c.chunks_exact-bytes-items.ensures in
    let rest = ap (λ (chunks : ChunksExact ℕ). chunks.rest.now) gives ∙ items.rest in
    let size = ap (λ (chunks : ChunksExact ℕ). chunks.size) gives ∙ items.size in (
      omega (arith, size),
      tt,
      size,
      omega (arith, ap (length {A = ℕ}) rest, c.entries.ensures.short),
      bounded-begun 𝓔 g.S.Scalar.sum g.S.Scalar.size _ _ c.nothing-sums.ensures,
      subst
          (CallsIn 𝓔.scalars key.bytes.now (prepared 𝓔 c.args.tables.now.rowwise.now) (prepared 𝓔 c.args.tables.now.columnwise.now) c.args.sheet.now i
          (behind key.bytes.now i) (reduced_in 𝓔 g.S.Scalar.sum c.nothing-sums.result)) (sym rest)
          (calls-in 𝓔.scalars _ _ _ _ _ _ _ c.nothing-sums.ensures.is _ _ (entries-stand key i there _ c.entries.ensures.bytes)
          (entries-here key i there) c.requires.recursive),
    )

-- in a turn: the bytes that are left are those of the call and the others
long : (g : _) (c : In-Some g) → length c.in-Some.bytes.now ≡ 15
long g c = c.in-Some.ensures.steps.1.1 ∙ c.loop-bytes.invariant.2

fewer : (g : _) (c : In-Some g) → length c.next.new.self.rest.now < length c.loop-bytes.bytes-iterator.rest.now
fewer g c =
    omega (arith, long g c, ap (length {A = ℕ}) c.in-Some.ensures.steps.1.0, length-append c.in-Some.bytes.now c.next.new.self.rest.now)

pub scaled_call-sums-requires-clause-called : goal.scaled_call-sums-requires-clause-called
scaled_call-sums-requires-clause-called g c =
    scaled-call-here _ _ _ _ _ _ _ _ _ c.requires.reached_in.row_bits c.requires.reached_in.column_bits _ _ _ _ 15 (omega arith)
    (long g (goal.at.scaled_call-sums-requires-clause-called g c).In-Some) c.in-Some.ensures.steps.1.0 c.loop-bytes.invariant.5 c.requires.edition refl _ c.scaled_call-c.ensures c.requires.i_in_bounds c.requires.filled

pub scaled_call-sums-requires-clause-light : goal.scaled_call-sums-requires-clause-light
scaled_call-sums-requires-clause-light g c =
    bounded-light g.S.Scalar.size _ _ (omega arith) c.loop-bytes.invariant.4

pub loop-bytes-preserved : goal.loop-bytes-preserved
loop-bytes-preserved g c =
    let at = (goal.at.loop-bytes-preserved g c).In-Some in
    let size = c.in-Some.ensures.steps.0 ∙ c.loop-bytes.invariant.2 in (
      omega (arith, size),
      tt,
      size,
      omega (arith, fewer g at, c.loop-bytes.invariant.3),
      bounded-onward g.S.Scalar.elements g.S.Scalar.sum g.S.Scalar.size _ _ _ _ _ (omega (arith, fewer g at, c.loop-bytes.invariant.3))
          c.scaled_call-sums.ensures c.loop-bytes.invariant.4,
      scaled-call-turn _ _ _ _ _ _ _ _ _ c.requires.reached_in.row_bits c.requires.reached_in.column_bits _ _ _ _ 15 (omega arith)
          (long g at) c.in-Some.ensures.steps.1.0 c.loop-bytes.invariant.5 c.requires.edition refl _ c.scaled_call-c.ensures _ c.scaled_call-sums.ensures.is,
    )

pub returns : goal.returns
returns g c = calls-over _ _ _ _ _ _ _ _ _ (omega (arith, c.in-None.ensures.steps.1.0, c.loop-bytes.invariant.2, ap call_size c.requires.edition)) c.loop-bytes.invariant.5
