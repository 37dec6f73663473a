-- `records::read::record` meets its contract: in each arm the kind is known, and with it the widths.
use Prim.Native.Nat.{ℕ}
use mathlib.Core.Path.{◌≡◌, refl, ap}
use native.Mathlib.Omega.{arith}
use Rattle.records.specs.Kinds.{widths_of}
use Rattle.records.specs.Layout.{total}
use Rattle.records.proofs.RecordSizes.{end-kind}
use Rattle.records.proofs.read.record.Goals as goal

pub shape-requires : goal.shape-requires
shape-requires c = omega (arith, ap (λ (k : ℕ). total (widths_of k)) c.in-1.is)

pub shape-requires-in-2 : goal.shape-requires-in-2
shape-requires-in-2 c = omega (arith, ap (λ (k : ℕ). total (widths_of k)) c.in-2.is)

pub shape-requires-in-3 : goal.shape-requires-in-3
shape-requires-in-3 c = omega (arith, ap (λ (k : ℕ). total (widths_of k)) c.in-3.is)

pub cell-requires : goal.cell-requires
cell-requires c = omega (arith, ap (λ (k : ℕ). total (widths_of k)) c.in-4.is)

pub call-requires : goal.call-requires
call-requires c = omega (arith, ap (λ (k : ℕ). total (widths_of k)) c.in-5.is)

pub shape-requires-in-7 : goal.shape-requires-in-7
shape-requires-in-7 c = omega (arith, ap (λ (k : ℕ). total (widths_of k)) c.in-7.is)

pub scaled_call-requires : goal.scaled_call-requires
scaled_call-requires c = omega (arith, ap (λ (k : ℕ). total (widths_of k)) c.in-8.is)

pub returns-in-1 : goal.returns-in-1
returns-in-1 c = rw c.in-1.is record { kind = refl; fields = c.shape.ensures }

pub returns-in-2 : goal.returns-in-2
returns-in-2 c = rw c.in-2.is record { kind = refl; fields = c.shape-in-2.ensures }

pub returns-in-3 : goal.returns-in-3
returns-in-3 c = rw c.in-3.is record { kind = refl; fields = c.shape-in-3.ensures }

pub returns-in-4 : goal.returns-in-4
returns-in-4 c = rw c.in-4.is record { kind = refl; fields = c.cell.ensures }

pub returns-in-5 : goal.returns-in-5
returns-in-5 c = rw c.in-5.is record { kind = refl; fields = c.call.ensures }

pub returns-in-7 : goal.returns-in-7
returns-in-7 c = rw c.in-7.is record { kind = refl; fields = c.shape-in-7.ensures }

pub returns-in-8 : goal.returns-in-8
returns-in-8 c = rw c.in-8.is record { kind = refl; fields = c.scaled_call.ensures }

pub returns-in_default : goal.returns-in_default
returns-in_default c =
    let rest = c.in_default.in_default-own.rest in
    let six : c.args.kind ≡ 6 =
    end-kind c.args.kind rest.0.0.0.0.0.0.1 rest.0.0.0.0.0.1 rest.0.0.0.0.1 rest.0.0.0.1
    rest.0.0.1 rest.0.1 rest.1 c.requires.known in
    rw six record { kind = refl; fields = refl }
