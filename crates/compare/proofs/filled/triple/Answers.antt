-- `compare::filled::triple` meets its contract: the pass over the key, and what the coordinates weigh that it doesn't use.
use Prim.Native.Nat.{ℕ, ◌+◌, ◌-◌, ◌/◌}
use mathlib.Core.Path.{◌≡◌, refl, sym, ap, ap₂, ◌∙◌}
use native.Mathlib.Omega.{arith}
use lib.ListN.{length}
use Rattle.scalar.proofs.NumbersRead.{counted-is}
use Rattle.key.proofs.FactorLimits.{key-factors-few}
use Rattle.evaluation.specs.Inner.{passed_by}
use Rattle.comparison.proofs.FilledByTables.{arrays-are, sides-are, triple-is, written_is, last-stands, last-is}
use Rattle.compare.proofs.filled.triple.Goals as goal
use Rattle.compare.proofs.filled.triple.Goals.{Start, After-over-factors}

-- as many coordinates as code counts
row-count : (g : _) (c : After-over-factors g) →
    length c.args.rows.now / c.WIDTH.result ≡ length (g.S.Scalar.elements.scalars.elements c.args.rows.now)
row-count g c = counted-is g.S.Scalar.elements g.S.Scalar.lawful c.args.rows.now c.WIDTH.result (c.WIDTH.ensures ∙ g.met.S.Scalar.width)

column-count : (g : _) (c : After-over-factors g) →
    length c.args.columns.now / c.WIDTH-2.result ≡ length (g.S.Scalar.elements.scalars.elements c.args.columns.now)
column-count g c =
    counted-is g.S.Scalar.elements g.S.Scalar.lawful c.args.columns.now c.WIDTH-2.result (c.WIDTH-2.ensures ∙ g.met.S.Scalar.width)

-- the sheet behind the pass
passed : (g : _) (c : After-over-factors g) →
    c.over-factors.new.sheet
    ≡ passed_by g.S.Scalar.elements c.args.key.now.bytes.now c.args.rowwise.now c.args.columnwise.now c.args.own.arrays c.args.sheet.now
passed g c =
    c.over-factors.ensures.sheet
    ∙ ap (λ (n : ℕ). passed_by g.S.Scalar.elements c.args.key.now.bytes.now c.args.rowwise.now c.args.columnwise.now n c.args.sheet.now)
    (sym (arrays-are _ _ _ _ _ _ c.requires.evaluable))

pub over-factors-requires : goal.over-factors-requires
over-factors-requires g c =
    let 𝓔 = g.S.Scalar.elements in
    let 𝓛 = g.S.Scalar.lawful in
    let e = c.requires.evaluable in
    record {
      sides = sides-are 𝓔 𝓛 _ _ _ _ _ e _ _ c.requires.tabled.0 c.requires.tabled.1 _
          (counted-is 𝓔 𝓛 c.args.rows.now c.WIDTH.result (c.WIDTH.ensures ∙ g.met.S.Scalar.width))
          (counted-is 𝓔 𝓛 c.args.columns.now c.WIDTH-2.result (c.WIDTH-2.ensures ∙ g.met.S.Scalar.width));
      room = rw (sym (arrays-are _ _ _ _ _ _ e)) e.serves.room;
    }

pub last-values-requires : goal.last-values-requires
last-values-requires g c =
    last-stands g.S.Scalar.elements g.S.Scalar.lawful _ _ _ _ _ c.requires.evaluable _ _ c.requires.tabled.0 c.requires.tabled.1 _ _ refl
    (passed g (goal.at.last-values-requires g c).After-over-factors)

pub weighed-counted-requires : goal.weighed-counted-requires
weighed-counted-requires g c =
    let e = c.requires.evaluable in
    let at = (goal.at.weighed-counted-requires g c).After-over-factors in
    record {
      rows_le_rows = rw (row-count g at) (e.serves.rows_given.enough, c.requires.tabled.0.side);
      columns_le_columns = rw (column-count g at) (e.serves.columns_given.enough, c.requires.tabled.1.side);
    }

pub overflow_add-result : goal.overflow_add-result
overflow_add-result g c =
    let e = c.requires.evaluable in
    let at = (goal.at.overflow_add-result g c).After-over-factors in
    omega (
      arith,
      c.over-factors.ensures.factors,
      key-factors-few _ _ e.accepted,
      c.weighed-counted.ensures.factors,
      row-count g at,
      column-count g at,
      e.serves.rows_given.few,
      e.serves.columns_given.few,
    )

pub returns : goal.returns
returns g c =
    let 𝓔 = g.S.Scalar.elements in
    let 𝓛 = g.S.Scalar.lawful in
    let e = c.requires.evaluable in
    let weighed = c.weighed-counted.ensures in
    let t = c.requires.tabled in
    let at = (goal.at.returns g c).After-over-factors in
    record {
      values = weighed.values
          ∙ triple-is 𝓔 𝓛 _ _ _ _ _ e _ _ t.0 t.1 _ (row-count g at) (column-count g at) _
          (last-is 𝓔 𝓛 _ _ _ _ _ e _ _ t.0 t.1 _ _ refl (passed g at) _ c.last-values.ensures);
      factors = ap₂ ◌+◌ c.over-factors.ensures.factors
          (weighed.factors
          ∙ ap₂ (λ (n n' : ℕ). (n - c.args.own.rows) + (n' - c.args.own.columns)) (row-count g at) (column-count g at));
      sheet = written_is 𝓔 𝓛 _ _ _ _ _ e _ _ t.0 t.1 _ _ refl (passed g at);
    }
