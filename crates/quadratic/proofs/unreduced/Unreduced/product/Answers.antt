-- `quadratic::unreduced::Unreduced::product` meets its contract: its sums are the parts of the product modulo p.
use native.Mathlib.Omega.{arith}
use Rattle.quadratic.proofs.Products.{product_is}
use Rattle.quadratic.proofs.unreduced.Unreduced.product.Goals as goal

pub returns : goal.returns
returns c =
    let u = c.two_products.ensures in
    let v = c.two_products-2.ensures in (
      product_is (record { u = c.args.self.u; v = c.args.self.v }) (record { u = c.args.other.u; v = c.args.other.v }) _ _
          (omega (arith, c.args.other.small.1)) u.0 v.0,
      (u.1, v.1),
    )
