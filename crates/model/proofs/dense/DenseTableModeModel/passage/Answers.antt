use Rattle.std.proofs.Common.{arith}
use Rattle.model.proofs.Products.{in_rows}
use Rattle.model.proofs.dense.DenseTableModeModel.passage.Goals as goal

-- both orders of the two modes are in the table, so that safety does not depend on the order
pub charge_at-requires : goal.charge_at-requires
charge_at-requires c =
    let d = c.args.self.now in
    let f = c.args.from in
    let t = c.args.to in
    omega (arith, d.whole, in_rows d.modes d.modes f t c.if-from-self.false c.if-to-self.false, in_rows d.modes d.modes t f c.if-to-self.false c.if-from-self.false)
