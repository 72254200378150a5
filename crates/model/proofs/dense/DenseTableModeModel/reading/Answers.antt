use Rattle.std.proofs.Common.{arith}
use Rattle.model.proofs.Products.{in_rows}
use Rattle.model.proofs.dense.DenseTableModeModel.reading.Goals as goal

pub charge_at-requires : goal.charge_at-requires
charge_at-requires c =
    let d = c.args.self.now in
    omega (arith, d.whole, in_rows d.modes d.values c.args.mode c.args.value c.if-mode-self.false c.if-value-self.false)
