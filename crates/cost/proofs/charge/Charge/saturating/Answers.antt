use Rattle.std.proofs.Common.{arith}
use Rattle.cost.specs.Charges.{same_charge}
use Rattle.cost.proofs.charge.Charge.saturating.Goals as goal

pub returns : goal.returns
returns c = same_charge _ _ (omega (arith, c.min.ensures)) (omega (arith, c.min-2.ensures))
