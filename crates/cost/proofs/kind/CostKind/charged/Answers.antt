use Rattle.cost.proofs.Arising.{charged}
use Rattle.cost.proofs.kind.CostKind.charged.Goals as goal

pub returns : goal.returns
returns g c = charged _ _ _ _ _ c.in_ok-cost.ensures c.sum.ensures
