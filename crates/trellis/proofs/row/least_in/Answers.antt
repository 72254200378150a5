use Rattle.std.proofs.Common.{rules}
use Rattle.trellis.proofs.Entering.{ended}
use Rattle.trellis.proofs.row.least_in.Goals as goal

pub returns-clause-ends : goal.returns-clause-ends
returns-clause-ends g c = λ x xs stood. ended (g.C.CostKind.kind c.args.costs.now.kind.now) (g.M.Model.meaning c.args.costs.now.model.now) x xs c.args.row.now c.args.modes.count stood _ _ (λ s a l p. search rules) c.least_by.ensures.least
