use Rattle.std.proofs.Common.{rules}
use Rattle.trellis.proofs.Entering.{least_into}
use Rattle.trellis.proofs.row.into.Goals as goal

pub returns-clause-least : goal.returns-clause-least
returns-clause-least g c = least_into (g.C.CostKind.kind c.args.costs.now.kind.now) (g.M.Model.meaning c.args.costs.now.model.now) c.args.modes.count c.args.old.now c.args.t _ _ (λ s a l p. search rules) c.least_by.ensures.least
