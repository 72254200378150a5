use Rattle.std.proofs.Common.{subst}
use Rattle.trellis.specs.Carried.{Arrived}
use Rattle.trellis.proofs.Entering.{entered}
use Rattle.trellis.proofs.row.enter.Goals as goal

pub returns : goal.returns
returns g c =
    let K = g.C.CostKind.kind c.args.costs.now.kind.now in
    let M = g.M.Model.meaning c.args.costs.now.model.now in
    let charged = subst (λ h. Arrived K c.into-best.result h c.arrived.result) c.reading.ensures c.arrived.ensures.carried in (
      λ x xs ready below. entered K M x xs c.args.old.now c.args.modes.count ready c.args.reading c.args.t below _ _ c.into-best.ensures.least charged,
      λ s e. c.into-best.ensures.backed s (c.arrived.ensures.same s e),
    )
