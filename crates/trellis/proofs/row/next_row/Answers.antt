use Rattle.std.proofs.Common.{rules}
use Rattle.trellis.specs.Rows.{WayIn}
use Rattle.trellis.proofs.Filling.{filled_all, written_as, next, next_backed}
use Rattle.trellis.proofs.row.next_row.Goals as goal

pub returns-clause-next : goal.returns-clause-next
returns-clause-next g c =
    let K = g.C.CostKind.kind c.args.costs.now.kind.now in
    let M = g.M.Model.meaning c.args.costs.now.model.now in
    let n = c.args.modes.count in
    let old = c.args.old.now in
    λ x xs ready. next K M x xs c.args.reading old _ _ _ _ _ n ready (filled_all _ _ _ _ _ _ _ _ ready.stood.fits (written_as _ (WayIn K M n old c.args.reading) _ _ _ _ _ _ (λ t b l p. search rules) c.fill.ensures.filled))

pub returns-clause-backed : goal.returns-clause-backed
returns-clause-backed g c =
    let K = g.C.CostKind.kind c.args.costs.now.kind.now in
    let M = g.M.Model.meaning c.args.costs.now.model.now in
    let n = c.args.modes.count in
    let old = c.args.old.now in
    next_backed K M n old _ _ c.args.reading _ _ _ (written_as _ (WayIn K M n old c.args.reading) _ _ _ _ _ _ (λ t b l p. search rules) c.fill.ensures.filled)
