use Rattle.std.proofs.Common.{◌≡◌, subst, arith}
use Rattle.trellis.specs.Rows.{LeastBy}
use Rattle.trellis.proofs.Entering.{least_more}
use Rattle.trellis.proofs.Filling.{one_more}
use Rattle.trellis.proofs.row.least_by.Goals as goal

pub loop-s-preserved : goal.loop-s-preserved
loop-s-preserved g c = (
  least_more _ _ c.loop-s.s _ _ _ c.total.ensures c.better-best.ensures.carried c.loop-s.invariant.0,
  one_more _ c.loop-s.s _ _ _ c.total.ensures c.better-best.ensures.one c.loop-s.invariant.1,
)

pub returns-clause-least : goal.returns-clause-least
returns-clause-least g c =
    let done : c.loop-s.s ≡ c.args.modes.count = omega arith in
    subst (λ n. LeastBy (g.C.CostKind.kind c.args.kind.now) n (goal.F-post g c.args.total) c.loop-s.best) done c.loop-s.invariant.0
