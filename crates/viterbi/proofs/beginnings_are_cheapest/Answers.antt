use Rattle.viterbi.proofs.Growth.{beginnings}
use Rattle.viterbi.proofs.beginnings_are_cheapest.Goals as goal

pub returns : goal.returns
returns g c = beginnings (g.C.CostKind.kind c.args.kind.now)
