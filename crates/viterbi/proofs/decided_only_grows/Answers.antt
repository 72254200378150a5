use Rattle.viterbi.proofs.Growth.{grows}
use Rattle.viterbi.proofs.decided_only_grows.Goals as goal

pub returns : goal.returns
returns g c = grows (g.C.CostKind.kind c.args.kind.now)
