use Rattle.viterbi.proofs.Growth.{one_step}
use Rattle.viterbi.proofs.one_more_reading.Goals as goal

pub returns : goal.returns
returns g c = one_step (g.C.CostKind.kind c.args.kind.now)
