use Rattle.viterbi.proofs.Growth.{final}
use Rattle.viterbi.proofs.decided_is_final.Goals as goal

pub returns : goal.returns
returns g c = final (g.C.CostKind.kind c.args.kind.now)
