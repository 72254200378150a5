use Rattle.viterbi.proofs.Growth.{existence}
use Rattle.viterbi.proofs.cheapest_paths_exist.Goals as goal

pub returns : goal.returns
returns g c = existence (g.C.CostKind.kind c.args.kind.now)
