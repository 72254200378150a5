use Rattle.viterbi.proofs.Growth.{uniqueness}
use Rattle.viterbi.proofs.cheapest_paths_are_unique.Goals as goal

pub returns : goal.returns
returns g c = uniqueness (g.C.CostKind.kind c.args.kind.now)
