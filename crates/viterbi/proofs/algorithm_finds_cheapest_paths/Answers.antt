use Rattle.viterbi.proofs.Growth.{computed}
use Rattle.viterbi.proofs.algorithm_finds_cheapest_paths.Goals as goal

pub returns : goal.returns
returns g c = computed (g.C.CostKind.kind c.args.kind.now)
