use Rattle.std.proofs.Common.{rules}
use Rattle.trellis.proofs.Ways.{won, kept}
use Rattle.trellis.proofs.best.better.Goals as goal

pub returns-in-Some-best-clause-carried : goal.returns-in-Some-best-clause-carried
returns-in-Some-best-clause-carried g c = kept _ _ _ _ _ _ c.in-Some-best.is c.in-Some.is (search rules)

pub returns-in_default-best-clause-carried : goal.returns-in_default-best-clause-carried
returns-in_default-best-clause-carried g c = won _ _ _ _ _ _ c.in-Some-best.is c.in-Some.is (search rules)
