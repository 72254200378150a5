use Rattle.std.proofs.Common.{refl, arith}
use Rattle.survivors.proofs.Shares.{links_held}
use Rattle.survivors.proofs.Empties.{forgotten}
use Rattle.survivors.proofs.tree.Tree.clear.Goals as goal

pub shed-requires : goal.shed-requires
shed-requires c = record { held = ((λ _. 0), links_held (λ x l. omega arith) c.requires.valid.holds); real = c.requires.valid.real; within = c.requires.within; none = c.requires.none }

pub returns : goal.returns
returns c = record { holds = forgotten (c.shed.ensures.holds (λ _. 0) (links_held (λ x l. omega arith) c.requires.valid.holds)); base = refl; top = refl }
