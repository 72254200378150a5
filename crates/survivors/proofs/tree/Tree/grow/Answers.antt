use Rattle.std.proofs.Common.{sym, ◌∙◌}
use Rattle.survivors.proofs.Tips.{blank_none, none_some}
use Rattle.survivors.proofs.Sprouts.{holding, grown_all}
use Rattle.survivors.proofs.tree.Tree.grow.Goals as goal

pub shed-requires : goal.shed-requires
shed-requires c = record { held = (_, holding c.sprout.ensures); real = c.requires.next.valid.real; within = c.requires.within; none = c.requires.none }

pub returns : goal.returns
returns c = record { layered = grown_all c.requires.next c.sprout.ensures c.shed.ensures; none = λ u x l e. none_some (sym (c.sprout.ensures.beyond u l) ∙ e) }

pub sprout-requires : goal.sprout-requires
sprout-requires c = record { next = c.requires.next; blank = blank_none 0 32 }
