use Rattle.std.proofs.Common.{arith}
use Rattle.survivors.proofs.Tips.{blank_none}
use Rattle.survivors.proofs.Empties.{blank_valid}
use Rattle.survivors.proofs.Outcomes.{blank_of}
use Rattle.survivors.proofs.Survivors.new.Goals as goal

pub invariant_of-result : goal.invariant_of-result
invariant_of-result c = record { valid = blank_valid _ c.new-tree.ensures; within = omega arith; none = blank_none 0 32 }

pub returns : goal.returns
returns c = blank_of _ c.new-tree.ensures.top c.new-tree.ensures.base
