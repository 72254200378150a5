use Rattle.std.proofs.Common.{◌-◌}
use Rattle.survivors.specs.Trees.{Settling}
use Rattle.survivors.proofs.Survivors.settle.Given as goal

abbrev pub invariant-down : goal.invariant-down
invariant-down l = Settling l.initial.self.tree l.initial.self.tips l.initial.ring l.self.tree l.self.tips l.ring

abbrev pub decreases-down : goal.decreases-down
decreases-down l = l.self.tree.top - l.self.tree.base
