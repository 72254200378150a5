use Rattle.survivors.specs.Trees.{Sprout}
use Rattle.survivors.proofs.tree.Tree.sprout.Given as goal

abbrev pub invariant-loop-u : goal.invariant-loop-u
invariant-loop-u l = Sprout l.initial.self l.tips l.preds l.u l.self l.new
