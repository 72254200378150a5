use Rattle.std.proofs.Common.{◌≡◌, length, arith}
use Rattle.survivors.proofs.Sprouts.{sprout_none, skip, ready, grown}
use Rattle.survivors.proofs.tree.Tree.sprout.Goals as goal
use Rattle.survivors.proofs.tree.Tree.sprout.Goals.{in-Some, in_default}

pub loop-u-init : goal.loop-u-init
loop-u-init c = sprout_none c.requires.next c.told-new c.requires.blank

pub attach-i-requires : goal.attach-i-requires
attach-i-requires c = (_, ready c.requires.next c.loop-u.invariant c.loop-u-test.true c.in-Some.is)

pub loop-u-preserved : goal.loop-u-preserved
loop-u-preserved c = elim c.match-pred.branch [
  | in-Some w ↦ rw (w.self-is, w.new-is) (grown c.requires.next c.loop-u.invariant c.loop-u-test.true w.in-Some.is w.attach-i.ensures)
  | in_default w ↦ rw (w.self-is, w.new-is) (skip c.requires.next c.loop-u.invariant c.loop-u-test.true w.in_default.is)
]

pub returns : goal.returns
returns c = let e : length c.args.preds.now ≡ c.loop-u.u = omega arith in rw e c.loop-u.invariant
