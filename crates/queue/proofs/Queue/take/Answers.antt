use Rattle.std.proofs.Common.{refl, rules}
use Rattle.queue.proofs.Moves.{removed_one}
use Rattle.queue.proofs.Queue.take.Goals as goal

pub returns : goal.returns
returns g c = removed_one c.args.self.now _ c.in_ok-x.x (search rules) refl (search rules) refl
