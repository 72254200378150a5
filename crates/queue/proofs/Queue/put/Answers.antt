use Rattle.std.proofs.Common.{refl, rules}
use Rattle.queue.proofs.Moves.{appended_one}
use Rattle.queue.proofs.Queue.put.Goals as goal

pub returns : goal.returns
returns g c = appended_one c.args.self.now _ c.args.x (search rules) (search rules) refl refl refl
