use Rattle.std.proofs.Common.{arith}
use Rattle.survivors.proofs.Laws.{live_cells_lem}
use Rattle.survivors.proofs.Survivors.live.Goals as goal

pub returns : goal.returns
returns c = live_cells_lem c.args.self.now _ (omega (arith, c.len.ensures.value, c.len.ensures.fits))
