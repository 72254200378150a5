use Rattle.std.proofs.Common.{◌*◌, ◌≤◌, arith}
use Rattle.model.proofs.Products.{product}
use Rattle.model.proofs.banded.BandedModeModel.passage.Goals as goal

-- the rate has 16 bits, and the distance is at most 32
rated : (c : goal.After-from-3) → c.from-3.result * c.abs_diff-distance.result ≤ 65535 * 32
rated c = product _ _ 65535 32 (omega arith) (omega (arith, c.args.self.now.few))

pub overflow_mul-penalty : goal.overflow_mul-penalty
overflow_mul-penalty c = omega (arith, rated c)

pub overflow_add-penalty : goal.overflow_add-penalty
overflow_add-penalty c = omega (arith, rated c)
