use Rattle.std.proofs.Common.{ℕ, ◌*◌, ◌<◌, ◌≤◌, arith}
use Rattle.model.specs.declared.banded.Banded.{Banded}
use Rattle.model.proofs.Products.{product}
use Rattle.model.proofs.banded.BandedModeModel.reading.Goals as goal

-- the spacing has 16 bits, and the mode is below 32
spaced : (b : Banded) (spacing mode : ℕ) → spacing < 65536 → mode < b.parameters.modes → spacing * mode ≤ 65535 * 32
spaced b spacing mode h k = product spacing mode 65535 32 (omega arith) (omega (arith, b.few))

pub overflow_mul-centre : goal.overflow_mul-centre
overflow_mul-centre c = omega (arith, spaced c.args.self.now c.from-2.result c.args.mode (omega arith) (omega arith))

pub overflow_add-centre : goal.overflow_add-centre
overflow_add-centre c = omega (arith, spaced c.args.self.now c.from-2.result c.args.mode (omega arith) (omega arith))

pub overflow_mul-from : goal.overflow_mul-from
overflow_mul-from c =
    let p = spaced c.args.self.now c.from-2.result c.args.mode (omega arith) (omega arith) in
    let v = c.args.self.now.low in
    omega (arith, product c.from-3.result c.abs_diff-distance.result 65535 3000000 (omega arith) (omega arith))
