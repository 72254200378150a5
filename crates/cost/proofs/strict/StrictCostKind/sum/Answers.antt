use Rattle.std.proofs.Common.{refl, ap, arith}
use Rattle.cost.specs.Strict.{low}
use Rattle.cost.proofs.Totals.{same_total}
use Rattle.cost.proofs.strict.StrictCostKind.sum.Goals as goal

pub returns : goal.returns
returns c = λ x y p q s.
    let fit = low _ s in
    let left = ap (λ t. t.penalty) p.same in
    let right = ap (λ t. t.penalty) q.same in
    record { arises = s; same = same_total _ _ _ _ refl (omega (arith, fit.0.1, left, right)) }
