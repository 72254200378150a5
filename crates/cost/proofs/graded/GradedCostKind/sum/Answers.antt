use Rattle.std.proofs.Common.{ap, arith}
use Rattle.cost.specs.Graded.{low}
use Rattle.cost.proofs.Totals.{same_total}
use Rattle.cost.proofs.graded.GradedCostKind.sum.Goals as goal

pub returns : goal.returns
returns c = λ x y p q s.
    let fit = low _ s in
    let left_b = ap (λ t. t.breaches) p.same in
    let right_b = ap (λ t. t.breaches) q.same in
    let left_p = ap (λ t. t.penalty) p.same in
    let right_p = ap (λ t. t.penalty) q.same in
    record {
      arises = s;
      same = same_total _ _ _ _ (omega (arith, fit.0.0, left_b, right_b)) (omega (arith, fit.0.1, left_p, right_p));
    }
