use Rattle.std.proofs.Common.{refl, sym, subst}
use Rattle.trellis.specs.Carried.{best_total, best_from}
use Rattle.trellis.specs.Rows.{BegunBy}
use Rattle.trellis.proofs.Ways.{through, through_none}
use Rattle.trellis.proofs.Entering.{begun}
use Rattle.trellis.proofs.row.begin.Goals as goal

pub returns-in_err-started : goal.returns-in_err-started
returns-in_err-started g c =
    let K = g.C.CostKind.kind c.args.costs.now.kind.now in
    let M = g.M.Model.meaning c.args.costs.now.model.now in
    subst (λ b. BegunBy K M c.args.reading c.args.t (best_total b) (best_from b)) (sym c.from_residual.ensures) (begun K M c.args.reading c.args.t _ _ (rw (c.zero.ensures, c.start.ensures) at c.in_err-started.ensures) (through_none K _), refl)

pub returns-in_err-total : goal.returns-in_err-total
returns-in_err-total g c =
    let K = g.C.CostKind.kind c.args.costs.now.kind.now in
    let M = g.M.Model.meaning c.args.costs.now.model.now in
    subst (λ b. BegunBy K M c.args.reading c.args.t (best_total b) (best_from b)) (sym c.from_residual-in_err-total.ensures) (begun K M c.args.reading c.args.t _ _ (rw (c.zero.ensures, c.start.ensures) at c.in_ok-started.ensures) (through K _ _ _ _ refl (rw c.reading.ensures at c.in_err-total.ensures)), refl)

pub returns : goal.returns
returns g c =
    let K = g.C.CostKind.kind c.args.costs.now.kind.now in
    let M = g.M.Model.meaning c.args.costs.now.model.now in (
      begun K M c.args.reading c.args.t _ _ (rw (c.zero.ensures, c.start.ensures) at c.in_ok-started.ensures) (through K _ _ _ _ refl (rw c.reading.ensures at c.in_ok-total.ensures)),
      refl,
    )
