use Rattle.std.proofs.Common.{◌<◌, sym, subst, arith}
use Rattle.trellis.specs.State.{modes}
use Rattle.decoder.proofs.Stepping.{first_advanced, next_advanced}
use Rattle.decoder.proofs.row.next_row.Goals as goal

pub returns-then-taken-eq0 : goal.returns-then-taken-eq0
returns-then-taken-eq0 g c =
    let e = c.first.ensures in
    record {
      advanced = first_advanced (g.C.CostKind.kind c.args.costs.now.kind.now) (g.M.Model.meaning c.args.costs.now.model.now) _ _ _ _ _ _ _ c.if-taken-eq0.true e.first;
      marked = e.marked;
      backed = λ t s l i. (subst (λ s. s < modes c.args.rows.now) (sym (e.themselves t s l i)) l, λ h. absurd (omega (arith, c.if-taken-eq0.true)));
      kept = e.kept;
    }

pub returns : goal.returns
returns g c =
    let e = c.next.ensures in
    record {
      advanced = next_advanced (g.C.CostKind.kind c.args.costs.now.kind.now) (g.M.Model.meaning c.args.costs.now.model.now) _ _ _ _ _ _ _ c.if-taken-eq0.false e.next;
      marked = e.marked;
      backed = λ t s l i. let b = e.backed t s l i in (b.0, λ h. b.1);
      kept = e.kept;
    }
