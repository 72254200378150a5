use Rattle.std.proofs.Common.{sym, refl, ◌∙◌, arith}
use Rattle.decoder.proofs.Stepping.{all_linked, ended, never_stuck}
use Rattle.decoder.proofs.Standing.{empty_ended}
use Rattle.decoder.proofs.Decoder.finish.Goals as goal

pub returns-then-taken-eq0 : goal.returns-then-taken-eq0
returns-then-taken-eq0 g c xs s = empty_ended (g.C.CostKind.kind c.args.costs.now.kind.now) (g.M.Model.meaning c.args.costs.now.model.now) xs c.args.self.now c.zero.result s (sym c.taken.ensures ∙ c.if-taken-eq0.true) c.zero.ensures

pub returns-in_default : goal.returns-in_default
returns-in_default g c xs s = absurd (never_stuck (g.C.CostKind.kind c.args.costs.now.kind.now) (g.M.Model.meaning c.args.costs.now.model.now) xs c.args.self.now s (λ e. c.if-taken-eq0.false (c.taken.ensures ∙ e)) c.in_default.ensures.ends)

pub finish-requires : goal.finish-requires
finish-requires g c l =
    let b = c.in-Some.ensures.backed c.in-Some.best.from refl in
    c.args.self.now.linked c.in-Some.best.from b.0 b.1 l

pub invariant_of-self : goal.invariant_of-self
invariant_of-self g c = record { linked = all_linked c.args.self.now.rows c.finish.new.self (omega (arith, c.finish.ensures.all_decided, c.finish.ensures.none_taken)) }

pub returns : goal.returns
returns g c xs s = ended (g.C.CostKind.kind c.args.costs.now.kind.now) (g.M.Model.meaning c.args.costs.now.model.now) xs c.args.self.now _ c.in-Some.best s (λ e. c.if-taken-eq0.false (c.taken.ensures ∙ e)) c.in-Some.ensures.ends c.finish.ensures
