use Rattle.std.proofs.Common.{ℕ, set, replicate, None, Option, sym, ap, ◌∙◌, subst, arith}
use Rattle.survivors.specs.Cells.{plus}
use Rattle.survivors.specs.Trees.{Holds, NoneFrom, Real, Shed, Valid, both}
use Rattle.survivors.proofs.Laws.{tip_is}
use Rattle.survivors.proofs.Finishes.{shed_by, cut_real, cut_none, alone_none, alone_valid}
use Rattle.survivors.proofs.Outcomes.{finished_of, finished_none}
use Rattle.survivors.proofs.Survivors.finish.Goals as goal

pub shed-requires : goal.shed-requires
shed-requires c =
    let s = c.args.self.now in
    let f = tip_is s c.args.best (c.requires c.if-self.true) in
    record {
      held = (_, subst (λ (z : Option ℕ). Holds s.tree (both (set s.tips c.args.best z) (plus (λ _. 0) f.0))) (sym c.take-tip.ensures.after) (shed_by s.valid c.args.best f.0 f.1));
      real = subst (λ (z : Option ℕ). Real (set s.tips c.args.best z)) (sym c.take-tip.ensures.after) (cut_real s.valid c.args.best f.0 f.1);
      within = s.within;
      none = subst (λ (z : Option ℕ). NoneFrom s.modes (set s.tips c.args.best z)) (sym c.take-tip.ensures.after) (cut_none s.valid c.args.best f.0 f.1 s.none);
    }

pub invariant_of-self : goal.invariant_of-self
invariant_of-self c =
    let s = c.args.self.now in
    let f = tip_is s c.args.best (c.requires c.if-self.true) in
    let t = c.shed.new.self in
    let d = subst (λ (z : Option ℕ). Shed s.tree (set s.tips c.args.best z) t) c.take-tip.ensures.after c.shed.ensures in
    let a = ap (set (replicate 32 None) c.args.best) (c.take-tip.ensures.value ∙ f.1) in
    record {
      valid = subst (Valid t) (sym a) (alone_valid s.valid c.args.best f.0 f.1 d);
      within = s.within;
      none = subst (NoneFrom s.modes) (sym a) (alone_none s.valid c.args.best f.0 f.1 d s.none);
    }

pub returns-then-self : goal.returns-then-self
returns-then-self c =
    let s = c.args.self.now in
    let f = tip_is s c.args.best (c.requires c.if-self.true) in
    let d = subst (λ (z : Option ℕ). Shed s.tree (set s.tips c.args.best z) c.shed.new.self) c.take-tip.ensures.after c.shed.ensures in
    let a = ap (set (replicate 32 None) c.args.best) (c.take-tip.ensures.value ∙ f.1) in
    finished_of s c.args.best f.0 f.1 _ d a c.settle.ensures

pub returns-else-self : goal.returns-else-self
returns-else-self c = finished_none c.args.self.now c.args.best c.args.ring.now (omega arith)
