use Rattle.std.proofs.Common.{◌≡◌, ℕ, Option, ap, ◌∙◌, arith}
use Rattle.std.specs.Prelude.{unwrap_or}
use Rattle.survivors.proofs.Attaches.{width_fits, first_fits, heirs_fit, refs_fit, attached_oldest, attached_below}
use Rattle.survivors.proofs.tree.Tree.attach.Goals as goal

pub overflow_add-self : goal.overflow_add-self
overflow_add-self c = omega (arith, heirs_fit c.requires.1 c.pop.new.self c.unwrap-i.result c.pop.ensures.items c.unwrap-i.ensures c.in-Some.p c.in-Some.is c.unwrap_or.result)

pub overflow_add-self-in-Some : goal.overflow_add-self-in-Some
overflow_add-self-in-Some c = omega (arith, refs_fit c.requires.1 c.pop.new.self c.unwrap-i.result c.pop.ensures.items c.unwrap-i.ensures c.in-Some.p c.in-Some.is c.unwrap_or.result)

pub overflow_add-self-in-None : goal.overflow_add-self-in-None
overflow_add-self-in-None c = omega (arith, width_fits c.requires.1)

pub overflow_add-self-in-None-2 : goal.overflow_add-self-in-None-2
overflow_add-self-in-None-2 c = omega (arith, first_fits c.requires.1 c.pop.new.self c.unwrap-i.result c.pop.ensures.items c.unwrap-i.ensures)

pub returns-in-Some : goal.returns-in-Some
returns-in-Some c =
    let p : c.unwrap_or.result ≡ c.in-Some.p = c.unwrap_or.ensures ∙ ap (λ (z : Option ℕ). unwrap_or z 0) c.in-Some.is in
    let r = attached_below c.requires.1 c.pop.new.self c.unwrap-i.result c.pop.ensures.items c.unwrap-i.ensures c.in-Some.p c.in-Some.is in
    rw p r

pub returns-in-None : goal.returns-in-None
returns-in-None c = attached_oldest c.requires.1 c.pop.new.self c.unwrap-i.result c.pop.ensures.items c.unwrap-i.ensures c.in-None.is c.unwrap_or.result
