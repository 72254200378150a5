use Rattle.std.proofs.Common.{ℕ, arith, rules}
use Rattle.survivors.specs.Cells.{at, plus}
use Rattle.survivors.specs.Trees.{Holds}
use Rattle.survivors.proofs.Shares.{kept_kept, links_at}
use Rattle.survivors.proofs.Freed.{gone_kept}
use Rattle.survivors.proofs.Releases.{room_left, stay_kept, stay, low_gone, low_heirs, width_left, first_left, end, p_below, heirs_left, moved_gone, on, falls}
use Rattle.survivors.proofs.tree.Tree.release.Goals as goal

pub returns-then-old-gt1 : goal.returns-then-old-gt1
returns-then-old-gt1 c =
    let i = c.up.invariant in
    record {
      holds = λ h t. stay h c.up.c i.real (i.holds h t) c.if-old-gt1.true;
      kept = kept_kept _ _ _ i.kept (stay_kept i.held.0 c.up.c i.real i.held.1 c.if-old-gt1.true);
      base = i.base;
      top = i.top;
    }

pub push-requires : goal.push-requires
push-requires c = let i = c.up.invariant in (search rules, room_left i.held.0 c.up.c i.real i.held.1)

pub overflow_sub-self-then-old-self : goal.overflow_sub-self-then-old-self
overflow_sub-self-then-old-self c = let i = c.up.invariant in width_left i.held.0 c.up.c i.real i.held.1 c.if-old-gt1.false c.if-old-self.true

pub overflow_sub-self-then-old-self-2 : goal.overflow_sub-self-then-old-self-2
overflow_sub-self-then-old-self-2 c = let i = c.up.invariant in first_left i.held.0 c.up.c i.real i.held.1 c.if-old-gt1.false c.if-old-self.true

pub returns-then-old-self : goal.returns-then-old-self
returns-then-old-self c =
    let i = c.up.invariant in
    record {
      holds = λ h t. links_at c.push.ensures.items (end h c.up.c i.real (i.holds h t) c.if-old-gt1.false c.if-old-self.true);
      kept = kept_kept _ _ _ i.kept (gone_kept _ _ _ (low_gone i.held.0 c.up.c i.real i.held.1 c.if-old-gt1.false));
      base = i.base;
      top = i.top;
    }

pub overflow_sub-self-in-up : goal.overflow_sub-self-in-up
overflow_sub-self-in-up c =
    let i = c.up.invariant in
    omega (arith, low_heirs i.held.0 c.up.c i.real i.held.1 (at c.up.self.cells c.up.c).parent, heirs_left i.held.0 c.up.c i.real i.held.1 c.if-old-gt1.false c.if-old-self.false)

pub up-preserved : goal.up-preserved
up-preserved c =
    let s = c.up.self in
    let i = c.up.invariant in
    let go = λ (h : ℕ → ℕ) (t : Holds s (plus h c.up.c)). links_at c.push.ensures.items (on h c.up.c i.real t c.if-old-gt1.false c.if-old-self.false) in
    record {
      held = (i.held.0, go i.held.0 i.held.1);
      real = p_below i.held.0 c.up.c i.real i.held.1 c.if-old-gt1.false c.if-old-self.false;
      holds = λ h t. go h (i.holds h t);
      kept = kept_kept _ _ _ i.kept (gone_kept _ _ _ (moved_gone i.held.0 c.up.c i.real i.held.1 c.if-old-gt1.false c.if-old-self.false));
      base = i.base;
      top = i.top;
    }

pub up-smaller : goal.up-smaller
up-smaller c = let i = c.up.invariant in falls i.held.0 c.up.c i.real i.held.1 c.if-old-gt1.false c.if-old-self.false
