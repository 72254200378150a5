use Rattle.std.proofs.Common.{◌≡◌, ℕ, ◌+◌, drop, Some, None, sym, ◌∙◌, arith}
use Rattle.std.proofs.lemmas.List.{get_or-take}
use Rattle.survivors.specs.Trees.{Holds, both, tip_at}
use Rattle.survivors.proofs.Shares.{kept_kept, links_held}
use Rattle.survivors.proofs.Tips.{from_none, from_some, past, tip_below}
use Rattle.survivors.proofs.tree.Tree.shed.Goals as goal
use Rattle.survivors.proofs.tree.Tree.shed.Goals.{in-Some, in_default}

pub release-requires : goal.release-requires
release-requires c =
    let i = c.loop-tip.invariant in
    let k = c.loop-tip.tip-index in
    let tips = c.args.tips.now in
    let at : tip_at tips k ≡ Some c.in-Some.cell = sym (get_or-take c.args.modes tips k None (omega arith)) ∙ c.in-Some.is in
    record {
      held = (both (drop (k + 1) tips) i.held.0, links_held (from_some tips i.held.0 k c.in-Some.cell (tip_below tips k c.in-Some.cell at) at) i.held.1);
      real = c.requires.real k c.in-Some.cell at;
    }

pub loop-tip-preserved : goal.loop-tip-preserved
loop-tip-preserved c =
    let i = c.loop-tip.invariant in
    let k = c.loop-tip.tip-index in
    let tips = c.args.tips.now in
    elim c.match-tip.branch [
      | in-Some w ↦
          let r = w.release.ensures in
          let at : tip_at tips k ≡ Some w.in-Some.cell = sym (get_or-take c.args.modes tips k None (omega arith)) ∙ w.in-Some.is in
          let on = λ (h : ℕ → ℕ) (t : Holds c.loop-tip.self (both (drop k tips) h)). r.holds (both (drop (k + 1) tips) h) (links_held (from_some tips h k w.in-Some.cell (tip_below tips k w.in-Some.cell at) at) t) in
          rw w.self-is (record {
            held = (i.held.0, on i.held.0 i.held.1);
            holds = λ h t. on h (i.holds h t);
            kept = kept_kept _ _ _ i.kept r.kept;
            base = r.base ∙ i.base;
            top = r.top ∙ i.top;
          })
      | in_default w ↦
          let at : tip_at tips k ≡ None = sym (get_or-take c.args.modes tips k None (omega arith)) ∙ w.in_default.is in
          let on = λ (h : ℕ → ℕ) (t : Holds c.loop-tip.self (both (drop k tips) h)). links_held (from_none tips h k (omega (arith, c.told-tips, c.requires.within)) at) t in
          rw w.self-is (record {
            held = (i.held.0, on i.held.0 i.held.1);
            holds = λ h t. on h (i.holds h t);
            kept = i.kept;
            base = i.base;
            top = i.top;
          })
    ]

pub returns : goal.returns
returns c =
    let i = c.loop-tip.invariant in
    record {
      holds = λ h t. links_held (past c.args.tips.now h c.loop-tip.tip-index (λ u x l. c.requires.none u x (omega arith))) (i.holds h t);
      kept = i.kept;
      base = i.base;
      top = i.top;
    }
