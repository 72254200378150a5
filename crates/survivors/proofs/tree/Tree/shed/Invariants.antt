use Rattle.std.proofs.Common.{◌≡◌, ℕ, drop}
use Rattle.survivors.specs.Cells.{Kept}
use Rattle.survivors.specs.Trees.{Holds, both}
use Rattle.survivors.proofs.tree.Tree.shed.Given as goal

abbrev pub invariant-loop-tip : goal.invariant-loop-tip
invariant-loop-tip l = record {
  held : (h : ℕ → ℕ) × Holds l.self (both (drop l.tip-index l.tips) h);
  holds : (h : ℕ → ℕ) → Holds l.initial.self (both l.tips h) → Holds l.self (both (drop l.tip-index l.tips) h);
  kept : Kept l.initial.self.cells l.self.cells;
  base : l.self.base ≡ l.initial.self.base;
  top : l.self.top ≡ l.initial.self.top;
}
