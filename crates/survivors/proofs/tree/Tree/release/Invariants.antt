use Rattle.std.proofs.Common.{◌≡◌, ℕ, ◌<◌}
use Rattle.survivors.specs.Cells.{Kept, at, plus}
use Rattle.survivors.specs.Trees.{Holds}
use Rattle.survivors.proofs.tree.Tree.release.Given as goal

abbrev pub invariant-up : goal.invariant-up
invariant-up l = record {
  held : (h : ℕ → ℕ) × Holds l.self (plus h l.c);
  real : l.c < 1024;
  holds : (h : ℕ → ℕ) → Holds l.initial.self (plus h l.cell) → Holds l.self (plus h l.c);
  kept : Kept l.initial.self.cells l.self.cells;
  base : l.self.base ≡ l.initial.self.base;
  top : l.self.top ≡ l.initial.self.top;
}

abbrev pub decreases-up : goal.decreases-up
decreases-up l = (at l.self.cells l.c).layer
