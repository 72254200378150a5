use Rattle.std.proofs.Common.{◌≡◌, ℕ, ◌<◌, List, get_or, ap, ◌∙◌, rules}
use Rattle.std.proofs.lemmas.List.{length-replicate}
use Rattle.survivors.specs.Cells.{void}
use Rattle.survivors.proofs.Empties.{loose, full, idle_cells}
use Rattle.survivors.proofs.tree.Tree.new.Goals as goal

pub returns : goal.returns
returns c =
    let at : (k : ℕ) → k < 1024 → get_or c.from_fn.result k 0 ≡ k = λ k l. let m = (c.from_fn.ensures.items.at k 0 l).2.met in search (rules, m) in
    record {
      holds = loose (length-replicate 1024 void) idle_cells (full _ c.from.result.items (search rules) idle_cells (λ k l. ap (λ (z : List ℕ). get_or z k 0) c.from.ensures.0 ∙ at k l)) (search rules) (search rules) (search rules);
      base = search rules;
      top = search rules;
    }
