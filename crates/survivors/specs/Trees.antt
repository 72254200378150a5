-- The inner tree and the tips that hold it: the invariant, and what each method keeps and changes.
use Rattle.std.specs.Prelude.{if◌then◌else◌, ◌≡◌, ℕ, ◌+◌, ◌-◌, ◌^◌, ◌<◌, ◌≤◌, ◌≢◌, Bool, false, List, [], ◌∷◌, ◌++◌, length, Some, None, Option, ◌==◌, slice_index, slice_index_or, unwrap_or, count_by}
use Rattle.survivors.specs.Ring.{Written}
use Rattle.survivors.specs.Cells.{Kept, Links, at, path, plus, recount}
use Rattle.survivors.specs.declared.tree.Tree.{Tree}

-- The tip of the mode u: the cell that its path ends in, if it has one.
abbrev pub tip_at : List (Option ℕ) → ℕ → Option ℕ
tip_at tips u = slice_index_or tips u None

-- The undecided modes of the path to the mode u, oldest first, where u has a tip.
abbrev pub path_of : Tree → List (Option ℕ) → ℕ → List ℕ
path_of s tips u = path s.cells (s.top - s.base) (unwrap_or (tip_at tips u) 0)

-- Whether a tip is the cell x.
abbrev pub is_cell : ℕ → Option ℕ → Bool
is_cell x (Some c) = x == c
is_cell x None = false

-- How many of the tips are the cell x.
unfoldable pub held : List (Option ℕ) → ℕ → ℕ
held tips x = count_by (is_cell x) tips

-- How many references to x are tips or counted by h.
abbrev pub both : List (Option ℕ) → (ℕ → ℕ) → ℕ → ℕ
both tips h x = held tips x + h x

-- The cells of s are linked, where h x references to the cell x come from outside.
abbrev pub Holds : Tree → (ℕ → ℕ) → Type 0
Holds s h = Links s.cells s.free.items s.base s.top s.width s.first h

-- A tip is a cell.
abbrev pub Real : List (Option ℕ) → Type 0
Real tips = (u c : ℕ) → tip_at tips u ≡ Some c → c < 1024

-- No mode from n on has a tip.
abbrev pub NoneFrom : ℕ → List (Option ℕ) → Type 0
NoneFrom n tips = (u c : ℕ) → n ≤ u → tip_at tips u ≡ Some c → ⊥

-- The invariant between calls: the tips hold the tree. The tip of u is a cell of the newest layer and of the mode u;
-- there are tips exactly while some reading is undecided.
pub record Valid (s : Tree) (tips : List (Option ℕ)) : Type 0 where
  pub holds : Holds s (held tips)
  pub many : length tips ≡ 32
  pub real : Real tips
  pub newest : (u c : ℕ) → tip_at tips u ≡ Some c → (at s.cells c).layer + 1 ≡ s.top
  pub ends : (u c : ℕ) → tip_at tips u ≡ Some c → (at s.cells c).mode ≡ u
  pub old : (x : ℕ) → x < 1024 → 0 < (at s.cells x).refs → (at s.cells x).layer < s.top
  pub none : s.base ≡ s.top → (u c : ℕ) → tip_at tips u ≡ Some c → ⊥
  pub any : s.base < s.top → ((u c : ℕ) → tip_at tips u ≡ Some c → ⊥) → ⊥

-- No reading is taken, and no cell is in use.
pub record Cleared (s : Tree) : Type 0 where
  pub holds : Holds s (λ _. 0)
  pub base : s.base ≡ 0
  pub top : s.top ≡ 0

-- A cell of the mode m can be attached to the newest layer, under the cell p; without p the newest layer is the oldest.
pub record Ready (s : Tree) (h : ℕ → ℕ) (m : ℕ) (p : Option ℕ) : Type 0 where
  pub holds : Holds s h
  pub few : (x : ℕ) → h x ≤ 1024
  pub small : m < 32
  pub room : 0 < length s.free.items
  pub fresh : (x : ℕ) → x < 1024 → 0 < (at s.cells x).refs → (at s.cells x).layer ≡ s.top → (at s.cells x).mode ≢ m
  pub oldest : p ≡ None → s.top ≡ s.base
  pub below : (c : ℕ) → p ≡ Some c → c < 1024
  pub used : (c : ℕ) → p ≡ Some c → 0 < (at s.cells c).refs
  pub layer : (c : ℕ) → p ≡ Some c → (at s.cells c).layer + 1 ≡ s.top

-- The cell i is attached, with one reference from outside; every other cell is where it was.
pub record Attached (s : Tree) (m : ℕ) (p : Option ℕ) (i : ℕ) (t : Tree) : Type 0 where
  pub holds : (h : ℕ → ℕ) → Holds s h → Holds t (plus h i)
  pub below : i < 1024
  pub was : (at s.cells i).refs ≡ 0
  pub used : (x : ℕ) → x < 1024 → x ≢ i → 0 < (at t.cells x).refs → 0 < (at s.cells x).refs
  pub uses : (x : ℕ) → x < 1024 → x ≢ i → 0 < (at s.cells x).refs → 0 < (at t.cells x).refs
  pub layer : (x : ℕ) → x < 1024 → x ≢ i → (at t.cells x).layer ≡ (at s.cells x).layer
  pub parent : (x : ℕ) → x < 1024 → x ≢ i → (at t.cells x).parent ≡ (at s.cells x).parent
  pub mode : (x : ℕ) → x < 1024 → x ≢ i → (at t.cells x).mode ≡ (at s.cells x).mode
  pub new_layer : (at t.cells i).layer ≡ s.top
  pub new_parent : (c : ℕ) → p ≡ Some c → (at t.cells i).parent ≡ c
  pub new_mode : (at t.cells i).mode ≡ m
  pub base : t.base ≡ s.base
  pub top : t.top ≡ s.top
  pub room : length t.free.items + 1 ≡ length s.free.items

-- One reference to the cell c is given back, and cells that nothing refers to any more are free.
pub record Released (s : Tree) (c : ℕ) (t : Tree) : Type 0 where
  pub holds : (h : ℕ → ℕ) → Holds s (plus h c) → Holds t h
  pub kept : Kept s.cells t.cells
  pub base : t.base ≡ s.base
  pub top : t.top ≡ s.top

-- The references of the tips are given back.
pub record Shed (s : Tree) (tips : List (Option ℕ)) (t : Tree) : Type 0 where
  pub holds : (h : ℕ → ℕ) → Holds s (both tips h) → Holds t h
  pub kept : Kept s.cells t.cells
  pub base : t.base ≡ s.base
  pub top : t.top ≡ s.top

-- The tree can take a layer in which the mode u goes on from the mode preds[u], and is not reachable where that is None.
pub record Next (s : Tree) (tips preds : List (Option ℕ)) : Type 0 where
  pub valid : Valid s tips
  pub many : length preds ≤ 32
  pub room : length preds ≤ length s.free.items
  pub bound : s.top + 1 < 2 ^ 32
  pub some : (u : ℕ) × (p : ℕ) × (slice_index_or preds u None ≡ Some p)
  pub mode : (u p : ℕ) → slice_index_or preds u None ≡ Some p → p < 32
  pub from : (u p : ℕ) → slice_index_or preds u None ≡ Some p → s.base < s.top → (c : ℕ) × (tip_at tips p ≡ Some c)

-- The first n modes have their cells in the new layer, with tips new beside the old ones; every other cell is where it was.
pub record Sprout (o : Tree) (tips preds : List (Option ℕ)) (n : ℕ) (s : Tree) (new : List (Option ℕ)) : Type 0 where
  pub holds : Holds s (both new (held tips))
  pub many : length new ≡ 32
  pub real : Real new
  pub beyond : (u : ℕ) → n ≤ u → tip_at new u ≡ None
  pub base : s.base ≡ o.base
  pub top : s.top ≡ o.top
  pub room : length o.free.items ≤ length s.free.items + n
  pub young : (x : ℕ) → x < 1024 → 0 < (at s.cells x).refs → (at s.cells x).layer ≡ o.top → (at s.cells x).mode < n
  pub uses : (x : ℕ) → x < 1024 → 0 < (at o.cells x).refs → 0 < (at s.cells x).refs
  pub layer : (x : ℕ) → x < 1024 → 0 < (at o.cells x).refs → (at s.cells x).layer ≡ (at o.cells x).layer
  pub parent : (x : ℕ) → x < 1024 → 0 < (at o.cells x).refs → (at s.cells x).parent ≡ (at o.cells x).parent
  pub mode : (x : ℕ) → x < 1024 → 0 < (at o.cells x).refs → (at s.cells x).mode ≡ (at o.cells x).mode
  pub reach : (u p : ℕ) → u < n → slice_index_or preds u None ≡ Some p → (c : ℕ) × (tip_at new u ≡ Some c)
  pub unreach : (u : ℕ) → slice_index_or preds u None ≡ None → tip_at new u ≡ None
  pub new_layer : (u c : ℕ) → tip_at new u ≡ Some c → (at s.cells c).layer ≡ o.top
  pub new_parent : (u c p q : ℕ) → tip_at new u ≡ Some c → slice_index_or preds u None ≡ Some p → tip_at tips p ≡ Some q → (at s.cells c).parent ≡ q
  pub new_mode : (u c : ℕ) → tip_at new u ≡ Some c → (at s.cells c).mode ≡ u

-- The tree has one more layer, and its tips are those of the new layer.
pub record Layered (s : Tree) (tips preds : List (Option ℕ)) (t : Tree) (tips' : List (Option ℕ)) : Type 0 where
  pub valid : Valid t tips'
  pub base : t.base ≡ s.base
  pub top : t.top ≡ s.top + 1
  pub reach : (u p : ℕ) → slice_index_or preds u None ≡ Some p → (c : ℕ) × (tip_at tips' u ≡ Some c)
  pub unreach : (u : ℕ) → slice_index_or preds u None ≡ None → tip_at tips' u ≡ None
  pub paths : (u p : ℕ) → slice_index_or preds u None ≡ Some p → path_of t tips' u ≡ path_of s tips p ++ (u ∷ [])

-- s after its oldest layer, which has one cell, is decided.
abbrev pub without_root : Tree → Tree
without_root s = record {
  cells = recount s.cells s.first 0 (at s.cells s.first).heirs;
  free = record { items = s.free.items ++ (s.first ∷ []) };
  base = s.base + 1;
  top = s.top;
  width = if s.base + 1 == s.top then 0 else (at s.cells s.first).refs;
  first = if s.base + 1 == s.top then 0 else (at s.cells s.first).heirs;
}

-- The modes out, with which all paths began, are decided and written.
pub record Settling (s : Tree) (tips : List (Option ℕ)) (ring : List ℕ) (t : Tree) (tips' : List (Option ℕ)) (ring' : List ℕ) : Type 0 where
  pub valid : Valid t tips'
  pub out : List ℕ
  pub base : t.base ≡ s.base + length out
  pub top : t.top ≡ s.top
  pub written : Written ring s.base out ring'
  pub paths : (u c : ℕ) → tip_at tips u ≡ Some c → path_of s tips u ≡ out ++ path_of t tips' u
  pub same_tips : t.base < t.top → tips' ≡ tips

-- Two paths part at the oldest undecided reading.
pub record Apart (s : Tree) (tips : List (Option ℕ)) : Type 0 where
  pub u : ℕ
  pub v : ℕ
  pub c : ℕ
  pub d : ℕ
  pub utip : tip_at tips u ≡ Some c
  pub vtip : tip_at tips v ≡ Some d
  pub differ : slice_index (path_of s tips u) 0 ≢ slice_index (path_of s tips v) 0
