-- The cells of the tree as a list: how they are linked, and the modes that they stand for.
use Rattle.std.specs.Prelude.{if◌then◌else◌, ◌≡◌, ℕ, zero, suc, ◌+◌, ◌<◌, ◌≤◌, ◌≢◌, List, [], ◌∷◌, ◌++◌, length, ◌==◌, nat_lt, slice_index, slice_index_or, slice_set}
use Rattle.survivors.specs.Sums.{tally}
use Rattle.survivors.specs.declared.tree.Cell.{Cell}

-- A cell of zeros.
abbrev pub void : Cell
void = record { layer = 0; heirs = 0; parent = 0; refs = 0; mode = 0 }

-- The cell x. It is in use where its refs are above 0.
abbrev pub at : List Cell → ℕ → Cell
at cs x = slice_index_or cs x void

-- The modes of m layers, oldest first, of which the last is that of the cell c.
abbrev pub path : List Cell → ℕ → ℕ → List ℕ
path cs zero c = []
path cs (suc m) c = path cs m (at cs c).parent ++ ((at cs c).mode ∷ [])

-- The cell above x: its parent. For the oldest layer, base, 1024 stands for what is above all cells, so that one sum serves every layer.
abbrev pub owner : List Cell → ℕ → ℕ → ℕ
owner cs base x = if (at cs x).layer == base then 1024 else (at cs x).parent

-- The weight w x if x is in use and stands under o, else 0.
abbrev pub share : (ℕ → ℕ) → List Cell → ℕ → ℕ → ℕ → ℕ
share w cs base o x = if nat_lt 0 (at cs x).refs then (if owner cs base x == o then w x else 0) else 0

-- The weights of the cells in use under o, together.
abbrev pub under : (ℕ → ℕ) → List Cell → ℕ → ℕ → ℕ
under w cs base o = tally (share w cs base o) 1024

-- The weight that counts cells.
abbrev pub one : ℕ → ℕ
one x = 1

-- The weight that adds up places.
abbrev pub place : ℕ → ℕ
place x = x

-- How many cells are in use.
abbrev pub in_use : List Cell → ℕ
in_use cs = tally (λ x. if nat_lt 0 (at cs x).refs then 1 else 0) 1024

-- One reference more to the cell c.
abbrev pub plus : (ℕ → ℕ) → ℕ → ℕ → ℕ
plus held c x = if x == c then held x + 1 else held x

-- The cells with other refs and heirs in the cell i.
abbrev pub recount : List Cell → ℕ → ℕ → ℕ → List Cell
recount cs i r k = slice_set cs i (record { layer = (at cs i).layer; heirs = k; parent = (at cs i).parent; refs = r; mode = (at cs i).mode })

-- Each cell in use is of a layer from base to top and, above base, below a cell of the layer before; no two are of one layer and one mode.
pub record Shape (cs : List Cell) (base top : ℕ) : Type 0 where
  pub span : base ≤ top
  pub low : (x : ℕ) → x < 1024 → 0 < (at cs x).refs → base ≤ (at cs x).layer
  pub high : (x : ℕ) → x < 1024 → 0 < (at cs x).refs → (at cs x).layer ≤ top
  pub up : (x : ℕ) → x < 1024 → 0 < (at cs x).refs → base < (at cs x).layer → (at cs x).parent < 1024
  pub step : (x : ℕ) → x < 1024 → 0 < (at cs x).refs → base < (at cs x).layer → (at cs (at cs x).parent).layer + 1 ≡ (at cs x).layer
  pub small : (x : ℕ) → x < 1024 → 0 < (at cs x).refs → (at cs x).mode < 32
  pub lone : (x y : ℕ) → x < 1024 → y < 1024 → 0 < (at cs x).refs → 0 < (at cs y).refs → (at cs x).layer ≡ (at cs y).layer → (at cs x).mode ≡ (at cs y).mode → x ≡ y

-- free lists the cells that are not in use, each once.
pub record Stack (cs : List Cell) (free : List ℕ) : Type 0 where
  pub live : length free + in_use cs ≡ 1024
  pub below : (k : ℕ) → k < length free → slice_index free k < 1024
  pub empty : (k : ℕ) → k < length free → (at cs (slice_index free k)).refs ≡ 0
  pub apart : (j k : ℕ) → j < k → k < length free → slice_index free j ≢ slice_index free k

-- The cells are linked, where held x references to the cell x come from outside: refs counts these and the cells below,
-- heirs adds up the places of the cells below, and width and first do both for the oldest layer.
pub record Links (cs : List Cell) (free : List ℕ) (base top width first : ℕ) (held : ℕ → ℕ) : Type 0 where
  pub size : length cs ≡ 1024
  pub shape : Shape cs base top
  pub stack : Stack cs free
  pub count : (x : ℕ) → x < 1024 → (at cs x).refs ≡ under one cs base x + held x
  pub heir : (x : ℕ) → x < 1024 → 0 < (at cs x).refs → (at cs x).heirs ≡ under place cs base x
  pub wide : width ≡ under one cs base 1024
  pub oldest : first ≡ under place cs base 1024

-- Every cell is of the layer, the parent and the mode that it was.
pub record Same (old new : List Cell) : Type 0 where
  pub layer : (x : ℕ) → x < 1024 → (at new x).layer ≡ (at old x).layer
  pub parent : (x : ℕ) → x < 1024 → (at new x).parent ≡ (at old x).parent
  pub mode : (x : ℕ) → x < 1024 → (at new x).mode ≡ (at old x).mode

-- The same, and no cell came into use.
pub record Kept (old new : List Cell) : Type 0 where
  pub used : (x : ℕ) → x < 1024 → 0 < (at new x).refs → 0 < (at old x).refs
  pub same : Same old new
