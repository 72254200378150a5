-- What the decoder stands for.
use Rattle.std.specs.Prelude.{◌≡◌, ℕ, ◌+◌, ◌%◌, ◌<◌, ◌≤◌, Bool, true, ◌↔◌, List, [], ◌∷◌, ◌++◌, length, is_some, Some, Ok, Err, Option, Result, slice_index}
use Rattle.fault.specs.declared.Fault.{Fault}
use Rattle.fault.specs.declared.Fault.TheVariants.{TreeFull, NoReachableMode}
use Rattle.fault.specs.Checks.{◌when◌, InOrder}
use Rattle.cost.specs.declared.charge.Total.{Total}
use Rattle.cost.specs.Kind.{Kind}
use Rattle.model.specs.Meaning.{Meaning}
use Rattle.viterbi.specs.Lists.{Counted}
use Rattle.viterbi.specs.Paths.{Reading, Log, Reachable, CheapestTo, CheapestOf, Decided, Live}
use Rattle.trellis.specs.Size.{READINGS}
use Rattle.trellis.specs.Rows.{First, Next}
use Rattle.trellis.specs.Rows as rows
use Rattle.trellis.specs.State.{present}
use Rattle.trellis.specs.State as state
use Rattle.survivors.specs.Survivors.{HasTip, OnPath, path_to}
use Rattle.survivors.specs.Survivors as tree
use Rattle.decoder.specs.declared.Decoder.{Decoder}
use Rattle.decoder.specs.Shown.{PLACES, taken}

-- The cells of the survivor tree.
abbrev pub CELLS : ℕ
CELLS = 1024

-- The last 4,096 of the modes d stand at their places in the ring.
abbrev pub InRing : List ℕ → List ℕ → Type 0
InRing d ring = (i : ℕ) → i < length d → length d ≤ i + PLACES → slice_index ring (i % PLACES) ≡ slice_index d i

-- No reading is taken, and there are n modes.
pub record Fresh (n : ℕ) (d : Decoder) : Type 0 where
  pub modes : state.modes d.rows ≡ n
  pub tree : tree.Blank d.tree

module _ (K : Kind) (M : Meaning) where
  -- The row holds the totals of the modes; before the first reading there are none.
  abbrev pub Totalled : Log → List (Option Total) → Type 0
  Totalled [] row = Unit {0}
  Totalled (x ∷ xs) row = rows.Stands K M (x ∷ xs) row

  -- The decoder stands after the readings xs.
  pub record Stands (xs : Log) (d : Decoder) : Type 0 where
    pub modes : state.modes d.rows ≡ M.modes
    pub many : taken d ≡ length xs
    pub short : length xs ≤ READINGS
    -- after a reading some mode is reachable
    pub some : 0 < length xs → (t : ℕ) × Reachable K M xs t
    -- each reachable mode has the total of its cheapest path, and no other mode has one
    pub totals : Totalled xs (present d.rows)
    -- the modes that are decided are those that were settled, and stand in the ring
    pub decided : List ℕ
    pub is_decided : Decided K M xs decided
    pub settled : tree.decided d.tree ≡ length decided
    pub ready : InRing decided d.ring
    -- the paths of the tips are the rest of the cheapest paths
    pub tips : tree.decided d.tree < taken d → (u : ℕ) → HasTip d.tree u ↔ Reachable K M xs u
    pub rest : (u : ℕ) (p : List ℕ) (c : K.Cost) → CheapestTo K M xs u p c → p ≡ decided ++ path_to d.tree u
    -- and their cells are the live ones
    pub live : (n : ℕ) → Counted (OnPath d.tree) n → Live K M xs n

  -- The decoder has ended after the readings xs: p is their cheapest path, all of it settled, and w carries its cost.
  pub record Ended (xs : Log) (w : Total) (d : Decoder) : Type 0 where
    pub path : List ℕ
    pub cost : K.Cost
    pub cheapest : CheapestOf K M xs path cost
    pub total : w ≡ K.carried cost
    pub many : taken d ≡ length xs
    pub settled : tree.decided d.tree ≡ length xs
    pub ready : InRing path d.ring
    pub none_live : Counted (OnPath d.tree) 0

  -- Live cells and modes together are more than the tree has cells.
  pub record Full (xs : Log) : Type 0 where
    pub cells : ℕ
    pub live : Live K M xs cells
    pub more : CELLS < cells + M.modes

  -- No mode would be reachable after one more reading r.
  abbrev pub Stuck : Log → Reading → Type 0
  Stuck xs r = (t : ℕ) → Reachable K M (xs ++ r ∷ []) t → ⊥

  -- The row after one more reading, with predecessors and whether a mode is reachable.
  abbrev pub Goes : Log → Reading → List (Option Total) → List (Option ℕ) → Bool → Type 0
  Goes [] r row from any = First K M r row from any
  Goes (x ∷ xs) r row from any = Next K M (x ∷ xs) r row from any

  -- From the totals of n modes after m readings, the next row is right.
  abbrev pub Advanced : ℕ → ℕ → List (Option Total) → Reading → List (Option Total) → List (Option ℕ) → Bool → Type 0
  Advanced n m old r row from any = (xs : Log) → length xs ≡ m → length xs < READINGS → n ≡ M.modes → Totalled xs old → Goes xs r row from any

-- Every predecessor is a mode below n, which has a total where a reading was taken before.
abbrev pub BackedAfter : ℕ → ℕ → List (Option Total) → List (Option ℕ) → Type 0
BackedAfter m n old from = (t s : ℕ) → t < n → rows.from_at from t ≡ Some s → (s < n) × (0 < m → is_some (rows.total_at old s) ≡ true)

-- Tree, ring and present row are as they were.
pub record Unchanged (d e : Decoder) : Type 0 where
  pub tree : e.tree ≡ d.tree
  pub ring : e.ring ≡ d.ring
  pub rows : state.Kept d.rows e.rows

-- The answer to the reading r, whose place is `at`, after the readings xs: refused, with nothing changed, or taken.
abbrev pub Stepped : Kind → Meaning → Log → Reading → ℕ → Decoder → Result (Unit {0}) Fault → Decoder → Type 0
Stepped K M xs r at d a e =
    InOrder (TreeFull at when Full K M xs ∷ NoReachableMode at when Stuck K M xs r ∷ []) (λ f. (a ≡ Err f) × Unchanged d e) ((a ≡ Ok tt) × Stands K M (xs ++ r ∷ []) e)
