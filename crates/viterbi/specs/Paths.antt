-- Paths through a model: what they cost, which is cheapest, what is decided and which cells are live.
use Rattle.std.specs.Prelude.{◌≡◌, ℕ, ◌<◌, ◌≤◌, ◌⊎◌, List, [], ◌∷◌, length, All, Some, Option, slice_index}
use Rattle.cost.specs.declared.charge.Charge.{Charge}
use Rattle.cost.specs.Kind.{Kind, sum}
use Rattle.model.specs.Meaning.{Meaning}
use Rattle.viterbi.specs.Lists.{EndsIn, LongestShared, Counted}

-- A reading is a number, and a log is its readings in order; a path is a list of modes, which are numbers too.
abbrev pub Reading : Type 0
Reading = ℕ

abbrev pub Log : Type 0
Log = List Reading

-- The charges of the readings after one that was read in mode s, along the modes ts.
abbrev pub later : Meaning → ℕ → Log → List ℕ → List Charge
later M s [] ts = []
later M s (r ∷ rs) [] = []
later M s (r ∷ rs) (t ∷ ts) = M.passage s t ∷ M.reading t r ∷ later M t rs ts

-- The charges of a log along the modes of a path, in order.
abbrev pub charges : Meaning → Log → List ℕ → List Charge
charges M [] ts = []
charges M (r ∷ rs) [] = []
charges M (r ∷ rs) (t ∷ ts) = M.start t ∷ M.reading t r ∷ later M t rs ts

-- The cost of a path: its charges, added from zero from left to right; None where one is barred.
abbrev pub cost : (K : Kind) → Meaning → Log → List ℕ → Option K.Cost
cost K M xs p = sum K K.zero (charges M xs p)

-- What the passage from s to t and the reading r there make of a cost c.
abbrev pub extended : (K : Kind) → Meaning → K.Cost → ℕ → ℕ → Reading → Option K.Cost
extended K M c s t r = sum K c (M.passage s t ∷ M.reading t r ∷ [])

-- At the latest place where they differ, p has the lower mode.
pub record LowerAtLast (p q : List ℕ) : Type 0 where
  pub place : ℕ
  pub inside : place < length p
  pub lower : slice_index p place < slice_index q place
  pub same_after : (k : ℕ) → place < k → k < length p → slice_index p k ≡ slice_index q k

module _ (K : Kind) (M : Meaning) where
  -- p is an open path for the readings xs, of cost c.
  pub record Open (xs : Log) (p : List ℕ) (c : K.Cost) : Type 0 where
    pub modes : All (λ t. t < M.modes) p
    pub one_each : length p ≡ length xs
    pub costs : cost K M xs p ≡ Some c

  -- An open path ends in t.
  abbrev pub Reachable : Log → ℕ → Type 0
  Reachable xs t = (p : List ℕ) × (c : K.Cost) × Open xs p c × EndsIn p t

  -- p, of cost c, is the cheapest path to t: every other open path to t costs more, or as much and is higher at the latest difference.
  pub record CheapestTo (xs : Log) (t : ℕ) (p : List ℕ) (c : K.Cost) : Type 0 where
    pub is_open : Open xs p c
    pub ends : EndsIn p t
    pub best : (q : List ℕ) (d : K.Cost) → Open xs q d → EndsIn q t → (p ≡ q) ⊎ K.Less c d ⊎ ((c ≡ d) × LowerAtLast p q)

  -- p, of cost c, is the cheapest path of the log: it goes to the reachable mode of least cost, of equal ones to the lowest.
  abbrev pub CheapestOf : Log → List ℕ → K.Cost → Type 0
  CheapestOf [] p c = (p ≡ []) × (c ≡ K.zero)
  CheapestOf (x ∷ xs) p c = (t : ℕ) × CheapestTo (x ∷ xs) t p c × ((u : ℕ) (q : List ℕ) (d : K.Cost) → CheapestTo (x ∷ xs) u q d → K.Less c d ⊎ ((c ≡ d) × (t ≤ u)))

  -- A survivor: the cheapest path to some reachable mode.
  abbrev pub Survivor : Log → List ℕ → Type 0
  Survivor xs p = (t : ℕ) × (c : K.Cost) × CheapestTo xs t p c

  -- d is decided: the longest beginning that all survivors share.
  abbrev pub Decided : Log → List ℕ → Type 0
  Decided xs d = LongestShared (length xs) (Survivor xs) d

  -- A survivor has the mode s at the reading i.
  pub record Cell (xs : Log) (i s : ℕ) : Type 0 where
    pub path : List ℕ
    pub survivor : Survivor xs path
    pub inside : i < length xs
    pub lies : slice_index path i ≡ s

  -- A cell is live if its reading is undecided.
  pub record LiveCell (xs : Log) (i s : ℕ) : Type 0 where
    pub decided : List ℕ
    pub is_decided : Decided xs decided
    pub undecided : length decided ≤ i
    pub cell : Cell xs i s

  -- The log has n live cells.
  abbrev pub Live : Log → ℕ → Type 0
  Live xs n = Counted (LiveCell xs) n

  -- The cheapest path to t after one more reading r goes on from p, of cost c, the cheapest path to s: of all modes the one
  -- that makes the least cost, here d, and of equal ones the lowest.
  pub record Chosen (xs : Log) (r : Reading) (t s : ℕ) (p : List ℕ) (c d : K.Cost) : Type 0 where
    pub cheapest : CheapestTo xs s p c
    pub below : t < M.modes
    pub makes : extended K M c s t r ≡ Some d
    pub least : (u : ℕ) (q : List ℕ) (e f : K.Cost) → CheapestTo xs u q e → extended K M e u t r ≡ Some f → K.Less d f ⊎ ((d ≡ f) × (s ≤ u))
