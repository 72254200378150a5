-- The survivors as a caller sees them: which modes have tips, the paths that these stand for, and what each call makes of them.
use Rattle.std.specs.Prelude.{◌≡◌, ℕ, ◌+◌, ◌-◌, ◌^◌, ◌<◌, ◌≤◌, List, [], ◌∷◌, ◌++◌, length, slice_index, IsSome, Some, None, Option, slice_index_or}
use Rattle.viterbi.specs.Lists.{Counted, LongestShared}
use Rattle.survivors.specs.Ring.{Written}
use Rattle.survivors.specs.Trees.{path_of, tip_at}
use Rattle.survivors.specs.declared.Survivors.{Survivors}

-- How many readings were taken.
abbrev pub taken : Survivors → ℕ
taken s = s.tree.top

-- How many of them, from the first on, are decided.
abbrev pub decided : Survivors → ℕ
decided s = s.tree.base

-- The mode u has a tip: some reading is undecided, and a path ends in u.
abbrev pub HasTip : Survivors → ℕ → Type 0
HasTip s u = IsSome (tip_at s.tips u)

-- The undecided modes of the path to the mode u, oldest first.
abbrev pub path_to : Survivors → ℕ → List ℕ
path_to s u = path_of s.tree s.tips u

-- p is the undecided part of the path of some tip.
abbrev pub PathOf : Survivors → List ℕ → Type 0
PathOf s p = (u : ℕ) × HasTip s u × (p ≡ path_to s u)

-- The mode m lies at the undecided reading i on the path of some tip.
pub record OnPath (s : Survivors) (i m : ℕ) : Type 0 where
  pub to : ℕ
  pub tip : HasTip s to
  pub undecided : decided s ≤ i
  pub inside : i < taken s
  pub lies : slice_index (path_to s to) (i - decided s) ≡ m

-- No reading is taken, no mode has a tip, and nothing is live.
pub record Blank (s : Survivors) : Type 0 where
  pub none_taken : taken s ≡ 0
  pub none_decided : decided s ≡ 0
  pub no_tip : (u : ℕ) → HasTip s u → ⊥
  pub no_live : Counted (OnPath s) 0

-- The survivors can take one more reading: some mode is reachable, each mode goes on from one that has a tip (from any, where all is decided),
-- and there are free cells for all modes.
pub record MayGrow (s : Survivors) (preds : List (Option ℕ)) : Type 0 where
  pub few : length preds ≤ 32
  pub some : (u : ℕ) × (p : ℕ) × (slice_index_or preds u None ≡ Some p)
  pub mode : (u p : ℕ) → slice_index_or preds u None ≡ Some p → p < 32
  pub from : (u p : ℕ) → slice_index_or preds u None ≡ Some p → decided s < taken s → HasTip s p
  pub room : (n : ℕ) × Counted (OnPath s) n × (n + length preds ≤ 1024)
  pub bound : taken s + 1 < 2 ^ 32

-- One more reading is taken: the path to u goes on from the path to preds[u]; where that is None, or past the list, u has no tip.
pub record Grown (s : Survivors) (preds : List (Option ℕ)) (t : Survivors) : Type 0 where
  pub one_more : taken t ≡ taken s + 1
  pub none_decided : decided t ≡ decided s
  pub tips : (u p : ℕ) → slice_index_or preds u None ≡ Some p → HasTip t u
  pub paths : (u p : ℕ) → slice_index_or preds u None ≡ Some p → path_to t u ≡ path_to s p ++ u ∷ []
  pub no_tip : (u : ℕ) → slice_index_or preds u None ≡ None → HasTip t u → ⊥

-- The longest beginning that all paths share is decided and written to the ring; paths go on without it, and tips stay while some reading is undecided.
pub record Settled (s : Survivors) (ring : List ℕ) (t : Survivors) (ring' : List ℕ) : Type 0 where
  pub out : List ℕ
  pub longest : LongestShared (taken s - decided s) (PathOf s) out
  pub none_taken : taken t ≡ taken s
  pub more_decided : decided t ≡ decided s + length out
  pub written : Written ring (decided s) out ring'
  pub paths : (u : ℕ) → HasTip s u → path_to s u ≡ out ++ path_to t u
  pub tips : (u : ℕ) → HasTip s u → decided t < taken t → HasTip t u
  pub no_tip : (u : ℕ) → HasTip t u → HasTip s u × (decided t < taken t)

-- The whole path to the mode best is decided and written to the ring; no mode has a tip any more, and nothing is live.
pub record Finished (s : Survivors) (best : ℕ) (ring : List ℕ) (t : Survivors) (ring' : List ℕ) : Type 0 where
  pub none_taken : taken t ≡ taken s
  pub all_decided : decided t ≡ taken s
  pub written : Written ring (decided s) (path_to s best) ring'
  pub no_tip : (u : ℕ) → HasTip t u → ⊥
  pub no_live : Counted (OnPath t) 0
