-- Worked logs, of the definitions.
use Rattle.std.specs.Prelude.{◌≡◌, ℕ, List, [], ◌∷◌}
use Rattle.cost.specs.Kind.{Kind}
use Rattle.cost.specs.Strict.{strict}
use Rattle.cost.specs.Graded.{graded}
use Rattle.model.specs.Meaning.{Meaning}
use Rattle.model.specs.Banded.{banded}
use Rattle.model.specs.Dense.{dense}
use Rattle.viterbi.specs.Paths.{Log, Reachable, CheapestOf, Decided, Live}

-- The saw: two modes with centres 2 and 7, and 10 reading values.
abbrev pub saw : Meaning
saw = banded (record { modes = 2; values = 10; band = 1; hop = 3; rate = 1; slope = 1; centre = 2; spacing = 5 })

-- The saw with spacing 4 and free passages.
abbrev pub even : Meaning
even = banded (record { modes = 2; values = 10; band = 1; hop = 0; rate = 0; slope = 1; centre = 2; spacing = 4 })

-- The saw with three modes, no hop, first centre 0 and spacing 4.
abbrev pub wide : Meaning
wide = banded (record { modes = 3; values = 10; band = 1; hop = 0; rate = 1; slope = 1; centre = 0; spacing = 4 })

-- A table of one mode and one value, whose only passage has a breach.
abbrev pub breach : Meaning
breach = dense 1 1 (0 ∷ 65536 ∷ 0 ∷ [])

-- The cheapest path of the log is p, and its cost is shown as b breaches and the penalty n.
pub record Path (K : Kind) (M : Meaning) (xs : Log) (p : List ℕ) (b n : ℕ) : Type 0 where
  pub cost : K.Cost
  pub cheapest : CheapestOf K M xs p cost
  pub shown : K.shown cost ≡ record { breaches = b; penalty = n }

-- After the readings xs the modes d are decided, and n cells are live.
pub record After (K : Kind) (M : Meaning) (xs : Log) (d : List ℕ) (n : ℕ) : Type 0 where
  pub decided : Decided K M xs d
  pub live : Live K M xs n

-- All worked logs.
pub record WorkedLogs : Type 0 where
  pub saw_path : Path strict saw (2 ∷ 2 ∷ 7 ∷ 7 ∷ 7 ∷ []) (0 ∷ 0 ∷ 1 ∷ 1 ∷ 1 ∷ []) 0 4
  pub saw_one : After strict saw (2 ∷ []) [] 2
  pub saw_two : After strict saw (2 ∷ 2 ∷ []) (0 ∷ []) 2
  pub saw_three : After strict saw (2 ∷ 2 ∷ 7 ∷ []) (0 ∷ 0 ∷ []) 2
  pub saw_four : After strict saw (2 ∷ 2 ∷ 7 ∷ 7 ∷ []) (0 ∷ 0 ∷ []) 4
  pub saw_five : After strict saw (2 ∷ 2 ∷ 7 ∷ 7 ∷ 7 ∷ []) (0 ∷ 0 ∷ 1 ∷ 1 ∷ []) 2
  pub even_path : Path strict even (4 ∷ 6 ∷ []) (0 ∷ 1 ∷ []) 0 2
  pub even_decided : Decided strict even (4 ∷ 6 ∷ []) (0 ∷ [])
  pub wide_strict : Path strict wide (0 ∷ 8 ∷ []) (0 ∷ 1 ∷ []) 0 5
  pub wide_graded : Path graded wide (0 ∷ 8 ∷ []) (0 ∷ 1 ∷ []) 0 5
  pub empty_strict : Path strict saw [] [] 0 0
  pub empty_graded : Path graded saw [] [] 0 0
  pub breach_first : Path strict breach (0 ∷ []) (0 ∷ []) 0 0
  pub breach_strict : (t : ℕ) → Reachable strict breach (0 ∷ 0 ∷ []) t → ⊥
  pub breach_graded : Path graded breach (0 ∷ 0 ∷ []) (0 ∷ 0 ∷ []) 1 0
