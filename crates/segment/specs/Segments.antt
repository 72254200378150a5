-- The segments of a list of modes.
use Rattle.std.specs.Prelude.{◌≡◌, ℕ, ◌+◌, ◌<◌, List, [], ◌∷◌, ◌++◌, length, replicate, All, ◌≢◌}
use Rattle.std.specs.List.{flat_map}
use Rattle.segment.specs.declared.Segment.{Segment}

-- The most modes that a segmenter takes before its end call.
abbrev pub limit : ℕ
limit = 1000000

-- The modes of a segment.
abbrev pub modes_of : Segment → List ℕ
modes_of s = replicate s.length s.mode

-- No two neighbours have the same mode.
abbrev pub NeighboursDiffer : List Segment → Type 0
NeighboursDiffer [] = Unit {0}
NeighboursDiffer (s ∷ []) = Unit {0}
NeighboursDiffer (s ∷ (t ∷ ss)) = (s.mode ≢ t.mode) × NeighboursDiffer (t ∷ ss)

-- The first segment begins at reading n, and each other where the one before it ends.
abbrev pub PlacedFrom : ℕ → List Segment → Type 0
PlacedFrom n [] = Unit {0}
PlacedFrom n (s ∷ ss) = (s.first ≡ n) × PlacedFrom (n + s.length) ss

-- The list of modes ms falls into the segments ss: together they are ms, none is empty, and none could be longer.
pub record SegmentsOf (ms : List ℕ) (ss : List Segment) : Type 0 where
  pub whole : flat_map modes_of ss ≡ ms
  pub some : All (λ s. 0 < s.length) ss
  pub longest : NeighboursDiffer ss
  pub placed : PlacedFrom 1 ss

-- s is a longest stretch of one mode in ms: neither the reading before it nor the one after it has its mode.
pub record LongestStretch (ms : List ℕ) (s : Segment) : Type 0 where
  pub before : List ℕ
  pub after : List ℕ
  pub stands : ms ≡ (before ++ modes_of s) ++ after
  pub first : s.first ≡ length before + 1
  pub some : 0 < s.length
  pub begins : (xs : List ℕ) → before ≢ xs ++ s.mode ∷ []
  pub ends : (xs : List ℕ) → after ≢ s.mode ∷ xs

-- The segments of ms are ss, and no other list; each is a longest stretch of one mode.
pub record TheSegments (ms : List ℕ) (ss : List Segment) : Type 0 where
  pub are : SegmentsOf ms ss
  pub only : (ts : List Segment) → SegmentsOf ms ts → ts ≡ ss
  pub stretches : All (LongestStretch ms) ss
