-- What a segmenter stands at, and what its calls do.
use Rattle.std.specs.Prelude.{◌≡◌, ℕ, ◌+◌, ◌-◌, ◌≤◌, List, [], ◌++◌, length, take, Some, None, ◌≢◌}
use Rattle.std.specs.Option.{option_to_list}
use Rattle.queue.specs.declared.Queue.{Queue}
use Rattle.queue.specs.Contents.{contents, capacity, Appended, Removed}
use Rattle.segment.specs.declared.Segment.{Segment}
use Rattle.segment.specs.declared.Segmenter.{Segmenter}
use Rattle.segment.specs.Segments.{limit, SegmentsOf, TheSegments}

-- Since it was new, the segmenter took the modes `taken` and put the segments `put`: these and the one in hand are the
-- segments of all modes taken. There is one in hand as soon as a mode is taken.
pub record Stands (s : Segmenter) (taken : List ℕ) (put : List Segment) : Type 0 where
  pub segments : TheSegments taken (put ++ option_to_list s.hand)
  pub none : s.hand ≡ None → taken ≡ []
  pub count : s.taken ≡ length taken
  pub few : length taken ≤ limit

-- The segmenter s takes the modes ms and becomes s'; the segments that they close go into the queue q, which becomes q'.
pub record Grown (s : Segmenter) (q : Queue Segment) (ms : List ℕ) (s' : Segmenter) (q' : Queue Segment) : Type 0 where
  pub closed : List Segment
  pub appended : Appended q closed q'
  pub count : s'.taken ≡ s.taken + length ms
  pub stands : (taken : List ℕ) (put : List Segment) → Stands s taken put → Stands s' (taken ++ ms) (put ++ closed)

-- The mode m would close the segment in hand, and the queue q has no room for it.
pub record Blocked (s : Segmenter) (m : ℕ) (q : Queue Segment) : Type 0 where
  pub segment : Segment
  pub held : s.hand ≡ Some segment
  pub other : segment.mode ≢ m
  pub full : length (contents q) ≡ capacity q

-- After `taken` and `put`, the first k of the modes that wait can be taken: there are so many, it comes to at most
-- the limit, and of all segments then there is room for those not put yet, but for the last, which stays in hand.
pub record CanTake (taken : List ℕ) (put : List Segment) (waiting : List ℕ) (room k : ℕ) : Type 0 where
  pub there : k ≤ length waiting
  pub few : length taken + k ≤ limit
  pub segments : List Segment
  pub are : SegmentsOf (taken ++ take k waiting) segments
  pub fit : length segments ≤ length put + room + 1

-- P holds of n, and of no number above it.
pub record Greatest (P : ℕ → Type 0) (n : ℕ) : Type 0 where
  pub here : P n
  pub above : (k : ℕ) → P k → k ≤ n

-- A call that takes modes from one queue and puts segments into another: it takes as many modes as it can.
pub record Advanced (s : Segmenter) (modes : Queue ℕ) (segments : Queue Segment) (count : ℕ) (s' : Segmenter) (modes' : Queue ℕ) (segments' : Queue Segment) : Type 0 where
  pub moved : List ℕ
  pub counted : count ≡ length moved
  pub removed : Removed modes moved modes'
  pub grown : Grown s segments moved s' segments'
  pub most : (taken : List ℕ) (put : List Segment) → Stands s taken put → Greatest (CanTake taken put (contents modes) (capacity segments - length (contents segments))) count

-- An end call that is not refused: the segments put since new are then the segments of all modes taken since new, and
-- the segmenter is new.
pub record Ended (s : Segmenter) (q : Queue Segment) (s' : Segmenter) (q' : Queue Segment) : Type 0 where
  pub last : List Segment
  pub appended : Appended q last q'
  pub whole : (taken : List ℕ) (put : List Segment) → Stands s taken put → TheSegments taken (put ++ last)
  pub new : Stands s' [] []

-- An end call is refused: a mode was taken, so that a segment is in hand, and the queue is full.
pub record EndBlocked (s : Segmenter) (q : Queue Segment) : Type 0 where
  pub held : (taken : List ℕ) (put : List Segment) → Stands s taken put → taken ≢ []
  pub full : length (contents q) ≡ capacity q
