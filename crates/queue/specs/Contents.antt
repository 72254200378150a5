-- What a queue holds, and what puts and takes do to it.
use Rattle.std.specs.Borrow.{MutBor}
use Rattle.std.specs.Prelude.{◌≡◌, ℕ, ◌+◌, ◌-◌, List, [], ◌∷◌, ◌++◌, length, take, drop, nat_lt, if◌then◌else◌, slice_set}
use Rattle.queue.specs.declared.Queue.{Queue}

-- The first len elements of the list xs from head on, and from its start again behind its end.
abbrev pub ring : {X : Type 0} → List X → ℕ → ℕ → List X
ring xs head len = take len (drop head xs ++ xs)

-- The elements of a queue, the oldest first.
abbrev pub contents : {X : Type 0} → Queue X → List X
contents q = ring q.slots.now q.head q.len

-- The slice that the queue was lent.
abbrev pub memory : {X : Type 0} → Queue X → MutBor (List X)
memory q = q.slots

-- The number of elements that it has room for, those that it holds included.
abbrev pub capacity : {X : Type 0} → Queue X → ℕ
capacity q = length q.slots.now

-- The place n on from p, round the end of cap places.
abbrev pub onward : ℕ → ℕ → ℕ → ℕ
onward cap p n = if nat_lt n (cap - p) then p + n else n - (cap - p)

-- Where the next element is written.
abbrev pub place : {X : Type 0} → Queue X → ℕ
place q = onward (capacity q) q.head q.len

-- The list xs after ys are written into it from place p on, round its end.
abbrev pub stored : {X : Type 0} → List X → ℕ → List X → List X
stored xs p [] = xs
stored xs p (y ∷ ys) = stored (slice_set xs p y) (onward (length xs) p 1) ys

-- The queue q after ys were put is q': its contents, and the exact memory.
pub record Appended {X : Type 0} (q : Queue X) (ys : List X) (q' : Queue X) : Type 0 where
  pub items : contents q' ≡ contents q ++ ys
  pub slots : (memory q').now ≡ stored (memory q).now (place q) ys
  pub next : place q' ≡ onward (capacity q) (place q) (length ys)
  pub lent : (memory q').ghost_name ≡ (memory q).ghost_name

-- The queue q after ys were taken from its front is q'; the memory is as it was.
pub record Removed {X : Type 0} (q : Queue X) (ys : List X) (q' : Queue X) : Type 0 where
  pub items : contents q ≡ ys ++ contents q'
  pub slots : (memory q').now ≡ (memory q).now
  pub next : place q' ≡ place q
  pub lent : (memory q').ghost_name ≡ (memory q).ghost_name
