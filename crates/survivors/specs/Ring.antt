-- The ring of ready modes: the mode of the reading i stands at the place i mod 4,096.
use Rattle.std.specs.Prelude.{◌≡◌, ℕ, ◌+◌, ◌%◌, ◌<◌, ◌≤◌, ◌≢◌, List, length, slice_index}

-- The modes out of the readings from, from + 1, .. are written: the last 4,096 of them stand at their places, and every other place is as it was.
pub record Written (ring : List ℕ) (from : ℕ) (out : List ℕ) (ring' : List ℕ) : Type 0 where
  pub size : length ring' ≡ length ring
  pub new : (i : ℕ) → i < length out → length out ≤ i + 4096 → slice_index ring' ((from + i) % 4096) ≡ slice_index out i
  pub others : (k : ℕ) → ((i : ℕ) → i < length out → k ≢ (from + i) % 4096) → slice_index ring' k ≡ slice_index ring k
