-- Viterbi's algorithm: for each mode the cheapest path to it, one reading after the other.
use Rattle.std.specs.Prelude.{◌≡◌, ℕ, zero, suc, Bool, false, if◌then◌else◌, ◌||◌, ◌⊎◌, List, [], ◌∷◌, ◌++◌, length, Some, None, Option, ◌==◌, nat_le, slice_index, option_and_then}
use Rattle.std.proofs.Common.{inl, inr}
use Rattle.cost.specs.Kind.{Kind, sum}
use Rattle.model.specs.Meaning.{Meaning}
use Rattle.viterbi.specs.Paths.{Reading, Log, extended}

-- A cost and its path.
abbrev pub Kept : Kind → Type 0
Kept K = K.Cost × List ℕ

module _ (K : Kind) {A : Type 0} where
  -- The first, unless the second costs less.
  abbrev pub chosen_of : (x y : K.Cost × A) → K.Less x.0 y.0 ⊎ (x.0 ≡ y.0) ⊎ K.Less y.0 x.0 → K.Cost × A
  chosen_of x y (inl h) = x
  chosen_of x y (inr (inl h)) = x
  chosen_of x y (inr (inr h)) = y

  -- The one there is, or of two the first unless the second costs less.
  abbrev pub better : Option (K.Cost × A) → Option (K.Cost × A) → Option (K.Cost × A)
  better None y = y
  better (Some x) None = Some x
  better (Some x) (Some y) = Some (chosen_of x y (K.compare x.0 y.0))

  -- Of the first n the first with the least cost.
  abbrev pub least_of : ℕ → (ℕ → Option (K.Cost × A)) → Option (K.Cost × A)
  least_of zero f = None
  least_of (suc n) f = better (least_of n f) (f n)

-- The longest beginning that two paths share.
abbrev pub meet : List ℕ → List ℕ → List ℕ
meet [] q = []
meet (a ∷ p) [] = []
meet (a ∷ p) (b ∷ q) = if a == b then a ∷ meet p q else []

-- The same of one path more.
abbrev pub meet_next : (K : Kind) → Option (List ℕ) → Option (Kept K) → Option (List ℕ)
meet_next K o None = o
meet_next K None (Some x) = Some x.1
meet_next K (Some d) (Some x) = Some (meet d x.1)

-- The longest beginning that the paths of the first n share.
abbrev pub meet_of : (K : Kind) → ℕ → (ℕ → Option (Kept K)) → Option (List ℕ)
meet_of K zero f = None
meet_of K (suc n) f = meet_next K (meet_of K n f) (f n)

-- A list, or the empty one.
abbrev pub or_empty : Option (List ℕ) → List ℕ
or_empty None = []
or_empty (Some d) = d

-- Whether the path has the mode s at i.
abbrev pub on_path : (K : Kind) → Option (Kept K) → ℕ → ℕ → Bool
on_path K None i s = false
on_path K (Some x) i s = slice_index x.1 i == s

-- Whether one of the first n paths has the mode s at i.
abbrev pub any_on : (K : Kind) → ℕ → (ℕ → Option (Kept K)) → ℕ → ℕ → Bool
any_on K zero f i s = false
any_on K (suc n) f i s = on_path K (f n) i s || any_on K n f i s

-- The cells of the reading i in those modes below n of which b holds.
abbrev pub layer : ℕ → (ℕ → Bool) → ℕ → List (ℕ × ℕ)
layer i b zero = []
layer i b (suc n) = if b n then (i, n) ∷ layer i b n else layer i b n

module _ (K : Kind) (M : Meaning) where
  -- The path x to s, gone on to t at the reading r.
  abbrev pub go_on : ℕ → ℕ → Reading → Kept K → Option (Kept K)
  go_on s t r x = option_and_then (λ d. Some (d, x.1 ++ t ∷ [])) (extended K M x.0 s t r)

  -- The cheapest paths after one more reading.
  abbrev pub advance : (ℕ → Option (Kept K)) → Reading → ℕ → Option (Kept K)
  advance v r t = least_of K M.modes (λ s. option_and_then (go_on s t r) (v s))

  -- The cheapest paths after more readings.
  abbrev pub advanced : (ℕ → Option (Kept K)) → Log → ℕ → Option (Kept K)
  advanced v [] = v
  advanced v (r ∷ rs) = advanced (advance v r) rs

  -- The path of one reading that is read in t.
  abbrev pub first : Reading → ℕ → Option (Kept K)
  first r t = option_and_then (λ d. Some (d, t ∷ [])) (sum K K.zero (M.start t ∷ M.reading t r ∷ []))

  -- The cheapest path to t and its cost, for each t below the number of modes.
  abbrev pub survivors : Log → ℕ → Option (Kept K)
  survivors [] t = None
  survivors (r ∷ rs) t = advanced (first r) rs t

  -- The cheapest path of the log and its cost.
  abbrev pub cheapest : Log → Option (Kept K)
  cheapest [] = Some (K.zero, [])
  cheapest (r ∷ rs) = least_of K M.modes (survivors (r ∷ rs))

  -- The cost of the cheapest path to t.
  abbrev pub totals : Log → ℕ → Option K.Cost
  totals xs t = option_and_then (λ x. Some x.0) (survivors xs t)

  -- What the total of s, if any, comes to at the reading r in t, with s itself.
  abbrev pub offer : Option K.Cost → ℕ → ℕ → Reading → Option (K.Cost × ℕ)
  offer o s t r = option_and_then (λ c. option_and_then (λ d. Some (d, s)) (extended K M c s t r)) o

  -- What totals alone tell of t at the reading r: the least offer, and the lowest mode that makes it.
  abbrev pub choice : (ℕ → Option K.Cost) → Reading → ℕ → Option (K.Cost × ℕ)
  choice v r t = least_of K M.modes (λ s. offer (v s) s t r)

  -- The decided modes.
  abbrev pub decided : Log → List ℕ
  decided xs = or_empty (meet_of K M.modes (survivors xs))

  -- The cells of the readings from d on, below m.
  abbrev pub cells_from : ℕ → (ℕ → Option (Kept K)) → ℕ → List (ℕ × ℕ)
  cells_from d f zero = []
  cells_from d f (suc m) = if nat_le d m then layer m (any_on K M.modes f m) M.modes ++ cells_from d f m else cells_from d f m

  -- The live cells.
  abbrev pub live_cells : Log → List (ℕ × ℕ)
  live_cells xs = cells_from (length (decided xs)) (survivors xs) (length xs)
