-- The theorems about cheapest paths, for every kind and every model.
use Rattle.std.specs.Prelude.{◌≡◌, ℕ, suc, ◌<◌, ◌≤◌, ◌⊎◌, ◌↔◌, List, [], ◌∷◌, ◌++◌, length, take, Some, ◌≢◌, slice_index, option_and_then}
use Rattle.cost.specs.Kind.{Kind}
use Rattle.model.specs.Meaning.{Meaning}
use Rattle.viterbi.specs.Lists.{EndsIn, Begins}
use Rattle.viterbi.specs.Paths.{Reading, Log, Reachable, CheapestTo, CheapestOf, Chosen, Survivor, Decided, Cell, Live}
use Rattle.viterbi.specs.Algorithm.{survivors, cheapest, totals, choice, decided, live_cells}

module _ (K : Kind) (M : Meaning) where
  -- The cheapest path to a mode and the cheapest path of a log are unique, and so are their costs.
  pub record Unique : Type 0 where
    pub to : (xs : Log) (t : ℕ) (p q : List ℕ) (c d : K.Cost) → CheapestTo K M xs t p c → CheapestTo K M xs t q d → (p ≡ q) × (c ≡ d)
    pub of : (xs : Log) (p q : List ℕ) (c d : K.Cost) → CheapestOf K M xs p c → CheapestOf K M xs q d → (p ≡ q) × (c ≡ d)

  -- Each reachable mode has a cheapest path, and so has each log after which a mode is reachable.
  pub record Exist : Type 0 where
    pub to : (xs : Log) (t : ℕ) → Reachable K M xs t → (p : List ℕ) × (c : K.Cost) × CheapestTo K M xs t p c
    pub of : (xs : Log) (t : ℕ) → Reachable K M xs t → (p : List ℕ) × (c : K.Cost) × CheapestOf K M xs p c

  -- Viterbi's algorithm finds the cheapest paths and no others.
  pub record Computed : Type 0 where
    pub to : (xs : Log) (t : ℕ) (p : List ℕ) (c : K.Cost) → ((t < M.modes) × (survivors K M xs t ≡ Some (c, p))) ↔ CheapestTo K M xs t p c
    pub of : (xs : Log) (p : List ℕ) (c : K.Cost) → (cheapest K M xs ≡ Some (c, p)) ↔ CheapestOf K M xs p c

  -- One more reading: the cheapest path to t is the cheapest path to the chosen predecessor, and then t.
  abbrev pub OneStep : Type 0
  OneStep = (x : Reading) (xs : Log) (r : Reading) (t : ℕ) (q : List ℕ) (d : K.Cost) → CheapestTo K M (x ∷ xs ++ r ∷ []) t q d ↔ ((s : ℕ) × (p : List ℕ) × (c : K.Cost) × (q ≡ p ++ t ∷ []) × Chosen K M (x ∷ xs) r t s p c d)

  -- Every beginning of a cheapest path is the cheapest path to its own last mode.
  abbrev pub Beginnings : Type 0
  Beginnings = (xs : Log) (t : ℕ) (p : List ℕ) (c : K.Cost) → CheapestTo K M xs t p c → (d : List ℕ) (s : ℕ) → Begins d p → EndsIn d s → (e : K.Cost) × CheapestTo K M (take (length d) xs) s d e

  -- What is decided begins the cheapest path of the log, however the log goes on.
  pub record Final : Type 0 where
    pub now : (xs : Log) (d p : List ℕ) (c : K.Cost) → Decided K M xs d → CheapestOf K M xs p c → Begins d p
    pub ever : (xs ys : Log) (d p : List ℕ) (c : K.Cost) → Decided K M xs d → CheapestOf K M (xs ++ ys) p c → Begins d p

  -- What is decided is one list, which the algorithm finds, and it only grows.
  pub record Grows : Type 0 where
    pub one : (xs : Log) (d e : List ℕ) → Decided K M xs d → Decided K M xs e → d ≡ e
    pub none : Decided K M [] []
    pub found : (xs : Log) (t : ℕ) → Reachable K M xs t → Decided K M xs (decided K M xs)
    pub grows : (xs ys : Log) (d e : List ℕ) → Decided K M xs d → Decided K M (xs ++ ys) e → Begins d e

  -- The reading i has one cell.
  abbrev pub OneCell : Log → ℕ → Type 0
  OneCell xs i = (s u : ℕ) → Cell K M xs i s → Cell K M xs i u → s ≡ u

  -- The reading i has two cells.
  abbrev pub TwoCells : Log → ℕ → Type 0
  TwoCells xs i = (s u : ℕ) × Cell K M xs i s × Cell K M xs i u × (s ≢ u)

  -- A survivor goes from the mode a at the reading i to the mode b at the next.
  pub record Link (xs : Log) (i a b : ℕ) : Type 0 where
    pub path : List ℕ
    pub survivor : Survivor K M xs path
    pub inside : suc i < length xs
    pub lower : slice_index path i ≡ a
    pub upper : slice_index path (suc i) ≡ b

  -- The survivors form a forest, whose layers tell what is decided.
  pub record Forest : Type 0 where
    -- survivors that meet at i agree through i
    pub merged : (xs : Log) (p q : List ℕ) → Survivor K M xs p → Survivor K M xs q → (i : ℕ) → i < length xs → slice_index p i ≡ slice_index q i → take (suc i) p ≡ take (suc i) q
    -- each cell behind the first reading has one link back
    pub back : (xs : Log) (i b : ℕ) → Cell K M xs (suc i) b → (a : ℕ) × Link xs i a b
    pub only : (xs : Log) (i a b c : ℕ) → Link xs i a c → Link xs i b c → a ≡ b
    -- a reading is decided exactly where all survivors are equal through it
    pub equal : (xs : Log) (d : List ℕ) (t : ℕ) → Decided K M xs d → Reachable K M xs t → (i : ℕ) → i < length xs → (i < length d) ↔ ((p q : List ℕ) → Survivor K M xs p → Survivor K M xs q → take (suc i) p ≡ take (suc i) q)
    -- and exactly where its layer has one cell
    pub layers : (xs : Log) (d : List ℕ) (t : ℕ) → Decided K M xs d → Reachable K M xs t → (i : ℕ) → i < length xs → (i < length d) ↔ OneCell xs i
    -- as many readings are decided as there are layers before the first with two cells
    pub first : (xs : Log) (d : List ℕ) (t : ℕ) → Decided K M xs d → Reachable K M xs t → (n : ℕ) → n ≤ length xs → ((i : ℕ) → i < n → OneCell xs i) → (n ≡ length xs) ⊎ TwoCells xs n → length d ≡ n

  -- The number of live cells is one number, which the algorithm finds.
  pub record LiveCells : Type 0 where
    pub one : (xs : Log) (m n : ℕ) → Live K M xs m → Live K M xs n → m ≡ n
    pub none : Live K M [] 0
    pub found : (xs : Log) (t : ℕ) → Reachable K M xs t → Live K M xs (length (live_cells K M xs))

  -- The totals alone, one for each mode, suffice to choose predecessors and to find the next totals.
  pub record Totals : Type 0 where
    pub stand : (xs : Log) (t : ℕ) (c : K.Cost) → ((t < M.modes) × (totals K M xs t ≡ Some c)) ↔ ((p : List ℕ) × CheapestTo K M xs t p c)
    pub chosen : (x : Reading) (xs : Log) (r : Reading) (t s : ℕ) (d : K.Cost) → t < M.modes → (choice K M (totals K M (x ∷ xs)) r t ≡ Some (d, s)) ↔ ((p : List ℕ) × (c : K.Cost) × Chosen K M (x ∷ xs) r t s p c d)
    pub next : (x : Reading) (xs : Log) (r : Reading) (t : ℕ) → t < M.modes → totals K M (x ∷ xs ++ r ∷ []) t ≡ option_and_then (λ y. Some y.0) (choice K M (totals K M (x ∷ xs)) r t)
