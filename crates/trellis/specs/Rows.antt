-- Rows of totals, one for each mode.
use Rattle.std.specs.Prelude.{◌≡◌, ℕ, ◌<◌, ◌≤◌, Bool, true, ◌↔◌, List, [], ◌∷◌, ◌++◌, length, is_some, Some, None, MatchBool, Option, slice_index_or, option_and_then}
use Rattle.cost.specs.declared.charge.Total.{Total}
use Rattle.cost.specs.Kind.{Kind, sum, carried_of}
use Rattle.model.specs.Meaning.{Meaning}
use Rattle.viterbi.specs.Lists.{EndsIn}
use Rattle.viterbi.specs.Paths.{Reading, Log, Reachable, CheapestTo, CheapestOf, Chosen, cost}
use Rattle.viterbi.specs.Algorithm.{least_of}
use Rattle.trellis.specs.declared.best.Best.{Best}
use Rattle.trellis.specs.Size.{READINGS}
use Rattle.trellis.specs.Carried.{Way, from, carried_way, HasRoom, best_total, best_from}

-- The total in t, if there is one.
abbrev pub total_at : List (Option Total) → ℕ → Option Total
total_at row t = slice_index_or row t None

-- The predecessor of t, if there is one.
abbrev pub from_at : List (Option ℕ) → ℕ → Option ℕ
from_at from t = slice_index_or from t None

-- The costs o of k modes are carried in the row, and n more charges can be added to each.
abbrev pub Held : (K : Kind) → ℕ → ℕ → (ℕ → Option K.Cost) → List (Option Total) → Type 0
Held K k n o row = (s : ℕ) → s < k → (total_at row s ≡ carried_of K (o s)) × HasRoom K n (o s)

-- The way from s to t, before the reading is charged.
abbrev pub passage : (K : Kind) → Meaning → (ℕ → Option K.Cost) → ℕ → ℕ → Way K
passage K M o t s = from K (option_and_then (λ c. sum K c (M.passage s t ∷ [])) (o s)) s

-- Of the ways from the first n of k modes to t, r is the first of least cost.
abbrev pub Into : Kind → Meaning → ℕ → List (Option Total) → ℕ → ℕ → Option Best → Type 0
Into K M k row t n r = (o : ℕ → Option K.Cost) → Held K k 2 o row → r ≡ carried_way K (least_of K n (passage K M o t))

-- Each total that P tells of one of the first n modes carries its cost in o.
abbrev pub Told : (K : Kind) → ℕ → (ℕ → Option K.Cost) → (ℕ → Option Total → Type 0) → Type 0
Told K n o P = (s : ℕ) → s < n → ((a : Option Total) → P s a → a ≡ carried_of K (o s)) × HasRoom K 0 (o s)

-- Of the first n modes, whose totals P tells, r is the first of least cost.
abbrev pub LeastBy : Kind → ℕ → (ℕ → Option Total → Type 0) → Option Best → Type 0
LeastBy K n P r = (o : ℕ → Option K.Cost) → Told K n o P → r ≡ carried_way K (least_of K n (λ s. from K (o s) s))

-- The mode that r comes from is one of the first n, and P tells a total of it.
abbrev pub OneBy : ℕ → (ℕ → Option Total → Type 0) → Option Best → Type 0
OneBy n P r = (s : ℕ) → best_from r ≡ Some s → (s < n) × ((a : Option Total) × P s a × (is_some a ≡ true))

-- The mode t is written with the total w and the predecessor s of a way that P tells of it.
pub record WrittenBy (P : ℕ → Option Best → Type 0) (t : ℕ) (w : Option Total) (s : Option ℕ) : Type 0 where
  pub way : Option Best
  pub told : P t way
  pub total : w ≡ best_total way
  pub from : s ≡ best_from way

module _ (K : Kind) (M : Meaning) where
  -- The row after the readings xs: each reachable mode has the total of its cheapest path, and no other mode has one.
  pub record Stands (xs : Log) (row : List (Option Total)) : Type 0 where
    pub reached : (t : ℕ) (p : List ℕ) (c : K.Cost) → CheapestTo K M xs t p c → total_at row t ≡ Some (K.carried c)
    pub only : (t : ℕ) (w : Total) → t < M.modes → total_at row t ≡ Some w → Reachable K M xs t

  -- The mode t after the readings xs and r: None if it is not reachable, or its total and its chosen predecessor.
  abbrev pub EntersBy : Log → Reading → ℕ → Option Best → Type 0
  EntersBy xs r t None = Reachable K M (xs ++ r ∷ []) t → ⊥
  EntersBy xs r t (Some b) = (p : List ℕ) × (c : K.Cost) × (d : K.Cost) × Chosen K M xs r t b.from p c d × (b.total ≡ K.carried d)

  -- The row of n modes stands after the readings x ∷ xs, which are no more than a log can have.
  pub record Stood (n : ℕ) (x : Reading) (xs : Log) (row : List (Option Total)) : Type 0 where
    pub fits : n ≡ M.modes
    pub short : length (x ∷ xs) ≤ READINGS
    pub stands : Stands (x ∷ xs) row

  -- The same, and one more reading can be taken.
  pub record Ready (n : ℕ) (x : Reading) (xs : Log) (row : List (Option Total)) : Type 0 where
    pub stood : Stood n x xs row
    pub more : length (x ∷ xs) < READINGS

  -- From the row old of n modes, the mode t is entered at the reading r as b says.
  abbrev pub Entered : ℕ → List (Option Total) → Reading → ℕ → Option Best → Type 0
  Entered n old r t b = (x : Reading) (xs : Log) → Ready n x xs old → t < M.modes → EntersBy (x ∷ xs) r t b

  -- Whether a mode is reachable after the readings xs.
  abbrev pub Tells : Log → Bool → Type 0
  Tells xs any = MatchBool any ((t : ℕ) × Reachable K M xs t) ((t : ℕ) → Reachable K M xs t → ⊥)

  -- The row, the predecessors and whether a mode is reachable, after the readings xs and r.
  pub record Next (xs : Log) (r : Reading) (row : List (Option Total)) (from : List (Option ℕ)) (any : Bool) : Type 0 where
    pub stands : Stands (xs ++ r ∷ []) row
    pub chosen : (t s : ℕ) → t < M.modes → (from_at from t ≡ Some s) ↔ ((p : List ℕ) × (c : K.Cost) × (d : K.Cost) × Chosen K M xs r t s p c d)
    pub tells : Tells (xs ++ r ∷ []) any

  -- The same after the first reading, where each reachable mode comes from itself.
  pub record First (r : Reading) (row : List (Option Total)) (from : List (Option ℕ)) (any : Bool) : Type 0 where
    pub stands : Stands (r ∷ []) row
    pub chosen : (t s : ℕ) → t < M.modes → (from_at from t ≡ Some s) ↔ ((s ≡ t) × Reachable K M (r ∷ []) t)
    pub tells : Tells (r ∷ []) any

  -- The end of the cheapest path of the log, with its total; None if no mode is reachable.
  abbrev pub EndsAt : Log → Option Best → Type 0
  EndsAt xs None = (t : ℕ) → Reachable K M xs t → ⊥
  EndsAt xs (Some b) = (p : List ℕ) × (c : K.Cost) × CheapestOf K M xs p c × EndsIn p b.from × (b.total ≡ K.carried c)

  -- After every log at which the row of n modes stands, r is the end of its cheapest path.
  abbrev pub Ends : ℕ → List (Option Total) → Option Best → Type 0
  Ends n row r = (x : Reading) (xs : Log) → Stood n x xs row → EndsAt (x ∷ xs) r

  -- After every log at which the row old of n modes stands, and the reading r, the new row, the predecessors and `any` are right.
  abbrev pub Advances : ℕ → List (Option Total) → Reading → List (Option Total) → List (Option ℕ) → Bool → Type 0
  Advances n old r row from any = (x : Reading) (xs : Log) → Ready n x xs old → Next (x ∷ xs) r row from any

-- Beyond the modes a list is as it was.
abbrev pub Beyond : {A : Type 0} → ℕ → List (Option A) → List (Option A) → Type 0
Beyond n new old = (t : ℕ) → n ≤ t → slice_index_or new t None ≡ slice_index_or old t None

-- The first n modes are written: of each P holds, and any says whether one has a predecessor; beyond them all is as it was.
pub record Filled (P : ℕ → Option Total → Option ℕ → Type 0) (n : ℕ) (row₀ row : List (Option Total)) (from₀ from : List (Option ℕ)) (any : Bool) : Type 0 where
  pub each : (t : ℕ) → t < n → P t (total_at row t) (from_at from t)
  pub tells : MatchBool any ((t : ℕ) × (t < n) × (s : ℕ) × (from_at from t ≡ Some s)) ((t : ℕ) → t < n → from_at from t ≡ None)
  pub beyond : Beyond n row row₀
  pub beyond_from : Beyond n from from₀

-- The mode that b comes from is one of the first n, and has a total in the row.
abbrev pub Backed : ℕ → List (Option Total) → Option Best → Type 0
Backed n old b = (s : ℕ) → best_from b ≡ Some s → (s < n) × (is_some (total_at old s) ≡ true)

-- b is the best way into the mode t at the reading r, from one of the first n modes of the row old.
abbrev pub WayIn : Kind → Meaning → ℕ → List (Option Total) → Reading → ℕ → Option Best → Type 0
WayIn K M n old r t b = Entered K M n old r t b × Backed n old b

-- The mode t has the total w of one reading, and itself as predecessor s, where it is reachable.
abbrev pub BegunBy : Kind → Meaning → Reading → ℕ → Option Total → Option ℕ → Type 0
BegunBy K M r t w s = (w ≡ carried_of K (cost K M (r ∷ []) (t ∷ []))) × (s ≡ option_and_then (λ _. Some t) w)

-- The modes below n have totals exactly where they have predecessors, and any says whether there is one.
pub record Marked (n : ℕ) (row : List (Option Total)) (from : List (Option ℕ)) (any : Bool) : Type 0 where
  pub same : (t : ℕ) → t < n → is_some (total_at row t) ≡ is_some (from_at from t)
  pub tells : MatchBool any ((t : ℕ) × (t < n) × (s : ℕ) × (from_at from t ≡ Some s)) ((t : ℕ) → t < n → from_at from t ≡ None)

-- Every predecessor is a mode below n that has a total in the old row.
abbrev pub AllBacked : ℕ → List (Option Total) → List (Option ℕ) → Type 0
AllBacked n old from = (t s : ℕ) → t < n → from_at from t ≡ Some s → (s < n) × (is_some (total_at old s) ≡ true)

-- Every predecessor is the mode itself.
abbrev pub AllThemselves : ℕ → List (Option ℕ) → Type 0
AllThemselves n from = (t s : ℕ) → t < n → from_at from t ≡ Some s → s ≡ t
