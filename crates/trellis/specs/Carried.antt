-- Costs that may be missing, as they are carried.
use Rattle.std.specs.Prelude.{◌≡◌, ℕ, ◌+◌, ◌≤◌, true, ◌⊎◌, List, [], ◌∷◌, length, is_some, Some, Option, option_and_then}
use Rattle.cost.specs.declared.charge.Charge.{Charge}
use Rattle.cost.specs.declared.charge.Total.{Total}
use Rattle.cost.specs.Kind.{Kind, MOST, sum, carried_of}
use Rattle.viterbi.specs.Algorithm.{better}
use Rattle.trellis.specs.declared.best.Best.{Best}

-- The cost c is a sum of charges to which n more can be added.
pub record Room (K : Kind) (n : ℕ) (c : K.Cost) : Type 0 where
  pub charges : List Charge
  pub few : length charges + n ≤ MOST
  pub comes : sum K K.zero charges ≡ Some c

-- A cost and the mode that it comes from, if there is one.
abbrev pub Way : Kind → Type 0
Way K = Option (K.Cost × ℕ)

-- The cost o, if there is one, and its mode s.
abbrev pub from : (K : Kind) → Option K.Cost → ℕ → Way K
from K o s = option_and_then (λ c. Some (c, s)) o

-- The way with one more charge.
abbrev pub and : (K : Kind) → Way K → Charge → Way K
and K o h = option_and_then (λ y. from K (sum K y.0 (h ∷ [])) y.1) o

-- The total t, from the mode s.
abbrev pub best : Total → ℕ → Best
best t s = record { total = t; from = s }

-- What a way is carried as.
abbrev pub carried_way : (K : Kind) → Way K → Option Best
carried_way K o = option_and_then (λ y. Some (best (K.carried y.0) y.1)) o

-- n more charges can be added to the cost, if there is one.
abbrev pub HasRoom : (K : Kind) → ℕ → Option K.Cost → Type 0
HasRoom K n o = (c : K.Cost) → o ≡ Some c → Room K n c

-- The same of a way.
abbrev pub WayHasRoom : (K : Kind) → ℕ → Way K → Type 0
WayHasRoom K n o = (c : K.Cost) (s : ℕ) → o ≡ Some (c, s) → Room K n c

-- r is the cost that a carries, with the charge h.
abbrev pub Through : Kind → Option Total → Charge → Option Total → Type 0
Through K a h r = (o : Option K.Cost) → HasRoom K 1 o → a ≡ carried_of K o → r ≡ carried_of K (option_and_then (λ c. sum K c (h ∷ [])) o)

-- r is the better of the way b and the cost a, which comes from s and loses a tie.
abbrev pub Better : Kind → Option Best → Option Total → ℕ → Option Best → Type 0
Better K b a s r = (w : Way K) (o : Option K.Cost) → WayHasRoom K 0 w → HasRoom K 0 o → b ≡ carried_way K w → a ≡ carried_of K o → r ≡ carried_way K (better K w (from K o s))

-- r is the way b with the charge h.
abbrev pub Arrived : Kind → Option Best → Charge → Option Best → Type 0
Arrived K b h r = (w : Way K) → WayHasRoom K 1 w → b ≡ carried_way K w → r ≡ carried_way K (and K w h)

-- The total of a way, if there is one.
abbrev pub best_total : Option Best → Option Total
best_total o = option_and_then (λ b. Some b.total) o

-- The mode that a way comes from, if there is one.
abbrev pub best_from : Option Best → Option ℕ
best_from o = option_and_then (λ b. Some b.from) o

-- r is the best so far, or comes from s, which has a total.
abbrev pub OneOf : Option Best → Option Total → ℕ → Option Best → Type 0
OneOf b a s r = (r ≡ b) ⊎ ((is_some a ≡ true) × (best_from r ≡ Some s))
