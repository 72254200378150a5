-- What a kind of cost means, and the laws that it keeps.
use Rattle.std.specs.Prelude.{◌≡◌, ℕ, ◌^◌, ◌<◌, ◌≤◌, Bool, ◌⊎◌, List, [], ◌∷◌, length, Some, MatchBool, Option, option_and_then, option_map}
use Rattle.cost.specs.declared.charge.Charge.{Charge}
use Rattle.cost.specs.declared.charge.Total.{Total}
use Rattle.cost.specs.declared.charge.Shown.{Shown}

-- A log of 1,000,000 readings has 2,000,000 charges: two for each reading.
abbrev pub MOST : ℕ
MOST = 2000000

-- What charges come to, added to c one by one from the left; None where one is barred.
abbrev pub added_to : {C : Type 0} → (Charge → Option C) → (C → C → C) → C → List Charge → Option C
added_to cost_of add c [] = Some c
added_to cost_of add c (h ∷ hs) = option_and_then (λ d. added_to cost_of add (add c d) hs) (cost_of h)

-- c is the sum of at most 2,000,000 charges: the charges of a log from the front, as far as one likes.
pub record SumOfCharges {C : Type 0} (cost_of : Charge → Option C) (add : C → C → C) (zero c : C) : Type 0 where
  pub charges : List Charge
  pub few : length charges ≤ MOST
  pub comes : added_to cost_of add zero charges ≡ Some c

-- Both shown numbers are below 2^42.
abbrev pub Low : Shown → Type 0
Low s = (s.breaches < 2 ^ 42) × (s.penalty < 2 ^ 42)

-- Both carried numbers are below 2^64.
abbrev pub Fits : Total → Type 0
Fits t = (t.breaches < 2 ^ 64) × (t.penalty < 2 ^ 64)

-- 0 breaches and penalty 0.
abbrev pub shown_zero : Shown
shown_zero = record { breaches = 0; penalty = 0 }

-- A set of costs with a zero, a sum and an order; what a charge costs (None: it is barred); how a cost is shown, and how
-- it is carried at run time; and the laws.
pub record Kind : Type 1 where
  pub Cost : Type 0
  pub zero : Cost
  pub add : Cost → Cost → Cost
  pub Less : Cost → Cost → Type 0
  pub cost_of : Charge → Option Cost
  pub shown : Cost → Shown
  pub carried : Cost → Total
  -- of two costs one is less, or they are equal, and no two of these hold together; less is transitive
  pub compare : (a b : Cost) → Less a b ⊎ (a ≡ b) ⊎ Less b a
  pub irreflexive : (a : Cost) → Less a a → ⊥
  pub transitive : (a b c : Cost) → Less a b → Less b c → Less a c
  pub zero_add : (c : Cost) → add zero c ≡ c
  pub add_less : (a b c : Cost) → Less a b → Less (add a c) (add b c)
  pub shows_zero : shown zero ≡ shown_zero
  -- every sum of charges along a log is carried in 64 bits and shown in numbers below 2^42
  pub low : (c : Cost) → SumOfCharges cost_of add zero c → Fits (carried c) × Low (shown c)
  -- it is carried exactly: sums that are carried alike are the same
  pub exact : (a b : Cost) → SumOfCharges cost_of add zero a → SumOfCharges cost_of add zero b → carried a ≡ carried b → a ≡ b

-- The sum of charges that are added to c.
abbrev pub sum : (K : Kind) → K.Cost → List Charge → Option K.Cost
sum K c cs = added_to K.cost_of K.add c cs

-- The cost c is the sum of at most 2,000,000 charges.
abbrev pub Arises : (K : Kind) → K.Cost → Type 0
Arises K c = SumOfCharges K.cost_of K.add K.zero c

-- The total t carries the cost c, which is such a sum.
pub record Carries (K : Kind) (t : Total) (c : K.Cost) : Type 0 where
  pub arises : Arises K c
  pub same : t ≡ K.carried c

-- The total of a cost, if there is one.
abbrev pub carried_of : (K : Kind) → Option K.Cost → Option Total
carried_of K o = option_map K.carried o

-- What a charge costs, as it is carried.
abbrev pub carried_cost : Kind → Charge → Option Total
carried_cost K h = carried_of K (K.cost_of h)

-- r carries the sum of what a and b carry, where that is again a sum of charges of a log.
abbrev pub Summed : Kind → Total → Total → Total → Type 0
Summed K a b r = (x y : K.Cost) → Carries K a x → Carries K b y → Arises K (K.add x y) → Carries K r (K.add x y)

-- r says whether what a carries is less than what b carries.
abbrev pub Compared : Kind → Total → Total → Bool → Type 0
Compared K a b r = (x y : K.Cost) → Carries K a x → Carries K b y → MatchBool r (K.Less x y) (K.Less x y → ⊥)

-- r is what is shown of the cost that a carries.
abbrev pub ShownAs : Kind → Total → Shown → Type 0
ShownAs K a r = (x : K.Cost) → Carries K a x → r ≡ K.shown x

-- Where t carries the sum of fewer than 2,000,000 charges, r carries that sum with the charge h, or None where h is barred.
abbrev pub Charged : Kind → Total → Charge → Option Total → Type 0
Charged K t h r = (cs : List Charge) (c : K.Cost) → length cs < MOST → sum K K.zero cs ≡ Some c → t ≡ K.carried c → r ≡ carried_of K (sum K c (h ∷ []))
