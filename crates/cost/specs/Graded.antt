-- The kind Graded.
use Rattle.std.specs.Prelude.{◌≡◌, ◌≤◌, Some, Option, refl}
use Rattle.std.proofs.Common.{ap, arith}
use Rattle.cost.specs.declared.charge.Charge.{Charge}
use Rattle.cost.specs.declared.charge.Total.{Total}
use Rattle.cost.specs.declared.charge.Shown.{Shown}
use Rattle.cost.specs.Kind.{Kind, SumOfCharges, Fits, Low}
use Rattle.cost.specs.Orders.{Pair, pair, add_pair, LessPair, same_pair, compare_pair, irreflexive_pair, transitive_pair, add_less_pair, zero_add_pair}
use Rattle.cost.specs.Sums.{bounded}

-- Nothing is barred; the cost is the pair of breaches and penalty.
abbrev cost_of : Charge → Option Pair
cost_of h = Some (pair h.breaches h.penalty)

abbrev carried : Pair → Total
carried c = record { breaches = c.first; penalty = c.second }

abbrev shown : Pair → Shown
shown c = record { breaches = c.first; penalty = c.second }

few : (h : Charge) (d : Pair) → cost_of h ≡ Some d → d.first ≤ 9
few h d e = let i : h.breaches ≡ d.first = cc in omega (arith, h.few)

small : (h : Charge) (d : Pair) → cost_of h ≡ Some d → d.second ≤ 65535
small h d e = let i : h.penalty ≡ d.second = cc in omega (arith, h.low)

pub low : (c : Pair) → SumOfCharges cost_of add_pair (pair 0 0) c → Fits (carried c) × Low (shown c)
low c s =
    let i = bounded cost_of add_pair (λ a. a.first) 9 (λ a b. refl) few s.charges (pair 0 0) c s.comes in
    let j = bounded cost_of add_pair (λ a. a.second) 65535 (λ a b. refl) small s.charges (pair 0 0) c s.comes in
    ((omega arith, omega arith), (omega arith, omega arith))

-- Breaches and penalties are added apart, and compared in that order.
abbrev pub graded : Kind
graded = record {
  Cost = Pair;
  zero = pair 0 0;
  add = add_pair;
  Less = LessPair;
  cost_of = cost_of;
  shown = shown;
  carried = carried;
  compare = compare_pair;
  irreflexive = irreflexive_pair;
  transitive = transitive_pair;
  zero_add = zero_add_pair;
  add_less = add_less_pair;
  shows_zero = refl;
  low = low;
  exact = λ a b s t e. same_pair a b (ap (λ t. t.breaches) e) (ap (λ t. t.penalty) e);
}
