-- The kind Strict.
use Rattle.std.specs.Prelude.{◌≡◌, ℕ, ◌+◌, ◌<◌, ◌≤◌, Bool, true, false, if◌then◌else◌, Some, None, Option, ◌==◌, refl}
use Rattle.std.proofs.Common.{ap, arith}
use Rattle.cost.specs.declared.charge.Charge.{Charge}
use Rattle.cost.specs.declared.charge.Total.{Total}
use Rattle.cost.specs.declared.charge.Shown.{Shown}
use Rattle.cost.specs.Kind.{Kind, SumOfCharges, Fits, Low}
use Rattle.cost.specs.Orders.{compare}
use Rattle.cost.specs.Sums.{bounded}

-- A charge with a breach is barred; otherwise the cost is the penalty.
abbrev cost_of : Charge → Option ℕ
cost_of h = if h.breaches == 0 then Some h.penalty else None

abbrev add : ℕ → ℕ → ℕ
add a b = a + b

abbrev carried : ℕ → Total
carried c = record { breaches = 0; penalty = c }

abbrev shown : ℕ → Shown
shown c = record { breaches = 0; penalty = c }

small : (b : Bool) (p d : ℕ) → p ≤ 65535 → (if b then Some p else None) ≡ Some d → d ≤ 65535
small true p d h e = let i : p ≡ d = cc in omega arith
small false p d h e = let z : ◌≡◌ {A = ℕ} 0 1 = cc in absurd (omega arith)

pub low : (c : ℕ) → SumOfCharges cost_of add 0 c → Fits (carried c) × Low (shown c)
low c s =
    let i = bounded cost_of add (λ a. a) 65535 (λ a b. refl) (λ h d f. small (h.breaches == 0) h.penalty d h.low f) s.charges 0 c s.comes in
    ((omega arith, omega arith), (omega arith, omega arith))

abbrev pub strict : Kind
strict = record {
  Cost = ℕ;
  zero = 0;
  add = add;
  Less = λ a b. a < b;
  cost_of = cost_of;
  shown = shown;
  carried = carried;
  compare = compare;
  irreflexive = λ a h. omega arith;
  transitive = λ a b c h k. omega arith;
  zero_add = λ c. omega arith;
  add_less = λ a b c h. omega arith;
  shows_zero = refl;
  low = low;
  exact = λ a b s t e. ap (λ t. t.penalty) e;
}
