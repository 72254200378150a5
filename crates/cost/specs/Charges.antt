-- Charges made of two numbers.
use Rattle.std.specs.Prelude.{◌≡◌, ℕ, ◌≤◌, min}
use mathlib.Core.HLevel.{is_prop→PathP}
use Rattle.std.proofs.Math.Bridge.{le_prop}
use Rattle.std.proofs.Math.Nat.{min-le_right}
use Rattle.cost.specs.declared.charge.Charge.{Charge}

-- The charge of b breaches and penalty p; a number too large for a charge is cut to the largest.
abbrev pub charge : ℕ → ℕ → Charge
charge b p = record { breaches = min b 9; penalty = min p 65535; few = min-le_right b 9; low = min-le_right p 65535 }

-- What a model asks for a mode or a value that it does not have.
abbrev pub worst : Charge
worst = charge 9 65535

-- A charge is its two numbers.
pub same_charge : (a b : Charge) → a.breaches ≡ b.breaches → a.penalty ≡ b.penalty → a ≡ b
same_charge a b e f = λ i. record {
  breaches = e i;
  penalty = f i;
  few = is_prop→PathP (λ j. e j ≤ 9) (λ j. le_prop) a.few b.few i;
  low = is_prop→PathP (λ j. f j ≤ 65535) (λ j. le_prop) a.low b.low i;
}
