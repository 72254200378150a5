-- A total is its two numbers.
use Rattle.std.proofs.Common.{◌≡◌, ℕ}
use Rattle.cost.specs.declared.charge.Total.{Total}

abbrev total : ℕ → ℕ → Total
total b p = record { breaches = b; penalty = p }

pub same_total : (a b c d : ℕ) → a ≡ c → b ≡ d → total a b ≡ total c d
same_total a b c d e f i = total (e i) (f i)
