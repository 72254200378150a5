-- How checks that are made in an order name the first fault.
use Rattle.std.specs.Prelude.{◌≡◌, ℕ, ◌<◌, ◌⊎◌, List, [], ◌∷◌, Ok, Err, Result}
use Rattle.fault.specs.declared.Fault.{Fault}

infix 70 ◌when◌
-- A check: its fault, and when it applies.
pub data Check : Type 1 where
  ◌when◌ : Fault → Type 0 → Check

-- The first check that applies refuses, as Refused says of its fault; where none applies, Passed holds.
abbrev pub InOrder : List Check → (Fault → Type 0) → Type 0 → Type 0
InOrder [] Refused Passed = Passed
InOrder ((f when Applies) ∷ checks) Refused Passed = (Applies × Refused f) ⊎ ((Applies → ⊥) × InOrder checks Refused Passed)

-- P holds at i, and nowhere before.
pub record First (P : ℕ → Type 0) (i : ℕ) : Type 0 where
  pub here : P i
  pub before : (j : ℕ) → j < i → P j → ⊥

-- The answer refuses with the fault of the first place where P holds; where there is none, it is Ok.
abbrev pub RefusesFirst : (ℕ → Type 0) → (ℕ → Fault) → Result (Unit {0}) Fault → Type 0
RefusesFirst P fault (Ok u) = (i : ℕ) → P i → ⊥
RefusesFirst P fault (Err f) = (i : ℕ) × (f ≡ fault i) × First P i
