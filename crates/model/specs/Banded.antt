-- The banded model.
use Rattle.std.specs.Prelude.{ℕ, ◌+◌, ◌-◌, ◌*◌, ◌<◌, ◌≤◌, if◌then◌else◌, ◌⊎◌, List, [], ◌∷◌, ◌==◌, nat_lt, slice_index_or}
use Rattle.cost.specs.declared.charge.Charge.{Charge}
use Rattle.cost.specs.Charges.{charge}
use Rattle.model.specs.declared.banded.Parameters.{Parameters}
use Rattle.model.specs.declared.banded.Limit.{Limit}
use Rattle.model.specs.Meaning.{Meaning, within}

-- A parameter's value, with its least and its greatest.
abbrev pub limit : ℕ → ℕ → ℕ → Limit
limit value least most = record { value = value; least = least; most = most }

-- The parameters in the order in which they are checked, each with its range.
abbrev pub limits : Parameters → List Limit
limits p =
    limit p.modes 1 32
    ∷ limit p.values 1 256
    ∷ limit p.band 0 31
    ∷ limit p.hop 0 1000
    ∷ limit p.rate 0 1000
    ∷ limit p.slope 0 8
    ∷ limit p.centre 0 255
    ∷ limit p.spacing 0 255
    ∷ []

-- The value is out of its range.
abbrev pub Broken : Limit → Type 0
Broken l = (l.value < l.least) ⊎ (l.most < l.value)

-- The parameter i is out of its range.
abbrev pub OutOfRange : Parameters → ℕ → Type 0
OutOfRange p i = Broken (slice_index_or (limits p) i (limit 0 0 0))

-- Every parameter is in its range.
abbrev pub AllInRange : Parameters → Type 0
AllInRange p = (i : ℕ) → OutOfRange p i → ⊥

-- How far two numbers are apart.
abbrev pub distance : ℕ → ℕ → ℕ
distance a b = (a - b) + (b - a)

-- Staying costs nothing; a passage over a distance costs hop + rate × distance, and a breach where it is above the band.
abbrev pub passage_over : Parameters → ℕ → Charge
passage_over p d = if d == 0 then charge 0 0 else charge (if nat_lt p.band d then 1 else 0) (p.hop + p.rate * d)

-- The meaning of the parameters: starts cost nothing, and a reading costs slope × its distance from the mode's centre.
abbrev pub banded : Parameters → Meaning
banded p =
    within p.modes p.values
    (λ s. charge 0 0)
    (λ s t. passage_over p (distance s t))
    (λ s r. charge 0 (p.slope * distance r (p.centre + p.spacing * s)))

-- No charge of a mode or value of the model is cut: every penalty is at most 65,535.
pub record Uncut (p : Parameters) : Type 0 where
  pub passage : (s t : ℕ) → s < p.modes → t < p.modes → p.hop + p.rate * distance s t ≤ 65535
  pub reading : (s r : ℕ) → s < p.modes → r < p.values → p.slope * distance r (p.centre + p.spacing * s) ≤ 65535
