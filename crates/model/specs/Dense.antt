-- The dense table.
use Rattle.std.specs.Prelude.{◌≡◌, ℕ, ◌+◌, ◌*◌, ◌/◌, ◌%◌, ◌<◌, ◌≤◌, List, [], ◌∷◌, length, Err, Result, ◌≢◌, slice_index}
use Rattle.fault.specs.declared.Fault.{Fault}
use Rattle.fault.specs.declared.Fault.TheVariants.{TableShape, TableLength, TableEntry}
use Rattle.fault.specs.Checks.{◌when◌, InOrder, RefusesFirst}
use Rattle.cost.specs.declared.charge.Charge.{Charge}
use Rattle.cost.specs.Charges.{charge}
use Rattle.model.specs.Meaning.{Meaning, within}

-- 1 to 32 modes and 1 to 256 values.
abbrev pub Shaped : ℕ → ℕ → Type 0
Shaped k v = (1 ≤ k) × (k ≤ 32) × (1 ≤ v) × (v ≤ 256)

-- How many numbers a table has.
abbrev pub size : ℕ → ℕ → ℕ
size k v = k + k * k + k * v

-- An entry is breaches × 65,536 + penalty, with at most 9 breaches.
abbrev pub MOST_ENTRY : ℕ
MOST_ENTRY = 655359

-- The charge in the entry i.
abbrev pub charge_at : List ℕ → ℕ → Charge
charge_at ns i = charge (slice_index ns i / 65536) (slice_index ns i % 65536)

-- No entry is too large.
abbrev pub EntriesInRange : List ℕ → Type 0
EntriesInRange ns = (i : ℕ) → slice_index ns i ≤ MOST_ENTRY

-- A table that passes the check.
pub record SoundTable (k v : ℕ) (ns : List ℕ) : Type 0 where
  pub shaped : Shaped k v
  pub whole : length ns ≡ size k v
  pub entries : EntriesInRange ns

-- The check of a table: its shape, its length, and its first entry out of range.
abbrev pub CheckedTable : ℕ → ℕ → List ℕ → Result (Unit {0}) Fault → Type 0
CheckedTable k v ns r =
    InOrder (TableShape when (Shaped k v → ⊥) ∷ TableLength when (length ns ≢ size k v) ∷ []) (λ f. r ≡ Err f) (RefusesFirst (λ i. MOST_ENTRY < slice_index ns i) TableEntry r)

-- The meaning of a table: start charges, then passages from each mode, then readings in each mode.
abbrev pub dense : ℕ → ℕ → List ℕ → Meaning
dense k v ns =
    within k v
    (λ s. charge_at ns s)
    (λ s t. charge_at ns (k + s * k + t))
    (λ s r. charge_at ns (k + k * k + s * v + r))

-- No entry has more breaches than a charge can have.
abbrev pub UncutTable : List ℕ → Type 0
UncutTable ns = (i : ℕ) → slice_index ns i / 65536 ≤ 9
