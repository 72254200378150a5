-- Parameters in their ranges give penalties that fit a charge.
use Rattle.std.proofs.Common.{◌≡◌, ℕ, ◌+◌, ◌*◌, ◌<◌, ◌≤◌, true, Ok, Err, Result, is_ok, inl, inr, arith, rules}
use Rattle.std.proofs.lemmas.Bool.{cases_lt}
use Rattle.fault.specs.declared.Fault.{Fault}
use Rattle.fault.specs.declared.Fault.TheVariants.{Parameter}
use Rattle.fault.specs.Checks.{RefusesFirst}
use Rattle.model.specs.declared.banded.Parameters.{Parameters}
use Rattle.model.specs.Banded.{OutOfRange, AllInRange, Uncut, distance}
use Rattle.model.proofs.Products.{product}

at_most : (a b : ℕ) → (b < a → ⊥) → a ≤ b
at_most a b h = elim (cases_lt b a) [ inl k ↦ absurd (h k) | inr k ↦ k ]

-- a check that passes found no parameter out of its range
pub in_range : (p : Parameters) (r : Result (Unit {0}) Fault) → RefusesFirst (OutOfRange p) Parameter r → is_ok r ≡ true → AllInRange p
in_range p (Ok u) none ok = none
in_range p (Err f) first ok = search rules

pub few_modes : (p : Parameters) → AllInRange p → p.modes ≤ 32
few_modes p ok = at_most _ _ (λ h. ok 0 (inr h))

pub few_values : (p : Parameters) → AllInRange p → p.values ≤ 256
few_values p ok = at_most _ _ (λ h. ok 1 (inr h))

pub uncut : (p : Parameters) → AllInRange p → Uncut p
uncut p ok =
    let modes = few_modes p ok in
    let values = few_values p ok in
    let hop : p.hop ≤ 1000 = at_most _ _ (λ h. ok 3 (inr h)) in
    let rate : p.rate ≤ 1000 = at_most _ _ (λ h. ok 4 (inr h)) in
    let slope : p.slope ≤ 8 = at_most _ _ (λ h. ok 5 (inr h)) in
    let centre : p.centre ≤ 255 = at_most _ _ (λ h. ok 6 (inr h)) in
    let spacing : p.spacing ≤ 255 = at_most _ _ (λ h. ok 7 (inr h)) in
    record {
      passage = λ s t h k.
          let d : distance s t ≤ 31 = omega arith in
          let q = product p.rate (distance s t) 1000 31 rate d in
          omega arith;
      reading = λ s r h k.
          let q = product p.spacing s 255 31 spacing (omega arith) in
          let d : distance r (p.centre + p.spacing * s) ≤ 8160 = omega arith in
          let q2 = product p.slope (distance r (p.centre + p.spacing * s)) 8 8160 slope d in
          omega arith;
    }
