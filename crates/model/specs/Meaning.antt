-- What a model means.
use Rattle.std.specs.Prelude.{◌≡◌, ℕ, ◌≤◌, Bool, true, false, if◌then◌else◌, ◌&&◌, ◌⊎◌, ◌≢◌, nat_lt, refl}
use Rattle.std.proofs.Common.{inl, inr, arith}
use Rattle.std.proofs.lemmas.Bool.{ltb-true}
use Rattle.cost.specs.declared.charge.Charge.{Charge}
use Rattle.cost.specs.Charges.{worst}

-- The number of modes, the number of reading values, and the charges of starts, passages and readings.
-- Modes and values count from 0; the charges are what the model answers, whatever it is asked.
pub record Meaning : Type 0 where
  pub modes : ℕ
  pub values : ℕ
  pub start : ℕ → Charge
  pub passage : ℕ → ℕ → Charge
  pub reading : ℕ → ℕ → Charge

-- A question about a mode or a value that the model does not have is answered by the worst charge.
pub record OutsideIsWorst (m : Meaning) : Type 0 where
  pub start : (s : ℕ) → m.modes ≤ s → m.start s ≡ worst
  pub passage : (s t : ℕ) → (m.modes ≤ s) ⊎ (m.modes ≤ t) → m.passage s t ≡ worst
  pub reading : (s r : ℕ) → (m.modes ≤ s) ⊎ (m.values ≤ r) → m.reading s r ≡ worst

-- k modes and v values with these charges, and the worst charge outside.
abbrev pub within : (k v : ℕ) → (ℕ → Charge) → (ℕ → ℕ → Charge) → (ℕ → ℕ → Charge) → Meaning
within k v start passage reading = record {
  modes = k;
  values = v;
  start = λ s. if nat_lt s k then start s else worst;
  passage = λ s t. if nat_lt s k && nat_lt t k then passage s t else worst;
  reading = λ s r. if nat_lt s k && nat_lt r v then reading s r else worst;
}

one : (b : Bool) (c : Charge) → (b ≢ true) → (if b then c else worst) ≡ worst
one true c h = absurd (h refl)
one false c h = refl

two : (a b : Bool) (c : Charge) → (a ≡ true → b ≢ true) → (if a && b then c else worst) ≡ worst
two true true c h = absurd (h refl refl)
two true false c h = refl
two false b c h = refl

not_below : (s k : ℕ) → k ≤ s → nat_lt s k ≢ true
not_below s k h e = omega (arith, ltb-true s k e)

either : (s k r v : ℕ) (c : Charge) → (k ≤ s) ⊎ (v ≤ r) → (if nat_lt s k && nat_lt r v then c else worst) ≡ worst
either s k r v c (inl h) = two _ _ c (λ a b. not_below s k h a)
either s k r v c (inr h) = two _ _ c (λ a b. not_below r v h b)

pub within_outside : (k v : ℕ) (f : ℕ → Charge) (g h : ℕ → ℕ → Charge) → OutsideIsWorst (within k v f g h)
within_outside k v f g h = record {
  start = λ s o. one _ _ (not_below s k o);
  passage = λ s t o. either s k t k _ o;
  reading = λ s r o. either s k r v _ o;
}

-- A model is made of parts: where they are sound it has the meaning `whole`, otherwise zero modes and zero values.
pub record MadeOf (Sound : Type 0) (whole made : Meaning) : Type 0 where
  pub sound : Sound → made ≡ whole
  pub unsound : (Sound → ⊥) → (made.modes ≡ 0) × (made.values ≡ 0)
