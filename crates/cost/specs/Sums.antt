-- Bounds on sums of charges.
use Rattle.std.specs.Prelude.{◌≡◌, ℕ, ◌+◌, ◌*◌, ◌≤◌, List, [], ◌∷◌, length, Some, None, Option, refl, option_and_then}
use Rattle.std.proofs.Common.{arith}
use Rattle.cost.specs.declared.charge.Charge.{Charge}
use Rattle.cost.specs.Kind.{added_to}

-- a value that `and_then` gives comes from a value
pub came : {A B : Type 0} (o : Option A) (f : A → Option B) (b : B) → option_and_then f o ≡ Some b → (a : A) × (o ≡ Some a) × (f a ≡ Some b)
came None f b e = let z : ◌≡◌ {A = ℕ} 0 1 = cc in absurd (omega arith)
came (Some a) f b e = (a, refl, e)

-- where each charge adds at most `most` to a measure of costs, so many charges add at most so many times as much
pub bounded : {C : Type 0} (cost_of : Charge → Option C) (add : C → C → C) (size : C → ℕ) (most : ℕ) → ((a b : C) → size (add a b) ≡ size a + size b) → ((h : Charge) (d : C) → cost_of h ≡ Some d → size d ≤ most) → (cs : List Charge) (c d : C) → added_to cost_of add c cs ≡ Some d → size d ≤ size c + most * length cs
bounded cost_of add size most adds small [] c d e = let i : c ≡ d = cc in let j : size c ≡ size d = cc in omega arith
bounded cost_of add size most adds small (h ∷ hs) c d e =
    let k = came (cost_of h) (λ x. added_to cost_of add (add c x) hs) d e in
    let i = bounded cost_of add size most adds small hs (add c k.0) d k.2 in
    omega (arith, i, adds c k.0, small h k.0 k.1)
