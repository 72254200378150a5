-- One more charge on a sum of charges.
use Rattle.std.proofs.Common.{◌≡◌, ℕ, ◌<◌, List, [], ◌∷◌, ◌++◌, length, Some, None, Option, sym, refl, ap, ◌∙◌, arith, length-append, option_and_then}
use mathlib.Core.Path.{fun_ext}
use Rattle.cost.specs.declared.charge.Charge.{Charge}
use Rattle.cost.specs.declared.charge.Total.{Total}
use Rattle.cost.specs.Kind.{Kind, added_to, sum, MOST, Arises, Carries, carried_of, carried_cost, Summed, Charged}

then_then : {A B C : Type 0} (o : Option A) (f : A → Option B) (g : B → Option C) → option_and_then (λ a. option_and_then g (f a)) o ≡ option_and_then g (option_and_then f o)
then_then None f g = refl
then_then (Some a) f g = refl

-- charges after charges
pub added_append : {C : Type 0} (cost_of : Charge → Option C) (add : C → C → C) (c : C) (hs ks : List Charge) → added_to cost_of add c (hs ++ ks) ≡ option_and_then (λ d. added_to cost_of add d ks) (added_to cost_of add c hs)
added_append cost_of add c [] ks = refl
added_append cost_of add c (h ∷ hs) ks =
    ap (λ f. option_and_then f (cost_of h)) (fun_ext (λ d. added_append cost_of add (add c d) hs ks))
    ∙ then_then (cost_of h) (λ d. added_to cost_of add (add c d) hs) (λ d. added_to cost_of add d ks)

-- a total that is carried for a cost
pub carried_from : (K : Kind) (o : Option K.Cost) (t : Total) → Some t ≡ carried_of K o → (y : K.Cost) × (o ≡ Some y) × (t ≡ K.carried y)
carried_from K None t e = let z : ◌≡◌ {A = ℕ} 0 1 = cc in absurd (omega arith)
carried_from K (Some y) t e = (y, refl, cc)

-- the cost of one charge is a sum of charges
pub one_arises : (K : Kind) (h : Charge) (y : K.Cost) → K.cost_of h ≡ Some y → Arises K y
one_arises K h y e = record {
  charges = h ∷ [];
  few = omega arith;
  comes = ap (λ o. option_and_then (λ d. Some (K.add K.zero d)) o) e ∙ ap Some (K.zero_add y);
}

-- and so is a sum with one more charge
pub more_arises : (K : Kind) (cs : List Charge) (h : Charge) (c y : K.Cost) → length cs < MOST → sum K K.zero cs ≡ Some c → K.cost_of h ≡ Some y → Arises K (K.add c y)
more_arises K cs h c y room e f = record {
  charges = cs ++ h ∷ [];
  few = simp length-append (omega arith);
  comes =
      added_append K.cost_of K.add K.zero cs (h ∷ [])
      ∙ ap (λ o. option_and_then (λ d. sum K d (h ∷ [])) o) e
      ∙ ap (λ o. option_and_then (λ d. Some (K.add c d)) o) f;
}

pub charged : (K : Kind) (h : Charge) (t d r : Total) → Some d ≡ carried_cost K h → Summed K t d r → Charged K t h (Some r)
charged K h t d r costs summed cs c room comes same =
    let y = carried_from K (K.cost_of h) d costs in
    let left : Carries K t c = record { arises = record { charges = cs; few = omega arith; comes = comes }; same = same } in
    let right : Carries K d y.0 = record { arises = one_arises K h y.0 y.1; same = y.2 } in
    let result = summed c y.0 left right (more_arises K cs h c y.0 room comes y.1) in
    ap Some result.same ∙ sym (ap (λ o. carried_of K (option_and_then (λ x. Some (K.add c x)) o)) y.1)
