-- The totals alone suffice to choose and to go on.
use Rattle.std.proofs.Common.{◌≡◌, ℕ, ◌<◌, ◌≤◌, ◌⊎◌, List, [], ◌∷◌, ◌++◌, Some, None, Option, sym, refl, ap, ◌∙◌, subst, inl, inr, option_and_then}
use Rattle.std.proofs.lemmas.List.{same_from_push}
use Rattle.std.proofs.lemmas.Option.{none-some, same_Some}
use Rattle.cost.specs.Sums.{came}
use Rattle.cost.specs.Kind.{Kind}
use Rattle.model.specs.Meaning.{Meaning}
use Rattle.viterbi.specs.Paths.{extended, CheapestTo, Chosen, Reading, Log}
use Rattle.viterbi.specs.Algorithm.{Kept, survivors, totals, offer, choice}
use Rattle.viterbi.specs.Theorems.{Totals}
use Rattle.viterbi.proofs.Cheapest.{unique}
use Rattle.viterbi.proofs.Algorithm as program
use Rattle.viterbi.proofs.Algorithm.{Least, least_of_lem, end_below}
use Rattle.viterbi.proofs.Growth.{survivor_is, one_step}

module _ (K : Kind) (M : Meaning) where
  total_from : (xs : Log) (t : ℕ) (c : K.Cost) → t < M.modes → totals K M xs t ≡ Some c → (p : List ℕ) × CheapestTo K M xs t p c
  total_from xs t c l e =
      let w = came (survivors K M xs t) (λ (x : Kept K). Some x.0) c e in
      let x = w.0 in
      (x.1, subst (CheapestTo K M xs t x.1) (same_Some x.0 c w.2) ((survivor_is K M xs t x.1 x.0).0 (l, w.1)))

  total_to : (xs : Log) (t : ℕ) (p : List ℕ) (c : K.Cost) → CheapestTo K M xs t p c → (t < M.modes) × (totals K M xs t ≡ Some c)
  total_to xs t p c h = let s = (survivor_is K M xs t p c).1 h in (s.0, ap (λ o. option_and_then (λ (x : Kept K). Some x.0) o) s.1)

  module _ (x : Reading) (xs : Log) (r : Reading) (t : ℕ) (below : t < M.modes) where
    abbrev offers : ℕ → Option (K.Cost × ℕ)
    offers s = offer K M (totals K M (x ∷ xs) s) s t r

    offered : (s : ℕ) (p : List ℕ) (c d : K.Cost) → CheapestTo K M (x ∷ xs) s p c → extended K M c s t r ≡ Some d → offers s ≡ Some (d, s)
    offered s p c d h e = rw ((total_to (x ∷ xs) s p c h).1, e)

    abbrev Took : K.Cost × ℕ → Type 0
    Took y = (p : List ℕ) × (c : K.Cost) × Chosen K M (x ∷ xs) r t y.1 p c y.0

    took : (o : Option (K.Cost × ℕ)) (a : program.Found K M.modes offers o) → Took a.what
    took o a =
        let w = came (totals K M (x ∷ xs) a.place) (λ (c : K.Cost). option_and_then (λ (d : K.Cost). Some (d, a.place)) (extended K M c a.place t r)) a.what a.reads in
        let c = w.0 in
        let z = came (extended K M c a.place t r) (λ (d : K.Cost). Some (d, a.place)) a.what w.2 in
        let b = total_from (x ∷ xs) a.place c a.inside w.1 in
        let is : (z.0, a.place) ≡ a.what = same_Some {A = K.Cost × ℕ} (z.0, a.place) a.what z.2 in
        subst Took is (
          b.0,
          c,
          record {
            cheapest = b.1;
            below = below;
            makes = z.1;
            least = λ u q e f k i. subst (λ n. K.Less n f ⊎ ((n ≡ f) × (a.place ≤ u))) (sym (ap (λ (y : K.Cost × ℕ). y.0) is)) (a.least u (f, u) (end_below K M (x ∷ xs) q e u k.is_open k.ends) (offered u q e f k i));
          },
        )

    grows : (y : K.Cost × ℕ) (h : Took y) → CheapestTo K M (x ∷ xs ++ r ∷ []) t (h.0 ++ t ∷ []) y.0
    grows y h = (one_step K M x xs r t (h.0 ++ t ∷ []) y.0).1 (y.1, h.0, h.1, refl, h.2)

    same_choice : (y z : K.Cost × ℕ) → Took y → Took z → y ≡ z
    same_choice y z h k =
        let u = unique K M (x ∷ xs ++ r ∷ []) t (h.0 ++ t ∷ []) (k.0 ++ t ∷ []) y.0 z.0 (grows y h) (grows z k) in
        let p = (same_from_push h.0 k.0 t t u.0).0 in
        let a = h.2.cheapest.ends in
        let b = k.2.cheapest.ends in
        let s = (same_from_push a.0 b.0 y.1 z.1 (sym a.1 ∙ (p ∙ b.1))).1 in
        λ i. (u.1 i, s i)

    chosen_to : (y : K.Cost × ℕ) → choice K M (totals K M (x ∷ xs)) r t ≡ Some y → Least K M.modes offers (choice K M (totals K M (x ∷ xs)) r t) → Took y
    chosen_to y e (inl n) = absurd (none-some y (sym n.0 ∙ e))
    chosen_to y e (inr a) = subst Took (same_Some a.what y (sym a.is ∙ e)) (took (choice K M (totals K M (x ∷ xs)) r t) a)

    chosen_from : (y : K.Cost × ℕ) → Took y → Least K M.modes offers (choice K M (totals K M (x ∷ xs)) r t) → choice K M (totals K M (x ∷ xs)) r t ≡ Some y
    chosen_from y h (inl n) =
        let k = h.2.cheapest in
        absurd (none-some y (sym (n.1 y.1 (total_to (x ∷ xs) y.1 h.0 h.1 k).0) ∙ offered y.1 h.0 h.1 y.0 k h.2.makes))
    chosen_from y h (inr a) = a.is ∙ ap (λ (z : K.Cost × ℕ). Some z) (same_choice a.what y (took (choice K M (totals K M (x ∷ xs)) r t) a) h)

    look : Least K M.modes offers (choice K M (totals K M (x ∷ xs)) r t)
    look = least_of_lem K offers M.modes

    none_next : ((u : ℕ) → u < M.modes → offers u ≡ None) → (o : Option K.Cost) → totals K M (x ∷ xs ++ r ∷ []) t ≡ o → totals K M (x ∷ xs ++ r ∷ []) t ≡ None
    none_next n None e = e
    none_next n (Some d) e =
        let h = total_from (x ∷ xs ++ r ∷ []) t d below e in
        let o = (one_step K M x xs r t h.0 d).0 h.1 in
        let k = o.4.cheapest in
        absurd (none-some (d, o.0) (sym (n o.0 (total_to (x ∷ xs) o.0 o.1 o.2 k).0) ∙ offered o.0 o.1 o.2 d k o.4.makes))

    next_at : Least K M.modes offers (choice K M (totals K M (x ∷ xs)) r t) → totals K M (x ∷ xs ++ r ∷ []) t ≡ option_and_then (λ y. Some y.0) (choice K M (totals K M (x ∷ xs)) r t)
    next_at (inl n) = none_next n.1 (totals K M (x ∷ xs ++ r ∷ []) t) refl ∙ sym (ap (λ (o : Option (K.Cost × ℕ)). option_and_then (λ y. Some y.0) o) n.0)
    next_at (inr a) =
        let h = took (choice K M (totals K M (x ∷ xs)) r t) a in
        (total_to (x ∷ xs ++ r ∷ []) t (h.0 ++ t ∷ []) a.what.0 (grows a.what h)).1 ∙ sym (ap (λ (o : Option (K.Cost × ℕ)). option_and_then (λ y. Some y.0) o) a.is)

  pub suffice : Totals K M
  suffice = record {
    stand = λ xs t c. (λ h. total_from xs t c h.0 h.1, λ h. total_to xs t h.0 c h.1);
    chosen = λ x xs r t s d l. (λ e. chosen_to x xs r t l (d, s) e (look x xs r t l), λ h. chosen_from x xs r t l (d, s) h (look x xs r t l));
    next = λ x xs r t l. next_at x xs r t l (look x xs r t l);
  }
