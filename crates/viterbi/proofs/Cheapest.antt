-- The cheapest path to a mode is one; what the chosen one goes on to is cheapest.
use Rattle.std.proofs.Common.{◌≡◌, ℕ, ◌<◌, ◌≤◌, ◌⊎◌, List, [], ◌∷◌, ◌++◌, length, Some, sym, refl, ap, ◌∙◌, subst, inl, inr, arith}
use Rattle.std.proofs.lemmas.Option.{same_Some}
use Rattle.cost.specs.Kind.{Kind}
use Rattle.model.specs.Meaning.{Meaning}
use Rattle.viterbi.specs.Lists.{EndsIn}
use Rattle.viterbi.specs.Paths.{extended, LowerAtLast, Open, CheapestTo, Chosen, Reading, Log}
use Rattle.viterbi.proofs.Ends.{compare, lower_asym, lower_push, lower_ends}
use Rattle.viterbi.proofs.Steps.{sum_less, open_push, Split, split}

module _ (K : Kind) (M : Meaning) where
  same_cost : (xs : Log) (p : List ℕ) (c d : K.Cost) → Open K M xs p c → Open K M xs p d → c ≡ d
  same_cost xs p c d a b = same_Some c d (sym a.costs ∙ b.costs)

  pub less_not : (a b : K.Cost) → K.Less a b → a ≡ b → ⊥
  less_not a b h e = K.irreflexive b (subst (λ x. K.Less x b) e h)

  unique_path : (xs : Log) (t : ℕ) (p q : List ℕ) (c d : K.Cost) → CheapestTo K M xs t p c → CheapestTo K M xs t q d → p ≡ q
  unique_path xs t p q c d a b = go (a.best q d b.is_open b.ends) (b.best p c a.is_open a.ends)
    where
      go : (p ≡ q) ⊎ K.Less c d ⊎ ((c ≡ d) × LowerAtLast p q) → (q ≡ p) ⊎ K.Less d c ⊎ ((d ≡ c) × LowerAtLast q p) → p ≡ q
      go (inl e) _ = e
      go (inr (inl h)) (inl e) = sym e
      go (inr (inl h)) (inr (inl k)) = absurd (K.irreflexive c (K.transitive c d c h k))
      go (inr (inl h)) (inr (inr k)) = absurd (less_not c d h (sym k.0))
      go (inr (inr h)) (inl e) = sym e
      go (inr (inr h)) (inr (inl k)) = absurd (less_not d c k (sym h.0))
      go (inr (inr h)) (inr (inr k)) = absurd (lower_asym p q (a.is_open.one_each ∙ sym b.is_open.one_each) h.1 k.1)

  -- the cheapest path to a mode is unique, and so is its cost
  pub unique : (xs : Log) (t : ℕ) (p q : List ℕ) (c d : K.Cost) → CheapestTo K M xs t p c → CheapestTo K M xs t q d → (p ≡ q) × (c ≡ d)
  unique xs t p q c d a b =
      let e = unique_path xs t p q c d a b in
      (e, same_cost xs q c d (subst (λ z. Open K M xs z c) e a.is_open) b.is_open)

  module _ (x : Reading) (xs : Log) (r : Reading) (t s : ℕ) (p : List ℕ) (c d : K.Cost) (h : Chosen K M (x ∷ xs) r t s p c d) where
    abbrev Result : K.Cost → List ℕ → Type 0
    Result e q = (p ++ t ∷ [] ≡ q) ⊎ K.Less d e ⊎ ((d ≡ e) × LowerAtLast (p ++ t ∷ []) q)

    module _ (e : K.Cost) (q : List ℕ) (w : Split K M (x ∷ xs) r q t e) (p' : List ℕ) (c' : K.Cost) (b : CheapestTo K M (x ∷ xs) w.from p' c') where
      n : length p ≡ length w.path
      n = h.cheapest.is_open.one_each ∙ sym w.is_open.one_each

      tie : (p' ≡ w.path) ⊎ LowerAtLast p' w.path → d ≡ e → (s < w.from) ⊎ (s ≡ w.from) ⊎ (w.from < s) → s ≤ w.from → Result e (w.path ++ t ∷ [])
      tie k i (inl l) m = inr (inr (i, lower_ends p w.path s w.from t h.cheapest.ends w.ends l n))
      tie k i (inr (inr l)) m = absurd (omega arith)
      tie k i (inr (inl l)) m = at k
        where
          same : p ≡ p'
          same = unique_path (x ∷ xs) w.from p p' c c' (subst (λ z. CheapestTo K M (x ∷ xs) z p c) l h.cheapest) b

          at : (p' ≡ w.path) ⊎ LowerAtLast p' w.path → Result e (w.path ++ t ∷ [])
          at (inl j) = inl (ap (λ z. z ++ t ∷ []) (same ∙ j))
          at (inr j) = inr (inr (i, lower_push p w.path t n (subst (λ z. LowerAtLast z w.path) (sym same) j)))

      equal : c' ≡ w.before → (p' ≡ w.path) ⊎ LowerAtLast p' w.path → Result e (w.path ++ t ∷ [])
      equal i k = at (h.least w.from p' c' e b (subst (λ z. extended K M z w.from t r ≡ Some e) (sym i) w.step))
        where
          at : K.Less d e ⊎ ((d ≡ e) × (s ≤ w.from)) → Result e (w.path ++ t ∷ [])
          at (inl l) = inr (inl l)
          at (inr l) = tie k l.0 (compare s w.from) l.1

      dearer : K.Less c' w.before → Result e (w.path ++ t ∷ [])
      dearer l =
          let f = sum_less K (M.passage w.from t ∷ M.reading t r ∷ []) c' w.before e l w.step in
          at f.0 f.2 (h.least w.from p' c' f.0 b f.1)
        where
          at : (f : K.Cost) → K.Less f e → K.Less d f ⊎ ((d ≡ f) × (s ≤ w.from)) → Result e (w.path ++ t ∷ [])
          at f i (inl j) = inr (inl (K.transitive d f e j i))
          at f i (inr j) = inr (inl (subst (λ z. K.Less z e) (sym j.0) i))

      rival : (p' ≡ w.path) ⊎ K.Less c' w.before ⊎ ((c' ≡ w.before) × LowerAtLast p' w.path) → Result e (w.path ++ t ∷ [])
      rival (inl i) = equal (same_cost (x ∷ xs) w.path c' w.before (subst (λ z. Open K M (x ∷ xs) z c') i b.is_open) w.is_open) (inl i)
      rival (inr (inl l)) = dearer l
      rival (inr (inr l)) = equal l.0 (inr l.1)

    -- what the chosen mode's path goes on to is the cheapest path to t
    pub chosen_cheapest : ((s : ℕ) (q : List ℕ) (c : K.Cost) → Open K M (x ∷ xs) q c → EndsIn q s → (p : List ℕ) × (d : K.Cost) × CheapestTo K M (x ∷ xs) s p d) → CheapestTo K M (x ∷ xs ++ r ∷ []) t (p ++ t ∷ []) d
    chosen_cheapest has = record {
      is_open = open_push K M x xs p c d s t r h.cheapest.is_open h.cheapest.ends h.below h.makes;
      ends = (p, refl);
      best = λ q e o i. against q e (split K M x xs r q t e o i);
    }
      where
        against : (q : List ℕ) (e : K.Cost) → Split K M (x ∷ xs) r q t e → Result e q
        against q e w =
            let b = has w.from w.path w.before w.is_open w.ends in
            subst (Result e) (sym w.is) (rival e q w b.0 b.1 b.2 (b.2.best w.path w.before w.is_open w.ends))
