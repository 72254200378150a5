-- Viterbi's algorithm finds the cheapest paths; so they exist, and grow by one step.
use Rattle.std.proofs.Common.{◌≡◌, ℕ, zero, suc, ◌<◌, ◌≤◌, ◌⊎◌, List, [], ◌∷◌, ◌++◌, length, All, Some, None, Option, sym, refl, ap, ◌∙◌, subst, inl, inr, arith, option_and_then}
use Rattle.std.proofs.lemmas.List.{length_push, append_assoc, append-nil, nil_from_length}
use Rattle.std.proofs.lemmas.List.Elements.{All-nil, All-push}
use Rattle.std.proofs.lemmas.Option.{none-some, same_Some}
use Rattle.cost.specs.Sums.{came}
use Rattle.cost.specs.Kind.{Kind}
use Rattle.model.specs.Meaning.{Meaning}
use Rattle.viterbi.specs.Lists.{EndsIn}
use Rattle.viterbi.specs.Paths.{cost, extended, Open, CheapestTo, Chosen, Reading, Log}
use Rattle.viterbi.specs.Algorithm.{Kept, chosen_of, better, least_of, go_on, advance, advanced, first, survivors}
use Rattle.viterbi.proofs.Ends.{compare, all_split}
use Rattle.viterbi.proofs.Steps.{sum_defined, split}
use Rattle.viterbi.proofs.Cheapest.{unique, chosen_cheapest}

module _ (K : Kind) {A : Type 0} where
  -- o is the first of least cost among the first n of f
  pub record Found (n : ℕ) (f : ℕ → Option (K.Cost × A)) (o : Option (K.Cost × A)) : Type 0 where
    pub place : ℕ
    pub what : K.Cost × A
    pub inside : place < n
    pub reads : f place ≡ Some what
    pub is : o ≡ Some what
    pub least : (u : ℕ) (y : K.Cost × A) → u < n → f u ≡ Some y → K.Less what.0 y.0 ⊎ ((what.0 ≡ y.0) × (place ≤ u))

  abbrev pub Least : (n : ℕ) (f : ℕ → Option (K.Cost × A)) (o : Option (K.Cost × A)) → Type 0
  Least n f o = ((o ≡ None) × ((u : ℕ) → u < n → f u ≡ None)) ⊎ Found n f o

pub in_front : (u n : ℕ) → u < suc n → (u < n) ⊎ (u ≡ n)
in_front u n h = elim (compare u n) [ inl l ↦ inl l | inr e ↦ elim e [ inl i ↦ inr i | inr l ↦ absurd (omega arith) ] ]

-- nothing at n, and nothing below
pub none_to : {A : Type 0} (f : ℕ → Option A) (n : ℕ) → ((u : ℕ) → u < n → f u ≡ None) → f n ≡ None → (u : ℕ) → u < suc n → f u ≡ None
none_to f n h e u l = elim (in_front u n l) [ inl k ↦ h u k | inr i ↦ ap f i ∙ e ]

module _ (K : Kind) {A : Type 0} (f : ℕ → Option (K.Cost × A)) where
  none_at : (u : ℕ) (y : K.Cost × A) → f u ≡ None → f u ≡ Some y → ⊥
  none_at u y a b = none-some y (sym a ∙ b)

  module _ (n : ℕ) where
    -- the place m is the first of least cost if it is so against those below n and against n
    grow : (m : ℕ) (x : K.Cost × A) → m < suc n → f m ≡ Some x → ((u : ℕ) (z : K.Cost × A) → u < n → f u ≡ Some z → K.Less x.0 z.0 ⊎ ((x.0 ≡ z.0) × (m ≤ u))) → ((z : K.Cost × A) → f n ≡ Some z → K.Less x.0 z.0 ⊎ ((x.0 ≡ z.0) × (m ≤ n))) → Found K (suc n) f (Some x)
    grow m x l e below here = record { place = m; what = x; inside = l; reads = e; is = refl; least = λ u z k i. at u z i (in_front u n k) }
      where
        at : (u : ℕ) (z : K.Cost × A) → f u ≡ Some z → (u < n) ⊎ (u ≡ n) → K.Less x.0 z.0 ⊎ ((x.0 ≡ z.0) × (m ≤ u))
        at u z i (inl k) = below u z k i
        at u z i (inr k) = subst (λ w. K.Less x.0 z.0 ⊎ ((x.0 ≡ z.0) × (m ≤ w))) (sym k) (here z (ap f (sym k) ∙ i))

    same_at : (u : ℕ) (y z : K.Cost × A) → f u ≡ Some y → f u ≡ Some z → y.0 ≡ z.0
    same_at u y z a b = ap (λ (w : K.Cost × A). w.0) (same_Some y z (sym a ∙ b))

    found_new : ((u : ℕ) → u < n → f u ≡ None) → (y : K.Cost × A) → f n ≡ Some y → Found K (suc n) f (Some y)
    found_new h y e = grow n y (omega arith) e (λ u z l i. absurd (none_at u z (h u l) i)) (λ z i. inr (same_at n y z e i, omega arith))

    found_old : (o : Option (K.Cost × A)) (a : Found K n f o) → f n ≡ None → Found K (suc n) f (Some a.what)
    found_old o a e = grow a.place a.what (omega (arith, a.inside)) a.reads a.least (λ z i. absurd (none_at n z e i))

    found_both : (o : Option (K.Cost × A)) (a : Found K n f o) (y : K.Cost × A) → f n ≡ Some y → (m : K.Less a.what.0 y.0 ⊎ (a.what.0 ≡ y.0) ⊎ K.Less y.0 a.what.0) → Found K (suc n) f (Some (chosen_of K a.what y m))
    found_both o a y e (inl h) = grow a.place a.what (omega (arith, a.inside)) a.reads a.least (λ z i. inl (subst (K.Less a.what.0) (same_at n y z e i) h))
    found_both o a y e (inr (inl h)) = grow a.place a.what (omega (arith, a.inside)) a.reads a.least (λ z i. inr (h ∙ same_at n y z e i, omega (arith, a.inside)))
    found_both o a y e (inr (inr h)) = grow n y (omega arith) e (λ u z l i. inl (dearer z (a.least u z l i))) (λ z i. inr (same_at n y z e i, omega arith))
      where
        dearer : {u : ℕ} (z : K.Cost × A) → K.Less a.what.0 z.0 ⊎ ((a.what.0 ≡ z.0) × (a.place ≤ u)) → K.Less y.0 z.0
        dearer z (inl k) = K.transitive y.0 a.what.0 z.0 h k
        dearer z (inr k) = subst (K.Less y.0) k.0 h

  pub least_of_lem : (n : ℕ) → Least K n f (least_of K n f)
  least_of_lem zero = inl (refl, λ u h. absurd (omega arith))
  least_of_lem (suc n) = go (least_of K n f) (least_of_lem n) (f n) refl
    where
      go : (o : Option (K.Cost × A)) → Least K n f o → (p : Option (K.Cost × A)) → f n ≡ p → Least K (suc n) f (better K o p)
      go o (inl h) None e = inl (rw h.0, none_to f n h.1 e)
      go o (inl h) (Some y) e = rw h.0 (inr (found_new n h.1 y e))
      go o (inr a) None e = rw a.is (inr (found_old n o a e))
      go o (inr a) (Some y) e = rw a.is (inr (found_both n o a y e (K.compare a.what.0 y.0)))

module _ (K : Kind) (M : Meaning) where
  -- v has the cheapest path to s after xs, or nothing where no open path ends in s
  abbrev pub RightAt : List ℕ → (ℕ → Option (Kept K)) → ℕ → Type 0
  RightAt xs v s = ((v s ≡ None) × ((q : List ℕ) (c : K.Cost) → Open K M xs q c → EndsIn q s → ⊥)) ⊎ ((p : List ℕ) × (c : K.Cost) × (v s ≡ Some (c, p)) × CheapestTo K M xs s p c)

  abbrev pub Right : List ℕ → (ℕ → Option (Kept K)) → Type 0
  Right xs v = (s : ℕ) → s < M.modes → RightAt xs v s

  pub end_below : (xs : Log) (q : List ℕ) (c : K.Cost) (s : ℕ) → Open K M xs q c → EndsIn q s → s < M.modes
  end_below xs q c s o e = (all_split (λ t. t < M.modes) e.0 s (subst (All (λ t. t < M.modes)) e.1 o.modes)).1

  -- the survivor of a mode in which an open path ends
  pub kept : (xs : Log) (v : ℕ → Option (Kept K)) → Right xs v → (s : ℕ) (q : List ℕ) (c : K.Cost) → Open K M xs q c → EndsIn q s → (p : List ℕ) × (d : K.Cost) × (v s ≡ Some (d, p)) × CheapestTo K M xs s p d
  kept xs v g s q c o e = elim (g s (end_below xs q c s o e)) [ inl h ↦ absurd (h.1 q c o e) | inr h ↦ h ]

  pub has : (xs : Log) (v : ℕ → Option (Kept K)) → Right xs v → (s : ℕ) (q : List ℕ) (c : K.Cost) → Open K M xs q c → EndsIn q s → (p : List ℕ) × (d : K.Cost) × CheapestTo K M xs s p d
  has xs v g s q c o e = let k = kept xs v g s q c o e in (k.0, k.1, k.3)

  -- it is where the cheapest path is
  pub kept_is : (xs : Log) (v : ℕ → Option (Kept K)) → Right xs v → (s : ℕ) (p : List ℕ) (c : K.Cost) → CheapestTo K M xs s p c → v s ≡ Some (c, p)
  kept_is xs v g s p c h =
      let k = kept xs v g s p c h.is_open h.ends in
      let u = unique K M xs s k.0 p k.1 c k.3 h in
      k.2 ∙ ap (λ (z : Kept K). Some z) (λ i. (u.1 i, u.0 i))

  module _ (x : Reading) (xs : Log) (r : Reading) (v : ℕ → Option (Kept K)) (g : Right (x ∷ xs) v) (t : ℕ) (below : t < M.modes) where
    abbrev choices : ℕ → Option (Kept K)
    choices s = option_and_then (go_on K M s t r) (v s)

    -- a cheapest path that may go on to t is among the choices
    among : (s : ℕ) (p : List ℕ) (c d : K.Cost) → CheapestTo K M (x ∷ xs) s p c → extended K M c s t r ≡ Some d → choices s ≡ Some (d, p ++ t ∷ [])
    among s p c d h e = rw (kept_is (x ∷ xs) v g s p c h, e)

    abbrev Made : Type 0
    Made = (s : ℕ) × (p : List ℕ) × (c : K.Cost) × (d : K.Cost) × (advance K M v r t ≡ Some (d, p ++ t ∷ [])) × Chosen K M (x ∷ xs) r t s p c d

    made : Found K M.modes choices (advance K M v r t) → Made
    made a = at (g a.place a.inside)
      where
        w : (y : Kept K) × (v a.place ≡ Some y) × (go_on K M a.place t r y ≡ Some a.what)
        w = came (v a.place) (go_on K M a.place t r) a.what a.reads

        y : Kept K
        y = w.0

        z : (d : K.Cost) × (extended K M y.0 a.place t r ≡ Some d) × (◌≡◌ {A = Option (Kept K)} (Some (d, y.1 ++ t ∷ [])) (Some a.what))
        z = came (extended K M y.0 a.place t r) (λ (d : K.Cost). Some (d, y.1 ++ t ∷ [])) a.what w.2

        d_is : a.what.0 ≡ z.0
        d_is = sym (ap (λ (k : Kept K). k.0) (same_Some (z.0, y.1 ++ t ∷ []) a.what z.2))

        at : RightAt (x ∷ xs) v a.place → Made
        at (inl h) = absurd (none-some y (sym h.0 ∙ w.1))
        at (inr k) =
            let same : (k.1, k.0) ≡ y = same_Some {A = Kept K} (k.1, k.0) y (sym k.2 ∙ w.1) in (
              a.place,
              y.1,
              y.0,
              z.0,
              a.is ∙ sym z.2,
              record {
                cheapest = subst (λ (y : Kept K). CheapestTo K M (x ∷ xs) a.place y.1 y.0) same k.3;
                below = below;
                makes = z.1;
                least = λ u q e f b i. subst (λ n. K.Less n f ⊎ ((n ≡ f) × (a.place ≤ u))) d_is (a.least u (f, q ++ t ∷ []) (end_below (x ∷ xs) q e u b.is_open b.ends) (among u q e f b i));
              },
            )

    pub chooses : ((advance K M v r t ≡ None) × ((q : List ℕ) (c : K.Cost) → Open K M (x ∷ xs ++ r ∷ []) q c → EndsIn q t → ⊥)) ⊎ Made
    chooses = at (least_of_lem K choices M.modes)
      where
        at : Least K M.modes choices (advance K M v r t) → ((advance K M v r t ≡ None) × ((q : List ℕ) (c : K.Cost) → Open K M (x ∷ xs ++ r ∷ []) q c → EndsIn q t → ⊥)) ⊎ Made
        at (inl h) = inl (
          h.0,
          λ q c o e.
              let w = split K M x xs r q t c o e in
              let k = has (x ∷ xs) v g w.from w.path w.before w.is_open w.ends in
              let f = sum_defined K (M.passage w.from t ∷ M.reading t r ∷ []) k.1 w.before c w.step in
              none-some (f.0, k.0 ++ t ∷ []) (sym (h.1 w.from (end_below (x ∷ xs) w.path w.before w.from w.is_open w.ends)) ∙ among w.from k.0 k.1 f.0 k.2 f.1),
        )
        at (inr a) = inr (made a)

  advance_right : (x : Reading) (xs : Log) (r : Reading) (v : ℕ → Option (Kept K)) → Right (x ∷ xs) v → Right (x ∷ xs ++ r ∷ []) (advance K M v r)
  advance_right x xs r v g t below = elim (chooses x xs r v g t below) [
    | inl h ↦ inl h
    | inr m ↦ inr (m.1 ++ t ∷ [], m.3, m.4, chosen_cheapest K M x xs r t m.0 m.1 m.2 m.3 m.5 (has (x ∷ xs) v g))
  ]

  advanced_right : (x : Reading) (xs rs : Log) (v : ℕ → Option (Kept K)) → Right (x ∷ xs) v → Right (x ∷ xs ++ rs) (advanced K M v rs)
  advanced_right x xs [] v g = rw append-nil g
  advanced_right x xs (r ∷ rs) v g = rw append_assoc at (advanced_right x (xs ++ r ∷ []) rs (advance K M v r) (advance_right x xs r v g))

  single : (r : Reading) (q : List ℕ) (c : K.Cost) (t : ℕ) → Open K M (r ∷ []) q c → EndsIn q t → t ∷ [] ≡ q
  single r q c t o e = sym (e.1 ∙ ap (λ l. l ++ t ∷ []) (nil_from_length e.0 (omega (arith, o.one_each, ap length e.1, length_push e.0 t))))

  first_right : (r : Reading) → Right (r ∷ []) (first K M r)
  first_right r t below = at (cost K M (r ∷ []) (t ∷ [])) refl
    where
      at : (o : Option K.Cost) → cost K M (r ∷ []) (t ∷ []) ≡ o → RightAt (r ∷ []) (first K M r) t
      at None e = inl (rw e, λ q c o i. none-some c (sym e ∙ subst (λ z. cost K M (r ∷ []) z ≡ Some c) (sym (single r q c t o i)) o.costs))
      at (Some d) e = inr (
        t ∷ [],
        d,
        rw e,
        record {
          is_open = record { modes = All-push (λ z. z < M.modes) [] t (All-nil (λ z. z < M.modes)) below; one_each = refl; costs = e };
          ends = ([], refl);
          best = λ q c o i. inl (single r q c t o i);
        },
      )

  -- Viterbi's algorithm finds the cheapest path to each reachable mode, and nothing for the others
  pub survivors_right : (x : Reading) (xs : Log) → Right (x ∷ xs) (survivors K M (x ∷ xs))
  survivors_right x xs = advanced_right x [] xs (first K M x) (first_right x)
