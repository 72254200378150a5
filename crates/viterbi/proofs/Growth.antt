-- The theorems: cheapest paths exist, grow by one step, and what is decided stays.
use Rattle.std.proofs.Common.{◌≡◌, ℕ, ◌<◌, ◌≤◌, ◌⊎◌, ◌↔◌, List, [], ◌∷◌, ◌++◌, length, take, drop, Some, None, Option, sym, refl, ap, ◌∙◌, subst, inl, inr, arith}
use Rattle.std.proofs.lemmas.List.{length_push, length-append, append_assoc, append-nil, nil_from_length, length-take, take-append-drop, same_from_push}
use Rattle.std.proofs.lemmas.Option.{none-some, same_Some}
use Rattle.cost.specs.Kind.{Kind}
use Rattle.model.specs.Meaning.{Meaning}
use Rattle.viterbi.specs.Lists.{EndsIn, Begins, Shared}
use Rattle.viterbi.specs.Paths.{Open, Reachable, CheapestTo, Chosen, CheapestOf, Survivor, Decided, Reading, Log}
use Rattle.viterbi.specs.Algorithm.{Kept, advance, survivors, cheapest, or_empty, meet_of, decided}
use Rattle.viterbi.specs.Theorems.{Unique, Exist, Computed, OneStep, Beginnings, Final, Grows}
use Rattle.viterbi.proofs.Cheapest.{less_not, unique, chosen_cheapest}
use Rattle.viterbi.proofs.Algorithm as program
use Rattle.viterbi.proofs.Algorithm.{Least, least_of_lem, Right, RightAt, end_below, kept_is, has, chooses, survivors_right}
use Rattle.viterbi.proofs.Shared.{begins_trans, begins_fits, begins_all, begins_both, Met, met}

module _ (K : Kind) (M : Meaning) where
  not_empty : (q : List ℕ) (t : ℕ) → EndsIn q t → length q ≡ 0 → ⊥
  not_empty q t e n = omega (arith, ap length e.1, length_push e.0 t)

  pub exists : (xs : Log) (t : ℕ) → Reachable K M xs t → (p : List ℕ) × (c : K.Cost) × CheapestTo K M xs t p c
  exists [] t h = absurd (not_empty h.0 t h.3 h.2.one_each)
  exists (x ∷ xs) t h = has K M (x ∷ xs) (survivors K M (x ∷ xs)) (survivors_right K M x xs) t h.0 h.1 h.2 h.3

  pub survivor_is : (xs : Log) (t : ℕ) (p : List ℕ) (c : K.Cost) → ((t < M.modes) × (survivors K M xs t ≡ Some (c, p))) ↔ CheapestTo K M xs t p c
  survivor_is [] t p c = (λ h. absurd (none-some (c, p) h.1), λ h. absurd (not_empty p t h.ends h.is_open.one_each))
  survivor_is (x ∷ xs) t p c = (λ h. at h.1 (survivors_right K M x xs t h.0), λ h. (end_below K M (x ∷ xs) p c t h.is_open h.ends, kept_is K M (x ∷ xs) (survivors K M (x ∷ xs)) (survivors_right K M x xs) t p c h))
    where
      at : survivors K M (x ∷ xs) t ≡ Some (c, p) → RightAt K M (x ∷ xs) (survivors K M (x ∷ xs)) t → CheapestTo K M (x ∷ xs) t p c
      at e (inl h) = absurd (none-some (c, p) (sym h.0 ∙ e))
      at e (inr h) = subst (λ (z : Kept K). CheapestTo K M (x ∷ xs) t z.1 z.0) (same_Some {A = Kept K} (h.1, h.0) (c, p) (sym h.2 ∙ e)) h.3

  pub one_step : OneStep K M
  one_step x xs r t q d = (λ h. to h (chooses K M x xs r v g t (end_below K M (x ∷ xs ++ r ∷ []) q d t h.is_open h.ends)), λ h. subst (λ z. CheapestTo K M (x ∷ xs ++ r ∷ []) t z d) (sym h.3) (from h.0 h.1 h.2 d h.4))
    where
      v : ℕ → Option (Kept K)
      v = survivors K M (x ∷ xs)

      g : Right K M (x ∷ xs) v
      g = survivors_right K M x xs

      from : (s : ℕ) (p : List ℕ) (c e : K.Cost) → Chosen K M (x ∷ xs) r t s p c e → CheapestTo K M (x ∷ xs ++ r ∷ []) t (p ++ t ∷ []) e
      from s p c e h = chosen_cheapest K M x xs r t s p c e h (has K M (x ∷ xs) v g)

      Goal : Type 0
      Goal = (s : ℕ) × (p : List ℕ) × (c : K.Cost) × (q ≡ p ++ t ∷ []) × Chosen K M (x ∷ xs) r t s p c d

      to : CheapestTo K M (x ∷ xs ++ r ∷ []) t q d → ((advance K M v r t ≡ None) × ((q : List ℕ) (c : K.Cost) → Open K M (x ∷ xs ++ r ∷ []) q c → EndsIn q t → ⊥)) ⊎ ((s : ℕ) × (p : List ℕ) × (c : K.Cost) × (d : K.Cost) × (advance K M v r t ≡ Some (d, p ++ t ∷ [])) × Chosen K M (x ∷ xs) r t s p c d) → Goal
      to h (inl n) = absurd (n.1 q d h.is_open h.ends)
      to h (inr m) =
          let u = unique K M (x ∷ xs ++ r ∷ []) t q (m.1 ++ t ∷ []) d m.3 h (from m.0 m.1 m.2 m.3 m.5) in
          (m.0, m.1, m.2, u.0, subst (Chosen K M (x ∷ xs) r t m.0 m.1 m.2) (sym u.1) m.5)

  -- the cheapest path of a longer log begins with a cheapest path of the shorter
  pub beginning : (x : Reading) (xs ys : Log) (t : ℕ) (p : List ℕ) (c : K.Cost) → CheapestTo K M (x ∷ xs ++ ys) t p c → (s : ℕ) × (q : List ℕ) × (d : K.Cost) × CheapestTo K M (x ∷ xs) s q d × Begins q p
  beginning x xs [] t p c h = (t, p, c, rw append-nil at h, ([], sym (append-nil p)))
  beginning x xs (r ∷ rs) t p c h =
      let i = beginning x (xs ++ r ∷ []) rs t p c (rw append_assoc h) in
      let o = (one_step x xs r i.0 i.1 i.2).0 i.3 in
      (o.0, o.1, o.2, o.4.cheapest, begins_trans o.1 i.1 p (i.0 ∷ [], o.3) i.4)

  pub beginnings : Beginnings K M
  beginnings xs t p c h d s b e = go (take (length d) xs) (drop (length d) xs) (sym (take-append-drop (length d) xs)) fits
    where
      fits : length (take (length d) xs) ≡ length d
      fits = omega (arith, length-take (length d) xs, begins_fits d p b, h.is_open.one_each)

      go : (ys zs : Log) → xs ≡ ys ++ zs → length ys ≡ length d → (e : K.Cost) × CheapestTo K M ys s d e
      go [] zs i n = absurd (not_empty d s e (sym n))
      go (y ∷ ys) zs i n = (k.2, subst (λ z. CheapestTo K M (y ∷ ys) z d k.2) ends (subst (λ z. CheapestTo K M (y ∷ ys) k.0 z k.2) (sym same) k.3))
        where
          k : (s : ℕ) × (q : List ℕ) × (d : K.Cost) × CheapestTo K M (y ∷ ys) s q d × Begins q p
          k = beginning y ys zs t p c (subst (λ z. CheapestTo K M z t p c) i h)

          m : length k.1 ≡ length d
          m = k.3.is_open.one_each ∙ n

          same : d ≡ k.1
          same = begins_all d k.1 (begins_both d k.1 p b k.4 (omega (arith, m))) (omega (arith, m))

          ends : k.0 ≡ s
          ends = (same_from_push k.3.ends.0 e.0 k.0 s (sym k.3.ends.1 ∙ (sym same ∙ e.1))).1

  module _ (x : Reading) (xs : Log) where
    found_of : (a : program.Found K M.modes (survivors K M (x ∷ xs)) (cheapest K M (x ∷ xs))) → CheapestOf K M (x ∷ xs) a.what.1 a.what.0
    found_of a = (a.place, (survivor_is (x ∷ xs) a.place a.what.1 a.what.0).0 (a.inside, a.reads), λ u q d b. let k = (survivor_is (x ∷ xs) u q d).1 b in a.least u (d, q) k.0 k.1)

  pub unique_of : (xs : Log) (p q : List ℕ) (c d : K.Cost) → CheapestOf K M xs p c → CheapestOf K M xs q d → (p ≡ q) × (c ≡ d)
  unique_of [] p q c d h k = (h.0 ∙ sym k.0, h.1 ∙ sym k.1)
  unique_of (x ∷ xs) p q c d h k = go (h.2 k.0 q d k.1) (k.2 h.0 p c h.1)
    where
      go : K.Less c d ⊎ ((c ≡ d) × (h.0 ≤ k.0)) → K.Less d c ⊎ ((d ≡ c) × (k.0 ≤ h.0)) → (p ≡ q) × (c ≡ d)
      go (inl l) (inl m) = absurd (K.irreflexive c (K.transitive c d c l m))
      go (inl l) (inr m) = absurd (less_not K M c d l (sym m.0))
      go (inr l) (inl m) = absurd (less_not K M d c m (sym l.0))
      go (inr l) (inr m) =
          let e : h.0 ≡ k.0 = omega (arith, l.1, m.1) in
          unique K M (x ∷ xs) k.0 p q c d (subst (λ z. CheapestTo K M (x ∷ xs) z p c) e h.1) k.1

  pub exists_of : (xs : Log) (t : ℕ) → Reachable K M xs t → (p : List ℕ) × (c : K.Cost) × CheapestOf K M xs p c
  exists_of [] t h = ([], K.zero, (refl, refl))
  exists_of (x ∷ xs) t h = go (least_of_lem K (survivors K M (x ∷ xs)) M.modes)
    where
      go : Least K M.modes (survivors K M (x ∷ xs)) (cheapest K M (x ∷ xs)) → (p : List ℕ) × (c : K.Cost) × CheapestOf K M (x ∷ xs) p c
      go (inl n) =
          let e = exists (x ∷ xs) t h in
          let k = (survivor_is (x ∷ xs) t e.0 e.1).1 e.2 in
          absurd (none-some (e.1, e.0) (sym (n.1 t k.0) ∙ k.1))
      go (inr a) = (a.what.1, a.what.0, found_of x xs a)

  pub cheapest_is : (xs : Log) (p : List ℕ) (c : K.Cost) → (cheapest K M xs ≡ Some (c, p)) ↔ CheapestOf K M xs p c
  cheapest_is [] p c = (λ e. let s = same_Some {A = Kept K} (K.zero, []) (c, p) e in (ap (λ (z : Kept K). z.1) (sym s), ap (λ (z : Kept K). z.0) (sym s)), λ h i. Some (sym h.1 i, sym h.0 i))
  cheapest_is (x ∷ xs) p c = (λ e. to e (least_of_lem K (survivors K M (x ∷ xs)) M.modes), λ h. from h (least_of_lem K (survivors K M (x ∷ xs)) M.modes))
    where
      to : cheapest K M (x ∷ xs) ≡ Some (c, p) → Least K M.modes (survivors K M (x ∷ xs)) (cheapest K M (x ∷ xs)) → CheapestOf K M (x ∷ xs) p c
      to e (inl n) = absurd (none-some (c, p) (sym n.0 ∙ e))
      to e (inr a) = subst (λ (z : Kept K). CheapestOf K M (x ∷ xs) z.1 z.0) (same_Some a.what (c, p) (sym a.is ∙ e)) (found_of x xs a)

      from : CheapestOf K M (x ∷ xs) p c → Least K M.modes (survivors K M (x ∷ xs)) (cheapest K M (x ∷ xs)) → cheapest K M (x ∷ xs) ≡ Some (c, p)
      from h (inl n) =
          let k = (survivor_is (x ∷ xs) h.0 p c).1 h.1 in
          absurd (none-some (c, p) (sym (n.1 h.0 k.0) ∙ k.1))
      from h (inr a) =
          let u = unique_of (x ∷ xs) a.what.1 p a.what.0 c (found_of x xs a) h in
          a.is ∙ (λ i. Some (u.1 i, u.0 i))

  nil_begins : (d p : List ℕ) → length d ≤ 0 → Begins d p
  nil_begins d p l = (p, ap (λ z. z ++ p) (sym (nil_from_length d (omega arith))))

  ever : (xs ys : Log) (d p : List ℕ) (c : K.Cost) → Decided K M xs d → CheapestOf K M (xs ++ ys) p c → Begins d p
  ever [] ys d p c h k = nil_begins d p h.shared.within
  ever (x ∷ xs) ys d p c h k =
      let b = beginning x xs ys k.0 p c k.1 in
      begins_trans d b.1 p (h.shared.begins b.1 (b.0, b.2, b.3)) b.4

  pub final : Final K M
  final = record {
    now = λ xs d p c h k. ever xs [] d p c h (subst (λ z. CheapestOf K M z p c) (sym (append-nil xs)) k);
    ever = ever;
  }

  still_shared : (xs ys : Log) (d : List ℕ) → Shared (length xs) (Survivor K M xs) d → Shared (length (xs ++ ys)) (Survivor K M (xs ++ ys)) d
  still_shared [] ys d h = record { within = omega (arith, h.within); begins = λ p k. nil_begins d p h.within }
  still_shared (x ∷ xs) ys d h = record {
    within = omega (arith, h.within, length-append (x ∷ xs) ys);
    begins = λ p k. let b = beginning x xs ys k.0 p k.1 k.2 in begins_trans d b.1 p (h.begins b.1 (b.0, b.2, b.3)) b.4;
  }

  shown : (x : Reading) (xs : Log) (t : ℕ) → Reachable K M (x ∷ xs) t → Decided K M (x ∷ xs) (decided K M (x ∷ xs))
  shown x xs t h = go (meet_of K M.modes (survivors K M (x ∷ xs))) (met K (survivors K M (x ∷ xs)) M.modes)
    where
      go : (o : Option (List ℕ)) → Met K M.modes (survivors K M (x ∷ xs)) o → Decided K M (x ∷ xs) (or_empty o)
      go o (inl n) =
          let e = exists (x ∷ xs) t h in
          let k = (survivor_is (x ∷ xs) t e.0 e.1).1 e.2 in
          absurd (none-some (e.1, e.0) (sym (n.1 t k.0) ∙ k.1))
      go o (inr m) =
          let a = m.2 in
          let b = (survivor_is (x ∷ xs) a.place a.what.1 a.what.0).0 (a.inside, a.reads) in
          rw m.1 (record {
            shared = record {
              within = omega (arith, begins_fits m.0 a.what.1 (a.common a.place a.what a.inside a.reads), b.is_open.one_each);
              begins = λ p k. let s = (survivor_is (x ∷ xs) k.0 p k.1).1 k.2 in a.common k.0 (k.1, p) s.0 s.1;
            };
            longest = λ e k. a.longest e (λ u y l i. k.begins y.1 (u, y.0, (survivor_is (x ∷ xs) u y.1 y.0).0 (l, i)));
          })

  pub grows : Grows K M
  grows = record {
    one = λ xs d e h k. begins_all d e (k.longest d h.shared) (begins_fits e d (h.longest e k.shared));
    none = record { shared = record { within = omega arith; begins = λ p h. (p, refl) }; longest = λ e k. nil_begins e [] k.within };
    found = found;
    grows = λ xs ys d e h k. k.longest d (still_shared xs ys d h.shared);
  }
    where
      found : (xs : Log) (t : ℕ) → Reachable K M xs t → Decided K M xs (decided K M xs)
      found [] t h = absurd (not_empty h.0 t h.3 h.2.one_each)
      found (x ∷ xs) t h = shown x xs t h

  pub uniqueness : Unique K M
  uniqueness = record { to = unique K M; of = unique_of }

  pub existence : Exist K M
  existence = record { to = exists; of = exists_of }

  pub computed : Computed K M
  computed = record { to = survivor_is; of = cheapest_is }
