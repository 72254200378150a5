-- One more charge on a cost, and the better of two, as they are carried.
use Rattle.std.proofs.Common.{◌≡◌, ℕ, ◌+◌, true, false, ◌⊎◌, [], ◌∷◌, ◌++◌, Some, None, Option, sym, refl, ap, ◌∙◌, subst, inl, inr, arith, option_and_then}
use Rattle.cost.specs.declared.charge.Charge.{Charge}
use Rattle.cost.specs.declared.charge.Total.{Total}
use Rattle.cost.specs.Kind.{Kind, sum, Carries, carried_of, Charged, Compared}
use Rattle.std.proofs.lemmas.List.{length_push}
use Rattle.cost.specs.Sums.{came}
use Rattle.std.proofs.lemmas.Option.{none-some}
use Rattle.cost.proofs.Arising.{added_append, carried_from}
use Rattle.viterbi.specs.Algorithm.{chosen_of, better}
use Rattle.trellis.specs.declared.best.Best.{Best}
use Rattle.trellis.specs.Carried.{Room, Way, from, and, best, carried_way, HasRoom, Through, Better, Arrived}

module _ (K : Kind) where
  pub with_charge : (t : Total) (h : Charge) (r : Option Total) (c : K.Cost) → Charged K t h r → Room K 1 c → t ≡ K.carried c → r ≡ carried_of K (sum K c (h ∷ []))
  with_charge t h r c charged m e = charged m.charges c (omega (arith, m.few)) m.comes e

  -- a cost with one more charge has room for one less
  pub room_next : (n : ℕ) (o : Option K.Cost) (h : Charge) → HasRoom K (n + 1) o → HasRoom K n (option_and_then (λ c. sum K c (h ∷ [])) o)
  room_next n o h room d e =
      let w = came o (λ c. sum K c (h ∷ [])) d e in
      let m = room w.0 w.1 in
      record {
        charges = m.charges ++ h ∷ [];
        few = omega (arith, m.few, length_push m.charges h);
        comes = added_append K.cost_of K.add K.zero m.charges (h ∷ []) ∙ ap (λ o. option_and_then (λ c. sum K c (h ∷ [])) o) m.comes ∙ w.2;
      }

  pub through : (t : Total) (h : Charge) (r a : Option Total) → a ≡ Some t → Charged K t h r → Through K a h r
  through t h r a is charged o room e =
      let y = carried_from K o t (sym is ∙ e) in
      with_charge t h r y.0 charged (room y.0 y.1) y.2 ∙ sym (ap (λ o. carried_of K (option_and_then (λ c. sum K c (h ∷ [])) o)) y.1)

  pub through_none : (h : Charge) → Through K None h None
  through_none h None room e = refl
  through_none h (Some c) room e = absurd (none-some (K.carried c) e)

  -- a way that is carried
  pub way_from : (w : Way K) (b : Best) → Some b ≡ carried_way K w → (c : K.Cost) × (w ≡ Some (c, b.from)) × (b.total ≡ K.carried c)
  way_from None b e = let z : ◌≡◌ {A = ℕ} 0 1 = cc in absurd (omega arith)
  way_from (Some y) b e =
      let same : b ≡ best (K.carried y.0) y.1 = cc in
      (y.0, ap (λ s. Some (y.0, s)) (sym (ap (λ (b : Best). b.from) same)), ap (λ (b : Best). b.total) same)

  -- what a carried cost is as a way from s
  carried_way_lem : (o : Option K.Cost) (s : ℕ) → option_and_then (λ t. Some (best t s)) (carried_of K o) ≡ carried_way K (from K o s)
  carried_way_lem None s = refl
  carried_way_lem (Some c) s = refl

  pub arrived : (b : Best) (h : Charge) (t : Option Total) (a : Option Best) → a ≡ Some b → Charged K b.total h t → Arrived K a h (option_and_then (λ x. Some (best x b.from)) t)
  arrived b h t a is charged w room e =
      let y = way_from w b (sym is ∙ e) in
      ap (λ o. option_and_then (λ x. Some (best x b.from)) o) (with_charge b.total h t y.0 charged (room y.0 b.from y.1) y.2)
      ∙ carried_way_lem (sum K y.0 (h ∷ [])) b.from
      ∙ sym (ap (λ w. carried_way K (and K w h)) y.1)

  carries : (t : Total) (c : K.Cost) → Room K 0 c → t ≡ K.carried c → Carries K t c
  carries t c m e = record { arises = record { charges = m.charges; few = omega (arith, m.few); comes = m.comes }; same = e }

  module _ (b : Best) (t : Total) (s : ℕ) (old : Option Best) (next : Option Total) (is_b : old ≡ Some b) (is_n : next ≡ Some t) where
    -- both costs, and how the two compare
    both : (r : Best) → ((c d : K.Cost) → Carries K b.total c → Carries K t d → r ≡ best (K.carried (chosen_of K (c, b.from) (d, s) (K.compare c d)).0) (chosen_of K (c, b.from) (d, s) (K.compare c d)).1) → Better K old next s (Some r)
    both r picks w o wr or eb en =
        let x = way_from w b (sym is_b ∙ eb) in
        let y = carried_from K o t (sym is_n ∙ en) in
        ap Some (picks x.0 y.0 (carries b.total x.0 (wr x.0 b.from x.1) x.2) (carries t y.0 (or y.0 y.1) y.2))
        ∙ sym (ap (λ w. carried_way K (better K w (Some (y.0, s)))) x.1)
        ∙ sym (ap (λ o. carried_way K (better K w (from K o s))) y.1)

    less_not : (c d : K.Cost) → K.Less d c → K.Less c d → ⊥
    less_not c d h k = K.irreflexive c (K.transitive c d c k h)

    pub won : Compared K t b.total true → Better K old next s (Some (best t s))
    won less = both _ (λ c d x y. at c d y (K.compare c d) (less d c y x))
      where
        at : (c d : K.Cost) → Carries K t d → (m : K.Less c d ⊎ (c ≡ d) ⊎ K.Less d c) → K.Less d c → best t s ≡ best (K.carried (chosen_of K (c, b.from) (d, s) m).0) (chosen_of K (c, b.from) (d, s) m).1
        at c d y (inl k) h = absurd (less_not c d h k)
        at c d y (inr (inl k)) h = absurd (K.irreflexive c (subst (λ z. K.Less z c) (sym k) h))
        at c d y (inr (inr k)) h = λ i. best (y.same i) s

    pub kept : Compared K t b.total false → Better K old next s (Some b)
    kept less = both b (λ c d x y. at c d x (K.compare c d) (less d c y x))
      where
        at : (c d : K.Cost) → Carries K b.total c → (m : K.Less c d ⊎ (c ≡ d) ⊎ K.Less d c) → (K.Less d c → ⊥) → b ≡ best (K.carried (chosen_of K (c, b.from) (d, s) m).0) (chosen_of K (c, b.from) (d, s) m).1
        at c d x (inl k) h = λ i. best (x.same i) b.from
        at c d x (inr (inl k)) h = λ i. best (x.same i) b.from
        at c d x (inr (inr k)) h = absurd (h k)
