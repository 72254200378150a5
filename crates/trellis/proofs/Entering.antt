-- The best way into a mode is from its chosen predecessor.
use Rattle.std.proofs.Common.{◌≡◌, ℕ, zero, suc, ◌+◌, ◌*◌, ◌<◌, ◌≤◌, ◌⊎◌, List, [], ◌∷◌, ◌++◌, length, Some, None, Option, sym, refl, ap, ◌∙◌, subst, inl, inr, add-one, arith, option_and_then}
use Rattle.std.proofs.lemmas.Option.{none-some, same_Some}
use Rattle.cost.specs.Sums.{came}
use Rattle.cost.specs.declared.charge.Total.{Total}
use Rattle.cost.specs.Kind.{Kind, MOST, sum, carried_of, Charged}
use Rattle.cost.proofs.Arising.{added_append}
use Rattle.model.specs.Meaning.{Meaning}
use Rattle.viterbi.specs.Lists.{EndsIn}
use Rattle.viterbi.specs.Paths.{Reading, Log, later, charges, cost, extended, Reachable, CheapestTo, Chosen}
use Rattle.viterbi.specs.Algorithm.{chosen_of, better, least_of, totals}
use Rattle.viterbi.proofs.Steps.{sum_less, sum_defined}
use Rattle.viterbi.proofs.Algorithm.{Found, Least, least_of_lem, end_below}
use Rattle.viterbi.proofs.Growth.{exists, one_step}
use Rattle.viterbi.proofs.Totals.{suffice}
use Rattle.trellis.specs.declared.best.Best.{Best}
use Rattle.trellis.specs.Carried.{Room, Way, from, and, best, carried_way, HasRoom, WayHasRoom, Through, Better, Arrived}
use Rattle.trellis.specs.Rows.{total_at, Held, passage, Into, LeastBy, Stands, EntersBy, Stood, Ready, EndsAt}
use Rattle.trellis.proofs.Ways.{room_next}

-- a path has two charges for each reading
later_many : (M : Meaning) (s : ℕ) (xs : Log) (p : List ℕ) → length p ≡ length xs → length (later M s xs p) ≡ 2 * length xs
later_many M s [] p e = refl
later_many M s (x ∷ xs) [] e = absurd (omega arith)
later_many M s (x ∷ xs) (t ∷ p) e = omega (arith, later_many M t xs p (omega arith))

charges_many : (M : Meaning) (xs : Log) (p : List ℕ) → length p ≡ length xs → length (charges M xs p) ≡ 2 * length xs
charges_many M [] p e = refl
charges_many M (x ∷ xs) [] e = absurd (omega arith)
charges_many M (x ∷ xs) (t ∷ p) e = omega (arith, later_many M t xs p (omega arith))

module _ (K : Kind) where
  room_less : (n : ℕ) (c : K.Cost) → Room K (n + 1) c → Room K n c
  room_less n c m = record { charges = m.charges; few = omega (arith, m.few); comes = m.comes }

  -- the better of two ways is one of them
  better_room : (n : ℕ) (w v : Way K) → WayHasRoom K n w → WayHasRoom K n v → WayHasRoom K n (better K w v)
  better_room n None v hw hv = hv
  better_room n (Some x) None hw hv = hw
  better_room n (Some x) (Some y) hw hv = at (K.compare x.0 y.0)
    where
      at : (m : K.Less x.0 y.0 ⊎ (x.0 ≡ y.0) ⊎ K.Less y.0 x.0) → WayHasRoom K n (Some (chosen_of K x y m))
      at (inl h) = hw
      at (inr (inl h)) = hw
      at (inr (inr h)) = hv

  from_room : (n : ℕ) (o : Option K.Cost) (s : ℕ) → HasRoom K n o → WayHasRoom K n (from K o s)
  from_room n o s room c u e =
      let w = came o (λ c. Some (c, s)) (c, u) e in
      subst (Room K n) (ap (λ (y : K.Cost × ℕ). y.0) (same_Some {A = K.Cost × ℕ} (w.0, s) (c, u) w.2)) (room w.0 w.1)

  least_room : (k n : ℕ) (f : ℕ → Way K) → ((u : ℕ) → u < n → WayHasRoom K k (f u)) → WayHasRoom K k (least_of K n f)
  least_room k zero f h = λ c s e. absurd (none-some (c, s) e)
  least_room k (suc n) f h = better_room k (least_of K n f) (f n) (least_room k n f (λ u l. h u (omega arith))) (h n (omega arith))

  pub least_more : (P : ℕ → Option Total → Type 0) (s : ℕ) (b r : Option Best) (a : Option Total) → P s a → Better K b a s r → LeastBy K s P b → LeastBy K (s + 1) P r
  least_more P s b r a told picks inv o t =
      rw add-one (picks (least_of K s (λ u. from K (o u) u)) (o s) (least_room 0 s (λ u. from K (o u) u) (λ u m. from_room 0 (o u) u (t u (omega arith)).1)) (t s (omega arith)).1 (inv o (λ u m. t u (omega arith))) ((t s (omega arith)).0 a told))

  module _ (M : Meaning) (k : ℕ) (row : List (Option Total)) (t : ℕ) where
    ways_room : (o : ℕ → Option K.Cost) → Held K k 2 o row → (n : ℕ) → n ≤ k → WayHasRoom K 1 (least_of K n (passage K M o t))
    ways_room o held n l = least_room 1 n (passage K M o t) (λ u m. from_room 1 _ u (room_next K 1 (o u) (M.passage u t) (held u (omega arith)).1))

    pub least_into : (P : ℕ → Option Total → Type 0) (b : Option Best) → ((s : ℕ) (a : Option Total) → s < k → P s a → Through K (total_at row s) (M.passage s t) a) → LeastBy K k P b → Into K M k row t k b
    least_into P b through least o held = least (λ s. option_and_then (λ c. sum K c (M.passage s t ∷ [])) (o s)) (λ s l. let m = held s l in (λ a p. through s a l p (o s) (λ c i. room_less 1 c (m.1 c i)) m.0, λ c i. room_less 0 c (room_next K 1 (o s) (M.passage s t) m.1 c i)))

  -- a row that stands carries the totals of the modes
  module _ (M : Meaning) (x : Reading) (xs : Log) (row : List (Option Total)) (stands : Stands K M (x ∷ xs) row) (n : ℕ) (few : 2 * length (x ∷ xs) + n ≤ MOST) where
    room_of : (t : ℕ) (p : List ℕ) (c : K.Cost) → CheapestTo K M (x ∷ xs) t p c → Room K n c
    room_of t p c h = record {
      charges = charges M (x ∷ xs) p;
      few = omega (arith, few, charges_many M (x ∷ xs) p h.is_open.one_each);
      comes = h.is_open.costs;
    }

    pub held : Held K M.modes n (totals K M (x ∷ xs)) row
    held s l = at (totals K M (x ∷ xs) s) refl (total_at row s) refl
      where
        at : (o : Option K.Cost) → totals K M (x ∷ xs) s ≡ o → (a : Option Total) → total_at row s ≡ a → (total_at row s ≡ carried_of K (totals K M (x ∷ xs) s)) × HasRoom K n (totals K M (x ∷ xs) s)
        at None e None f = (f ∙ sym (ap (carried_of K) e), λ c i. absurd (none-some c (sym e ∙ i)))
        at None e (Some w) f =
            let h = exists K M (x ∷ xs) s (stands.only s w l f) in
            absurd (none-some h.1 (sym e ∙ (((suffice K M).stand (x ∷ xs) s h.1).1 (h.0, h.2)).1))
        at (Some c) e a f =
            let h = ((suffice K M).stand (x ∷ xs) s c).0 (l, e) in
            (stands.reached s h.0 c h.1 ∙ sym (ap (carried_of K) e), λ d i. subst (Room K n) (same_Some c d (sym e ∙ i)) (room_of s h.0 c h.1))

  module _ (M : Meaning) (x : Reading) (xs : Log) (row : List (Option Total)) (k : ℕ) (ready : Ready K M k x xs row) where
    abbrev costs : ℕ → Option K.Cost
    costs = totals K M (x ∷ xs)

    two_more : Held K k 2 costs row
    two_more = subst (λ k. Held K k 2 costs row) (sym ready.stood.fits) (held M x xs row ready.stood.stands 2 (omega (arith, ready.more)))

    module _ (r : Reading) (t : ℕ) (below : t < M.modes) where
      abbrev ways : ℕ → Way K
      ways = passage K M costs t

      -- an extended cost, in two steps
      halves : (c : K.Cost) (s : ℕ) → extended K M c s t r ≡ option_and_then (λ d. sum K d (M.reading t r ∷ [])) (sum K c (M.passage s t ∷ []))
      halves c s = added_append K.cost_of K.add c (M.passage s t ∷ []) (M.reading t r ∷ [])

      -- a path that goes on to t: its way, and the reading after it
      pub record Steps (s : ℕ) (f : K.Cost) : Type 0 where
        pub between : K.Cost
        pub way : ways s ≡ Some (between, s)
        pub reads : sum K between (M.reading t r ∷ []) ≡ Some f

      steps : (s : ℕ) (q : List ℕ) (e f : K.Cost) → CheapestTo K M (x ∷ xs) s q e → extended K M e s t r ≡ Some f → Steps s f
      steps s q e f h i =
          let w = came (sum K e (M.passage s t ∷ [])) (λ d. sum K d (M.reading t r ∷ [])) f (sym (halves e s) ∙ i) in
          let o = ((suffice K M).stand (x ∷ xs) s e).1 (q, h) in
          record { between = w.0; way = ap (λ o. from K (option_and_then (λ c. sum K c (M.passage s t ∷ [])) o) s) o.1 ∙ ap (λ o. from K o s) w.1; reads = w.2 }

      -- what a reachable mode comes from
      comes : Reachable K M (x ∷ xs ++ r ∷ []) t → (s : ℕ) × (f : K.Cost) × (s < M.modes) × Steps s f
      comes h =
          let e = exists K M (x ∷ xs ++ r ∷ []) t h in
          let o = (one_step K M x xs r t e.0 e.1).0 e.2 in
          let k = o.4.cheapest in
          (o.0, e.1, end_below K M (x ∷ xs) o.1 o.2 o.0 k.is_open k.ends, steps o.0 o.1 o.2 e.1 k o.4.makes)

      module _ (w : Way K) (a : Found K M.modes ways w) where
        abbrev s : ℕ
        s = a.place

        module _ (d : K.Cost) (reads : sum K a.what.0 (M.reading t r ∷ []) ≡ Some d) where
          enters : EntersBy K M (x ∷ xs) r t (Some (best (K.carried d) a.what.1))
          enters =
              let y = came (option_and_then (λ c. sum K c (M.passage s t ∷ [])) (costs s)) (λ c. Some (c, s)) a.what a.reads in
              let z = came (costs s) (λ c. sum K c (M.passage s t ∷ [])) y.0 y.1 in
              let is : (y.0, s) ≡ a.what = same_Some {A = K.Cost × ℕ} (y.0, s) a.what y.2 in
              let h = ((suffice K M).stand (x ∷ xs) s z.0).0 (a.inside, z.1) in
              let chosen : Chosen K M (x ∷ xs) r t s h.0 z.0 d = record {
                cheapest = h.1;
                below = below;
                makes = halves z.0 s ∙ ap (λ o. option_and_then (λ d. sum K d (M.reading t r ∷ [])) o) z.2 ∙ subst (λ z. sum K z (M.reading t r ∷ []) ≡ Some d) (sym (ap (λ (y : K.Cost × ℕ). y.0) is)) reads;
                least = λ u q e f k i.
                    let l = steps u q e f k i in
                    at u f l (a.least u (l.between, u) (end_below K M (x ∷ xs) q e u k.is_open k.ends) l.way);
              } in
              (h.0, z.0, d, subst (λ u. Chosen K M (x ∷ xs) r t u h.0 z.0 d) (ap (λ (y : K.Cost × ℕ). y.1) is) chosen, refl)
            where
              at : (u : ℕ) (f : K.Cost) (l : Steps u f) → K.Less a.what.0 l.between ⊎ ((a.what.0 ≡ l.between) × (s ≤ u)) → K.Less d f ⊎ ((d ≡ f) × (s ≤ u))
              at u f l (inl h) =
                  let e = sum_less K (M.reading t r ∷ []) a.what.0 l.between f h l.reads in
                  inl (subst (λ z. K.Less z f) (same_Some e.0 d (sym e.1 ∙ reads)) e.2)
              at u f l (inr h) = inr (same_Some d f (sym reads ∙ (ap (λ z. sum K z (M.reading t r ∷ [])) h.0 ∙ l.reads)), h.1)

        barred : sum K a.what.0 (M.reading t r ∷ []) ≡ None → Reachable K M (x ∷ xs ++ r ∷ []) t → ⊥
        barred e h =
            let k = comes h in
            let f = sum_defined K (M.reading t r ∷ []) a.what.0 k.3.between k.1 k.3.reads in
            none-some f.0 (sym e ∙ f.1)

        found : (o : Option K.Cost) → sum K a.what.0 (M.reading t r ∷ []) ≡ o → EntersBy K M (x ∷ xs) r t (carried_way K (from K o a.what.1))
        found None e = barred e
        found (Some d) e = enters d e

      none : ((u : ℕ) → u < M.modes → ways u ≡ None) → Reachable K M (x ∷ xs ++ r ∷ []) t → ⊥
      none n h = let k = comes h in none-some (k.3.between, k.0) (sym (n k.0 k.2) ∙ k.3.way)

      looked : (w : Way K) → Least K M.modes ways w → EntersBy K M (x ∷ xs) r t (carried_way K (and K w (M.reading t r)))
      looked w (inl n) = subst (λ w. EntersBy K M (x ∷ xs) r t (carried_way K (and K w (M.reading t r)))) (sym n.0) (none n.1)
      looked w (inr a) = subst (λ w. EntersBy K M (x ∷ xs) r t (carried_way K (and K w (M.reading t r)))) (sym a.is) (found w a _ refl)

      pub entered : (b c : Option Best) → Into K M k row t k b → Arrived K b (M.reading t r) c → EntersBy K M (x ∷ xs) r t c
      entered b c into arrives =
          let e : b ≡ carried_way K (least_of K M.modes ways) = subst (λ n. b ≡ carried_way K (least_of K n ways)) ready.stood.fits (into costs two_more) in
          let f = arrives (least_of K M.modes ways) (ways_room M k row t costs two_more M.modes (omega (arith, ready.stood.fits))) e in
          subst (EntersBy K M (x ∷ xs) r t) (sym f) (looked _ (least_of_lem K ways M.modes))

  module _ (M : Meaning) (x : Reading) (xs : Log) (row : List (Option Total)) (k : ℕ) (stood : Stood K M k x xs row) where
    abbrev ends : ℕ → Way K
    ends s = from K (totals K M (x ∷ xs) s) s

    -- a total as a way
    end_of : (s : ℕ) (q : List ℕ) (d : K.Cost) → CheapestTo K M (x ∷ xs) s q d → ends s ≡ Some (d, s)
    end_of s q d h = ap (λ o. from K o s) (((suffice K M).stand (x ∷ xs) s d).1 (q, h)).1

    end_at : (w : Way K) → Least K M.modes ends w → EndsAt K M (x ∷ xs) (carried_way K w)
    end_at w (inl n) = subst (λ w. EndsAt K M (x ∷ xs) (carried_way K w)) (sym n.0) (λ t h. let e = exists K M (x ∷ xs) t h in none-some (e.1, t) (sym (n.1 t (end_below K M (x ∷ xs) e.0 e.1 t e.2.is_open e.2.ends)) ∙ end_of t e.0 e.1 e.2))
    end_at w (inr a) =
        let y = came (totals K M (x ∷ xs) a.place) (λ c. Some (c, a.place)) a.what a.reads in
        let is : (y.0, a.place) ≡ a.what = same_Some {A = K.Cost × ℕ} (y.0, a.place) a.what y.2 in
        let h = ((suffice K M).stand (x ∷ xs) a.place y.0).0 (a.inside, y.1) in
        let c = ap (λ (y : K.Cost × ℕ). y.0) is in
        let g : CheapestTo K M (x ∷ xs) a.place h.0 a.what.0 = subst (CheapestTo K M (x ∷ xs) a.place h.0) c h.1 in
        subst (λ w. EndsAt K M (x ∷ xs) (carried_way K w)) (sym a.is) (
          h.0,
          a.what.0,
          (a.place, g, λ u q d k. a.least u (d, u) (end_below K M (x ∷ xs) q d u k.is_open k.ends) (end_of u q d k)),
          subst (EndsIn h.0) (ap (λ (y : K.Cost × ℕ). y.1) is) g.ends,
          refl,
        )

    pub ended : (P : ℕ → Option Total → Type 0) (r : Option Best) → ((s : ℕ) (a : Option Total) → s < k → P s a → a ≡ total_at row s) → LeastBy K k P r → EndsAt K M (x ∷ xs) r
    ended P r reads h =
        let has = subst (λ k. Held K k 0 (totals K M (x ∷ xs)) row) (sym stood.fits) (held M x xs row stood.stands 0 (omega (arith, stood.short))) in
        let k = subst (λ n. r ≡ carried_way K (least_of K n ends)) stood.fits (h (totals K M (x ∷ xs)) (λ s l. (λ a p. reads s a l p ∙ (has s l).0, (has s l).1))) in
        subst (EndsAt K M (x ∷ xs)) (sym k) (end_at _ (least_of_lem K ends M.modes))

  -- after the first reading
  pub begun : (M : Meaning) (r : Reading) (t : ℕ) (a b : Option Total) → Charged K (K.carried K.zero) (M.start t) a → Through K a (M.reading t r) b → b ≡ carried_of K (cost K M (r ∷ []) (t ∷ []))
  begun M r t a b first second =
      let room : HasRoom K 2 (Some K.zero) = λ c e. record { charges = []; few = omega arith; comes = e } in
      let e = first [] K.zero (omega arith) refl refl in
      let f = second (sum K K.zero (M.start t ∷ [])) (room_next K 1 (Some K.zero) (M.start t) room) e in
      f ∙ ap (carried_of K) (sym (added_append K.cost_of K.add K.zero (M.start t ∷ []) (M.reading t r ∷ [])))
