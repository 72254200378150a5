-- How the decoder comes to stand after one more reading.
use Rattle.std.proofs.Common.{◌≡◌, ℕ, ◌-◌, ◌<◌, ◌≤◌, ◌↔◌, List, [], ◌∷◌, ◌++◌, length, get_or, take, Some, None, Option, sym, refl, ap, ◌∙◌, subst, ⊎_elim, arith}
use Rattle.std.proofs.lemmas.Bool.{cases_lt}
use Rattle.std.proofs.lemmas.List.{append_assoc, length-append, length_push, length-take, get_or-append_right, get_or-take, get_or_past, nil_from_length, same_from_push}
use Rattle.std.proofs.lemmas.Option.{none-some, same_Some}
use Rattle.cost.specs.Sums.{came}
use Rattle.cost.specs.declared.charge.Total.{Total}
use Rattle.cost.specs.Kind.{Kind}
use Rattle.model.specs.Meaning.{Meaning}
use Rattle.viterbi.specs.Lists.{Counted}
use Rattle.viterbi.specs.Paths.{Reading, Log, cost, Reachable, CheapestTo, Survivor, Decided, LiveCell, Live}
use Rattle.viterbi.specs.Algorithm.{Kept}
use Rattle.viterbi.proofs.Algorithm.{end_below}
use Rattle.viterbi.proofs.Growth.{exists, one_step, survivor_is, grows}
use Rattle.trellis.specs.declared.best.Best.{Best}
use Rattle.trellis.specs.Size.{READINGS}
use Rattle.trellis.specs.Rows.{First, Next, EndsAt}
use Rattle.trellis.specs.State.{modes, present}
use Rattle.survivors.specs.declared.Survivors.{Survivors}
use Rattle.survivors.specs.Survivors.{HasTip, OnPath, PathOf, Grown, Settled, Finished, path_to, taken}
use Rattle.survivors.specs.Survivors as tree
use Rattle.survivors.specs.Ring.{Written}
use Rattle.survivors.proofs.Laws.{decided_taken, path_to_length, some_tip}
use Rattle.decoder.specs.declared.Decoder.{Decoder}
use Rattle.decoder.specs.Decoder.{InRing, Totalled, Fresh, Stands, Ended}
use Rattle.decoder.proofs.Longest.{longest_behind}
use Rattle.decoder.proofs.Places.{ring_more}

-- an element of the first n
pub in_taken : {A : Type 0} (l : List (Option A)) (n u : ℕ) (s : A) → get_or (take n l) u None ≡ Some s → (u < n) × (get_or l u None ≡ Some s)
in_taken l n u s e = ⊎_elim (λ (h : u < n). (h, sym (get_or-take n l u None h) ∙ e)) (λ (h : n ≤ u). absurd (none-some s (sym (get_or_past (take n l) u None (omega (arith, length-take n l))) ∙ e))) (cases_lt u n)

module _ (K : Kind) (M : Meaning) where
  -- the cells of the tips' paths are the live ones
  module _ (xs : Log) (t : Survivors) (d : List ℕ) (many : taken t ≡ length xs) (settled : tree.decided t ≡ length d) (is : Decided K M xs d) (tips : tree.decided t < taken t → (u : ℕ) → HasTip t u ↔ Reachable K M xs u) (rest : (u : ℕ) (p : List ℕ) (c : K.Cost) → CheapestTo K M xs u p c → p ≡ d ++ path_to t u) where
    reads : (u : ℕ) (p : List ℕ) (c : K.Cost) → CheapestTo K M xs u p c → (i : ℕ) → tree.decided t ≤ i → get_or p i 0 ≡ get_or (path_to t u) (i - tree.decided t) 0
    reads u p c h i l = ap (λ z. get_or z i 0) (rest u p c h) ∙ get_or-append_right d (path_to t u) (tree.decided t) i 0 (sym settled) l

    lies_on_path : (i s : ℕ) → LiveCell K M xs i s → OnPath t i s
    lies_on_path i s a =
        let k = a.cell.survivor in
        let l : tree.decided t ≤ i = omega (arith, settled, a.undecided, ap length ((grows K M).one xs a.decided d a.is_decided is)) in
        let m : i < taken t = omega (arith, many, a.cell.inside) in
        record {
          to = k.0;
          tip = (tips (omega arith) k.0).1 (a.cell.path, k.1, k.2.is_open, k.2.ends);
          undecided = l;
          inside = m;
          lies = sym (reads k.0 a.cell.path k.1 k.2 i l) ∙ a.cell.lies;
        }

    is_live : (i s : ℕ) → OnPath t i s → LiveCell K M xs i s
    is_live i s o =
        let k = exists K M xs o.to ((tips (omega (arith, o.undecided, o.inside)) o.to).0 o.tip) in
        record {
          decided = d;
          is_decided = is;
          undecided = omega (arith, settled, o.undecided);
          cell = record { path = k.0; survivor = (o.to, k.1, k.2); inside = omega (arith, many, o.inside); lies = reads o.to k.0 k.1 k.2 i o.undecided ∙ o.lies };
        }

    pub live_of : (n : ℕ) → Counted (OnPath t) n → Live K M xs n
    live_of n c = record { pairs = c.pairs; many = c.many; once = c.once; all = λ i s h. c.all i s (lies_on_path i s h); only = λ i s h. is_live i s (c.only i s h) }

  -- where the cheapest paths after one more reading r go on from
  pub record GoesOn (xs : Log) (r : Reading) (t : Survivors) (d : List ℕ) (preds : List (Option ℕ)) : Type 0 where
    pub from : (u : ℕ) (q : List ℕ) (c : K.Cost) → CheapestTo K M (xs ++ r ∷ []) u q c → (s : ℕ) × (get_or preds u None ≡ Some s) × (q ≡ (d ++ path_to t s) ++ u ∷ [])
    pub reaches : (u s : ℕ) → get_or preds u None ≡ Some s → Reachable K M (xs ++ r ∷ []) u

  pub first_goes : (r : Reading) (e : Decoder) (row : List (Option _)) (from : List (Option ℕ)) (any : _) (s : Stands K M [] e) → First K M r row from any → GoesOn [] r e.tree s.decided (take M.modes from)
  first_goes r e row from any s f = record {
    from = λ u q c h.
        let l = end_below K M (r ∷ []) q c u h.is_open h.ends in
        (u, get_or-take M.modes from u None l ∙ (f.chosen u u l).1 (refl, (q, c, h.is_open, h.ends)), only u q c h ∙ ap (λ z. z ++ u ∷ []) (sym (nothing u)));
    reaches = λ u p k. let i = in_taken from M.modes u p k in ((f.chosen u p i.0).0 i.1).1;
  }
    where
      nothing : (u : ℕ) → s.decided ++ path_to e.tree u ≡ []
      nothing u = nil_from_length _ (omega (arith, length-append s.decided (path_to e.tree u), path_to_length e.tree u, s.many, s.settled))

      only : (u : ℕ) (q : List ℕ) (c : K.Cost) → CheapestTo K M (r ∷ []) u q c → q ≡ u ∷ []
      only u q c h =
          let k = (survivor_is K M (r ∷ []) u q c).1 h in
          let w = came (cost K M (r ∷ []) (u ∷ [])) (λ d. Some (d, u ∷ [])) (c, q) k.1 in
          ap (λ (y : Kept K). y.1) (sym (same_Some {A = Kept K} (w.0, u ∷ []) (c, q) w.2))

  pub next_goes : (x : Reading) (xs : Log) (r : Reading) (e : Decoder) (row : List (Option _)) (from : List (Option ℕ)) (any : _) (s : Stands K M (x ∷ xs) e) → Next K M (x ∷ xs) r row from any → GoesOn (x ∷ xs) r e.tree s.decided (take M.modes from)
  next_goes x xs r e row from any s f = record {
    from = λ u q c h.
        let l = end_below K M (x ∷ xs ++ r ∷ []) q c u h.is_open h.ends in
        let o = (one_step K M x xs r u q c).0 h in
        (o.0, get_or-take M.modes from u None l ∙ (f.chosen u o.0 l).1 (o.1, o.2, c, o.4), o.3 ∙ ap (λ z. z ++ u ∷ []) (s.rest o.0 o.1 o.2 o.4.cheapest));
    reaches = λ u p k.
        let i = in_taken from M.modes u p k in
        let h = (f.chosen u p i.0).0 i.1 in
        let g = (one_step K M x xs r u (h.0 ++ u ∷ []) h.2).1 (p, h.0, h.1, refl, h.3) in
        (h.0 ++ u ∷ [], h.2, g.is_open, g.ends);
  }

  -- after grow and settle
  module _ (xs : Log) (r : Reading) (e : Decoder) (s : Stands K M xs e) (preds : List (Option ℕ)) (goes : GoesOn xs r e.tree s.decided preds) (t : Survivors) (g : Grown e.tree preds t) where
    abbrev d : List ℕ
    d = s.decided

    long : Log
    long = xs ++ r ∷ []

    has_tip : (u : ℕ) → Reachable K M long u → HasTip t u
    unfolding long
    has_tip u h =
        let k = exists K M long u h in
        let f = goes.from u k.0 k.1 k.2 in
        g.tips u f.0 f.1

    reach_of : (u : ℕ) → HasTip t u → Reachable K M long u
    unfolding long
    reach_of u h = at (get_or preds u None) refl
      where
        at : (o : Option ℕ) → get_or preds u None ≡ o → Reachable K M (xs ++ r ∷ []) u
        at None i = absurd (g.no_tip u i h)
        at (Some p) i = goes.reaches u p i

    grown_path : (u : ℕ) (q : List ℕ) (c : K.Cost) → CheapestTo K M long u q c → q ≡ d ++ path_to t u
    unfolding long
    grown_path u q c h =
        let f = goes.from u q c h in
        f.2 ∙ append_assoc d (path_to e.tree f.0) (u ∷ []) ∙ ap (λ z. d ++ z) (sym (g.paths u f.0 f.1))

    module _ (e' : Decoder) (w : Settled t e.ring e'.tree e'.ring) (short : length xs < READINGS) (few : modes e'.rows ≡ M.modes) (totals : Totalled K M (xs ++ r ∷ []) (present e'.rows)) (some : (t : ℕ) × Reachable K M (xs ++ r ∷ []) t) where
      many_now : taken t ≡ length (xs ++ r ∷ [])
      many_now = omega (arith, g.one_more, s.many, length_push xs r)

      settled_now : tree.decided e'.tree ≡ length (d ++ w.out)
      settled_now = omega (arith, w.more_decided, g.none_decided, s.settled, length-append d w.out)

      decided_now : Decided K M (xs ++ r ∷ []) (d ++ w.out)
      unfolding long
      decided_now =
          let u = some_tip t (omega (arith, decided_taken e.tree, g.one_more, g.none_decided)) in
          longest_behind (PathOf t) (Survivor K M long) d
          (λ p k. (path_to t k.0, (k.0, has_tip k.0 (p, k.1, k.2.is_open, k.2.ends), refl), grown_path k.0 p k.1 k.2))
          (λ q k. let h = exists K M long k.0 (reach_of k.0 k.1) in subst (Survivor K M long) (grown_path k.0 h.0 h.1 h.2 ∙ ap (λ z. d ++ z) (sym k.2)) (k.0, h.1, h.2))
          (taken t - tree.decided t)
          (length long)
          (omega (arith, many_now, decided_taken t, g.none_decided, s.settled))
          w.out
          (path_to t u.0)
          (u.0, u.1, refl)
          w.longest

      tips_now : tree.decided e'.tree < taken e'.tree → (u : ℕ) → HasTip e'.tree u ↔ Reachable K M (xs ++ r ∷ []) u
      unfolding long
      tips_now l u = (λ h. reach_of u (w.no_tip u h).0, λ h. w.tips u (has_tip u h) l)

      rest_now : (u : ℕ) (q : List ℕ) (c : K.Cost) → CheapestTo K M (xs ++ r ∷ []) u q c → q ≡ (d ++ w.out) ++ path_to e'.tree u
      unfolding long
      rest_now u q c h =
          grown_path u q c h
          ∙ ap (λ z. d ++ z) (w.paths u (has_tip u (q, c, h.is_open, h.ends)))
          ∙ sym (append_assoc d w.out (path_to e'.tree u))

      pub stepped : Stands K M (xs ++ r ∷ []) e'
      stepped = record {
        modes = few;
        many = w.none_taken ∙ many_now;
        short = omega (arith, length_push xs r);
        some = λ _. some;
        totals = totals;
        decided = d ++ w.out;
        is_decided = decided_now;
        settled = settled_now;
        ready = ring_more e.ring e'.ring d w.out s.ready (subst (λ n. Written e.ring n w.out e'.ring) (g.none_decided ∙ s.settled) w.written);
        tips = tips_now;
        rest = rest_now;
        live = live_of (xs ++ r ∷ []) e'.tree (d ++ w.out) (w.none_taken ∙ many_now) settled_now decided_now tips_now rest_now;
      }

  -- before the first reading
  pub fresh_stands : (e : Decoder) → Fresh M.modes e → Stands K M [] e
  fresh_stands e f = record {
    modes = f.modes;
    many = f.tree.none_taken;
    short = omega arith;
    some = λ h. absurd (omega arith);
    totals = tt;
    decided = [];
    is_decided = (grows K M).none;
    settled = f.tree.none_decided;
    ready = λ i l. absurd (omega arith);
    tips = none_tips;
    rest = none_rest;
    live = live_of [] e.tree [] f.tree.none_taken f.tree.none_decided (grows K M).none none_tips none_rest;
  }
    where
      none_tips : tree.decided e.tree < taken e.tree → (u : ℕ) → HasTip e.tree u ↔ Reachable K M [] u
      none_tips l = absurd (omega (arith, f.tree.none_taken))

      none_rest : (u : ℕ) (p : List ℕ) (c : K.Cost) → CheapestTo K M [] u p c → p ≡ [] ++ path_to e.tree u
      none_rest u p c h = absurd (omega (arith, h.is_open.one_each, ap length h.ends.1, length_push h.ends.0 u))

  -- an empty log has ended
  pub empty_ended : (xs : Log) (e : Decoder) (w : Total) → Stands K M xs e → taken e.tree ≡ 0 → w ≡ K.carried K.zero → Ended K M xs w e
  empty_ended [] e w s z is = record {
    path = [];
    cost = K.zero;
    cheapest = (refl, refl);
    total = is;
    many = z;
    settled = omega (arith, decided_taken e.tree);
    ready = λ i l. absurd (omega arith);
    none_live = record { pairs = []; many = refl; once = tt; all = λ i m o. absurd (omega (arith, o.inside)); only = λ i m h. absurd h };
  }
  empty_ended (x ∷ xs) e w s z is = absurd (omega (arith, s.many))

  -- the whole of the cheapest path is settled
  pub path_ended : (x : Reading) (xs : Log) (d e : Decoder) (b : Best) (s : Stands K M (x ∷ xs) d) → EndsAt K M (x ∷ xs) (Some b) → Finished d.tree b.from d.ring e.tree e.ring → Ended K M (x ∷ xs) b.total e
  path_ended x xs d e b s end f =
      let t = end.2.0 in
      let h = end.2.1 in
      let is : t ≡ b.from = (same_from_push h.ends.0 end.3.0 t b.from (sym h.ends.1 ∙ end.3.1)).1 in
      let p : end.0 ≡ s.decided ++ path_to d.tree b.from = subst (λ u. end.0 ≡ s.decided ++ path_to d.tree u) is (s.rest t end.0 end.1 h) in
      record {
        path = end.0;
        cost = end.1;
        cheapest = end.2;
        total = end.4;
        many = f.none_taken ∙ s.many;
        settled = f.all_decided ∙ s.many;
        ready = subst (λ p. InRing p e.ring) (sym p) (ring_more d.ring e.ring s.decided (path_to d.tree b.from) s.ready (subst (λ n. Written d.ring n (path_to d.tree b.from) e.ring) s.settled f.written));
        none_live = f.no_live;
      }
