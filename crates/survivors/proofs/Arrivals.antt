-- The tree after a cell is attached.
use Rattle.std.proofs.Common.{◌≡◌, ℕ, ◌+◌, ◌<◌, Bool, false, cond, ltb, ◌≢◌, List, [], ◌∷◌, ◌++◌, length, get_or, sym, refl, ap, ◌∙◌, subst, ⊎_elim, arith}
use Rattle.std.proofs.lemmas.Bool.{cases_eq, lt-ltb, le-ltb, ltb-true, ltb-false}
use Rattle.std.proofs.lemmas.List.{get_or_append_left, get_or_push, length_push}
use Rattle.survivors.specs.Sums.{tally}
use Rattle.survivors.specs.Cells.{Links, Shape, Stack, at, in_use, one, owner, share, under}
use Rattle.survivors.specs.declared.tree.Cell.{Cell}
use Rattle.survivors.proofs.Tallies.{tally_change}
use Rattle.survivors.proofs.Shares.{share_same, share_none, share_mine, share_not, owner_parent, owner_used}

-- the cell i joins the tree
pub record Joined (cs cs' : List Cell) (i : ℕ) : Type 0 where
  pub here : i < 1024
  pub was : (at cs i).refs ≡ 0
  pub now : (at cs' i).refs ≡ 1
  pub uses : (x : ℕ) → x < 1024 → x ≢ i → ltb 0 (at cs' x).refs ≡ ltb 0 (at cs x).refs
  pub layer : (x : ℕ) → x < 1024 → x ≢ i → (at cs' x).layer ≡ (at cs x).layer
  pub parent : (x : ℕ) → x < 1024 → x ≢ i → (at cs' x).parent ≡ (at cs x).parent
  pub mode : (x : ℕ) → x < 1024 → x ≢ i → (at cs' x).mode ≡ (at cs x).mode

module _ (cs cs' : List Cell) (i : ℕ) (g : Joined cs cs' i) where
  now_used : 0 < (at cs' i).refs
  now_used = omega (arith, g.now)

  pub join_used : (x : ℕ) → x < 1024 → x ≢ i → 0 < (at cs' x).refs → 0 < (at cs x).refs
  join_used x l ne u = ltb-true 0 (at cs x).refs (sym (g.uses x l ne) ∙ lt-ltb 0 (at cs' x).refs u)

  pub join_uses : (x : ℕ) → x < 1024 → x ≢ i → 0 < (at cs x).refs → 0 < (at cs' x).refs
  join_uses x l ne u = ltb-true 0 (at cs' x).refs (g.uses x l ne ∙ lt-ltb 0 (at cs x).refs u)

  shares : (w : ℕ → ℕ) (base o : ℕ) → (x : ℕ) → x < 1024 → x ≢ i → share w cs base o x ≡ share w cs' base o x
  shares w base o x l ne = share_same w cs cs' base o x (g.layer x l ne) (g.parent x l ne) (g.uses x l ne)

  pub join_owner : (w : ℕ → ℕ) (base : ℕ) → under w cs' base (owner cs' base i) ≡ under w cs base (owner cs' base i) + w i
  join_owner w base =
      let o = owner cs' base i in
      let t = tally_change (share w cs base o) (share w cs' base o) i 1024 g.here (shares w base o) in
      let a = share_mine w cs' base o i now_used refl in
      let b = share_none w cs base o i g.was in
      omega arith

  pub join_other : (w : ℕ → ℕ) (base o : ℕ) → owner cs' base i ≢ o → under w cs' base o ≡ under w cs base o
  join_other w base o ne =
      let t = tally_change (share w cs base o) (share w cs' base o) i 1024 g.here (shares w base o) in
      let a = share_not w cs' base o i ne in
      let b = share_none w cs base o i g.was in
      omega arith

  use_more : in_use cs' ≡ in_use cs + 1
  use_more =
      let f : ℕ → ℕ = λ x. cond (ltb 0 (at cs x).refs) 1 0 in
      let f' : ℕ → ℕ = λ x. cond (ltb 0 (at cs' x).refs) 1 0 in
      let t : tally f' 1024 + f i ≡ tally f 1024 + f' i = tally_change f f' i 1024 g.here (λ x l ne. ap (λ (b : Bool). cond b 1 0) (sym (g.uses x l ne))) in
      let a : f i ≡ 0 = rw g.was refl in
      let b : f' i ≡ 1 = rw g.now refl in
      omega arith

  pub stack_less : (free : List ℕ) → Stack cs (free ++ i ∷ []) → Stack cs' free
  stack_less free s =
      let n = length_push free i in
      let last = get_or_push free i 0 (length free) refl in
      let rest : (k : ℕ) → k < length free → get_or (free ++ i ∷ []) k 0 ≡ get_or free k 0 = get_or_append_left free (i ∷ []) 0 in
      let low : (k : ℕ) → k < length free → get_or free k 0 < 1024 = λ k l. subst (λ (y : ℕ). y < 1024) (rest k l) (s.below k (omega (arith, n))) in
      record {
        live = omega (arith, s.live, n, use_more);
        below = low;
        empty = λ k l.
            let ne : get_or free k 0 ≢ i = λ q. s.apart k (length free) l (omega (arith, n)) (rest k l ∙ q ∙ sym last) in
            let z : (at cs (get_or free k 0)).refs ≡ 0 = subst (λ (y : ℕ). (at cs y).refs ≡ 0) (rest k l) (s.empty k (omega (arith, n))) in
            let b : ltb 0 (at cs' (get_or free k 0)).refs ≡ false = g.uses (get_or free k 0) (low k l) ne ∙ le-ltb 0 (at cs (get_or free k 0)).refs (omega (arith, z)) in
            omega (arith, ltb-false 0 (at cs' (get_or free k 0)).refs b);
        apart = λ j k l m q. s.apart j k l (omega (arith, n)) (rest j (omega arith) ∙ q ∙ sym (rest k m));
      }

  module _ {free : List ℕ} {base top width first : ℕ} {h : ℕ → ℕ} (t : Links cs free base top width first h) where
    off : (p : ℕ) → 0 < (at cs p).refs → p ≢ i
    off p u q = let z : (at cs p).refs ≡ 0 = rw q g.was in omega arith

    parent_used : (x : ℕ) → x < 1024 → 0 < (at cs x).refs → base < (at cs x).layer → 0 < (at cs (at cs x).parent).refs
    parent_used x l u d =
        let e : owner cs base x ≡ (at cs x).parent = owner_parent cs base x (λ q. omega arith) in
        let k : 0 < under one cs base (at cs x).parent = rw e at (owner_used cs base x l u) in
        omega (arith, t.count (at cs x).parent (t.shape.up x l u d))

    pub join_shape : (at cs' i).layer ≡ top
        → (at cs' i).mode < 32
        → (base < top → (at cs' i).parent < 1024)
        → (base < top → 0 < (at cs (at cs' i).parent).refs)
        → (base < top → (at cs (at cs' i).parent).layer + 1 ≡ top)
        → ((x : ℕ) → x < 1024 → 0 < (at cs x).refs → (at cs x).layer ≡ top → (at cs x).mode ≢ (at cs' i).mode)
        → Shape cs' base top
    join_shape lay tiny pb pu pl fresh =
        record {
          span = t.shape.span;
          low = λ x l u. ⊎_elim
              (λ (e : x ≡ i). rw (e, lay) t.shape.span)
              (λ ne. rw (g.layer x l ne) (t.shape.low x l (join_used x l ne u)))
              (cases_eq x i);
          high = λ x l u. ⊎_elim
              (λ (e : x ≡ i). rw (e, lay) (omega arith))
              (λ ne. rw (g.layer x l ne) (t.shape.high x l (join_used x l ne u)))
              (cases_eq x i);
          up = λ x l u b. ⊎_elim
              (λ (e : x ≡ i). let b' : base < top = rw (e, lay) at b in rw e (pb b'))
              (λ ne. let b' : base < (at cs x).layer = rw (g.layer x l ne) at b in rw (g.parent x l ne) (t.shape.up x l (join_used x l ne u) b'))
              (cases_eq x i);
          step = λ x l u b. ⊎_elim
              (λ (e : x ≡ i).
              let b' : base < top = rw (e, lay) at b in
              rw (e, lay, g.layer (at cs' i).parent (pb b') (off (at cs' i).parent (pu b'))) (pl b'))
              (λ ne.
              let b' : base < (at cs x).layer = rw (g.layer x l ne) at b in
              let u' = join_used x l ne u in
              rw (g.parent x l ne, g.layer x l ne, g.layer (at cs x).parent (t.shape.up x l u' b') (off (at cs x).parent (parent_used x l u' b'))) (t.shape.step x l u' b'))
              (cases_eq x i);
          small = λ x l u. ⊎_elim
              (λ (e : x ≡ i). rw e tiny)
              (λ ne. rw (g.mode x l ne) (t.shape.small x l (join_used x l ne u)))
              (cases_eq x i);
          lone = λ x y l m u v e f. ⊎_elim
              (λ (q : x ≡ i). ⊎_elim
              (λ (r : y ≡ i). q ∙ sym r)
              (λ ny. absurd (fresh y m (join_used y m ny v) (sym (g.layer y m ny) ∙ sym e ∙ ap (λ (z : ℕ). (at cs' z).layer) q ∙ lay) (sym (g.mode y m ny) ∙ sym f ∙ ap (λ (z : ℕ). (at cs' z).mode) q)))
              (cases_eq y i))
              (λ nx. ⊎_elim
              (λ (r : y ≡ i). absurd (fresh x l (join_used x l nx u) (sym (g.layer x l nx) ∙ e ∙ ap (λ (z : ℕ). (at cs' z).layer) r ∙ lay) (sym (g.mode x l nx) ∙ f ∙ ap (λ (z : ℕ). (at cs' z).mode) r)))
              (λ ny. t.shape.lone x y l m (join_used x l nx u) (join_used y m ny v) (sym (g.layer x l nx) ∙ e ∙ g.layer y m ny) (sym (g.mode x l nx) ∙ f ∙ g.mode y m ny))
              (cases_eq y i))
              (cases_eq x i);
        }
