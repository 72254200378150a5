-- The tree after a reference to a cell is given back.
use Rattle.std.proofs.Common.{◌≡◌, ℕ, ◌+◌, ◌-◌, ◌<◌, ◌≤◌, Bool, cond, ltb, ◌≢◌, List, [], ◌∷◌, ◌++◌, length, get_or, sym, refl, ap, ◌∙◌, subst, ⊎_elim, arith}
use Rattle.std.proofs.lemmas.Bool.{cases_eq, lt-ltb}
use Rattle.std.proofs.lemmas.List.{length-set}
use Rattle.survivors.specs.Cells.{Kept, Links, Same, at, in_use, one, owner, place, plus, recount, share, under}
use Rattle.survivors.specs.declared.tree.Cell.{Cell}
use Rattle.survivors.proofs.Tallies.{tally_same, tally_ge}
use Rattle.survivors.proofs.Shares.{recount_other, recount_refs, recount_heirs, recount_same, same_same, shape_kept, share_same, owner_oldest, owner_parent, plus_here, plus_other}
use Rattle.survivors.proofs.Freed.{Gone, gone_kept, under_owner, under_other, stack_more}

-- the cell c with one reference less
abbrev pub lowered : List Cell → ℕ → List Cell
lowered cs c = recount cs c ((at cs c).refs - 1) (at cs c).heirs

module _ {cs : List Cell} {free : List ℕ} {base top width first : ℕ} (h : ℕ → ℕ) (c : ℕ) (l : c < 1024) (t : Links cs free base top width first (plus h c)) where
  fits : c < length cs
  fits = omega (arith, t.size)

  -- c has a reference to give back
  pub some : 0 < (at cs c).refs
  some = omega (arith, t.count c l, plus_here h c)

  pub room_left : length free < 1024
  room_left =
      let f : ℕ → ℕ = λ x. cond (ltb 0 (at cs x).refs) 1 0 in
      let a : f c ≡ 1 = rw (lt-ltb 0 (at cs c).refs some) refl in
      omega (arith, t.stack.live, tally_ge f c 1024 l)

  low_same : Same cs (lowered cs c)
  low_same = recount_same cs c ((at cs c).refs - 1) (at cs c).heirs fits

  low_here : (at (lowered cs c) c).refs ≡ (at cs c).refs - 1
  low_here = recount_refs cs c ((at cs c).refs - 1) (at cs c).heirs fits

  low_other : (x : ℕ) → x ≢ c → at (lowered cs c) x ≡ at cs x
  low_other = recount_other cs c ((at cs c).refs - 1) (at cs c).heirs fits

  pub low_heirs : (x : ℕ) → (at (lowered cs c) x).heirs ≡ (at cs x).heirs
  low_heirs x = ⊎_elim
      (λ (e : x ≡ c). rw (e, recount_heirs cs c ((at cs c).refs - 1) (at cs c).heirs fits) refl)
      (λ ne. ap (λ (v : Cell). v.heirs) (low_other x ne))
      (cases_eq x c)

  -- c stays in use
  module _ (more : 1 < (at cs c).refs) where
    use_same : (x : ℕ) → ltb 0 (at (lowered cs c) x).refs ≡ ltb 0 (at cs x).refs
    use_same x = ⊎_elim
        (λ (e : x ≡ c). rw (e, low_here, lt-ltb 0 ((at cs c).refs - 1) (omega arith), lt-ltb 0 (at cs c).refs some) refl)
        (λ ne. ap (λ (v : Cell). ltb 0 v.refs) (low_other x ne))
        (cases_eq x c)

    under_same : (w : ℕ → ℕ) (o : ℕ) → under w cs base o ≡ under w (lowered cs c) base o
    under_same w o = tally_same (share w cs base o) (share w (lowered cs c) base o) 1024
        (λ x m. share_same w cs (lowered cs c) base o x (low_same.layer x m) (low_same.parent x m) (use_same x))

    pub stay_kept : Kept cs (lowered cs c)
    stay_kept = record {
      used = λ x m u. ⊎_elim (λ (e : x ≡ c). subst (λ (y : ℕ). 0 < (at cs y).refs) (sym e) some) (λ ne. rw (low_other x ne) at u) (cases_eq x c);
      same = low_same;
    }

    pub stay : Links (lowered cs c) free base top width first h
    stay =
        let uses : in_use cs ≡ in_use (lowered cs c) =
        tally_same (λ x. cond (ltb 0 (at cs x).refs) 1 0) (λ x. cond (ltb 0 (at (lowered cs c) x).refs) 1 0) 1024 (λ x m. ap (λ (b : Bool). cond b 1 0) (sym (use_same x))) in
        record {
          size = length-set cs c _ ∙ t.size;
          shape = shape_kept cs (lowered cs c) base top stay_kept t.shape;
          stack = record {
            live = omega (arith, t.stack.live, uses);
            below = t.stack.below;
            empty = λ k m.
                let z : (at cs (get_or free k 0)).refs ≡ 0 = t.stack.empty k m in
                let ne : get_or free k 0 ≢ c = λ q. let z' : (at cs c).refs ≡ 0 = rw q at z in omega (arith, some) in
                ap (λ (v : Cell). v.refs) (low_other (get_or free k 0) ne) ∙ z;
            apart = t.stack.apart;
          };
          count = λ x m.
              let u = under_same one x in
              ⊎_elim
              (λ (e : x ≡ c). subst (λ (y : ℕ). (at (lowered cs c) y).refs ≡ under one (lowered cs c) base y + h y) (sym e) (let u' = under_same one c in omega (arith, low_here, t.count c l, plus_here h c, more)))
              (λ (ne : x ≡ c → ⊥). ap (λ (v : Cell). v.refs) (low_other x ne) ∙ omega (arith, t.count x m, plus_other h c x ne))
              (cases_eq x c);
          heir = λ x m u. low_heirs x ∙ t.heir x m (stay_kept.used x m u) ∙ under_same place x;
          wide = t.wide ∙ under_same one 1024;
          oldest = t.oldest ∙ under_same place 1024;
        }

  -- c is free
  module _ (last : (at cs c).refs ≤ 1) where
    pub low_gone : Gone cs (lowered cs c) c
    low_gone = record { here = l; was = some; none = omega (arith, low_here); others = λ x m ne. ap (λ (v : Cell). v.refs) (low_other x ne); same = low_same }

    -- c was in the oldest layer
    module _ (old : (at cs c).layer ≡ base) where
      own : owner cs base c ≡ 1024
      own = owner_oldest cs base c old

      less : (w : ℕ → ℕ) → under w (lowered cs c) base 1024 + w c ≡ under w cs base 1024
      less w = subst (λ (o : ℕ). under w (lowered cs c) base o + w c ≡ under w cs base o) own (under_owner cs (lowered cs c) c low_gone w base)

      others : (w : ℕ → ℕ) (x : ℕ) → x < 1024 → under w (lowered cs c) base x ≡ under w cs base x
      others w x m = under_other cs (lowered cs c) c low_gone w base x (λ q. omega (arith, own))

      pub width_left : 1 ≤ width
      width_left = omega (arith, t.wide, less one)

      pub first_left : c ≤ first
      first_left = omega (arith, t.oldest, less place)

      pub end : Links (lowered cs c) (free ++ c ∷ []) base top (width - 1) (first - c) h
      end = record {
        size = length-set cs c _ ∙ t.size;
        shape = shape_kept cs (lowered cs c) base top (gone_kept cs (lowered cs c) c low_gone) t.shape;
        stack = stack_more cs (lowered cs c) c low_gone free t.stack;
        count = λ x m.
            ⊎_elim
            (λ (e : x ≡ c). subst (λ (y : ℕ). (at (lowered cs c) y).refs ≡ under one (lowered cs c) base y + h y) (sym e) (omega (arith, low_here, t.count c l, plus_here h c, last, others one c l)))
            (λ (ne : x ≡ c → ⊥). ap (λ (v : Cell). v.refs) (low_other x ne) ∙ omega (arith, t.count x m, plus_other h c x ne, others one x m))
            (cases_eq x c);
        heir = λ x m u. low_heirs x ∙ t.heir x m ((gone_kept cs (lowered cs c) c low_gone).used x m u) ∙ sym (others place x m);
        wide = omega (arith, t.wide, less one);
        oldest = omega (arith, t.oldest, less place);
      }

    -- c has a parent, which loses a reference
    module _ (young : (at cs c).layer ≢ base) where
      deep : base < (at cs c).layer
      deep = omega (arith, t.shape.low c l some, young)

      pub p_below : (at cs c).parent < 1024
      p_below = t.shape.up c l some deep

      p_other : (at cs c).parent ≢ c
      p_other q =
          let e : (at cs (at cs c).parent).layer + 1 ≡ (at cs c).layer = t.shape.step c l some deep in
          let e' : (at cs c).layer + 1 ≡ (at cs c).layer = rw q at e in
          omega arith

      own_p : owner cs base c ≡ (at cs c).parent
      own_p = owner_parent cs base c young

      less_p : (w : ℕ → ℕ) → under w (lowered cs c) base (at cs c).parent + w c ≡ under w cs base (at cs c).parent
      less_p w = subst (λ (o : ℕ). under w (lowered cs c) base o + w c ≡ under w cs base o) own_p (under_owner cs (lowered cs c) c low_gone w base)

      others_p : (w : ℕ → ℕ) (x : ℕ) → x ≢ (at cs c).parent → under w (lowered cs c) base x ≡ under w cs base x
      others_p w x ne = under_other cs (lowered cs c) c low_gone w base x (λ q. ne (sym q ∙ own_p))

      p_used : 0 < (at cs (at cs c).parent).refs
      p_used = omega (arith, t.count (at cs c).parent p_below, less_p one)

      pub heirs_left : c ≤ (at cs (at cs c).parent).heirs
      heirs_left = omega (arith, t.heir (at cs c).parent p_below p_used, less_p place)

      -- the cells with c free, and c taken from its parent's heirs
      abbrev moved : List Cell
      moved = recount (lowered cs c) (at cs c).parent (at (lowered cs c) (at cs c).parent).refs ((at (lowered cs c) (at cs c).parent).heirs - c)

      p_fits : (at cs c).parent < length (lowered cs c)
      p_fits = rw (length-set cs c _, t.size) p_below

      moved_other : (x : ℕ) → x ≢ (at cs c).parent → at moved x ≡ at (lowered cs c) x
      moved_other = recount_other (lowered cs c) (at cs c).parent (at (lowered cs c) (at cs c).parent).refs ((at (lowered cs c) (at cs c).parent).heirs - c) p_fits

      moved_refs : (x : ℕ) → (at moved x).refs ≡ (at (lowered cs c) x).refs
      moved_refs x = ⊎_elim
          (λ (e : x ≡ (at cs c).parent). subst (λ (y : ℕ). (at moved y).refs ≡ (at (lowered cs c) y).refs) (sym e) (recount_refs (lowered cs c) (at cs c).parent (at (lowered cs c) (at cs c).parent).refs ((at (lowered cs c) (at cs c).parent).heirs - c) p_fits))
          (λ ne. ap (λ (v : Cell). v.refs) (moved_other x ne))
          (cases_eq x (at cs c).parent)

      moved_heirs : (at moved (at cs c).parent).heirs ≡ (at cs (at cs c).parent).heirs - c
      moved_heirs = recount_heirs (lowered cs c) (at cs c).parent (at (lowered cs c) (at cs c).parent).refs ((at (lowered cs c) (at cs c).parent).heirs - c) p_fits ∙ ap (λ (n : ℕ). n - c) (low_heirs (at cs c).parent)

      moved_same : Same cs moved
      moved_same = same_same cs (lowered cs c) moved low_same (recount_same (lowered cs c) (at cs c).parent (at (lowered cs c) (at cs c).parent).refs ((at (lowered cs c) (at cs c).parent).heirs - c) p_fits)

      pub moved_gone : Gone cs moved c
      moved_gone = record { here = l; was = some; none = moved_refs c ∙ low_gone.none; others = λ x m ne. moved_refs x ∙ low_gone.others x m ne; same = moved_same }

      less_m : (w : ℕ → ℕ) → under w moved base (at cs c).parent + w c ≡ under w cs base (at cs c).parent
      less_m w = subst (λ (o : ℕ). under w moved base o + w c ≡ under w cs base o) own_p (under_owner cs moved c moved_gone w base)

      others_m : (w : ℕ → ℕ) (x : ℕ) → x ≢ (at cs c).parent → under w moved base x ≡ under w cs base x
      others_m w x ne = under_other cs moved c moved_gone w base x (λ q. ne (sym q ∙ own_p))

      pub on : Links moved (free ++ c ∷ []) base top width first (plus h (at cs c).parent)
      on = record {
        size = length-set (lowered cs c) _ _ ∙ length-set cs c _ ∙ t.size;
        shape = shape_kept cs moved base top (gone_kept cs moved c moved_gone) t.shape;
        stack = stack_more cs moved c moved_gone free t.stack;
        count = λ x m.
            ⊎_elim
            (λ (e : x ≡ (at cs c).parent). subst (λ (y : ℕ). (at moved y).refs ≡ under one moved base y + plus h (at cs c).parent y) (sym e)
            (omega (arith, moved_gone.others (at cs c).parent p_below p_other, t.count (at cs c).parent p_below, plus_other h c (at cs c).parent p_other, plus_here h (at cs c).parent, less_m one)))
            (λ (np : x ≡ (at cs c).parent → ⊥). ⊎_elim
            (λ (e : x ≡ c). subst (λ (y : ℕ). (at moved y).refs ≡ under one moved base y + plus h (at cs c).parent y) (sym e)
            (let nc : c ≢ (at cs c).parent = λ q. p_other (sym q) in
            omega (arith, moved_gone.none, t.count c l, plus_here h c, plus_other h (at cs c).parent c nc, others_m one c nc)))
            (λ (ne : x ≡ c → ⊥). omega (arith, moved_gone.others x m ne, t.count x m, plus_other h c x ne, plus_other h (at cs c).parent x np, others_m one x np))
            (cases_eq x c))
            (cases_eq x (at cs c).parent);
        heir = λ x m u.
            ⊎_elim
            (λ (e : x ≡ (at cs c).parent). subst (λ (y : ℕ). (at moved y).heirs ≡ under place moved base y) (sym e)
            (omega (arith, moved_heirs, t.heir (at cs c).parent p_below p_used, less_m place)))
            (λ (np : x ≡ (at cs c).parent → ⊥). ap (λ (v : Cell). v.heirs) (moved_other x np) ∙ low_heirs x ∙ t.heir x m ((gone_kept cs moved c moved_gone).used x m u) ∙ sym (others_m place x np))
            (cases_eq x (at cs c).parent);
        wide = t.wide ∙ sym (others_m one 1024 (λ q. omega (arith, p_below)));
        oldest = t.oldest ∙ sym (others_m place 1024 (λ q. omega (arith, p_below)));
      }

      -- the next cell is in an older layer
      pub falls : (at moved (at cs c).parent).layer < (at cs c).layer
      falls = omega (arith, moved_same.layer (at cs c).parent p_below, t.shape.step c l some deep)
