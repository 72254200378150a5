-- The tree after `attach`.
use Rattle.arrayvec.specs.ArrayVec.{ArrayVec}
use Rattle.std.specs.Option.{option_to_list}
use Rattle.std.proofs.Common.{◌≡◌, ℕ, ◌^◌, Some, None, Option, ◌+◌, ◌<◌, ltb, ◌≢◌, List, [], ◌∷◌, ◌++◌, length, get_or, set, sym, refl, ap, ◌∙◌, subst, ⊎_elim, arith}
use Rattle.std.proofs.lemmas.Bool.{cases_eq, lt-ltb}
use Rattle.std.proofs.lemmas.List.{length-set, get_or-set_same, get_or-set_other, get_or_push, length_push}
use Rattle.survivors.specs.Cells.{Links, Same, at, one, owner, place, plus, recount, under, void}
use Rattle.survivors.specs.Trees.{Attached, Ready}
use Rattle.survivors.specs.declared.tree.Cell.{Cell}
use Rattle.survivors.specs.declared.tree.Tree.{Tree}
use Rattle.survivors.proofs.Shares.{recount_other, recount_refs, recount_heirs, recount_same, owner_oldest, owner_parent, plus_here, plus_other, under_zero, under_one_bound, under_self_bound, links_at}
use Rattle.survivors.proofs.Arrivals.{Joined, join_used, join_uses, join_owner, join_other, stack_less, join_shape}

-- a new cell at i
abbrev pub put : List Cell → ℕ → ℕ → ℕ → ℕ → List Cell
put cs i top p m = set cs i (record { layer = top; heirs = 0; parent = p; refs = 1; mode = m })

module _ {cs : List Cell} (free : List ℕ) {base top width first : ℕ} {h : ℕ → ℕ} (i : ℕ) (t : Links cs (free ++ i ∷ []) base top width first h) (p m : ℕ) (tiny : m < 32)
    (fresh : (x : ℕ) → x < 1024 → 0 < (at cs x).refs → (at cs x).layer ≡ top → (at cs x).mode ≢ m) where
  -- i is the last of the free cells
  last : get_or (free ++ i ∷ []) (length free) 0 ≡ i
  last = get_or_push free i 0 (length free) refl

  pub slot : i < 1024
  slot = subst (λ (y : ℕ). y < 1024) last (t.stack.below (length free) (omega (arith, length_push free i)))

  slot_free : (at cs i).refs ≡ 0
  slot_free = subst (λ (y : ℕ). (at cs y).refs ≡ 0) last (t.stack.empty (length free) (omega (arith, length_push free i)))

  fits : i < length cs
  fits = omega (arith, t.size, slot)

  pub put_here : at (put cs i top p m) i ≡ record { layer = top; heirs = 0; parent = p; refs = 1; mode = m }
  put_here = get_or-set_same cs i _ void fits

  put_other : (x : ℕ) → x ≢ i → at (put cs i top p m) x ≡ at cs x
  put_other x ne = get_or-set_other cs i x _ void ne

  put_size : length (put cs i top p m) ≡ 1024
  put_size = length-set cs i _ ∙ t.size

  -- nothing is below or holds a free cell
  alone : under one cs base i ≡ 0
  alone = omega (arith, t.count i slot, slot_free)

  unheld : h i ≡ 0
  unheld = omega (arith, t.count i slot, slot_free)

  -- in the oldest layer
  module _ (new : top ≡ base) where
    pub root_joined : Joined cs (put cs i top p m) i
    root_joined = record {
      here = slot;
      was = slot_free;
      now = ap (λ (v : Cell). v.refs) put_here;
      uses = λ x l ne. ap (λ (v : Cell). ltb 0 v.refs) (put_other x ne);
      layer = λ x l ne. ap (λ (v : Cell). v.layer) (put_other x ne);
      parent = λ x l ne. ap (λ (v : Cell). v.parent) (put_other x ne);
      mode = λ x l ne. ap (λ (v : Cell). v.mode) (put_other x ne);
    }

    own : owner (put cs i top p m) base i ≡ 1024
    own = owner_oldest (put cs i top p m) base i (ap (λ (v : Cell). v.layer) put_here ∙ new)

    more : (w : ℕ → ℕ) → under w (put cs i top p m) base 1024 ≡ under w cs base 1024 + w i
    more w = subst (λ (o : ℕ). under w (put cs i top p m) base o ≡ under w cs base o + w i) own (join_owner cs (put cs i top p m) i root_joined w base)

    others : (w : ℕ → ℕ) (x : ℕ) → x < 1024 → under w (put cs i top p m) base x ≡ under w cs base x
    others w x l = join_other cs (put cs i top p m) i root_joined w base x (λ q. omega (arith, own))

    pub root : Links (put cs i top p m) free base top (width + 1) (first + i) (plus h i)
    root =
        let none : base < top → ⊥ = λ q. omega arith in
        record {
          size = put_size;
          shape = join_shape cs (put cs i top p m) i root_joined t
              (ap (λ (v : Cell). v.layer) put_here) (rw put_here tiny) (λ q. absurd (none q)) (λ q. absurd (none q)) (λ q. absurd (none q))
              (λ x l u e f. fresh x l u e (f ∙ ap (λ (v : Cell). v.mode) put_here));
          stack = stack_less cs (put cs i top p m) i root_joined free t.stack;
          count = λ x l. ⊎_elim
              (λ (e : x ≡ i). subst (λ (y : ℕ). (at (put cs i top p m) y).refs ≡ under one (put cs i top p m) base y + plus h i y) (sym e)
              (omega (arith, root_joined.now, others one i slot, alone, unheld, plus_here h i)))
              (λ (ne : x ≡ i → ⊥). ap (λ (v : Cell). v.refs) (put_other x ne) ∙ omega (arith, t.count x l, others one x l, plus_other h i x ne))
              (cases_eq x i);
          heir = λ x l u. ⊎_elim
              (λ (e : x ≡ i). subst (λ (y : ℕ). (at (put cs i top p m) y).heirs ≡ under place (put cs i top p m) base y) (sym e)
              (ap (λ (v : Cell). v.heirs) put_here ∙ omega (arith, others place i slot, under_zero place cs base i alone)))
              (λ (ne : x ≡ i → ⊥). ap (λ (v : Cell). v.heirs) (put_other x ne) ∙ t.heir x l (join_used cs (put cs i top p m) i root_joined x l ne u) ∙ sym (others place x l))
              (cases_eq x i);
          wide = omega (arith, t.wide, more one);
          oldest = omega (arith, t.oldest, more place);
        }

  -- under the cell p
  module _ (old : top ≢ base) (pb : p < 1024) (pu : 0 < (at cs p).refs) (pl : (at cs p).layer + 1 ≡ top) where
    -- the cells with the new one, counted in p
    abbrev pub linked : List Cell
    linked = recount (put cs i top p m) p ((at (put cs i top p m) p).refs + 1) ((at (put cs i top p m) p).heirs + i)

    p_off : p ≢ i
    p_off q = let z : (at cs p).refs ≡ 0 = rw q slot_free in omega arith

    i_off : i ≢ p
    i_off q = p_off (sym q)

    p_fits : p < length (put cs i top p m)
    p_fits = omega (arith, put_size)

    -- p's counts before are those of the tree
    pub p_refs : (at (put cs i top p m) p).refs ≡ (at cs p).refs
    p_refs = ap (λ (v : Cell). v.refs) (put_other p p_off)

    pub p_heirs : (at (put cs i top p m) p).heirs ≡ (at cs p).heirs
    p_heirs = ap (λ (v : Cell). v.heirs) (put_other p p_off)

    linked_refs : (at linked p).refs ≡ (at cs p).refs + 1
    linked_refs = recount_refs (put cs i top p m) p ((at (put cs i top p m) p).refs + 1) ((at (put cs i top p m) p).heirs + i) p_fits ∙ ap (λ (n : ℕ). n + 1) p_refs

    linked_heirs : (at linked p).heirs ≡ (at cs p).heirs + i
    linked_heirs = recount_heirs (put cs i top p m) p ((at (put cs i top p m) p).refs + 1) ((at (put cs i top p m) p).heirs + i) p_fits ∙ ap (λ (n : ℕ). n + i) p_heirs

    linked_other : (x : ℕ) → x ≢ p → at linked x ≡ at (put cs i top p m) x
    linked_other = recount_other (put cs i top p m) p ((at (put cs i top p m) p).refs + 1) ((at (put cs i top p m) p).heirs + i) p_fits

    linked_same : Same (put cs i top p m) linked
    linked_same = recount_same (put cs i top p m) p ((at (put cs i top p m) p).refs + 1) ((at (put cs i top p m) p).heirs + i) p_fits

    pub linked_here : at linked i ≡ record { layer = top; heirs = 0; parent = p; refs = 1; mode = m }
    linked_here = linked_other i i_off ∙ put_here

    pub linked_joined : Joined cs linked i
    linked_joined = record {
      here = slot;
      was = slot_free;
      now = ap (λ (v : Cell). v.refs) linked_here;
      uses = λ x l ne. ⊎_elim
          (λ (e : x ≡ p). rw (e, linked_refs, lt-ltb 0 ((at cs p).refs + 1) (omega arith), lt-ltb 0 (at cs p).refs pu) refl)
          (λ np. ap (λ (v : Cell). ltb 0 v.refs) (linked_other x np ∙ put_other x ne))
          (cases_eq x p);
      layer = λ x l ne. linked_same.layer x l ∙ ap (λ (v : Cell). v.layer) (put_other x ne);
      parent = λ x l ne. linked_same.parent x l ∙ ap (λ (v : Cell). v.parent) (put_other x ne);
      mode = λ x l ne. linked_same.mode x l ∙ ap (λ (v : Cell). v.mode) (put_other x ne);
    }

    own_p : owner linked base i ≡ p
    own_p = owner_parent linked base i (λ q. old (sym (ap (λ (v : Cell). v.layer) linked_here) ∙ q)) ∙ ap (λ (v : Cell). v.parent) linked_here

    more_p : (w : ℕ → ℕ) → under w linked base p ≡ under w cs base p + w i
    more_p w = subst (λ (o : ℕ). under w linked base o ≡ under w cs base o + w i) own_p (join_owner cs linked i linked_joined w base)

    others_p : (w : ℕ → ℕ) (x : ℕ) → x ≢ p → under w linked base x ≡ under w cs base x
    others_p w x ne = join_other cs linked i linked_joined w base x (λ q. ne (sym q ∙ own_p))

    pub below : Links linked free base top width first (plus h i)
    below =
        record {
          size = length-set (put cs i top p m) p _ ∙ put_size;
          shape = join_shape cs linked i linked_joined t
              (ap (λ (v : Cell). v.layer) linked_here)
              (rw linked_here tiny)
              (λ q. rw linked_here pb)
              (λ q. rw linked_here pu)
              (λ q. rw linked_here pl)
              (λ x l u e f. fresh x l u e (f ∙ ap (λ (v : Cell). v.mode) linked_here));
          stack = stack_less cs linked i linked_joined free t.stack;
          count = λ x l. ⊎_elim
              (λ (e : x ≡ i). subst (λ (y : ℕ). (at linked y).refs ≡ under one linked base y + plus h i y) (sym e)
              (omega (arith, linked_joined.now, others_p one i i_off, alone, unheld, plus_here h i)))
              (λ (ne : x ≡ i → ⊥). ⊎_elim
              (λ (e : x ≡ p). subst (λ (y : ℕ). (at linked y).refs ≡ under one linked base y + plus h i y) (sym e)
              (omega (arith, linked_refs, more_p one, t.count p pb, plus_other h i p p_off)))
              (λ (np : x ≡ p → ⊥). ap (λ (v : Cell). v.refs) (linked_other x np ∙ put_other x ne) ∙ omega (arith, t.count x l, others_p one x np, plus_other h i x ne))
              (cases_eq x p))
              (cases_eq x i);
          heir = λ x l u. ⊎_elim
              (λ (e : x ≡ i). subst (λ (y : ℕ). (at linked y).heirs ≡ under place linked base y) (sym e)
              (ap (λ (v : Cell). v.heirs) linked_here ∙ omega (arith, others_p place i i_off, under_zero place cs base i alone)))
              (λ (ne : x ≡ i → ⊥). ⊎_elim
              (λ (e : x ≡ p). subst (λ (y : ℕ). (at linked y).heirs ≡ under place linked base y) (sym e)
              (omega (arith, linked_heirs, more_p place, t.heir p pb pu)))
              (λ (np : x ≡ p → ⊥). ap (λ (v : Cell). v.heirs) (linked_other x np ∙ put_other x ne) ∙ t.heir x l (join_used cs linked i linked_joined x l ne u) ∙ sym (others_p place x np))
              (cases_eq x p))
              (cases_eq x i);
          wide = t.wide ∙ sym (others_p one 1024 (λ q. omega arith));
          oldest = t.oldest ∙ sym (others_p place 1024 (λ q. omega arith));
        }

-- the oldest layer has at most as many cells as there are
pub width_fits : {s : Tree} {h : ℕ → ℕ} {m : ℕ} {o : Option ℕ} → Ready s h m o → s.width + 1 < 65536
width_fits {s} r = omega (arith, r.holds.wide, under_one_bound s.cells s.base 1024)

-- what `attach` makes of the tree, where i was the last of the free cells and f are the others
module _ {s : Tree} {h : ℕ → ℕ} {m : ℕ} {o : Option ℕ} (r : Ready s h m o) (f : ArrayVec ℕ) (i : ℕ) {q : Option ℕ} (popped : s.free.items ≡ f.items ++ option_to_list q) (is : q ≡ Some i) where
  e : s.free.items ≡ f.items ++ i ∷ []
  e = popped ∙ ap (λ (z : Option ℕ). f.items ++ option_to_list z) is

  t : Links s.cells (f.items ++ i ∷ []) s.base s.top s.width s.first h
  t = links_at (sym e) r.holds

  room : length f.items + 1 ≡ length s.free.items
  room = omega (arith, ap length e, length_push f.items i)

  pub cell_below : (p : ℕ) → i < 1024
  cell_below p = slot f.items i t p m r.small r.fresh

  pub first_fits : s.first + i < 2 ^ 32
  first_fits = omega (arith, r.holds.oldest, under_self_bound s.cells s.base 1024, cell_below 0)

  pub attached_oldest : o ≡ None → (p : ℕ) → Attached s m o i (record { cells = put s.cells i s.top p m; free = f; base = s.base; top = s.top; width = s.width + 1; first = s.first + i })
  attached_oldest none p =
      let new = r.oldest none in
      let g = root_joined f.items i t p m r.small r.fresh new in
      let here = put_here f.items i t p m r.small r.fresh in
      record {
        holds = λ h' k. root f.items i (links_at (sym e) k) p m r.small r.fresh new;
        below = g.here;
        was = g.was;
        used = join_used _ _ _ g;
        uses = join_uses _ _ _ g;
        layer = g.layer;
        parent = g.parent;
        mode = g.mode;
        new_layer = ap (λ (v : Cell). v.layer) here;
        new_parent = λ c q. absurd (let z : ◌≡◌ {A = ℕ} 0 1 = cc in omega arith);
        new_mode = ap (λ (v : Cell). v.mode) here;
        base = refl;
        top = refl;
        room = room;
      }

  module _ (p : ℕ) (some : o ≡ Some p) where
    deep : s.top ≢ s.base
    deep q = omega (arith, r.layer p some, r.holds.shape.low p (r.below p some) (r.used p some))

    -- p's counts are what they were, whatever is put at i
    off : (q : ℕ) → at (put s.cells i s.top q m) p ≡ at s.cells p
    off q = put_other f.items i t q m r.small r.fresh p (λ e. let z : (at s.cells p).refs ≡ 0 = rw e (slot_free f.items i t q m r.small r.fresh) in omega (arith, r.used p some))

    pub heirs_fit : (q : ℕ) → (at (put s.cells i s.top q m) p).heirs + i < 2 ^ 32
    heirs_fit q = omega (arith, ap (λ (v : Cell). v.heirs) (off q), r.holds.heir p (r.below p some) (r.used p some), under_self_bound s.cells s.base p, cell_below p)

    pub refs_fit : (q : ℕ) → (at (put s.cells i s.top q m) p).refs + 1 < 65536
    refs_fit q = omega (arith, ap (λ (v : Cell). v.refs) (off q), r.holds.count p (r.below p some), under_one_bound s.cells s.base p, r.few p)

    pub attached_below : Attached s m o i (record { cells = recount (put s.cells i s.top p m) p ((at (put s.cells i s.top p m) p).refs + 1) ((at (put s.cells i s.top p m) p).heirs + i); free = f; base = s.base; top = s.top; width = s.width; first = s.first })
    attached_below =
        let g = linked_joined f.items i t p m r.small r.fresh deep (r.below p some) (r.used p some) (r.layer p some) in
        let here = linked_here f.items i t p m r.small r.fresh deep (r.below p some) (r.used p some) (r.layer p some) in
        record {
          holds = λ h' k. below f.items i (links_at (sym e) k) p m r.small r.fresh deep (r.below p some) (r.used p some) (r.layer p some);
          below = g.here;
          was = g.was;
          used = join_used _ _ _ g;
          uses = join_uses _ _ _ g;
          layer = g.layer;
          parent = g.parent;
          mode = g.mode;
          new_layer = ap (λ (v : Cell). v.layer) here;
          new_parent = λ c q. ap (λ (v : Cell). v.parent) here ∙ (let z : p ≡ c = cc in z);
          new_mode = ap (λ (v : Cell). v.mode) here;
          base = refl;
          top = refl;
          room = room;
        }
