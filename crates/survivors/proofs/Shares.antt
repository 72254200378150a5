-- What a change of one cell's counts leaves of the tree.
use Rattle.std.proofs.Common.{◌≡◌, ℕ, ◌+◌, ◌<◌, ◌≤◌, Bool, true, false, cond, eqb, ltb, ◌≢◌, List, length, sym, refl, ap, ◌∙◌, subst, ⊎_elim, arith}
use Rattle.std.proofs.lemmas.Bool.{cases_eq, lt-ltb, eq-eqb, ne_eqb}
use Rattle.std.proofs.lemmas.List.{get_or-set_same, get_or-set_other}
use Rattle.survivors.specs.Cells.{Kept, Links, Same, Shape, at, one, owner, place, plus, recount, share, under, void}
use Rattle.survivors.specs.declared.tree.Cell.{Cell}
use Rattle.survivors.proofs.Tallies.{tally_ge, tally_none, tally_bound}

module _ (cs : List Cell) (i r k : ℕ) (l : i < length cs) where
  recount_here : at (recount cs i r k) i ≡ record { layer = (at cs i).layer; heirs = k; parent = (at cs i).parent; refs = r; mode = (at cs i).mode }
  recount_here = get_or-set_same cs i _ void l

  pub recount_other : (x : ℕ) → x ≢ i → at (recount cs i r k) x ≡ at cs x
  recount_other x ne = get_or-set_other cs i x _ void ne

  pub recount_refs : (at (recount cs i r k) i).refs ≡ r
  recount_refs = ap (λ (v : Cell). v.refs) recount_here

  pub recount_heirs : (at (recount cs i r k) i).heirs ≡ k
  recount_heirs = ap (λ (v : Cell). v.heirs) recount_here

  pub recount_same : Same cs (recount cs i r k)
  recount_same =
      let any : (B : Type 0) (f : Cell → B) → f (at (recount cs i r k) i) ≡ f (at cs i) → (x : ℕ) → f (at (recount cs i r k) x) ≡ f (at cs x) =
      λ B f e x. ⊎_elim (λ (q : x ≡ i). subst (λ (y : ℕ). f (at (recount cs i r k) y) ≡ f (at cs y)) (sym q) e) (λ ne. ap f (recount_other x ne)) (cases_eq x i) in
      record {
        layer = λ x _. any ℕ (λ v. v.layer) (ap (λ (v : Cell). v.layer) recount_here) x;
        parent = λ x _. any ℕ (λ v. v.parent) (ap (λ (v : Cell). v.parent) recount_here) x;
        mode = λ x _. any ℕ (λ v. v.mode) (ap (λ (v : Cell). v.mode) recount_here) x;
      }

-- the same links, where the free cells are the same list
pub links_at : {cs : List Cell} {free free' : List ℕ} {base top width first : ℕ} {h : ℕ → ℕ} → free' ≡ free → Links cs free base top width first h → Links cs free' base top width first h
links_at {cs} {free} {free'} {base} {top} {width} {first} {h} e t = subst (λ (z : List ℕ). Links cs z base top width first h) (sym e) t

-- only what is held of the cells matters
pub links_held : {cs : List Cell} {free : List ℕ} {base top width first : ℕ} {h h' : ℕ → ℕ} → ((x : ℕ) → x < 1024 → h x ≡ h' x) → Links cs free base top width first h → Links cs free base top width first h'
links_held e t = record { size = t.size; shape = t.shape; stack = t.stack; count = λ x l. omega (arith, t.count x l, e x l); heir = t.heir; wide = t.wide; oldest = t.oldest }

pub same_same : (a b c : List Cell) → Same a b → Same b c → Same a c
same_same a b c p q =
    record {
      layer = λ x l. q.layer x l ∙ p.layer x l;
      parent = λ x l. q.parent x l ∙ p.parent x l;
      mode = λ x l. q.mode x l ∙ p.mode x l;
    }

pub kept_kept : (a b c : List Cell) → Kept a b → Kept b c → Kept a c
kept_kept a b c p q = record { used = λ x l u. p.used x l (q.used x l u); same = same_same a b c p.same q.same }

-- fewer cells in use, in the same places
pub shape_kept : (cs cs' : List Cell) (base top : ℕ) → Kept cs cs' → Shape cs base top → Shape cs' base top
shape_kept cs cs' base top k s =
    record {
      span = s.span;
      low = λ x l u. rw (k.same.layer x l) (s.low x l (k.used x l u));
      high = λ x l u. rw (k.same.layer x l) (s.high x l (k.used x l u));
      up = λ x l u b. rw (k.same.parent x l) (s.up x l (k.used x l u) (rw (k.same.layer x l) at b));
      step = λ x l u b.
          let b' : base < (at cs x).layer = rw (k.same.layer x l) at b in
          let p = s.up x l (k.used x l u) b' in
          rw (k.same.parent x l, k.same.layer x l, k.same.layer (at cs x).parent p) (s.step x l (k.used x l u) b');
      small = λ x l u. rw (k.same.mode x l) (s.small x l (k.used x l u));
      lone = λ x y l m u v e f. s.lone x y l m (k.used x l u) (k.used y m v) (sym (k.same.layer x l) ∙ e ∙ k.same.layer y m) (sym (k.same.mode x l) ∙ f ∙ k.same.mode y m);
    }

-- the share of a cell that is where it was, and in use as it was
pub share_same : (w : ℕ → ℕ) (cs cs' : List Cell) (base o x : ℕ) → (at cs' x).layer ≡ (at cs x).layer → (at cs' x).parent ≡ (at cs x).parent → ltb 0 (at cs' x).refs ≡ ltb 0 (at cs x).refs → share w cs base o x ≡ share w cs' base o x
share_same w cs cs' base o x a b c = cc

pub share_none : (w : ℕ → ℕ) (cs : List Cell) (base o x : ℕ) → (at cs x).refs ≡ 0 → share w cs base o x ≡ 0
share_none w cs base o x e = rw e refl

pub share_mine : (w : ℕ → ℕ) (cs : List Cell) (base o x : ℕ) → 0 < (at cs x).refs → owner cs base x ≡ o → share w cs base o x ≡ w x
share_mine w cs base o x u e = rw (lt-ltb 0 (at cs x).refs u, eq-eqb (owner cs base x) o e) refl

pub share_not : (w : ℕ → ℕ) (cs : List Cell) (base o x : ℕ) → owner cs base x ≢ o → share w cs base o x ≡ 0
share_not w cs base o x ne = rw (ne_eqb (owner cs base x) o ne) (both (ltb 0 (at cs x).refs))
  where
    both : (b : Bool) → ◌≡◌ {A = ℕ} (cond b 0 0) 0
    both true = refl
    both false = refl

pub owner_oldest : (cs : List Cell) (base x : ℕ) → (at cs x).layer ≡ base → owner cs base x ≡ 1024
owner_oldest cs base x e = rw (eq-eqb (at cs x).layer base e) refl

pub owner_parent : (cs : List Cell) (base x : ℕ) → (at cs x).layer ≢ base → owner cs base x ≡ (at cs x).parent
owner_parent cs base x ne = rw (ne_eqb (at cs x).layer base ne) refl

pub plus_here : (h : ℕ → ℕ) (c : ℕ) → plus h c c ≡ h c + 1
plus_here h c = rw (eq-eqb c c refl) refl

pub plus_other : (h : ℕ → ℕ) (c x : ℕ) → x ≢ c → plus h c x ≡ h x
plus_other h c x ne = rw (ne_eqb x c ne) refl

-- no weight where there are none
pub share_zero : (w : ℕ → ℕ) (cs : List Cell) (base o x : ℕ) → share one cs base o x ≡ 0 → share w cs base o x ≡ 0
share_zero w cs base o x e = both (ltb 0 (at cs x).refs) (eqb (owner cs base x) o) e
  where
    both : (a b : Bool) → ◌≡◌ {A = ℕ} (cond a (cond b 1 0) 0) 0 → cond a (cond b (w x) 0) 0 ≡ 0
    both true true e = absurd (omega arith)
    both true false e = refl
    both false b e = refl

pub share_bound : (w : ℕ → ℕ) (cs : List Cell) (base o x : ℕ) → share w cs base o x ≤ w x
share_bound w cs base o x = both (ltb 0 (at cs x).refs) (eqb (owner cs base x) o)
  where
    both : (a b : Bool) → cond a (cond b (w x) 0) 0 ≤ w x
    both true true = omega arith
    both true false = omega arith
    both false b = omega arith

pub under_zero : (w : ℕ → ℕ) (cs : List Cell) (base o : ℕ) → under one cs base o ≡ 0 → under w cs base o ≡ 0
under_zero w cs base o e =
    tally_none (share w cs base o) 1024 (λ x l. share_zero w cs base o x (omega (arith, e, tally_ge (share one cs base o) x 1024 l)))

pub under_one_bound : (cs : List Cell) (base o : ℕ) → under one cs base o ≤ 1024
under_one_bound cs base o = omega (arith, tally_bound (share one cs base o) 1 1024 (λ x l. share_bound one cs base o x))

pub under_self_bound : (cs : List Cell) (base o : ℕ) → under place cs base o ≤ 1048576
under_self_bound cs base o = omega (arith, tally_bound (share place cs base o) 1024 1024 (λ x l. omega (arith, share_bound place cs base o x)))

-- a cell that owns another is in use
pub owner_used : (cs : List Cell) (base x : ℕ) → x < 1024 → 0 < (at cs x).refs → 0 < under one cs base (owner cs base x)
owner_used cs base x l u = omega (arith, tally_ge (share one cs base (owner cs base x)) x 1024 l, share_mine one cs base (owner cs base x) x u refl)
