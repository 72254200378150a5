-- One turn of `sprout`, and the tree after `grow`.
use Rattle.std.proofs.Common.{◌≡◌, ℕ, zero, suc, ◌+◌, ◌-◌, ◌<◌, ◌≤◌, ◌≢◌, ◌⊎◌, List, [], ◌∷◌, ◌++◌, length, get_or, set, Some, None, Option, sym, refl, ap, ◌∙◌, subst, inl, inr, ⊎_elim, arith}
use Rattle.std.proofs.lemmas.Bool.{cases_eq, cases_lt}
use Rattle.std.proofs.lemmas.List.{get_or-set_same, get_or-set_other, length-set}
use Rattle.survivors.specs.Cells.{at, one, owner, path, under}
use Rattle.survivors.specs.Trees.{Attached, Holds, Layered, Next, NoneFrom, Ready, Shed, Sprout, Valid, both, held, path_of, tip_at}
use Rattle.survivors.specs.declared.tree.Cell.{Cell}
use Rattle.survivors.specs.declared.tree.Tree.{Tree}
use Rattle.survivors.proofs.Shares.{links_held, owner_parent, owner_used}
use Rattle.survivors.proofs.Decides.{path_is, tip_used}
use Rattle.survivors.proofs.Tips.{none_some, held_bound, held_none, held_put, held_some, plus_add, real_set, tip_below}

module _ {o : Tree} {tips preds : List (Option ℕ)} (x : Next o tips preds) {n : ℕ} {s : Tree} {new : List (Option ℕ)} (g : Sprout o tips preds n s new) (l : n < length preds) where
  n_few : n < 32
  n_few = omega (arith, x.many)

  pub skip : get_or preds n None ≡ None → Sprout o tips preds (n + 1) s new
  skip none = record {
    holds = g.holds;
    many = g.many;
    real = g.real;
    beyond = λ u m. g.beyond u (omega arith);
    base = g.base;
    top = g.top;
    room = omega (arith, g.room);
    young = λ y yl u e. omega (arith, g.young y yl u e);
    uses = g.uses;
    layer = g.layer;
    parent = g.parent;
    mode = g.mode;
    reach = λ u p m e. ⊎_elim
        (λ (q : u ≡ n). absurd (none_some (sym none ∙ sym (ap (λ (v : ℕ). get_or preds v None) q) ∙ e)))
        (λ (ne : u ≡ n → ⊥). g.reach u p (omega arith) e)
        (cases_eq u n);
    unreach = g.unreach;
    new_layer = g.new_layer;
    new_parent = g.new_parent;
    new_mode = g.new_mode;
  }

  module _ {p : ℕ} (is : get_or preds n None ≡ Some p) where
    deep : (c : ℕ) → tip_at tips p ≡ Some c → o.base < o.top
    deep c e = ⊎_elim
        (λ (k : o.base < o.top). k)
        (λ (k : o.top ≤ o.base). absurd (x.valid.none (omega (arith, x.valid.holds.shape.span)) p c e))
        (cases_lt o.base o.top)

    pub ready : Ready s (both new (held tips)) n (tip_at tips p)
    ready = record {
      holds = g.holds;
      few = λ y. omega (arith, held_bound new y, g.many, held_bound tips y, x.valid.many);
      small = n_few;
      room = omega (arith, g.room, x.room);
      fresh = λ y yl u e q. omega (arith, g.young y yl u (e ∙ g.top), q);
      oldest = λ e. ⊎_elim
          (λ (k : o.base < o.top). let f = x.from n p is k in absurd (none_some (sym e ∙ f.1)))
          (λ (k : o.top ≤ o.base). omega (arith, g.base, g.top, x.valid.holds.shape.span))
          (cases_lt o.base o.top);
      below = x.valid.real p;
      used = λ c e. g.uses c (x.valid.real p c e) (tip_used x.valid p c e);
      layer = λ c e. rw (g.layer c (x.valid.real p c e) (tip_used x.valid p c e)) (x.valid.newest p c e ∙ sym g.top);
    }

    pub grown : {i : ℕ} {t : Tree} → Attached s n (tip_at tips p) i t → Sprout o tips preds (n + 1) t (set new n (Some i))
    grown {i} {t} a = record {
      holds = links_held (λ y _. omega (arith, held_put new n i y (omega (arith, n_few, g.many)) (g.beyond n (omega arith)), plus_add (both new (held tips)) i y, plus_add (held new) i y)) (a.holds (both new (held tips)) g.holds);
      many = length-set new n (Some i) ∙ g.many;
      real = real_set new n i g.real a.below;
      beyond = λ u m. other u (omega arith) ∙ g.beyond u (omega arith);
      base = a.base ∙ g.base;
      top = a.top ∙ g.top;
      room = omega (arith, a.room, g.room);
      young = λ y yl u e. ⊎_elim
          (λ (q : y ≡ i). rw (q, a.new_mode) (omega arith))
          (λ (ne : y ≡ i → ⊥). rw (a.mode y yl ne) (let k : (at s.cells y).mode < n = g.young y yl (a.used y yl ne u) (sym (a.layer y yl ne) ∙ e) in omega arith))
          (cases_eq y i);
      uses = λ y yl u. a.uses y yl (off y yl u) (g.uses y yl u);
      layer = λ y yl u. a.layer y yl (off y yl u) ∙ g.layer y yl u;
      parent = λ y yl u. a.parent y yl (off y yl u) ∙ g.parent y yl u;
      mode = λ y yl u. a.mode y yl (off y yl u) ∙ g.mode y yl u;
      reach = λ u q m e. ⊎_elim
          (λ (k : u ≡ n). (i, ap (tip_at (set new n (Some i))) k ∙ here))
          (λ (ne : u ≡ n → ⊥). let f = g.reach u q (omega arith) e in (f.0, other u ne ∙ f.1))
          (cases_eq u n);
      unreach = λ u e. ⊎_elim
          (λ (k : u ≡ n). absurd (none_some (sym e ∙ ap (λ (v : ℕ). get_or preds v None) k ∙ is)))
          (λ (ne : u ≡ n → ⊥). other u ne ∙ g.unreach u e)
          (cases_eq u n);
      new_layer = λ u c e. each (λ v d. (at t.cells d).layer ≡ o.top) (a.new_layer ∙ g.top)
          (λ v d q. a.layer d (g.real v d q) (off_new v d q) ∙ g.new_layer v d q) u c e;
      new_parent = λ u c q r e f h. ⊎_elim
          (λ (k : u ≡ n).
          let ci : c ≡ i = same u c k e in
          let pq : p ≡ q = let z : Some p ≡ Some q = sym is ∙ sym (ap (λ (v : ℕ). get_or preds v None) k) ∙ f in cc in
          rw ci (a.new_parent r (ap (tip_at tips) pq ∙ h)))
          (λ (ne : u ≡ n → ⊥). let e' = sym (other u ne) ∙ e in a.parent c (g.real u c e') (off_new u c e') ∙ g.new_parent u c q r e' f h)
          (cases_eq u n);
      new_mode = λ u c e. each (λ v d. (at t.cells d).mode ≡ v) a.new_mode
          (λ v d q. a.mode d (g.real v d q) (off_new v d q) ∙ g.new_mode v d q) u c e;
    }
      where
        off : (y : ℕ) → y < 1024 → 0 < (at o.cells y).refs → y ≢ i
        off y yl u q = let z : 0 < (at s.cells i).refs = rw q at (g.uses y yl u) in omega (arith, a.was)

        here : tip_at (set new n (Some i)) n ≡ Some i
        here = get_or-set_same new n (Some i) None (omega (arith, n_few, g.many))

        other : (u : ℕ) → u ≢ n → tip_at (set new n (Some i)) u ≡ tip_at new u
        other u ne = get_or-set_other new n u (Some i) None ne

        off_new : (u c : ℕ) → tip_at new u ≡ Some c → c ≢ i
        off_new u c e q =
            let k : 0 < (at s.cells c).refs = omega (arith, g.holds.count c (g.real u c e), held_some new u c e) in
            let z : 0 < (at s.cells i).refs = rw q at k in
            omega (arith, a.was)

        same : (u c : ℕ) → u ≡ n → tip_at (set new n (Some i)) u ≡ Some c → c ≡ i
        same u c k e = let z : Some c ≡ Some i = sym e ∙ ap (tip_at (set new n (Some i))) k ∙ here in cc

        -- what holds of i and of the earlier new tips holds of all
        each : (P : ℕ → ℕ → Type 0) → P n i → ((v d : ℕ) → tip_at new v ≡ Some d → P v d) → (u c : ℕ) → tip_at (set new n (Some i)) u ≡ Some c → P u c
        each P first rest u c e = ⊎_elim
            (λ (k : u ≡ n). subst (λ (v : ℕ). P v c) (sym k) (subst (P n) (sym (same u c k e)) first))
            (λ (ne : u ≡ n → ⊥). rest u c (sym (other u ne) ∙ e))
            (cases_eq u n)

pub sprout_none : {o : Tree} {tips preds new : List (Option ℕ)} → Next o tips preds → length new ≡ 32 → NoneFrom 0 new → Sprout o tips preds 0 o new
sprout_none {new = new} x many none = record {
  holds = links_held (λ y _. omega (arith, held_none new y (λ u. none u y (omega arith)))) x.valid.holds;
  many = many;
  real = λ u c e. absurd (none u c (omega arith) e);
  beyond = λ u _. blank u;
  base = refl;
  top = refl;
  room = omega arith;
  young = λ y yl u e. absurd (omega (arith, x.valid.old y yl u, e));
  uses = λ y yl u. u;
  layer = λ y yl u. refl;
  parent = λ y yl u. refl;
  mode = λ y yl u. refl;
  reach = λ u p m. absurd (omega arith);
  unreach = λ u _. blank u;
  new_layer = λ u c e. absurd (none u c (omega arith) e);
  new_parent = λ u c p q e. absurd (none u c (omega arith) e);
  new_mode = λ u c e. absurd (none u c (omega arith) e);
}
  where
    blank : (u : ℕ) → tip_at new u ≡ None
    blank u = at (tip_at new u) refl
      where
        at : (o : Option ℕ) → tip_at new u ≡ o → tip_at new u ≡ None
        at None e = e
        at (Some c) e = absurd (none u c (omega arith) e)

-- the paths that a change elsewhere leaves
pub path_frame : (s : Tree) (h : ℕ → ℕ) → Holds s h → (cs : List Cell)
    → ((x : ℕ) → x < 1024 → 0 < (at s.cells x).refs → (at cs x).parent ≡ (at s.cells x).parent)
    → ((x : ℕ) → x < 1024 → 0 < (at s.cells x).refs → (at cs x).mode ≡ (at s.cells x).mode)
    → (n c : ℕ) → c < 1024 → 0 < (at s.cells c).refs → (at s.cells c).layer ≡ s.base + n → path cs (suc n) c ≡ path s.cells (suc n) c
path_frame s h t cs ps ms zero c l u e = rw (ms c l u) refl
path_frame s h t cs ps ms (suc n) c l u e =
    let d : s.base < (at s.cells c).layer = omega arith in
    let p = t.shape.up c l u d in
    let o : owner s.cells s.base c ≡ (at s.cells c).parent = owner_parent s.cells s.base c (λ q. omega arith) in
    let k : 0 < under one s.cells s.base (at s.cells c).parent = rw o at (owner_used s.cells s.base c l u) in
    let i = path_frame s h t cs ps ms n (at s.cells c).parent p (omega (arith, t.count (at s.cells c).parent p)) (omega (arith, t.shape.step c l u d)) in
    rw (ms c l u, ps c l u, i) refl

-- what the old tips hold beside the new ones
pub holding : {o : Tree} {tips preds : List (Option ℕ)} {n : ℕ} {s : Tree} {new : List (Option ℕ)} → Sprout o tips preds n s new → Holds s (both tips (held new))
holding g = links_held (λ y _. omega arith) g.holds

-- the tree after `grow`
module _ {o : Tree} {tips preds : List (Option ℕ)} (x : Next o tips preds) {s : Tree} {new : List (Option ℕ)} (g : Sprout o tips preds (length preds) s new) {t : Tree} (d : Shed s tips t) where
  -- the tree with the new layer
  abbrev pub fresh : Tree
  fresh = record { cells = t.cells; free = t.free; base = t.base; top = t.top + 1; width = t.width; first = t.first }

  after : Holds t (held new)
  after = d.holds (held new) (holding g)

  fresh_valid : Valid fresh new
  fresh_valid = record {
    holds = record {
      size = after.size;
      shape = record {
        span = omega (arith, after.shape.span);
        low = after.shape.low;
        high = λ y yl u. omega (arith, after.shape.high y yl u);
        up = after.shape.up;
        step = after.shape.step;
        small = after.shape.small;
        lone = after.shape.lone;
      };
      stack = after.stack;
      count = after.count;
      heir = after.heir;
      wide = after.wide;
      oldest = after.oldest;
    };
    many = g.many;
    real = g.real;
    newest = λ u c e. omega (arith, d.kept.same.layer c (g.real u c e), g.new_layer u c e, g.top, d.top);
    ends = λ u c e. d.kept.same.mode c (g.real u c e) ∙ g.new_mode u c e;
    old = λ y yl u. omega (arith, after.shape.high y yl u);
    none = λ e. absurd (omega (arith, after.shape.span));
    any = λ _ no_tip. let a = x.some in let f = g.reach a.0 a.1 (tip_below preds a.0 a.1 a.2) a.2 in no_tip a.0 f.0 f.1;
  }

  paths_more : (u p : ℕ) → get_or preds u None ≡ Some p → path_of fresh new u ≡ path_of o tips p ++ (u ∷ [])
  paths_more u p is =
      let f = g.reach u p (tip_below preds u p is) is in
      let c = f.0 in
      let m = g.real u c f.1 in
      let n = o.top - o.base in
      let e : (t.top + 1) - t.base ≡ suc n = omega (arith, d.top, g.top, d.base, g.base, x.valid.holds.shape.span) in
      let r : (at t.cells c).mode ≡ u = d.kept.same.mode c m ∙ g.new_mode u c f.1 in
      path_is fresh new u c f.1
      ∙ ap (λ (j : ℕ). path t.cells j c) e
      ∙ ap (λ (y : ℕ). path t.cells n (at t.cells c).parent ++ (y ∷ [])) r
      ∙ ap (λ (z : List ℕ). z ++ (u ∷ [])) (old_path c m f.1 (cases_lt o.base o.top))
    where
      old_path : (c : ℕ) → c < 1024 → tip_at new u ≡ Some c → ((o.base < o.top) ⊎ (o.top ≤ o.base)) → path t.cells (o.top - o.base) (at t.cells c).parent ≡ path_of o tips p
      old_path c m k (inr z) =
          let e : o.top - o.base ≡ 0 = omega arith in
          rw e refl
      old_path c m k (inl z) =
          let f = x.from u p is z in
          let b = f.0 in
          let bl = x.valid.real p b f.1 in
          let n = (o.top - o.base) - 1 in
          let e : o.top - o.base ≡ suc n = omega arith in
          let q : (at t.cells c).parent ≡ b = d.kept.same.parent c m ∙ g.new_parent u c p b k is f.1 in
          ap (path t.cells (o.top - o.base)) q
          ∙ ap (λ (j : ℕ). path t.cells j b) e
          ∙ path_frame o (held tips) x.valid.holds t.cells
          (λ y yl w. d.kept.same.parent y yl ∙ g.parent y yl w)
          (λ y yl w. d.kept.same.mode y yl ∙ g.mode y yl w)
          n b bl (tip_used x.valid p b f.1) (omega (arith, x.valid.newest p b f.1))
          ∙ sym (ap (λ (j : ℕ). path o.cells j b) e)
          ∙ sym (path_is o tips p b f.1)

  pub grown_all : Layered o tips preds fresh new
  grown_all = record {
    valid = fresh_valid;
    base = d.base ∙ g.base;
    top = ap (λ (n : ℕ). n + 1) (d.top ∙ g.top);
    reach = λ u p e. g.reach u p (tip_below preds u p e) e;
    unreach = g.unreach;
    paths = paths_more;
  }
