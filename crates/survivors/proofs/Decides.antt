-- One turn of `settle`.
use Rattle.std.proofs.Common.{◌≡◌, ℕ, suc, ◌+◌, ◌-◌, ◌%◌, ◌<◌, ◌≤◌, ◌≢◌, List, [], ◌∷◌, ◌++◌, length, set, replicate, Some, None, Option, sym, refl, ap, ◌∙◌, ⊎_elim, append_assoc, arith}
use Rattle.std.specs.Prelude.{unwrap_or}
use Rattle.std.proofs.lemmas.Bool.{cases_eq, cases_lt, eq-eqb, ne_eqb}
use Rattle.std.proofs.lemmas.List.{length_push, length-replicate}
use Rattle.survivors.specs.Cells.{Kept, at, one, path, place, share, under}
use Rattle.survivors.specs.Ring.{Written}
use Rattle.survivors.specs.Trees.{Holds, Settling, Valid, held, path_of, tip_at, without_root}
use Rattle.survivors.specs.declared.tree.Cell.{Cell}
use Rattle.survivors.specs.declared.tree.Tree.{Tree}
use Rattle.survivors.proofs.Rings.{written_none, written_push}
use Rattle.survivors.proofs.Tallies.{tally_none}
use Rattle.survivors.proofs.Roots.{Root, root, rootless, root_gone, root_kept, decide, path_root}
use Rattle.survivors.proofs.Shares.{share_none, share_not, owner_oldest}
use Rattle.survivors.proofs.Freed.{stack_more}
use Rattle.survivors.proofs.Tips.{held_none, held_some, no_tips}

-- the path to a mode with a tip
pub path_is : (s : Tree) (tips : List (Option ℕ)) (u c : ℕ) → tip_at tips u ≡ Some c → path_of s tips u ≡ path s.cells (s.top - s.base) c
path_is s tips u c e = rw e refl

module _ {s : Tree} {tips : List (Option ℕ)} (r : Valid s tips) where
  -- the tip of a mode is in use
  pub tip_used : (u c : ℕ) → tip_at tips u ≡ Some c → 0 < (at s.cells c).refs
  tip_used u c e = omega (arith, r.holds.count c (r.real u c e), held_some tips u c e)

module _ {s : Tree} {tips : List (Option ℕ)} (r : Valid s tips) (single : s.width ≡ 1) where
  -- the links of the tree
  abbrev t : Holds s (held tips)
  t = r.holds

  pub top_root : Root t single s.first
  top_root = root t single

  pub first_below : s.first < 1024
  first_below = top_root.here

  pub deep : s.base < s.top
  deep = omega (arith, r.old s.first top_root.here top_root.used, top_root.layer)

  -- the cells without the root
  abbrev cs' : List Cell
  cs' = rootless t single

  pub room_below : length s.free.items < 1024
  room_below = omega (arith, (stack_more s.cells cs' s.first (root_gone t single) s.free.items t.stack).live, length_push s.free.items s.first)

  kept : Kept s.cells cs'
  kept = root_kept t single

  -- a path, without its first mode
  shorter : (u c : ℕ) → tip_at tips u ≡ Some c → path_of s tips u ≡ (at s.cells s.first).mode ∷ path cs' (s.top - (s.base + 1)) c
  shorter u c e =
      let n = s.top - (s.base + 1) in
      let d : s.top - s.base ≡ suc n = omega (arith, deep) in
      path_is s tips u c e
      ∙ ap (λ (j : ℕ). path s.cells j c) d
      ∙ path_root t single n c (r.real u c e) (tip_used r u c e) (omega (arith, r.newest u c e, deep))

  -- there are younger layers
  module _ (more : s.base + 1 ≢ s.top) where
    unheld : held tips s.first ≡ 0
    unheld = held_none tips s.first (λ u e. more (omega (arith, r.newest u s.first e, top_root.layer)))

    next_valid : Valid (without_root s) tips
    next_valid =
        let d = decide t single (held tips) (λ x l ne. refl) unheld deep in
        let w : under one s.cells s.base s.first ≡ (at s.cells s.first).refs = omega (arith, t.count s.first first_below, unheld) in
        let f : under place s.cells s.base s.first ≡ (at s.cells s.first).heirs = sym (t.heir s.first first_below top_root.used) in
        record {
          holds = record { size = d.size; shape = d.shape; stack = d.stack; count = d.count; heir = d.heir; wide = rw (ne_eqb (s.base + 1) s.top more) (sym w ∙ d.wide); oldest = rw (ne_eqb (s.base + 1) s.top more) (sym f ∙ d.oldest) };
          many = r.many;
          real = r.real;
          newest = λ u c e. rw (kept.same.layer c (r.real u c e)) (r.newest u c e);
          ends = λ u c e. kept.same.mode c (r.real u c e) ∙ r.ends u c e;
          old = λ x l u. rw (kept.same.layer x l) (r.old x l (kept.used x l u));
          none = λ e. absurd (more e);
          any = λ _. r.any deep;
        }

  -- this was the last layer
  module _ (last : s.base + 1 ≡ s.top) where
    only : (x : ℕ) → x < 1024 → 0 < (at s.cells x).refs → x ≡ s.first
    only x l u = top_root.only x l u (omega (arith, r.old x l u, t.shape.low x l u))

    unused : (x : ℕ) → x < 1024 → x ≢ s.first → (at s.cells x).refs ≡ 0
    unused x l ne = ⊎_elim (λ (u : 0 < (at s.cells x).refs). absurd (ne (only x l u))) (λ (z : (at s.cells x).refs ≤ 0). omega arith) (cases_lt 0 (at s.cells x).refs)

    -- the tips of no mode
    abbrev blank : List (Option ℕ)
    blank = replicate 32 None

    free_tips : (x : ℕ) → held blank x ≡ 0
    free_tips x = held_none blank x (λ u. no_tips 32 u x)

    childless : (w : ℕ → ℕ) → under w s.cells s.base s.first ≡ 0
    childless w = tally_none (share w s.cells s.base s.first) 1024 (λ x l. ⊎_elim
        (λ (e : x ≡ s.first). share_not w s.cells s.base s.first x (λ q. omega (arith, owner_oldest s.cells s.base x (ap (λ (y : ℕ). (at s.cells y).layer) e ∙ top_root.layer), first_below)))
        (λ ne. share_none w s.cells s.base s.first x (unused x l ne))
        (cases_eq x s.first))

    ended_valid : Valid (without_root s) blank
    ended_valid =
        let d = decide t single (held blank) (λ x l ne. free_tips x ∙ sym (omega (arith, t.count x l, unused x l ne))) (free_tips s.first) deep in
        record {
          holds = record { size = d.size; shape = d.shape; stack = d.stack; count = d.count; heir = d.heir; wide = rw (eq-eqb (s.base + 1) s.top last) (sym (childless one) ∙ d.wide); oldest = rw (eq-eqb (s.base + 1) s.top last) (sym (childless place) ∙ d.oldest) };
          many = length-replicate {A = Option ℕ} 32 None;
          real = λ u c e. absurd (no_tips 32 u c e);
          newest = λ u c e. absurd (no_tips 32 u c e);
          ends = λ u c e. absurd (no_tips 32 u c e);
          old = λ x l u. rw (kept.same.layer x l) (r.old x l (kept.used x l u));
          none = λ _ u c e. no_tips 32 u c e;
          any = λ q. absurd (omega arith);
        }

-- before the first turn
pub settle_start : {s : Tree} {tips : List (Option ℕ)} (ring : List ℕ) → Valid s tips → Settling s tips ring s tips ring
settle_start {s} ring r = record { valid = r; out = []; base = omega arith; top = refl; written = written_none ring s.base; paths = λ u c e. refl; same_tips = λ _. refl }

-- one more mode is decided
module _ {o : Tree} {tips : List (Option ℕ)} {ring : List ℕ} {s : Tree} {tips' : List (Option ℕ)} {ring' : List ℕ} (g : Settling o tips ring s tips' ring') (long : length ring ≡ 4096) (single : s.width ≡ 1) where
  -- the mode that is decided
  abbrev m : ℕ
  m = (at s.cells s.first).mode

  paths_on : (u c : ℕ) → tip_at tips u ≡ Some c → path_of o tips u ≡ (g.out ++ (m ∷ [])) ++ path (cs' g.valid single) (s.top - (s.base + 1)) c
  paths_on u c e =
      let e' : tip_at tips' u ≡ Some c = ap (λ (z : List (Option ℕ)). tip_at z u) (g.same_tips (deep g.valid single)) ∙ e in
      g.paths u c e ∙ ap (λ (z : List ℕ). g.out ++ z) (shorter g.valid single u c e') ∙ sym (append_assoc g.out (m ∷ []) (path (cs' g.valid single) (s.top - (s.base + 1)) c))

  base_on : s.base + 1 ≡ o.base + length (g.out ++ (m ∷ []))
  base_on = omega (arith, g.base, length_push g.out m)

  ring_on : Written ring o.base (g.out ++ (m ∷ [])) (set ring' (s.base % 4096) m)
  ring_on = rw g.base (written_push ring o.base g.out ring' m long g.written)

  on_at : s.base + 1 ≢ s.top → Settling o tips ring (without_root s) tips' (set ring' (s.base % 4096) m)
  on_at more =
      let same : tips' ≡ tips = g.same_tips (deep g.valid single) in
      record {
        valid = next_valid g.valid single more;
        out = g.out ++ (m ∷ []);
        base = base_on;
        top = g.top;
        written = ring_on;
        paths = λ u c e.
            let e' : tip_at tips' u ≡ Some c = ap (λ (z : List (Option ℕ)). tip_at z u) same ∙ e in
            paths_on u c e ∙ ap (λ (z : List ℕ). (g.out ++ (m ∷ [])) ++ z) (sym (path_is (without_root s) tips' u c e'));
        same_tips = λ _. same;
      }

  end_at : s.base + 1 ≡ s.top → Settling o tips ring (without_root s) (replicate 32 None) (set ring' (s.base % 4096) m)
  end_at last =
      let z : s.top - (s.base + 1) ≡ 0 = omega arith in
      record {
        valid = ended_valid g.valid single last;
        out = g.out ++ (m ∷ []);
        base = base_on;
        top = g.top;
        written = ring_on;
        paths = λ u c e. paths_on u c e ∙ ap (λ (n : ℕ). (g.out ++ (m ∷ [])) ++ path (cs' g.valid single) n c) z
            ∙ sym (ap (λ (n : ℕ). (g.out ++ (m ∷ [])) ++ path (cs' g.valid single) n (unwrap_or (tip_at (replicate 32 None) u) 0)) z);
        same_tips = λ q. absurd (omega arith);
      }

  -- n is the tree after the turn, and v the mode that it decided
  module _ {n : Tree} {v : ℕ} (e : n ≡ without_root s) (f : v ≡ m) where
    pub settle_on : n.base ≢ n.top → Settling o tips ring n tips' (set ring' (s.base % 4096) v)
    settle_on more = rw (e, f) (on_at (λ q. more (ap (λ (z : Tree). z.base) e ∙ q ∙ sym (ap (λ (z : Tree). z.top) e))))

    pub settle_end : n.base ≡ n.top → Settling o tips ring n (replicate 32 None) (set ring' (s.base % 4096) v)
    settle_end last = rw (e, f) (end_at (sym (ap (λ (z : Tree). z.base) e) ∙ last ∙ ap (λ (z : Tree). z.top) e))

    pub settle_less : n.top - n.base < s.top - s.base
    settle_less = omega (arith, deep g.valid single, ap (λ (z : Tree). z.base) e, ap (λ (z : Tree). z.top) e)
