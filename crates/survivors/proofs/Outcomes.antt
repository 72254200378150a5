-- What the calls come to, as a caller sees it.
use Rattle.std.proofs.Common.{◌≡◌, ℕ, ◌-◌, ◌<◌, ◌≤◌, List, [], ◌++◌, length, set, replicate, Some, None, Option, sym, refl, ap, ◌∙◌, subst, ⊎_elim, append-nil, length-append, arith}
use Rattle.std.proofs.lemmas.Bool.{cases_lt}
use Rattle.std.proofs.lemmas.List.{nil_from_length}
use Rattle.viterbi.specs.Lists.{Begins, Counted, Shared}
use Rattle.survivors.specs.Ring.{Written}
use Rattle.survivors.specs.Trees.{Apart, Layered, Next, Settling, Shed, path_of, tip_at}
use Rattle.survivors.specs.Survivors.{Blank, Finished, Grown, HasTip, MayGrow, OnPath, PathOf, Settled, decided, path_to, taken}
use Rattle.survivors.specs.declared.Survivors.{Survivors}
use Rattle.survivors.proofs.Lists.{before_fork}
use Rattle.survivors.proofs.Rings.{written_none}
use Rattle.survivors.proofs.Tips.{none_some}
use Rattle.survivors.proofs.Finishes.{here, is_best, alone_path}
use Rattle.survivors.proofs.Laws.{tip_is, has_tip, some_tip, decided_taken, path_to_none, path_to_length, room_live}

-- what `grow` needs of the tree
pub next_of : (s : Survivors) (preds : List (Option ℕ)) → MayGrow s preds → Next s.tree s.tips preds
next_of s preds g = record {
  valid = s.valid;
  many = g.few;
  room = omega (arith, room_live s g.room.0 g.room.1, g.room.2);
  bound = g.bound;
  some = g.some;
  mode = g.mode;
  from = λ u p e d. tip_is s p (g.from u p e d);
}

pub grown_of : (s : Survivors) (preds : List (Option ℕ)) (t : Survivors) → Layered s.tree s.tips preds t.tree t.tips → Grown s preds t
grown_of s preds t g = record {
  one_more = g.top;
  none_decided = g.base;
  tips = λ u p e. let f = g.reach u p e in has_tip t u f.0 f.1;
  paths = g.paths;
  no_tip = λ u e h. let f = tip_is t u h in none_some (sym (g.unreach u e) ∙ f.1);
}

-- without undecided readings no mode has a tip
no_tips : (t : Survivors) → decided t ≡ taken t → (u : ℕ) → HasTip t u → ⊥
no_tips t e u h = let f = tip_is t u h in t.valid.none e u f.0 f.1

no_live : (t : Survivors) → ((u : ℕ) → HasTip t u → ⊥) → Counted (OnPath t) 0
no_live t none = record { pairs = []; many = refl; once = tt; all = λ i m o. absurd (none o.to o.tip); only = λ i m h. absurd h }

pub blank_of : (t : Survivors) → taken t ≡ 0 → decided t ≡ 0 → Blank t
blank_of t p b = let none = no_tips t (b ∙ sym p) in record { none_taken = p; none_decided = b; no_tip = none; no_live = no_live t none }

module _ (s : Survivors) {ring : List ℕ} (t : Survivors) {ring' : List ℕ} (g : Settling s.tree s.tips ring t.tree t.tips ring') (most : decided t < taken t → Apart t.tree t.tips) where
  still : decided t < taken t → (u c : ℕ) → tip_at t.tips u ≡ Some c → HasTip s u
  still d u c e = has_tip s u c (ap (λ (z : List (Option ℕ)). tip_at z u) (sym (g.same_tips d)) ∙ e)

  on : (u : ℕ) → HasTip s u → path_to s u ≡ g.out ++ path_to t u
  on u h = let f = tip_is s u h in g.paths u f.0 f.1

  -- where some reading is undecided, a shared beginning ends before two paths part
  undecided_most : (e : List ℕ) → Shared (taken s - decided s) (PathOf s) e → decided t < taken t → Begins e g.out
  undecided_most e h d =
      let a = most d in
      let hu = still d a.u a.c a.utip in
      let hv = still d a.v a.d a.vtip in
      let bu = h.begins (path_to s a.u) (a.u, hu, refl) in
      let bv = h.begins (path_to s a.v) (a.v, hv, refl) in
      before_fork e g.out (path_to t a.u) (path_to t a.v) bu.0 bv.0 (sym (on a.u hu) ∙ bu.1) (sym (on a.v hv) ∙ bv.1) a.differ

  -- where none is, the whole path is decided
  decided_most : (e : List ℕ) → Shared (taken s - decided s) (PathOf s) e → taken t ≤ decided t → Begins e g.out
  decided_most e h d = ⊎_elim
      (λ (l : decided s < taken s).
      let f = some_tip s l in
      let b = h.begins (path_to s f.0) (f.0, f.1, refl) in
      (b.0, sym (append-nil g.out) ∙ ap (λ (z : List ℕ). g.out ++ z) (sym (path_to_none t f.0 d)) ∙ sym (on f.0 f.1) ∙ b.1))
      (λ (l : taken s ≤ decided s). (g.out, sym (ap (λ (z : List ℕ). z ++ g.out) (nil_from_length e (omega (arith, h.within))))))
      (cases_lt (decided s) (taken s))

  pub settled_of : Settled s ring t ring'
  settled_of = record {
    out = g.out;
    longest = record {
      shared = record {
        within = omega (arith, g.base, g.top, g.valid.holds.shape.span);
        begins = λ p f. (path_to t f.0, f.2 ∙ on f.0 f.1);
      };
      longest = λ e h. ⊎_elim (undecided_most e h) (decided_most e h) (cases_lt (decided t) (taken t));
    };
    none_taken = g.top;
    more_decided = g.base;
    written = g.written;
    paths = on;
    tips = λ u h d. rw (g.same_tips d) h;
    no_tip = λ u h. let f = tip_is t u h in ⊎_elim
        (λ (d : decided t < taken t). (still d u f.0 f.1, d))
        (λ (d : taken t ≤ decided t). absurd (no_tips t (omega (arith, g.valid.holds.shape.span)) u h))
        (cases_lt (decided t) (taken t));
  }

-- s' is s with best's tip alone: all of its path is decided, since no other path parts from it
pub finished_of : (s : Survivors) (best c : ℕ) (e : tip_at s.tips best ≡ Some c) (s' : Survivors) (d : Shed s.tree (set s.tips best None) s'.tree) → s'.tips ≡ set (replicate 32 None) best (Some c)
    → {ring : List ℕ} {t : Survivors} {ring' : List ℕ} → Settled s' ring t ring' → Finished s best ring t ring'
finished_of s best c e s' d a {ring} {t} {ring'} g =
    let n = path_to_length s' best in
    let b = g.longest.longest (path_to s' best) (record { within = omega (arith, n); begins = λ q f. ([], only q f ∙ sym (append-nil (path_to s' best))) }) in
    let all : decided t ≡ taken t = omega (arith, g.more_decided, g.none_taken, decided_taken t, decided_taken s', n, ap length b.1, length-append (path_to s' best) b.0) in
    let none = no_tips t all in
    record {
      none_taken = g.none_taken ∙ d.top;
      all_decided = all ∙ g.none_taken ∙ d.top;
      written = subst (λ (k : ℕ). Written ring k (path_to s best) ring') d.base (subst (λ (z : List ℕ). Written ring (decided s') z ring') (out (omega arith)) g.written);
      no_tip = none;
      no_live = no_live t none;
    }
  where
    tip : HasTip s' best
    tip = has_tip s' best c (ap (λ (z : List (Option ℕ)). tip_at z best) a ∙ here s.valid best c e d)

    only : (q : List ℕ) → PathOf s' q → q ≡ path_to s' best
    only q f =
        let k = tip_is s' f.0 f.1 in
        f.2 ∙ ap (path_to s') (is_best s.valid best c e d f.0 k.0 (ap (λ (z : List (Option ℕ)). tip_at z f.0) (sym a) ∙ k.1)).0

    path_same : path_to s' best ≡ path_to s best
    path_same = ap (λ (z : List (Option ℕ)). path_of s'.tree z best) a ∙ alone_path s.valid best c e d

    out : taken t ≤ decided t → g.out ≡ path_to s best
    out l = sym (append-nil g.out) ∙ ap (λ (z : List ℕ). g.out ++ z) (sym (path_to_none t best l)) ∙ sym (g.paths best tip) ∙ path_same

-- with no undecided reading, nothing happens
pub finished_none : (s : Survivors) (best : ℕ) (ring : List ℕ) → taken s ≤ decided s → Finished s best ring s ring
finished_none s best ring l =
    let e : decided s ≡ taken s = omega (arith, decided_taken s) in
    record {
      none_taken = refl;
      all_decided = e;
      written = subst (λ (z : List ℕ). Written ring (decided s) z ring) (sym (path_to_none s best l)) (written_none ring (decided s));
      no_tip = no_tips s e;
      no_live = no_live s (no_tips s e);
    }
