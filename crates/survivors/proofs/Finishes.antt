-- The tree with one tip alone, as `finish` makes it.
use Rattle.std.proofs.Common.{◌≡◌, ℕ, suc, ◌+◌, ◌-◌, ◌<◌, ◌≤◌, List, set, replicate, Some, None, Option, sym, ap, ◌∙◌, ⊎_elim, arith}
use Rattle.std.proofs.lemmas.Bool.{cases_eq, cases_lt}
use Rattle.std.proofs.lemmas.List.{length-set, length-replicate, get_or-set_same, get_or-set_other}
use Rattle.survivors.specs.Cells.{path, plus}
use Rattle.survivors.specs.Trees.{Holds, NoneFrom, Real, Shed, Valid, both, held, path_of, tip_at}
use Rattle.survivors.specs.declared.tree.Tree.{Tree}
use Rattle.survivors.proofs.Shares.{links_held}
use Rattle.survivors.proofs.Decides.{path_is, tip_used}
use Rattle.survivors.proofs.Sprouts.{path_frame}
use Rattle.survivors.proofs.Tips.{none_some, no_tips, blank_at, plus_add, held_none, held_put, held_take, tip_below}

-- no references
abbrev pub nil : ℕ → ℕ
nil x = 0

module _ {s : Tree} {tips : List (Option ℕ)} (r : Valid s tips) (best c : ℕ) (e : tip_at tips best ≡ Some c) where
  bl : best < 32
  bl = omega (arith, tip_below tips best c e, r.many)

  deep : s.base < s.top
  deep = ⊎_elim
      (λ (d : s.base < s.top). d)
      (λ (d : s.top ≤ s.base). absurd (r.none (omega (arith, r.holds.shape.span)) best c e))
      (cases_lt s.base s.top)

  pub shed_by : Holds s (both (set tips best None) (plus nil c))
  shed_by = links_held (λ x _. omega (arith, held_take tips best c x e, plus_add (held (set tips best None)) c x)) r.holds

  pub cut_real : Real (set tips best None)
  cut_real u x q = ⊎_elim
      (λ (k : u ≡ best). absurd (none_some (sym (get_or-set_same tips best None None (tip_below tips best c e)) ∙ ap (tip_at (set tips best None)) (sym k) ∙ q)))
      (λ (ne : u ≡ best → ⊥). r.real u x (sym (get_or-set_other tips best u None None ne) ∙ q))
      (cases_eq u best)

  pub cut_none : {n : ℕ} → NoneFrom n tips → NoneFrom n (set tips best None)
  cut_none none u x l q = ⊎_elim
      (λ (k : u ≡ best). none best c (omega arith) e)
      (λ (ne : u ≡ best → ⊥). none u x l (sym (get_or-set_other tips best u None None ne) ∙ q))
      (cases_eq u best)

  module _ {t : Tree} (d : Shed s (set tips best None) t) where
    -- best's tip alone
    abbrev pub alone : List (Option ℕ)
    alone = set (replicate 32 None) best (Some c)

    pub here : tip_at alone best ≡ Some c
    here = get_or-set_same (replicate 32 None) best (Some c) None (omega (arith, bl, length-replicate {A = Option ℕ} 32 None))

    pub is_best : (u x : ℕ) → tip_at alone u ≡ Some x → (u ≡ best) × (x ≡ c)
    is_best u x q = ⊎_elim
        (λ (k : u ≡ best). (k, let z : Some x ≡ Some c = sym q ∙ ap (tip_at alone) k ∙ here in cc))
        (λ (ne : u ≡ best → ⊥). absurd (no_tips 32 u x (sym (get_or-set_other (replicate 32 None) best u (Some c) None ne) ∙ q)))
        (cases_eq u best)

    pub alone_none : {n : ℕ} → NoneFrom n tips → NoneFrom n alone
    alone_none none u x l q = let k = (is_best u x q).0 in none best c (omega arith) e

    held_alone : (x : ℕ) → plus nil c x ≡ held alone x
    held_alone x = omega (arith, held_put (replicate 32 None) best c x (omega (arith, bl, length-replicate {A = Option ℕ} 32 None)) (blank_at 32 best), plus_add (held (replicate 32 None)) c x, held_none (replicate 32 None) x (λ u. no_tips 32 u x))

    pub alone_valid : Valid t alone
    alone_valid = record {
      holds = links_held (λ x _. held_alone x) (d.holds (plus nil c) shed_by);
      many = length-set (replicate 32 None) best (Some c) ∙ length-replicate {A = Option ℕ} 32 None;
      real = λ u x q. rw (is_best u x q).1 (r.real best c e);
      newest = λ u x q. rw (is_best u x q).1 (omega (arith, d.kept.same.layer c (r.real best c e), d.top, r.newest best c e));
      ends = λ u x q. let b = is_best u x q in rw (b.1, b.0) (d.kept.same.mode c (r.real best c e) ∙ r.ends best c e);
      old = λ x xl u. rw (d.kept.same.layer x xl, d.top) (r.old x xl (d.kept.used x xl u));
      none = λ q. absurd (omega (arith, deep, d.base, d.top));
      any = λ _ no_tip. no_tip best c here;
    }

    pub alone_path : path_of t alone best ≡ path_of s tips best
    alone_path =
        let n = s.top - (s.base + 1) in
        let a : t.top - t.base ≡ suc n = omega (arith, d.base, d.top, deep) in
        let b : s.top - s.base ≡ suc n = omega (arith, deep) in
        path_is t alone best c here
        ∙ ap (λ (j : ℕ). path t.cells j c) a
        ∙ path_frame s (held tips) r.holds t.cells
        (λ y yl w. d.kept.same.parent y yl)
        (λ y yl w. d.kept.same.mode y yl)
        n c (r.real best c e) (tip_used r best c e) (omega (arith, r.newest best c e, deep))
        ∙ sym (ap (λ (j : ℕ). path s.cells j c) b)
        ∙ sym (path_is s tips best c e)
