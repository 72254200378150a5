-- The oldest layer has one cell, and that cell is decided.
use Rattle.std.proofs.Common.{◌≡◌, ℕ, zero, suc, ◌+◌, ◌<◌, ◌≤◌, ◌≢◌, List, [], ◌∷◌, ◌++◌, length, sym, refl, ap, ◌∙◌, subst, ⊎_elim, arith}
use Rattle.std.proofs.lemmas.Bool.{cases_eq, cases_lt}
use Rattle.std.proofs.lemmas.List.{length-set}
use Rattle.survivors.specs.Cells.{Kept, Links, at, one, owner, path, place, recount, share, under}
use Rattle.survivors.specs.declared.tree.Cell.{Cell}
use Rattle.survivors.proofs.Tallies.{tally_same, tally_two, tally_some, tally_only, tally_none}
use Rattle.survivors.proofs.Shares.{recount_other, recount_refs, recount_same, share_none, share_mine, share_not, share_zero, owner_oldest, owner_parent, owner_used}
use Rattle.survivors.proofs.Freed.{Gone, gone_kept, stack_more}

module _ {cs : List Cell} {free : List ℕ} {base top width first : ℕ} {h : ℕ → ℕ} (t : Links cs free base top width first h) where
  -- a cell in use whose owner is the root is in the oldest layer
  pub oldest_by : (x : ℕ) → x < 1024 → 0 < (at cs x).refs → owner cs base x ≡ 1024 → (at cs x).layer ≡ base
  oldest_by x l u e = ⊎_elim
      (λ (q : (at cs x).layer ≡ base). q)
      (λ (ne : (at cs x).layer ≡ base → ⊥).
      let o = owner_parent cs base x ne in
      absurd (omega (arith, t.shape.up x l u (omega (arith, t.shape.low x l u, ne)), o, e)))
      (cases_eq (at cs x).layer base)

  -- a weight shows a cell in use, with its owner
  pub seen : (o x : ℕ) → 0 < share one cs base o x → (0 < (at cs x).refs) × (owner cs base x ≡ o)
  seen o x k = (
    ⊎_elim (λ (u : 0 < (at cs x).refs). u) (λ (z : (at cs x).refs ≤ 0). absurd (omega (arith, share_none one cs base o x (omega arith)))) (cases_lt 0 (at cs x).refs),
    ⊎_elim (λ (q : owner cs base x ≡ o). q) (λ (ne : owner cs base x ≡ o → ⊥). absurd (omega (arith, share_not one cs base o x ne))) (cases_eq (owner cs base x) o),
  )

  module _ (single : width ≡ 1) where
    pub record Root (r : ℕ) : Type 0 where
      pub here : r < 1024
      pub used : 0 < (at cs r).refs
      pub layer : (at cs r).layer ≡ base
      pub only : (x : ℕ) → x < 1024 → 0 < (at cs x).refs → (at cs x).layer ≡ base → x ≡ r

    found : (r : ℕ) × (r < 1024) × (0 < share one cs base 1024 r)
    found = tally_some (share one cs base 1024) 1024 (omega (arith, t.wide))

    no_other : (x y : ℕ) → x < 1024 → y < 1024 → 0 < share one cs base 1024 x → 0 < share one cs base 1024 y → x ≡ y
    no_other x y l m a b = ⊎_elim
        (λ (e : x ≡ y). e)
        (λ (ne : x ≡ y → ⊥). ⊎_elim
        (λ (k : x < y). absurd (omega (arith, tally_two (share one cs base 1024) x y 1024 k m, t.wide)))
        (λ (k : y ≤ x). let k' : y < x = omega arith in absurd (omega (arith, tally_two (share one cs base 1024) y x 1024 k' l, t.wide)))
        (cases_lt x y))
        (cases_eq x y)

    found_root : Root found.0
    found_root =
        let r = found.0 in
        let s = seen 1024 r found.2 in
        record {
          here = found.1;
          used = s.0;
          layer = oldest_by r found.1 s.0 s.1;
          only = λ x l u e. no_other x r l found.1 (omega (arith, share_mine one cs base 1024 x u (owner_oldest cs base x e))) found.2;
        }

    first_is : first ≡ found.0
    first_is =
        let r = found.0 in
        let s = seen 1024 r found.2 in
        let e : under place cs base 1024 ≡ share place cs base 1024 r =
        tally_only (share place cs base 1024) r 1024 found.1 (λ x l ne. share_zero place cs base 1024 x (⊎_elim
        (λ (k : 0 < share one cs base 1024 x). absurd (ne (no_other x r l found.1 k found.2)))
        (λ (k : share one cs base 1024 x ≤ 0). omega arith)
        (cases_lt 0 (share one cs base 1024 x)))) in
        t.oldest ∙ e ∙ share_mine place cs base 1024 r s.0 s.1

    pub root : Root first
    root = subst Root (sym first_is) found_root

    -- the cells without the root
    abbrev pub rootless : List Cell
    rootless = recount cs first 0 (at cs first).heirs

    fits : first < length cs
    fits = omega (arith, t.size, root.here)

    pub root_gone : Gone cs rootless first
    root_gone = record {
      here = root.here;
      was = root.used;
      none = recount_refs cs first 0 (at cs first).heirs fits;
      others = λ x l ne. ap (λ (v : Cell). v.refs) (recount_other cs first 0 (at cs first).heirs fits x ne);
      same = recount_same cs first 0 (at cs first).heirs fits;
    }

    pub root_kept : Kept cs rootless
    root_kept = gone_kept cs rootless first root_gone

    -- a cell in use after is not the root, and is in a later layer
    not_root : (x : ℕ) → x < 1024 → 0 < (at rootless x).refs → x ≢ first
    not_root x l u q = let z : (at rootless x).refs ≡ 0 = rw q root_gone.none in omega arith

    later : (x : ℕ) → x < 1024 → 0 < (at rootless x).refs → base < (at cs x).layer
    later x l u =
        let u' = root_kept.used x l u in
        ⊎_elim
        (λ (e : (at cs x).layer ≡ base). absurd (not_root x l u (root.only x l u' e)))
        (λ (ne : (at cs x).layer ≡ base → ⊥). omega (arith, t.shape.low x l u'))
        (cases_eq (at cs x).layer base)

    -- the second layer is below the root
    second : (x : ℕ) → x < 1024 → 0 < (at cs x).refs → (at cs x).layer ≡ base + 1 → (at cs x).parent ≡ first
    second x l u e =
        let d : base < (at cs x).layer = omega arith in
        let p = t.shape.up x l u d in
        let o : owner cs base x ≡ (at cs x).parent = owner_parent cs base x (λ q. omega arith) in
        let k : 0 < under one cs base (at cs x).parent = rw o at (owner_used cs base x l u) in
        root.only (at cs x).parent p (omega (arith, t.count (at cs x).parent p)) (omega (arith, t.shape.step x l u d))

    third : (x : ℕ) → x < 1024 → 0 < (at cs x).refs → base + 1 < (at cs x).layer → (at cs x).parent ≢ first
    third x l u d q =
        let s : (at cs (at cs x).parent).layer + 1 ≡ (at cs x).layer = t.shape.step x l u (omega arith) in
        let s' : (at cs first).layer + 1 ≡ (at cs x).layer = rw q at s in
        omega (arith, root.layer)

    -- the owner after
    owner_second : (x : ℕ) → x < 1024 → (at cs x).layer ≡ base + 1 → owner rootless (base + 1) x ≡ 1024
    owner_second x l e = owner_oldest rootless (base + 1) x (root_gone.same.layer x l ∙ e)

    owner_third : (x : ℕ) → x < 1024 → (at cs x).layer ≢ base + 1 → owner rootless (base + 1) x ≡ (at cs x).parent
    owner_third x l ne = owner_parent rootless (base + 1) x (λ q. ne (sym (root_gone.same.layer x l) ∙ q)) ∙ root_gone.same.parent x l

    -- a cell out of use, the root, or a cell of a later layer
    each : (x : ℕ) → x < 1024 → (P : Type 0) → ((at rootless x).refs ≡ 0 → (at cs x).refs ≡ 0 → P) → (x ≡ first → P)
        → (0 < (at rootless x).refs → 0 < (at cs x).refs → (at cs x).layer ≡ base + 1 → P)
        → (0 < (at rootless x).refs → 0 < (at cs x).refs → base + 1 < (at cs x).layer → P) → P
    each x l P out is_root next after = ⊎_elim
        (λ (e : x ≡ first). is_root e)
        (λ (ne : x ≡ first → ⊥). ⊎_elim
        (λ (u : 0 < (at rootless x).refs).
        let d = later x l u in
        let u' = root_kept.used x l u in
        ⊎_elim (λ (e : (at cs x).layer ≡ base + 1). next u u' e) (λ (n : (at cs x).layer ≡ base + 1 → ⊥). after u u' (omega arith)) (cases_eq (at cs x).layer (base + 1)))
        (λ (z : (at rootless x).refs ≤ 0). out (omega arith) (omega (arith, root_gone.others x l ne)))
        (cases_lt 0 (at rootless x).refs))
        (cases_eq x first)

    root_share : (w : ℕ → ℕ) (o : ℕ) → o ≢ 1024 → share w cs base o first ≡ 0
    root_share w o ne = share_not w cs base o first (λ q. ne (sym q ∙ owner_oldest cs base first root.layer))

    share_rest : (w : ℕ → ℕ) (o : ℕ) → o < 1024 → o ≢ first → (x : ℕ) → x < 1024 → share w rootless (base + 1) o x ≡ share w cs base o x
    share_rest w o ol ne x l =
        each x l (share w rootless (base + 1) o x ≡ share w cs base o x)
        (λ a b. share_none w rootless (base + 1) o x a ∙ sym (share_none w cs base o x b))
        (λ e. subst (λ (y : ℕ). share w rootless (base + 1) o y ≡ share w cs base o y) (sym e)
        (share_none w rootless (base + 1) o first root_gone.none ∙ sym (root_share w o (λ q. omega arith))))
        (λ u u' e.
        share_not w rootless (base + 1) o x (λ q. omega (arith, owner_second x l e))
        ∙ sym (share_not w cs base o x (λ q. ne (sym q ∙ owner_parent cs base x (λ z. omega arith) ∙ second x l u' e))))
        (λ u u' d.
        let n1 : (at cs x).layer ≢ base + 1 = λ z. omega arith in
        let n2 : (at cs x).layer ≢ base = λ z. omega arith in
        let a = owner_third x l n1 in
        let b = owner_parent cs base x n2 in
        ⊎_elim
        (λ (q : (at cs x).parent ≡ o). share_mine w rootless (base + 1) o x u (a ∙ q) ∙ sym (share_mine w cs base o x u' (b ∙ q)))
        (λ nq. share_not w rootless (base + 1) o x (λ z. nq (sym a ∙ z)) ∙ sym (share_not w cs base o x (λ z. nq (sym b ∙ z))))
        (cases_eq (at cs x).parent o))

    share_first : (w : ℕ → ℕ) (x : ℕ) → x < 1024 → share w rootless (base + 1) first x ≡ 0
    share_first w x l =
        each x l (share w rootless (base + 1) first x ≡ 0)
        (λ a b. share_none w rootless (base + 1) first x a)
        (λ e. subst (λ (y : ℕ). share w rootless (base + 1) first y ≡ 0) (sym e) (share_none w rootless (base + 1) first first root_gone.none))
        (λ u u' e. share_not w rootless (base + 1) first x (λ q. omega (arith, owner_second x l e, root.here)))
        (λ u u' d. share_not w rootless (base + 1) first x (λ q. third x l u' d (sym (owner_third x l (λ z. omega arith)) ∙ q)))

    share_top : (w : ℕ → ℕ) (x : ℕ) → x < 1024 → share w rootless (base + 1) 1024 x ≡ share w cs base first x
    share_top w x l =
        each x l (share w rootless (base + 1) 1024 x ≡ share w cs base first x)
        (λ a b. share_none w rootless (base + 1) 1024 x a ∙ sym (share_none w cs base first x b))
        (λ e. subst (λ (y : ℕ). share w rootless (base + 1) 1024 y ≡ share w cs base first y) (sym e)
        (share_none w rootless (base + 1) 1024 first root_gone.none ∙ sym (root_share w first (λ q. omega (arith, root.here)))))
        (λ u u' e. share_mine w rootless (base + 1) 1024 x u (owner_second x l e) ∙ sym (share_mine w cs base first x u' (owner_parent cs base x (λ z. omega arith) ∙ second x l u' e)))
        (λ u u' d.
        let n1 : (at cs x).layer ≢ base + 1 = λ z. omega arith in
        let n2 : (at cs x).layer ≢ base = λ z. omega arith in
        share_not w rootless (base + 1) 1024 x (λ q. omega (arith, owner_third x l n1, t.shape.up x l u' (omega arith)))
        ∙ sym (share_not w cs base first x (λ q. third x l u' d (sym (owner_parent cs base x n2) ∙ q))))

    pub decide : (h' : ℕ → ℕ) → ((x : ℕ) → x < 1024 → x ≢ first → h' x ≡ h x) → h' first ≡ 0 → base < top
        → Links rootless (free ++ first ∷ []) (base + 1) top (under one cs base first) (under place cs base first) h'
    decide h' same none more =
        record {
          size = length-set cs first _ ∙ t.size;
          shape = record {
            span = omega arith;
            low = λ x l u. rw (root_gone.same.layer x l) (omega (arith, later x l u));
            high = λ x l u. rw (root_gone.same.layer x l) (t.shape.high x l (root_kept.used x l u));
            up = λ x l u b. rw (root_gone.same.parent x l) (t.shape.up x l (root_kept.used x l u) (later x l u));
            step = λ x l u b.
                let p = t.shape.up x l (root_kept.used x l u) (later x l u) in
                rw (root_gone.same.parent x l, root_gone.same.layer x l, root_gone.same.layer (at cs x).parent p) (t.shape.step x l (root_kept.used x l u) (later x l u));
            small = λ x l u. rw (root_gone.same.mode x l) (t.shape.small x l (root_kept.used x l u));
            lone = λ x y l m u v e f. t.shape.lone x y l m (root_kept.used x l u) (root_kept.used y m v) (sym (root_gone.same.layer x l) ∙ e ∙ root_gone.same.layer y m) (sym (root_gone.same.mode x l) ∙ f ∙ root_gone.same.mode y m);
          };
          stack = stack_more cs rootless first root_gone free t.stack;
          count = λ x l. ⊎_elim
              (λ (e : x ≡ first). subst (λ (y : ℕ). (at rootless y).refs ≡ under one rootless (base + 1) y + h' y) (sym e)
              (omega (arith, root_gone.none, tally_none (share one rootless (base + 1) first) 1024 (share_first one))))
              (λ (ne : x ≡ first → ⊥). omega (arith, root_gone.others x l ne, t.count x l, same x l ne, tally_same (share one rootless (base + 1) x) (share one cs base x) 1024 (share_rest one x l ne)))
              (cases_eq x first);
          heir = λ x l u.
              let ne = not_root x l u in
              ap (λ (v : Cell). v.heirs) (recount_other cs first 0 (at cs first).heirs fits x ne)
              ∙ t.heir x l (root_kept.used x l u)
              ∙ sym (tally_same (share place rootless (base + 1) x) (share place cs base x) 1024 (share_rest place x l ne));
          wide = sym (tally_same (share one rootless (base + 1) 1024) (share one cs base first) 1024 (share_top one));
          oldest = sym (tally_same (share place rootless (base + 1) 1024) (share place cs base first) 1024 (share_top place));
        }

    -- every path begins with the root's mode
    pub path_root : (n c : ℕ) → c < 1024 → 0 < (at cs c).refs → (at cs c).layer ≡ base + n → path cs (suc n) c ≡ (at cs first).mode ∷ path rootless n c
    path_root zero c l u e = ap (λ (x : ℕ). (at cs x).mode ∷ []) (root.only c l u (omega arith))
    path_root (suc n) c l u e =
        let d : base < (at cs c).layer = omega arith in
        let p = t.shape.up c l u d in
        let o : owner cs base c ≡ (at cs c).parent = owner_parent cs base c (λ q. omega arith) in
        let k : 0 < under one cs base (at cs c).parent = rw o at (owner_used cs base c l u) in
        let i = path_root n (at cs c).parent p (omega (arith, t.count (at cs c).parent p)) (omega (arith, t.shape.step c l u d)) in
        rw (i, root_gone.same.parent c l, root_gone.same.mode c l) refl
