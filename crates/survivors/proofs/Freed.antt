-- A reference to a cell is given back: the cell stays in use, or is free.
use Rattle.std.proofs.Common.{◌≡◌, ℕ, ◌+◌, ◌<◌, cond, ltb, ◌≢◌, List, [], ◌∷◌, ◌++◌, length, get_or, sym, refl, ap, ◌∙◌, subst, ⊎_elim, arith}
use Rattle.std.proofs.lemmas.Bool.{cases_eq, lt-ltb}
use Rattle.std.proofs.lemmas.List.{get_or_append_left, get_or_push, length_push}
use Rattle.survivors.specs.Sums.{tally}
use Rattle.survivors.specs.Cells.{Kept, Same, Stack, at, in_use, owner, share, under}
use Rattle.survivors.specs.declared.tree.Cell.{Cell}
use Rattle.survivors.proofs.Tallies.{tally_change}
use Rattle.survivors.proofs.Shares.{share_same, share_none, share_mine, share_not}

-- the cell c has left the tree: it alone is no more in use
pub record Gone (cs cs' : List Cell) (c : ℕ) : Type 0 where
  pub here : c < 1024
  pub was : 0 < (at cs c).refs
  pub none : (at cs' c).refs ≡ 0
  pub others : (x : ℕ) → x < 1024 → x ≢ c → (at cs' x).refs ≡ (at cs x).refs
  pub same : Same cs cs'

module _ (cs cs' : List Cell) (c : ℕ) (g : Gone cs cs' c) where
  pub gone_kept : Kept cs cs'
  gone_kept =
      record {
        used = λ x l u. ⊎_elim (λ (e : x ≡ c). subst (λ (y : ℕ). 0 < (at cs y).refs) (sym e) g.was) (λ ne. rw (g.others x l ne) at u) (cases_eq x c);
        same = g.same;
      }

  shares : (w : ℕ → ℕ) (base o : ℕ) → (x : ℕ) → x < 1024 → x ≢ c → share w cs base o x ≡ share w cs' base o x
  shares w base o x l ne = share_same w cs cs' base o x (g.same.layer x l) (g.same.parent x l) (ap (λ (n : ℕ). ltb 0 n) (g.others x l ne))

  pub under_owner : (w : ℕ → ℕ) (base : ℕ) → under w cs' base (owner cs base c) + w c ≡ under w cs base (owner cs base c)
  under_owner w base =
      let o = owner cs base c in
      let t = tally_change (share w cs base o) (share w cs' base o) c 1024 g.here (shares w base o) in
      let a = share_mine w cs base o c g.was refl in
      let b = share_none w cs' base o c g.none in
      omega arith

  pub under_other : (w : ℕ → ℕ) (base o : ℕ) → owner cs base c ≢ o → under w cs' base o ≡ under w cs base o
  under_other w base o ne =
      let t = tally_change (share w cs base o) (share w cs' base o) c 1024 g.here (shares w base o) in
      let a = share_not w cs base o c ne in
      let b = share_none w cs' base o c g.none in
      omega arith

  use_less : in_use cs' + 1 ≡ in_use cs
  use_less =
      let f : ℕ → ℕ = λ x. cond (ltb 0 (at cs x).refs) 1 0 in
      let f' : ℕ → ℕ = λ x. cond (ltb 0 (at cs' x).refs) 1 0 in
      let t : tally f' 1024 + f c ≡ tally f 1024 + f' c = tally_change f f' c 1024 g.here (λ x l ne. ap (λ (n : ℕ). cond (ltb 0 n) 1 0) (sym (g.others x l ne))) in
      let a : f c ≡ 1 = rw (lt-ltb 0 (at cs c).refs g.was) refl in
      let b : f' c ≡ 0 = rw g.none refl in
      omega arith

  pub stack_more : (free : List ℕ) → Stack cs free → Stack cs' (free ++ c ∷ [])
  stack_more free s =
      let n = length_push free c in
      let old : (k : ℕ) → k < length free → get_or (free ++ c ∷ []) k 0 ≡ get_or free k 0 = get_or_append_left free (c ∷ []) 0 in
      let new : (k : ℕ) → k ≡ length free → get_or (free ++ c ∷ []) k 0 ≡ c = λ k e. get_or_push free c 0 k (sym e) in
      record {
        live = omega (arith, s.live, n, use_less);
        below = λ k l. ⊎_elim
            (λ (e : k ≡ length free). rw (new k e) g.here)
            (λ (ne : k ≡ length free → ⊥). let kr : k < length free = omega (arith, n) in rw (old k kr) (s.below k kr))
            (cases_eq k (length free));
        empty = λ k l. ⊎_elim
            (λ (e : k ≡ length free). rw (new k e) g.none)
            (λ (ne : k ≡ length free → ⊥).
            let kr : k < length free = omega (arith, n) in
            rw (old k kr) (g.others (get_or free k 0) (s.below k kr) (off free s k kr) ∙ s.empty k kr))
            (cases_eq k (length free));
        apart = λ j k l m. ⊎_elim
            (λ (e : k ≡ length free). let jr : j < length free = omega arith in rw (new k e, old j jr) (off free s j jr))
            (λ (ne : k ≡ length free → ⊥).
            let kr : k < length free = omega (arith, n) in
            let jr : j < length free = omega arith in
            rw (old k kr, old j jr) (s.apart j k l kr))
            (cases_eq k (length free));
      }
    where
      off : (free : List ℕ) → Stack cs free → (k : ℕ) → k < length free → get_or free k 0 ≢ c
      off free s k l q =
          let z : (at cs (get_or free k 0)).refs ≡ 0 = s.empty k l in
          let z' : (at cs c).refs ≡ 0 = rw q at z in
          omega (arith, g.was)
