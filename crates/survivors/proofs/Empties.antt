-- The empty tree.
use Rattle.std.proofs.Common.{◌≡◌, ℕ, zero, suc, ◌+◌, ◌-◌, ◌<◌, ◌≤◌, cond, ltb, ◌≢◌, List, length, get_or, replicate, None, Option, sym, ap, ◌∙◌, ⊎_elim, arith}
use Rattle.std.proofs.lemmas.Bool.{cases_lt}
use Rattle.std.proofs.lemmas.List.{get_or-replicate, length-replicate}
use Rattle.survivors.specs.Cells.{Links, Stack, at, in_use, one, place, share, under, void}
use Rattle.survivors.specs.Trees.{Cleared, Valid}
use Rattle.survivors.specs.declared.tree.Cell.{Cell}
use Rattle.survivors.specs.declared.tree.Tree.{Tree}
use Rattle.survivors.proofs.Tallies.{tally_none, tally_some}
use Rattle.survivors.proofs.Shares.{share_none, owner_oldest, owner_parent, links_held}
use Rattle.survivors.proofs.Roots.{seen}
use Rattle.survivors.proofs.Tips.{held_none, no_tips}

idle : (cs : List Cell) → ((x : ℕ) → x < 1024 → (at cs x).refs ≡ 0) → in_use cs ≡ 0
idle cs z = tally_none (λ x. cond (ltb 0 (at cs x).refs) 1 0) 1024 (λ x l. ap (λ (y : ℕ). cond (ltb 0 y) 1 0) (z x l))

-- links of cells of which none is in use
pub loose : {cs : List Cell} {free : List ℕ} {base top width first : ℕ} → length cs ≡ 1024 → ((x : ℕ) → x < 1024 → (at cs x).refs ≡ 0) → Stack cs free → base ≤ top → width ≡ 0 → first ≡ 0
    → Links cs free base top width first (λ _. 0)
loose {cs} {free} {base} n z st b w f =
    let out : (x : ℕ) → x < 1024 → 0 < (at cs x).refs → ⊥ = λ x l u. omega (arith, z x l) in
    let nothing : (v : ℕ → ℕ) (o : ℕ) → under v cs base o ≡ 0 = λ v o. tally_none (share v cs base o) 1024 (λ x l. share_none v cs base o x (z x l)) in
    record {
      size = n;
      shape = record {
        span = b;
        low = λ x l u. absurd (out x l u);
        high = λ x l u. absurd (out x l u);
        up = λ x l u. absurd (out x l u);
        step = λ x l u. absurd (out x l u);
        small = λ x l u. absurd (out x l u);
        lone = λ x y l m u. absurd (out x l u);
      };
      stack = st;
      count = λ x l. omega (arith, z x l, nothing one x);
      heir = λ x l u. absurd (out x l u);
      wide = omega (arith, nothing one 1024);
      oldest = omega (arith, nothing place 1024);
    }

-- where nothing is held, no cell is in use
module _ {cs : List Cell} {free : List ℕ} {base top width first : ℕ} (t : Links cs free base top width first (λ _. 0)) where
  kid : (x : ℕ) → x < 1024 → 0 < (at cs x).refs → (y : ℕ) × (y < 1024) × (0 < (at cs y).refs) × ((at cs x).layer + 1 ≡ (at cs y).layer)
  kid x l u =
      let f = tally_some (share one cs base x) 1024 (omega (arith, t.count x l)) in
      let v = seen t x f.0 f.2 in
      let young : (at cs f.0).layer ≢ base = λ q. omega (arith, owner_oldest cs base f.0 q, v.1) in
      let p : (at cs f.0).parent ≡ x = sym (owner_parent cs base f.0 young) ∙ v.1 in
      let st : (at cs (at cs f.0).parent).layer + 1 ≡ (at cs f.0).layer = t.shape.step f.0 f.1 v.0 (omega (arith, t.shape.low f.0 f.1 v.0, young)) in
      (f.0, f.1, v.0, rw p at st)

  bare : (k x : ℕ) → x < 1024 → 0 < (at cs x).refs → (at cs x).layer + k ≡ top → ⊥
  bare zero x l u e = let y = kid x l u in omega (arith, t.shape.high y.0 y.1 y.2, y.3)
  bare (suc k) x l u e = let y = kid x l u in bare k y.0 y.1 y.2 (omega (arith, y.3))

  pub bare_cells : (x : ℕ) → x < 1024 → (at cs x).refs ≡ 0
  bare_cells x l = ⊎_elim
      (λ (u : 0 < (at cs x).refs). absurd (bare (top - (at cs x).layer) x l u (omega (arith, t.shape.high x l u))))
      (λ (z : (at cs x).refs ≤ 0). omega arith)
      (cases_lt 0 (at cs x).refs)

  none_under : (v : ℕ → ℕ) (o : ℕ) → under v cs base o ≡ 0
  none_under v o = tally_none (share v cs base o) 1024 (λ x l. share_none v cs base o x (bare_cells x l))

  -- and all readings may be forgotten
  pub forgotten : Links cs free 0 0 width first (λ _. 0)
  forgotten = loose t.size bare_cells t.stack (omega arith) (omega (arith, t.wide, none_under one 1024)) (omega (arith, t.oldest, none_under place 1024))

-- a tree that holds nothing, without tips
pub blank_valid : (s : Tree) → Cleared s → Valid s (replicate 32 None)
blank_valid s c = record {
  holds = links_held (λ x l. sym (held_none (replicate 32 None) x (λ u. no_tips 32 u x))) c.holds;
  many = length-replicate {A = Option ℕ} 32 None;
  real = λ u d e. absurd (no_tips 32 u d e);
  newest = λ u d e. absurd (no_tips 32 u d e);
  ends = λ u d e. absurd (no_tips 32 u d e);
  old = λ x l u. absurd (omega (arith, bare_cells c.holds x l));
  none = λ _ u d e. no_tips 32 u d e;
  any = λ l. absurd (omega (arith, c.base, c.top));
}

-- the stack that holds every cell
pub full : (cs : List Cell) (free : List ℕ) → length free ≡ 1024 → ((x : ℕ) → x < 1024 → (at cs x).refs ≡ 0) → ((k : ℕ) → k < 1024 → get_or free k 0 ≡ k) → Stack cs free
full cs free n z k = record {
  live = omega (arith, idle cs z);
  below = λ j l. let m : j < 1024 = omega arith in rw (k j m) m;
  empty = λ j l. let m : j < 1024 = omega arith in rw (k j m) (z j m);
  apart = λ j m l q e. let j' : j < 1024 = omega arith in let m' : m < 1024 = omega arith in omega (arith, k j j', k m m', e);
}

pub idle_cells : (x : ℕ) → x < 1024 → (at (replicate 1024 void) x).refs ≡ 0
idle_cells x l = ap (λ (v : Cell). v.refs) (get_or-replicate 1024 x void void l)
