-- Cells and the paths that they lie on.
use Rattle.std.proofs.Common.{◌≡◌, ℕ, zero, suc, ◌+◌, ◌-◌, ◌<◌, ◌≤◌, ◌≢◌, List, [], ◌∷◌, length, get_or, Some, Option, sym, refl, ap, ◌∙◌, ⊎_elim, arith}
use Rattle.std.proofs.lemmas.Bool.{cases_eq, cases_lt}
use Rattle.std.proofs.lemmas.List.{length_push, get_or_push, get_or_append_left}
use Rattle.survivors.specs.Cells.{at, one, owner, path, share, under}
use Rattle.survivors.specs.Trees.{Apart, Valid, held, path_of, tip_at}
use Rattle.survivors.specs.declared.tree.Cell.{Cell}
use Rattle.survivors.specs.declared.tree.Tree.{Tree}
use Rattle.survivors.proofs.Tallies.{tally_ge, tally_some, tally_pair}
use Rattle.survivors.proofs.Shares.{owner_oldest, owner_parent, owner_used, share_mine, share_bound}
use Rattle.survivors.proofs.Roots.{seen, oldest_by}
use Rattle.survivors.proofs.Decides.{path_is, tip_used}
use Rattle.survivors.proofs.Tips.{held_by, some_or_none}

-- the cell k layers above c
abbrev pub above : List Cell → ℕ → ℕ → ℕ
above cs zero c = c
above cs (suc k) c = (at cs (above cs k c)).parent

above_parent : (cs : List Cell) (k c : ℕ) → above cs k (at cs c).parent ≡ above cs (suc k) c
above_parent cs zero c = refl
above_parent cs (suc k) c = ap (λ (y : ℕ). (at cs y).parent) (above_parent cs k c)

pub path_length : (cs : List Cell) (n c : ℕ) → length (path cs n c) ≡ n
path_length cs zero c = refl
path_length cs (suc n) c = omega (arith, length_push (path cs n (at cs c).parent) (at cs c).mode, path_length cs n (at cs c).parent)

path_at : (cs : List Cell) (n j c : ℕ) → j < suc n → get_or (path cs (suc n) c) j 0 ≡ (at cs (above cs (n - j) c)).mode
path_at cs zero j c l =
    let e : j ≡ 0 = omega arith in
    rw e refl
path_at cs (suc n) j c l =
    ⊎_elim
    (λ (e : j ≡ suc n).
    let z : suc n - j ≡ 0 = omega arith in
    get_or_push (path cs (suc n) (at cs c).parent) (at cs c).mode 0 j (path_length cs (suc n) (at cs c).parent ∙ sym e)
    ∙ sym (ap (λ (k : ℕ). (at cs (above cs k c)).mode) z))
    (λ (ne : j ≡ suc n → ⊥).
    let jl : j < suc n = omega arith in
    let z : suc n - j ≡ suc (n - j) = omega arith in
    get_or_append_left (path cs (suc n) (at cs c).parent) ((at cs c).mode ∷ []) 0 j (omega (arith, path_length cs (suc n) (at cs c).parent))
    ∙ path_at cs n j (at cs c).parent jl
    ∙ ap (λ (y : ℕ). (at cs y).mode) (above_parent cs (n - j) c)
    ∙ sym (ap (λ (k : ℕ). (at cs (above cs k c)).mode) z))
    (cases_eq j (suc n))

-- the mode that a path has at a place is that of the cell so many layers above its end
path_read : (cs : List Cell) (d n j c x : ℕ) → d ≡ suc n → j < suc n → above cs (n - j) c ≡ x → get_or (path cs d c) j 0 ≡ (at cs x).mode
path_read cs d n j c x e l q = ap (λ (k : ℕ). get_or (path cs k c) j 0) e ∙ path_at cs n j c l ∙ ap (λ (y : ℕ). (at cs y).mode) q

above_one : (cs : List Cell) (a b p : ℕ) → a ≡ b → (at cs b).parent ≡ p → (at cs a).parent ≡ p
above_one cs a b p e q = ap (λ (z : ℕ). (at cs z).parent) e ∙ q

module _ {s : Tree} {tips : List (Option ℕ)} (r : Valid s tips) where
  -- the cells
  abbrev cs : List Cell
  cs = s.cells

  -- a cell above is in use, in its layer
  up_one : (x : ℕ) → x < 1024 → 0 < (at cs x).refs → s.base < (at cs x).layer → ((at cs x).parent < 1024) × (0 < (at cs (at cs x).parent).refs) × ((at cs (at cs x).parent).layer + 1 ≡ (at cs x).layer)
  up_one x l u d =
      let p = r.holds.shape.up x l u d in
      let o : owner cs s.base x ≡ (at cs x).parent = owner_parent cs s.base x (λ q. omega arith) in
      let k : 0 < under one cs s.base (at cs x).parent = rw o at (owner_used cs s.base x l u) in
      (p, omega (arith, r.holds.count (at cs x).parent p), r.holds.shape.step x l u d)

  above_used : (k j c : ℕ) → c < 1024 → 0 < (at cs c).refs → (at cs c).layer ≡ s.base + j + k → (above cs k c < 1024) × (0 < (at cs (above cs k c)).refs) × ((at cs (above cs k c)).layer ≡ s.base + j)
  above_used zero j c l u e = (l, u, omega arith)
  above_used (suc k) j c l u e =
      let b = above_used k (suc j) c l u (omega arith) in
      let a = up_one (above cs k c) b.0 b.1 (omega (arith, b.2)) in
      (a.0, a.1, omega (arith, a.2, b.2))

  -- a cell below
  kid : (x : ℕ) → x < 1024 → 0 < under one cs s.base x → (y : ℕ) × (y < 1024) × (0 < (at cs y).refs) × ((at cs y).parent ≡ x) × ((at cs x).layer + 1 ≡ (at cs y).layer)
  kid x l k =
      let f = tally_some (share one cs s.base x) 1024 k in
      let y = f.0 in
      let t = r.holds in
      let v = seen t x y f.2 in
      let young : (at cs y).layer ≢ s.base = λ q. omega (arith, owner_oldest cs s.base y q, v.1) in
      let p : (at cs y).parent ≡ x = sym (owner_parent cs s.base y young) ∙ v.1 in
      let st : (at cs (at cs y).parent).layer + 1 ≡ (at cs y).layer = t.shape.step y f.1 v.0 (omega (arith, t.shape.low y f.1 v.0, young)) in
      (y, f.1, v.0, p, rw p at st)

  -- every cell in use is above a tip
  lies_on_path : (k x : ℕ) → x < 1024 → 0 < (at cs x).refs → (at cs x).layer + suc k ≡ s.top → (u : ℕ) × (c : ℕ) × (tip_at tips u ≡ Some c) × (above cs k c ≡ x)
  lies_on_path zero x l u e =
      ⊎_elim
      (λ (h : 0 < held tips x). let t = held_by tips x h in (t.0, x, t.1, refl))
      (λ (h : held tips x ≤ 0).
      let y = kid x l (omega (arith, r.holds.count x l)) in
      absurd (omega (arith, r.old y.0 y.1 y.2, y.4)))
      (cases_lt 0 (held tips x))
  lies_on_path (suc k) x l u e =
      ⊎_elim
      (λ (h : 0 < held tips x). let t = held_by tips x h in absurd (omega (arith, r.newest t.0 x t.1)))
      (λ (h : held tips x ≤ 0).
      let y = kid x l (omega (arith, r.holds.count x l)) in
      let i = lies_on_path k y.0 y.1 y.2 (omega (arith, y.4)) in
      (i.0, i.1, i.2, above_one cs (above cs k i.1) y.0 x i.3 y.3))
      (cases_lt 0 (held tips x))

  -- what a cell in use is on the path of some mode
  pub on_place : (j x : ℕ) → x < 1024 → 0 < (at cs x).refs → (at cs x).layer ≡ s.base + j → (u : ℕ) × (c : ℕ) × (tip_at tips u ≡ Some c) × (get_or (path_of s tips u) j 0 ≡ (at cs x).mode)
  on_place j x l u e =
      let lt = r.old x l u in
      let n = s.top - (s.base + 1) in
      let p = lies_on_path (n - j) x l u (omega arith) in
      let z : s.top - s.base ≡ suc n = omega arith in
      let jl : j < suc n = omega arith in
      (p.0, p.1, p.2, ap (λ (y : List ℕ). get_or y j 0) (path_is s tips p.0 p.1 p.2) ∙ path_read cs (s.top - s.base) n j p.1 x z jl p.3)

  -- and what is on the path of a mode is a cell in use
  pub at_place : (j u c : ℕ) → tip_at tips u ≡ Some c → s.base + j < s.top → (x : ℕ) × (x < 1024) × (0 < (at cs x).refs) × ((at cs x).layer ≡ s.base + j) × (get_or (path_of s tips u) j 0 ≡ (at cs x).mode)
  at_place j u c m d =
      let n = s.top - (s.base + 1) in
      let z : s.top - s.base ≡ suc n = omega arith in
      let jl : j < suc n = omega arith in
      let a = above_used (n - j) j c (r.real u c m) (tip_used r u c m) (omega (arith, r.newest u c m)) in (
        above cs (n - j) c,
        a.0,
        a.1,
        a.2,
        ap (λ (y : List ℕ). get_or y j 0) (path_is s tips u c m) ∙ path_read cs (s.top - s.base) n j c (above cs (n - j) c) z jl refl,
      )

  -- two cells of the oldest layer lie on paths that part there
  two_roots : (x y : ℕ) → x < 1024 → y < 1024 → x ≢ y → 0 < (at cs x).refs → 0 < (at cs y).refs → (at cs x).layer ≡ s.base → (at cs y).layer ≡ s.base → Apart s tips
  two_roots x y xl yl ne xu yu xb yb =
      let a = on_place 0 x xl xu (omega arith) in
      let b = on_place 0 y yl yu (omega arith) in
      let same : (m n : ℕ) → m ≡ (at cs x).mode → n ≡ (at cs y).mode → m ≡ n → ⊥ = λ m n p q e. ne (r.holds.shape.lone x y xl yl xu yu (xb ∙ sym yb) (sym p ∙ e ∙ q)) in
      record {
        u = a.0;
        v = b.0;
        c = a.1;
        d = b.1;
        utip = a.2;
        vtip = b.2;
        differ = same (get_or (path_of s tips a.0) 0 0) (get_or (path_of s tips b.0) 0 0) a.3 b.3;
      }

  -- where the oldest layer has not one cell, two paths part
  pub parted : s.width ≢ 1 → s.base < s.top → Apart s tips
  parted ne d =
      let t = r.holds in
      let w = ⊎_elim (λ (f : (u : ℕ) × (c : ℕ) × (tip_at tips u ≡ Some c)). f) (λ none. absurd (r.any d none)) (some_or_none tips) in
      let b = at_place 0 w.0 w.1 w.2 (omega arith) in
      let mine : share one cs s.base 1024 b.0 ≡ 1 = share_mine one cs s.base 1024 b.0 b.2 (owner_oldest cs s.base b.0 (omega (arith, b.3))) in
      let wide : 1 < under one cs s.base 1024 = omega (arith, tally_ge (share one cs s.base 1024) b.0 1024 b.1, t.wide, ne) in
      let p = tally_pair (share one cs s.base 1024) 1024 (λ x l. share_bound one cs s.base 1024 x) wide in
      let xl : p.0 < 1024 = omega (arith, p.2, p.3) in
      let sx = seen t 1024 p.0 p.4 in
      let sy = seen t 1024 p.1 p.5 in
      two_roots p.0 p.1 xl p.3 (λ e. omega (arith, p.2, e)) sx.0 sy.0 (oldest_by t p.0 xl sx.0 sx.1) (oldest_by t p.1 p.3 sy.0 sy.1)
