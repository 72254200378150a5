-- What holds of all survivors, by the invariant in their type.
use Rattle.std.proofs.Common.{◌≡◌, ℕ, suc, ◌+◌, ◌-◌, ◌<◌, ◌≤◌, [], ◌∷◌, ◌++◌, length, Some, None, Option, sym, refl, ap, ◌∙◌, subst, ⊎_elim, arith}
use Rattle.std.specs.Prelude.{IsSome, unwrap_or}
use Rattle.std.proofs.lemmas.Bool.{cases_lt}
use Rattle.std.proofs.lemmas.List.{nil_from_length}
use Rattle.viterbi.specs.Lists.{In, Counted, EndsIn}
use Rattle.survivors.specs.Cells.{at, path}
use Rattle.survivors.specs.Trees.{tip_at}
use Rattle.survivors.specs.Survivors.{HasTip, OnPath, decided, path_to, taken}
use Rattle.survivors.specs.declared.Survivors.{Survivors}
use Rattle.survivors.proofs.Decides.{path_is}
use Rattle.survivors.proofs.Tips.{some_or_none, tip_below as below}
use Rattle.viterbi.proofs.Count.{counted_one}
use Rattle.survivors.proofs.Paths.{path_length, on_place, at_place}
use Rattle.survivors.proofs.Counts.{spot, spots, spots_many, spots_only, spots_all, spots_once}

-- a mode with a tip
pub tip_is : (s : Survivors) (u : ℕ) → HasTip s u → (c : ℕ) × (tip_at s.tips u ≡ Some c)
tip_is s u h = cell (tip_at s.tips u) h
  where
    cell : (o : Option ℕ) → IsSome o → (c : ℕ) × (o ≡ Some c)
    cell (Some c) _ = (c, refl)
    cell None h = absurd (let z : ◌≡◌ {A = ℕ} 0 1 = cc in omega arith)

pub has_tip : (s : Survivors) (u c : ℕ) → tip_at s.tips u ≡ Some c → HasTip s u
has_tip s u c e = rw e refl

-- the decided readings were taken
pub decided_taken : (s : Survivors) → decided s ≤ taken s
decided_taken s = s.valid.holds.shape.span

-- only the first 32 modes have tips
pub tip_below : (s : Survivors) (u : ℕ) → HasTip s u → u < 32
tip_below s u h = let f = tip_is s u h in omega (arith, below s.tips u f.0 f.1, s.valid.many)

-- a mode has a tip only while some reading is undecided
pub tip_undecided : (s : Survivors) (u : ℕ) → HasTip s u → decided s < taken s
tip_undecided s u h = ⊎_elim
    (λ (l : decided s < taken s). l)
    (λ (l : taken s ≤ decided s). let f = tip_is s u h in absurd (s.valid.none (omega (arith, decided_taken s)) u f.0 f.1))
    (cases_lt (decided s) (taken s))

-- and then some mode has one
pub some_tip : (s : Survivors) → decided s < taken s → (u : ℕ) × HasTip s u
some_tip s l = ⊎_elim
    (λ (f : (u : ℕ) × (c : ℕ) × (tip_at s.tips u ≡ Some c)). (f.0, has_tip s f.0 f.1 f.2))
    (λ none. absurd (s.valid.any l none))
    (some_or_none s.tips)

-- a path has a mode for each undecided reading
pub path_to_length : (s : Survivors) (u : ℕ) → length (path_to s u) ≡ taken s - decided s
path_to_length s u = path_length s.tree.cells (taken s - decided s) (unwrap_or (tip_at s.tips u) 0)

-- so a path is empty where all is decided
pub path_to_none : (s : Survivors) (u : ℕ) → taken s ≤ decided s → path_to s u ≡ []
path_to_none s u l = nil_from_length (path_to s u) (omega (arith, path_to_length s u))

-- the path to u ends in u
pub path_to_ends : (s : Survivors) (u : ℕ) → HasTip s u → EndsIn (path_to s u) u
path_to_ends s u h =
    let cs = s.tree.cells in
    let f = tip_is s u h in
    let c = f.0 in
    let n = taken s - (decided s + 1) in
    let e : taken s - decided s ≡ suc n = omega (arith, tip_undecided s u h) in
    let m : (at cs c).mode ≡ u = s.valid.ends u c f.1 in
    (path cs n (at cs c).parent, path_is s.tree s.tips u c f.1 ∙ ap (λ (k : ℕ). path cs k c) e ∙ ap (λ (y : ℕ). path cs n (at cs c).parent ++ y ∷ []) m)

-- the cells that are not free are the live ones
pub live_cells_lem : (s : Survivors) (n : ℕ) → length s.tree.free.items + n ≡ 1024 → Counted (OnPath s) n
live_cells_lem s n e =
    let cs = s.tree.cells in
    let r = s.valid in
    record {
      pairs = spots cs 1024;
      many = omega (arith, spots_many cs 1024, r.holds.stack.live);
      once = spots_once cs (decided s) (taken s) r.holds.shape 1024 (omega arith);
      all = λ i m o.
          let u = o.to in
          let f = tip_is s u o.tip in
          let x = at_place r (i - decided s) u f.0 f.1 (omega (arith, o.undecided, o.inside)) in
          let a : (at cs x.0).layer ≡ i = omega (arith, x.3, o.undecided) in
          let b : (at cs x.0).mode ≡ m = sym x.4 ∙ o.lies in
          let q : spot cs x.0 ≡ (i, m) = cc (a, b) in
          subst (λ (z : ℕ × ℕ). In z (spots cs 1024)) q (spots_all cs 1024 x.0 x.1 x.2);
      only = λ i m h.
          let x = spots_only cs 1024 (i, m) h in
          let a : i ≡ (at cs x.0).layer = ap (λ (z : ℕ × ℕ). z.0) x.3 in
          let b : m ≡ (at cs x.0).mode = ap (λ (z : ℕ × ℕ). z.1) x.3 in
          let low = r.holds.shape.low x.0 x.1 x.2 in
          let u = on_place r (i - decided s) x.0 x.1 x.2 (omega (arith, low)) in
          record {
            to = u.0;
            tip = has_tip s u.0 u.1 u.2;
            undecided = omega (arith, low);
            inside = omega (arith, r.old x.0 x.1 x.2);
            lies = u.3 ∙ sym b;
          };
    }

-- free and live cells are 1,024 together
pub room_live : (s : Survivors) (n : ℕ) → Counted (OnPath s) n → length s.tree.free.items + n ≡ 1024
room_live s n k =
    let full = s.valid.holds.stack.live in
    omega (arith, counted_one (OnPath s) n (1024 - length s.tree.free.items) k (live_cells_lem s (1024 - length s.tree.free.items) (omega (arith, full))), full)
