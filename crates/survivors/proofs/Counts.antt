-- The cells in use, as pairs of a reading and a mode.
use Rattle.std.proofs.Common.{◌≡◌, ℕ, zero, suc, ◌<◌, ◌≤◌, cond, ltb, List, [], ◌∷◌, length, sym, refl, ap, subst, inl, inr, ⊎_elim, arith}
use Rattle.std.proofs.lemmas.Bool.{cases_eq, cases_lt, lt-ltb, le-ltb}
use Rattle.viterbi.specs.Lists.{In, Distinct}
use Rattle.survivors.specs.Sums.{tally}
use Rattle.survivors.specs.Cells.{Shape, at}
use Rattle.survivors.specs.declared.tree.Cell.{Cell}

-- the layer and the mode of a cell
abbrev pub spot : List Cell → ℕ → ℕ × ℕ
spot cs x = ((at cs x).layer, (at cs x).mode)

-- those of the cells in use below n
pub spots : List Cell → ℕ → List (ℕ × ℕ)
spots cs zero = []
spots cs (suc n) = cond (ltb 0 (at cs n).refs) (spot cs n ∷ spots cs n) (spots cs n)

module _ (cs : List Cell) where
  -- with the cell n in use, and without
  with_it : (n : ℕ) → 0 < (at cs n).refs → spots cs (suc n) ≡ spot cs n ∷ spots cs n
  unfolding spots
  with_it n u = rw (lt-ltb 0 (at cs n).refs u) refl

  without : (n : ℕ) → (at cs n).refs ≤ 0 → spots cs (suc n) ≡ spots cs n
  unfolding spots
  without n z = rw (le-ltb 0 (at cs n).refs z) refl

  pub spots_many : (n : ℕ) → length (spots cs n) ≡ tally (λ x. cond (ltb 0 (at cs x).refs) 1 0) n
  unfolding tally spots
  spots_many zero = refl
  spots_many (suc n) = ⊎_elim
      (λ (u : 0 < (at cs n).refs). rw (lt-ltb 0 (at cs n).refs u) (omega (arith, spots_many n)))
      (λ (z : (at cs n).refs ≤ 0). rw (le-ltb 0 (at cs n).refs z) (omega (arith, spots_many n)))
      (cases_lt 0 (at cs n).refs)

  pub spots_only : (n : ℕ) (a : ℕ × ℕ) → In a (spots cs n) → (x : ℕ) × (x < n) × (0 < (at cs x).refs) × (a ≡ spot cs x)
  unfolding spots
  spots_only zero a h = absurd h
  spots_only (suc n) a h = ⊎_elim
      (λ (u : 0 < (at cs n).refs). ⊎_elim
      (λ (e : a ≡ spot cs n). (n, omega arith, u, e))
      (λ (i : In a (spots cs n)). let b = spots_only n a i in (b.0, omega (arith, b.1), b.2, b.3))
      (subst (In a) (with_it n u) h))
      (λ (z : (at cs n).refs ≤ 0). let b = spots_only n a (subst (In a) (without n z) h) in (b.0, omega (arith, b.1), b.2, b.3))
      (cases_lt 0 (at cs n).refs)

  pub spots_all : (n x : ℕ) → x < n → 0 < (at cs x).refs → In (spot cs x) (spots cs n)
  spots_all zero x l u = absurd (omega arith)
  spots_all (suc n) x l u = ⊎_elim
      (λ (e : x ≡ n).
      let v : 0 < (at cs n).refs = rw e at u in
      subst (In (spot cs x)) (sym (with_it n v)) (inl (ap (spot cs) e)))
      (λ (ne : x ≡ n → ⊥).
      let i : In (spot cs x) (spots cs n) = spots_all n x (omega arith) u in
      ⊎_elim
      (λ (v : 0 < (at cs n).refs). subst (In (spot cs x)) (sym (with_it n v)) (inr i))
      (λ (z : (at cs n).refs ≤ 0). subst (In (spot cs x)) (sym (without n z)) i)
      (cases_lt 0 (at cs n).refs))
      (cases_eq x n)

  -- no two cells in use are of the same layer and mode
  pub spots_once : (base top : ℕ) → Shape cs base top → (n : ℕ) → n ≤ 1024 → Distinct (spots cs n)
  unfolding spots
  spots_once base top s zero l = tt
  spots_once base top s (suc n) l = ⊎_elim
      (λ (u : 0 < (at cs n).refs). subst Distinct (sym (with_it n u)) (
        (λ h.
            let b = spots_only n (spot cs n) h in
            omega (arith, b.1, s.lone n b.0 (omega arith) (omega (arith, b.1)) u b.2 (ap (λ (z : ℕ × ℕ). z.0) b.3) (ap (λ (z : ℕ × ℕ). z.1) b.3))),
        spots_once base top s n (omega arith),
      ))
      (λ (z : (at cs n).refs ≤ 0). subst Distinct (sym (without n z)) (spots_once base top s n (omega arith)))
      (cases_lt 0 (at cs n).refs)
