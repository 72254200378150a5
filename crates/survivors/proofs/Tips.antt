-- References that the tips hold.
use Rattle.std.proofs.Common.{◌≡◌, ℕ, zero, suc, ◌+◌, ◌<◌, ◌≤◌, Bool, true, false, cond, eqb, ◌⊎◌, List, [], ◌∷◌, length, set, drop, replicate, Some, None, Option, sym, refl, ap, ◌∙◌, inl, inr, ⊎_elim, arith}
use Rattle.std.proofs.lemmas.Bool.{cases_eq, cases_lt, ne_eqb}
use Rattle.std.proofs.lemmas.List.{get_or-set_same, get_or-set_other, get_or_past, get_or-drop, set_past}
use Rattle.std.proofs.lemmas.List.Sums.{sum_by-set, sum_by-cons, sum_by-drop_more, count_by-le-length}
use Rattle.survivors.specs.Cells.{plus}
use Rattle.survivors.specs.Trees.{NoneFrom, Real, both, held, is_cell, tip_at}
use Rattle.survivors.proofs.Shares.{plus_here}

pub none_some : {x : ℕ} → None ≡ Some x → ⊥
none_some e = let z : ◌≡◌ {A = ℕ} 0 1 = cc in omega arith

-- a mode with a tip is in the list
pub tip_below : (tips : List (Option ℕ)) (u c : ℕ) → tip_at tips u ≡ Some c → u < length tips
tip_below tips u c e = ⊎_elim
    (λ (l : u < length tips). l)
    (λ (l : length tips ≤ u). absurd (none_some (sym (get_or_past tips u None l) ∙ e)))
    (cases_lt u (length tips))

-- some mode has a tip, or none has
pub some_or_none : (tips : List (Option ℕ)) → ((u : ℕ) × (c : ℕ) × (tip_at tips u ≡ Some c)) ⊎ ((u c : ℕ) → tip_at tips u ≡ Some c → ⊥)
some_or_none [] = inr (λ u c e. none_some e)
some_or_none (Some c ∷ tips) = inl (0, c, refl)
some_or_none (None ∷ tips) = ⊎_elim (λ f. inl (suc f.0, f.1, f.2)) (λ none. inr (later none)) (some_or_none tips)
  where
    later : ((u c : ℕ) → tip_at tips u ≡ Some c → ⊥) → (u c : ℕ) → tip_at (None ∷ tips) u ≡ Some c → ⊥
    later none zero c e = none_some e
    later none (suc u) c e = none u c e

-- no tip at all
pub no_tips : (n u c : ℕ) → tip_at (replicate n None) u ≡ Some c → ⊥
no_tips zero u c e = none_some e
no_tips (suc n) zero c e = none_some e
no_tips (suc n) (suc u) c e = no_tips n u c e

pub blank_at : (n u : ℕ) → tip_at (replicate n None) u ≡ None
blank_at zero u = refl
blank_at (suc n) zero = refl
blank_at (suc n) (suc u) = blank_at n u

-- 1 where a tip is the cell x, and else 0
abbrev bit : ℕ → Option ℕ → ℕ
bit x o = cond (is_cell x o) 1 0

pub plus_add : (h : ℕ → ℕ) (c x : ℕ) → plus h c x ≡ h x + bit x (Some c)
plus_add h c x = step (eqb x c)
  where
    step : (b : Bool) → cond b (h x + 1) (h x) ≡ h x + cond b 1 0
    step true = refl
    step false = omega arith

bit_some : (x : ℕ) (o : Option ℕ) → 0 < bit x o → o ≡ Some x
bit_some x None l = absurd (omega arith)
bit_some x (Some c) l = ⊎_elim
    (λ (e : x ≡ c). ap Some (sym e))
    (λ (ne : x ≡ c → ⊥). absurd (let b : bit x (Some c) ≡ 0 = rw (ne_eqb x c ne) refl in omega (arith, b)))
    (cases_eq x c)

-- one tip is written
held_set : (tips : List (Option ℕ)) (j x : ℕ) (o p : Option ℕ) → j < length tips → tip_at tips j ≡ o → held (set tips j p) x + bit x o ≡ held tips x + bit x p
unfolding held
held_set tips j x o p l e = rw e at (sum_by-set (bit x) tips j p None l)

-- the tips from the place k on
held_on : (tips : List (Option ℕ)) (k x : ℕ) (o : Option ℕ) → k < length tips → tip_at tips k ≡ o → held (drop k tips) x ≡ bit x o + held (drop (k + 1) tips) x
unfolding held
held_on tips k x o l e = rw e at (sum_by-drop_more (bit x) tips k None l)

held_nil : (tips : List (Option ℕ)) (x : ℕ) → tips ≡ [] → held tips x ≡ 0
unfolding held
held_nil tips x e = rw e refl

held_cons : (o : Option ℕ) (tips : List (Option ℕ)) (x : ℕ) → held (o ∷ tips) x ≡ bit x o + held tips x
unfolding held
held_cons o tips x = sum_by-cons (bit x) o tips

pub held_bound : (tips : List (Option ℕ)) (x : ℕ) → held tips x ≤ length tips
unfolding held
held_bound tips x = count_by-le-length (is_cell x) tips

-- one tip more
pub held_put : (tips : List (Option ℕ)) (j v x : ℕ) → j < length tips → tip_at tips j ≡ None → held (set tips j (Some v)) x ≡ plus (held tips) v x
held_put tips j v x l e = omega (arith, held_set tips j x None (Some v) l e, plus_add (held tips) v x)

-- one tip less
pub held_take : (tips : List (Option ℕ)) (j c x : ℕ) → tip_at tips j ≡ Some c → held tips x ≡ plus (held (set tips j None)) c x
held_take tips j c x e = omega (arith, held_set tips j x (Some c) None (tip_below tips j c e) e, plus_add (held (set tips j None)) c x)

pub held_some : (tips : List (Option ℕ)) (u c : ℕ) → tip_at tips u ≡ Some c → 0 < held tips c
held_some tips u c e = omega (arith, held_take tips u c c e, plus_here (held (set tips u None)) c)

-- what is held is some mode's tip
pub held_by : (tips : List (Option ℕ)) (x : ℕ) → 0 < held tips x → (u : ℕ) × (tip_at tips u ≡ Some x)
held_by [] x l = absurd (omega (arith, held_nil [] x refl))
held_by (o ∷ tips) x l = ⊎_elim
    (λ (k : 0 < bit x o). (0, bit_some x o k))
    (λ (k : bit x o ≤ 0). let b = held_by tips x (omega (arith, held_cons o tips x)) in (suc b.0, b.1))
    (cases_lt 0 (bit x o))

pub held_none : (tips : List (Option ℕ)) (x : ℕ) → ((u : ℕ) → tip_at tips u ≡ Some x → ⊥) → held tips x ≡ 0
held_none tips x off = ⊎_elim
    (λ (k : 0 < held tips x). let b = held_by tips x k in absurd (off b.0 b.1))
    (λ (k : held tips x ≤ 0). omega arith)
    (cases_lt 0 (held tips x))

pub from_none : (tips : List (Option ℕ)) (h : ℕ → ℕ) (k : ℕ) → k < length tips → tip_at tips k ≡ None → (x : ℕ) → x < 1024 → both (drop k tips) h x ≡ both (drop (k + 1) tips) h x
from_none tips h k l e x _ = omega (arith, held_on tips k x None l e)

pub from_some : (tips : List (Option ℕ)) (h : ℕ → ℕ) (k c : ℕ) → k < length tips → tip_at tips k ≡ Some c → (x : ℕ) → x < 1024 → both (drop k tips) h x ≡ plus (both (drop (k + 1) tips) h) c x
from_some tips h k c l e x _ = omega (arith, held_on tips k x (Some c) l e, plus_add (both (drop (k + 1) tips) h) c x)

pub past : (tips : List (Option ℕ)) (h : ℕ → ℕ) (k : ℕ) → NoneFrom k tips → (x : ℕ) → x < 1024 → both (drop k tips) h x ≡ h x
past tips h k none x _ = omega (arith, held_none (drop k tips) x (λ u e. none (k + u) x (omega arith) (sym (get_or-drop k tips u None) ∙ e)))

-- where all are blank, none has a tip
pub blank_none : (m n : ℕ) → NoneFrom m (replicate n None)
blank_none m n u c l e = no_tips n u c e

pub real_set : (tips : List (Option ℕ)) (i c : ℕ) → Real tips → c < 1024 → Real (set tips i (Some c))
real_set tips i c r b u d e = ⊎_elim
    (λ (q : u ≡ i). ⊎_elim
    (λ (l : i < length tips). let z : Some c ≡ Some d = sym (get_or-set_same tips i (Some c) None l) ∙ ap (tip_at (set tips i (Some c))) (sym q) ∙ e in let y : c ≡ d = cc in omega arith)
    (λ (l : length tips ≤ i). r u d (ap (λ (z : List (Option ℕ)). tip_at z u) (sym (set_past tips i (Some c) l)) ∙ e))
    (cases_lt i (length tips)))
    (λ (ne : u ≡ i → ⊥). r u d (sym (get_or-set_other tips i u (Some c) None ne) ∙ e))
    (cases_eq u i)
