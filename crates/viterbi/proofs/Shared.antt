-- Beginnings of lists, and the longest common one.
use Rattle.std.proofs.Common.{◌≡◌, ℕ, zero, suc, ◌<◌, ◌≤◌, eqb, ◌⊎◌, List, [], ◌∷◌, ◌++◌, length, Some, None, Option, sym, refl, ap, ◌∙◌, subst, inl, inr, arith}
use Rattle.std.proofs.lemmas.Bool.{eqb-true, eqb-false, cond_both}
use Rattle.std.proofs.lemmas.List.{length-append, append_assoc, append-nil, nil_from_length}
use Rattle.std.proofs.lemmas.Option.{none-some, same_Some}
use Rattle.cost.specs.Kind.{Kind}
use Rattle.viterbi.specs.Lists.{Begins}
use Rattle.viterbi.specs.Algorithm.{Kept, meet, meet_next, meet_of}
use Rattle.viterbi.proofs.Algorithm.{in_front, none_to}

pub begins_trans : (a b c : List ℕ) → Begins a b → Begins b c → Begins a c
begins_trans a b c h k = (h.0 ++ k.0, k.1 ∙ (ap (λ z. z ++ k.0) h.1 ∙ append_assoc a h.0 k.0))

pub begins_fits : (a b : List ℕ) → Begins a b → length a ≤ length b
begins_fits a b h = omega (arith, ap length h.1, length-append a h.0)

-- of one list and no longer: the same
pub begins_all : (a b : List ℕ) → Begins a b → length b ≤ length a → a ≡ b
begins_all a b h l = sym (append-nil a) ∙ (ap (λ z. a ++ z) (sym (nil_from_length h.0 (omega (arith, ap length h.1, length-append a h.0)))) ∙ sym h.1)

-- two beginnings of one list: the shorter begins the longer
pub begins_both : (a b c : List ℕ) → Begins a c → Begins b c → length a ≤ length b → Begins a b
begins_both [] b c h k l = (b, refl)
begins_both (x ∷ a) [] c h k l = absurd (omega arith)
begins_both (x ∷ a) (y ∷ b) c h k l =
    let e : x ∷ (a ++ h.0) ≡ y ∷ (b ++ k.0) = sym h.1 ∙ k.1 in
    let xy : x ≡ y = cc in
    let m : a ++ h.0 ≡ b ++ k.0 = cc in
    let r = begins_both a b (b ++ k.0) (h.0, sym m) (k.0, refl) (omega arith) in
    (r.0, ap (λ z. y ∷ z) r.1 ∙ ap (λ z. z ∷ (a ++ r.0)) (sym xy))

meet_left : (p q : List ℕ) → Begins (meet p q) p
meet_left [] q = ([], refl)
meet_left (a ∷ p) [] = (a ∷ p, refl)
meet_left (a ∷ p) (b ∷ q) =
    let r = meet_left p q in
    cond_both (eqb a b) (a ∷ meet p q) [] (λ z. Begins z (a ∷ p)) (λ e. (r.0, ap (λ z. a ∷ z) r.1)) (λ e. (a ∷ p, refl))

meet_right : (p q : List ℕ) → Begins (meet p q) q
meet_right [] q = (q, refl)
meet_right (a ∷ p) [] = ([], refl)
meet_right (a ∷ p) (b ∷ q) =
    let r = meet_right p q in
    cond_both (eqb a b) (a ∷ meet p q) [] (λ z. Begins z (b ∷ q)) (λ e. (r.0, ap (λ z. b ∷ z) r.1 ∙ ap (λ z. z ∷ (meet p q ++ r.0)) (sym (eqb-true a b e)))) (λ e. (b ∷ q, refl))

meet_longest : (e p q : List ℕ) → Begins e p → Begins e q → Begins e (meet p q)
meet_longest [] p q h k = (meet p q, refl)
meet_longest (x ∷ e) [] q h k = h
meet_longest (x ∷ e) (a ∷ p) [] h k = k
meet_longest (x ∷ e) (a ∷ p) (b ∷ q) h k =
    let i : a ∷ p ≡ x ∷ (e ++ h.0) = h.1 in
    let j : b ∷ q ≡ x ∷ (e ++ k.0) = k.1 in
    let ax : a ≡ x = cc in
    let ab : a ≡ b = cc in
    let r = meet_longest e p q (h.0, cc) (k.0, cc) in
    cond_both (eqb a b) (a ∷ meet p q) [] (Begins (x ∷ e)) (λ y. (r.0, ap (λ z. a ∷ z) r.1 ∙ ap (λ z. z ∷ (e ++ r.0)) ax)) (λ n. absurd (eqb-false a b n ab))

-- d is the longest common beginning of the paths of the first n
pub record Meets (K : Kind) (n : ℕ) (f : ℕ → Option (Kept K)) (d : List ℕ) : Type 0 where
  pub place : ℕ
  pub what : Kept K
  pub inside : place < n
  pub reads : f place ≡ Some what
  pub common : (u : ℕ) (y : Kept K) → u < n → f u ≡ Some y → Begins d y.1
  pub longest : (e : List ℕ) → ((u : ℕ) (y : Kept K) → u < n → f u ≡ Some y → Begins e y.1) → Begins e d

abbrev pub Met : (K : Kind) (n : ℕ) (f : ℕ → Option (Kept K)) (o : Option (List ℕ)) → Type 0
Met K n f o = ((o ≡ None) × ((u : ℕ) → u < n → f u ≡ None)) ⊎ ((d : List ℕ) × (o ≡ Some d) × Meets K n f d)

module _ (K : Kind) (f : ℕ → Option (Kept K)) where
  same_path : (u : ℕ) (y z : Kept K) → f u ≡ Some y → f u ≡ Some z → y.1 ≡ z.1
  same_path u y z a b = ap (λ (w : Kept K). w.1) (same_Some y z (sym a ∙ b))

  module _ (n : ℕ) where
    upto : (e : List ℕ) → ((u : ℕ) (y : Kept K) → u < n → f u ≡ Some y → Begins e y.1) → ((y : Kept K) → f n ≡ Some y → Begins e y.1) → (u : ℕ) (y : Kept K) → u < suc n → f u ≡ Some y → Begins e y.1
    upto e h k u y l i = elim (in_front u n l) [ inl m ↦ h u y m i | inr m ↦ k y (ap f (sym m) ∙ i) ]

    next : (o : Option (List ℕ)) → Met K n f o → (p : Option (Kept K)) → f n ≡ p → Met K (suc n) f (meet_next K o p)
    next o (inl h) None e = inl (h.0, none_to f n h.1 e)
    next o (inl h) (Some x) e = rw h.0 (inr (
      x.1,
      refl,
      record {
        place = n;
        what = x;
        inside = omega arith;
        reads = e;
        common = upto x.1 (λ u y l i. absurd (none-some y (sym (h.1 u l) ∙ i))) (λ y i. ([], same_path n y x i e ∙ sym (append-nil x.1)));
        longest = λ b k. k n x (omega arith) e;
      },
    ))
    next o (inr a) None e = rw a.1 (inr (
      a.0,
      refl,
      record {
        place = a.2.place;
        what = a.2.what;
        inside = omega (arith, a.2.inside);
        reads = a.2.reads;
        common = upto a.0 a.2.common (λ y i. absurd (none-some y (sym e ∙ i)));
        longest = λ b k. a.2.longest b (λ u y l. k u y (omega arith));
      },
    ))
    next o (inr a) (Some x) e = rw a.1 (inr (
      meet a.0 x.1,
      refl,
      record {
        place = n;
        what = x;
        inside = omega arith;
        reads = e;
        common = upto (meet a.0 x.1) (λ u y l i. begins_trans (meet a.0 x.1) a.0 y.1 (meet_left a.0 x.1) (a.2.common u y l i)) (λ y i. subst (Begins (meet a.0 x.1)) (same_path n x y e i) (meet_right a.0 x.1));
        longest = λ b k. meet_longest b a.0 x.1 (a.2.longest b (λ u y l. k u y (omega arith))) (k n x (omega arith) e);
      },
    ))

  pub met : (n : ℕ) → Met K n f (meet_of K n f)
  met zero = inl (refl, λ u l. absurd (omega arith))
  met (suc n) = next n (meet_of K n f) (met n) (f n) refl
