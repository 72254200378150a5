-- The ends of lists, and the tie rule.
use Rattle.std.proofs.Common.{◌≡◌, ℕ, ◌+◌, ◌<◌, ◌⊎◌, List, [], ◌∷◌, ◌++◌, length, All, get_or, sym, refl, ap, ◌∙◌, subst, inl, inr, arith}
use native.Mathlib.Decide.{dec_lt}
use Rattle.std.proofs.lemmas.List.{length_push, get_or_push, get_or_append_left}
use Rattle.viterbi.specs.Lists.{EndsIn}
use Rattle.viterbi.specs.Paths.{LowerAtLast}

pub unsnoc : (x : ℕ) (xs : List ℕ) → (q : List ℕ) × (t : ℕ) × (x ∷ xs ≡ q ++ t ∷ [])
unsnoc x [] = ([], x, refl)
unsnoc x (y ∷ ys) = let r = unsnoc y ys in (x ∷ r.0, r.1, ap (λ (l : List ℕ). x ∷ l) r.2)

abbrev pub last_of : ℕ → List ℕ → ℕ
last_of s [] = s
last_of s (t ∷ ts) = last_of t ts

pub last_push : (s : ℕ) (q : List ℕ) (t : ℕ) → last_of s (q ++ t ∷ []) ≡ t
last_push s [] t = refl
last_push s (x ∷ q) t = last_push x q t

pub all_split : (P : ℕ → Type 0) (q : List ℕ) (t : ℕ) → All P (q ++ t ∷ []) → All P q × P t
all_split P q t h = (
  λ k d l. subst P (get_or_append_left q (t ∷ []) d k l) (h k d (omega (arith, length_push q t))),
  subst P (get_or_push q t t (length q) refl) (h (length q) t (omega (arith, length_push q t))),
)

pub compare : (i j : ℕ) → (i < j) ⊎ (i ≡ j) ⊎ (j < i)
compare i j = elim (dec_lt i j) [ yes h ↦ inl h | no h ↦ elim (dec_lt j i) [ yes k ↦ inr (inr k) | no k ↦ inr (inl (omega arith)) ] ]

pub lower_asym : (p q : List ℕ) → length p ≡ length q → LowerAtLast p q → LowerAtLast q p → ⊥
lower_asym p q n a b = go (compare a.place b.place)
  where
    go : (a.place < b.place) ⊎ (a.place ≡ b.place) ⊎ (b.place < a.place) → ⊥
    go (inl h) = omega (arith, a.same_after b.place h (omega (arith, b.inside)), b.lower)
    go (inr (inl e)) = let l : get_or q a.place 0 < get_or p a.place 0 = rw e b.lower in omega (arith, l, a.lower)
    go (inr (inr h)) = omega (arith, b.same_after a.place h (omega (arith, a.inside)), a.lower)

pub lower_push : (p q : List ℕ) (t : ℕ) → length p ≡ length q → LowerAtLast p q → LowerAtLast (p ++ t ∷ []) (q ++ t ∷ [])
lower_push p q t n a = record {
  place = a.place;
  inside = rw length_push (omega (arith, a.inside));
  lower = rw (get_or_append_left p (t ∷ []) 0 a.place a.inside, get_or_append_left q (t ∷ []) 0 a.place (omega (arith, a.inside))) a.lower;
  same_after = λ k h l. after k h (compare k (length p)) (simp length_push at l);
}
  where
    after : (k : ℕ) → a.place < k → (k < length p) ⊎ (k ≡ length p) ⊎ (length p < k) → k < length p + 1 → get_or (p ++ t ∷ []) k 0 ≡ get_or (q ++ t ∷ []) k 0
    after k h (inl l) m = get_or_append_left p (t ∷ []) 0 k l ∙ a.same_after k h l ∙ sym (get_or_append_left q (t ∷ []) 0 k (omega arith))
    after k h (inr (inl e)) m = get_or_push p t 0 k (sym e) ∙ sym (get_or_push q t 0 k (sym n ∙ sym e))
    after k h (inr (inr l)) m = absurd (omega arith)

lower_here : (a b : List ℕ) (s u : ℕ) → s < u → length a ≡ length b → LowerAtLast (a ++ s ∷ []) (b ++ u ∷ [])
lower_here a b s u h n = record {
  place = length a;
  inside = rw length_push (omega arith);
  lower = rw (get_or_push a s 0 (length a) refl, get_or_push b u 0 (length a) (sym n)) h;
  same_after = λ k l m. let i : k < length a + 1 = simp length_push at m in absurd (omega arith);
}

pub lower_ends : (p q : List ℕ) (s u t : ℕ) → EndsIn p s → EndsIn q u → s < u → length p ≡ length q → LowerAtLast (p ++ t ∷ []) (q ++ t ∷ [])
lower_ends p q s u t a b h n = lower_push p q t n (rw (a.1, b.1) (lower_here a.0 b.0 s u h m))
  where
    m : length a.0 ≡ length b.0
    m = omega (arith, n, ap length a.1, ap length b.1, length_push a.0 s, length_push b.0 u)
