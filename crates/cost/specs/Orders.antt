-- The order of numbers, and the order of pairs of numbers by the first and then by the second. `compare` computes.
use Rattle.std.specs.Prelude.{◌≡◌, ℕ, ◌+◌, ◌<◌, Bool, true, false, ◌⊎◌, nat_lt, refl}
use Rattle.std.proofs.Common.{sym, ◌∙◌, ap, inl, inr, zero-add, arith}
use Rattle.std.proofs.lemmas.Bool.{ltb-true, ltb-false}

abbrev by_tests : (a b : ℕ) (s t : Bool) → nat_lt a b ≡ s → nat_lt b a ≡ t → (a < b) ⊎ (a ≡ b) ⊎ (b < a)
by_tests a b true t d e = inl (ltb-true a b d)
by_tests a b false true d e = inr (inr (ltb-true b a e))
by_tests a b false false d e = inr (inl (omega (arith, ltb-false a b d, ltb-false b a e)))

abbrev pub compare : (a b : ℕ) → (a < b) ⊎ (a ≡ b) ⊎ (b < a)
compare a b = by_tests a b (nat_lt a b) (nat_lt b a) refl refl

pub record Pair : Type 0 where
  pub first : ℕ
  pub second : ℕ

abbrev pub pair : ℕ → ℕ → Pair
pair a b = record { first = a; second = b }

abbrev pub add_pair : Pair → Pair → Pair
add_pair a b = pair (a.first + b.first) (a.second + b.second)

-- Less in the first number, or equal there and less in the second.
abbrev pub LessPair : Pair → Pair → Type 0
LessPair a b = (a.first < b.first) ⊎ ((a.first ≡ b.first) × (a.second < b.second))

abbrev pub same_pair : (a b : Pair) → a.first ≡ b.first → a.second ≡ b.second → a ≡ b
same_pair a b e f i = pair (e i) (f i)

abbrev by_second : (a b : Pair) → a.first ≡ b.first → (a.second < b.second) ⊎ (a.second ≡ b.second) ⊎ (b.second < a.second) → LessPair a b ⊎ (a ≡ b) ⊎ LessPair b a
by_second a b e (inl h) = inl (inr (e, h))
by_second a b e (inr (inl f)) = inr (inl (same_pair a b e f))
by_second a b e (inr (inr h)) = inr (inr (inr (sym e, h)))

abbrev by_first : (a b : Pair) → (a.first < b.first) ⊎ (a.first ≡ b.first) ⊎ (b.first < a.first) → LessPair a b ⊎ (a ≡ b) ⊎ LessPair b a
by_first a b (inl h) = inl (inl h)
by_first a b (inr (inl e)) = by_second a b e (compare a.second b.second)
by_first a b (inr (inr h)) = inr (inr (inl h))

abbrev pub compare_pair : (a b : Pair) → LessPair a b ⊎ (a ≡ b) ⊎ LessPair b a
compare_pair a b = by_first a b (compare a.first b.first)

pub irreflexive_pair : (a : Pair) → LessPair a a → ⊥
irreflexive_pair a (inl h) = omega arith
irreflexive_pair a (inr h) = omega (arith, h.1)

pub transitive_pair : (a b c : Pair) → LessPair a b → LessPair b c → LessPair a c
transitive_pair a b c (inl h) (inl k) = inl (omega arith)
transitive_pair a b c (inl h) (inr k) = inl (omega (arith, k.0))
transitive_pair a b c (inr h) (inl k) = inl (omega (arith, h.0))
transitive_pair a b c (inr h) (inr k) = inr (h.0 ∙ k.0, omega (arith, h.1, k.1))

pub add_less_pair : (a b c : Pair) → LessPair a b → LessPair (add_pair a c) (add_pair b c)
add_less_pair a b c (inl h) = inl (omega arith)
add_less_pair a b c (inr h) = inr (ap (λ z. z + c.first) h.0, omega (arith, h.1))

pub zero_add_pair : (c : Pair) → add_pair (pair 0 0) c ≡ c
zero_add_pair c = same_pair _ c (zero-add c.first) (zero-add c.second)
