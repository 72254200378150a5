-- Beginnings and ends of paths, what a family of paths shares, and how many pairs there are of a sort.
use Rattle.std.specs.Prelude.{◌≡◌, ℕ, ◌≤◌, ◌⊎◌, List, [], ◌∷◌, ◌++◌, length}

-- The path p ends in the mode t.
abbrev pub EndsIn : List ℕ → ℕ → Type 0
EndsIn p t = (q : List ℕ) × (p ≡ q ++ t ∷ [])

-- The path p begins with d.
abbrev pub Begins : List ℕ → List ℕ → Type 0
Begins d p = (e : List ℕ) × (p ≡ d ++ e)

-- Every path of the family P, which are of length n, begins with d.
pub record Shared (n : ℕ) (P : List ℕ → Type 0) (d : List ℕ) : Type 0 where
  pub within : length d ≤ n
  pub begins : (p : List ℕ) → P p → Begins d p

-- d is the longest beginning that the paths of P share.
pub record LongestShared (n : ℕ) (P : List ℕ → Type 0) (d : List ℕ) : Type 0 where
  pub shared : Shared n P d
  pub longest : (e : List ℕ) → Shared n P e → Begins e d

-- a is an element of the list.
abbrev pub In : {A : Type 0} → A → List A → Type 0
In a [] = ⊥
In a (x ∷ xs) = (a ≡ x) ⊎ In a xs

-- No element stands twice in the list.
abbrev pub Distinct : {A : Type 0} → List A → Type 0
Distinct [] = Unit {0}
Distinct (x ∷ xs) = (In x xs → ⊥) × Distinct xs

-- P holds of exactly n pairs: a list has exactly these, each once, and is of length n.
pub record Counted (P : ℕ → ℕ → Type 0) (n : ℕ) : Type 0 where
  pub pairs : List (ℕ × ℕ)
  pub many : length pairs ≡ n
  pub once : Distinct pairs
  pub all : (i s : ℕ) → P i s → In (i, s) pairs
  pub only : (i s : ℕ) → In (i, s) pairs → P i s
