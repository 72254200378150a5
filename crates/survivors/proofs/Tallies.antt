-- Laws of tally.
use Rattle.std.proofs.Common.{◌≡◌, ℕ, zero, suc, ◌+◌, ◌*◌, ◌<◌, ◌≤◌, ◌≢◌, refl, subst, ⊎_elim, suc-mul, arith}
use Rattle.std.proofs.lemmas.Bool.{cases_eq, cases_lt}
use Rattle.survivors.specs.Sums.{tally}

pub tally_same : (f g : ℕ → ℕ) (n : ℕ) → ((x : ℕ) → x < n → f x ≡ g x) → tally f n ≡ tally g n
unfolding tally
tally_same f g zero h = refl
tally_same f g (suc n) h =
    let below : tally f n ≡ tally g n = tally_same f g n (λ x l. h x (omega arith)) in
    omega (arith, h n (omega arith))

-- two functions that differ at i alone
pub tally_change : (f g : ℕ → ℕ) (i n : ℕ) → i < n → ((x : ℕ) → x < n → x ≢ i → f x ≡ g x) → tally g n + f i ≡ tally f n + g i
unfolding tally
tally_change f g i zero l h = omega arith
tally_change f g i (suc n) l h =
    ⊎_elim
    (λ (e : n ≡ i). subst (λ (k : ℕ). tally g n + g n + f k ≡ tally f n + f n + g k) e (let s : tally f n ≡ tally g n = tally_same f g n (λ x k. h x (omega arith) (λ q. omega arith)) in omega arith))
    (λ (ne : n ≡ i → ⊥). let s : tally g n + f i ≡ tally f n + g i = tally_change f g i n (omega arith) (λ x k q. h x (omega arith) q) in omega (arith, h n (omega arith) ne))
    (cases_eq n i)

pub tally_ge : (f : ℕ → ℕ) (i n : ℕ) → i < n → f i ≤ tally f n
unfolding tally
tally_ge f i zero l = omega arith
tally_ge f i (suc n) l =
    ⊎_elim
    (λ (e : n ≡ i). subst (λ (k : ℕ). f k ≤ tally f n + f n) e (omega arith))
    (λ (ne : n ≡ i → ⊥). let s : f i ≤ tally f n = tally_ge f i n (omega arith) in omega arith)
    (cases_eq n i)

-- two places
pub tally_two : (f : ℕ → ℕ) (i j n : ℕ) → i < j → j < n → f i + f j ≤ tally f n
unfolding tally
tally_two f i j zero l m = omega arith
tally_two f i j (suc n) l m =
    ⊎_elim
    (λ (e : n ≡ j). subst (λ (k : ℕ). f i + f k ≤ tally f n + f n) e (let s : f i ≤ tally f n = tally_ge f i n (omega arith) in omega arith))
    (λ (ne : n ≡ j → ⊥). let s : f i + f j ≤ tally f n = tally_two f i j n l (omega arith) in omega arith)
    (cases_eq n j)

-- some place holds something
pub tally_some : (f : ℕ → ℕ) (n : ℕ) → 0 < tally f n → (i : ℕ) × (i < n) × (0 < f i)
unfolding tally
tally_some f zero h = absurd (omega arith)
tally_some f (suc n) h =
    ⊎_elim
    (λ (l : 0 < f n). (n, omega arith, l))
    (λ (l : f n ≤ 0). let s = tally_some f n (omega arith) in (s.0, omega (arith, s.1), s.2))
    (cases_lt 0 (f n))

-- one place holds all
pub tally_only : (f : ℕ → ℕ) (i n : ℕ) → i < n → ((x : ℕ) → x < n → x ≢ i → f x ≡ 0) → tally f n ≡ f i
unfolding tally
tally_only f i n l h =
    let e : tally (λ x. 0) n + f i ≡ tally f n + 0 = tally_change f (λ x. 0) i n l h in
    omega (arith, none n)
  where
    none : (n : ℕ) → tally (λ x. 0) n ≡ 0
    none zero = refl
    none (suc n) = omega (arith, none n)

pub tally_bound : (f : ℕ → ℕ) (m n : ℕ) → ((x : ℕ) → x < n → f x ≤ m) → tally f n ≤ n * m
unfolding tally
tally_bound f m zero h = omega arith
tally_bound f m (suc n) h =
    let below : tally f n ≤ n * m = tally_bound f m n (λ x l. h x (omega arith)) in
    omega (arith, h n (omega arith), suc-mul n m)

pub tally_none : (f : ℕ → ℕ) (n : ℕ) → ((x : ℕ) → x < n → f x ≡ 0) → tally f n ≡ 0
unfolding tally
tally_none f zero h = refl
tally_none f (suc n) h =
    let below : tally f n ≡ 0 = tally_none f n (λ x l. h x (omega arith)) in
    omega (arith, h n (omega arith))

-- two places, where each holds at most one
pub tally_pair : (f : ℕ → ℕ) (n : ℕ) → ((x : ℕ) → x < n → f x ≤ 1) → 1 < tally f n → (i : ℕ) × (j : ℕ) × (i < j) × (j < n) × (0 < f i) × (0 < f j)
unfolding tally
tally_pair f zero h k = absurd (omega arith)
tally_pair f (suc n) h k =
    ⊎_elim
    (λ (l : 0 < f n).
    let s = tally_some f n (omega (arith, h n (omega arith))) in
    (s.0, n, s.1, omega arith, s.2, l))
    (λ (l : f n ≤ 0).
    let s = tally_pair f n (λ x m. h x (omega arith)) (omega arith) in
    (s.0, s.1, s.2, omega (arith, s.3), s.4, s.5))
    (cases_lt 0 (f n))
