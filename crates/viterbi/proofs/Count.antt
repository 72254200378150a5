-- The live cells and their number.
use Rattle.std.proofs.Common.{◌≡◌, ℕ, zero, suc, ◌<◌, ◌≤◌, Bool, true, false, cond, leb, ◌⊎◌, List, [], ◌∷◌, ◌++◌, length, get_or, Some, None, Option, sym, refl, ap, ◌∙◌, subst, inl, inr, arith}
use borrow.Author.Tests.{clash}
use Rattle.std.proofs.lemmas.Bool.{eqb-true, eq-eqb, leb-true, le-leb, or_cases, or_left, or_right, cond-true, cond_both}
use Rattle.cost.specs.Kind.{Kind}
use Rattle.model.specs.Meaning.{Meaning}
use Rattle.viterbi.specs.Lists.{In, Distinct, Counted}
use Rattle.viterbi.specs.Paths.{Reachable, Decided, LiveCell, Log}
use Rattle.viterbi.specs.Algorithm.{Kept, survivors, decided, on_path, any_on, layer, cells_from, live_cells}
use Rattle.viterbi.specs.Theorems.{LiveCells}
use Rattle.viterbi.proofs.Algorithm.{in_front}
use Rattle.viterbi.proofs.Growth.{survivor_is, grows}

-- a list without one of its elements
module _ {A : Type 0} where
  without : (x : A) (ys : List A) → In x ys → List A
  without x [] h = elim h [ ]
  without x (y ∷ ys) (inl e) = ys
  without x (y ∷ ys) (inr h) = y ∷ without x ys h

  without_length : (x : A) (ys : List A) (h : In x ys) → length ys ≡ suc (length (without x ys h))
  unfolding without
  without_length x [] h = elim h [ ]
  without_length x (y ∷ ys) (inl e) = refl
  without_length x (y ∷ ys) (inr h) = ap suc (without_length x ys h)

  without_in : (x : A) (ys : List A) (h : In x ys) (a : A) → In a ys → (a ≡ x) ⊎ In a (without x ys h)
  unfolding without
  without_in x [] h a i = elim i [ ]
  without_in x (y ∷ ys) (inl e) a (inl i) = inl (i ∙ sym e)
  without_in x (y ∷ ys) (inl e) a (inr i) = inr i
  without_in x (y ∷ ys) (inr h) a (inl i) = inr (inl i)
  without_in x (y ∷ ys) (inr h) a (inr i) = elim (without_in x ys h a i) [ inl j ↦ inl j | inr j ↦ inr (inr j) ]

  in_subst : (a b : A) (xs : List A) → a ≡ b → In a xs → In b xs
  in_subst a b xs e h = subst (λ z. In z xs) e h

  -- a list of distinct elements is no longer than one that has them all
  fits_in : (xs ys : List A) → Distinct xs → ((a : A) → In a xs → In a ys) → length xs ≤ length ys
  fits_in [] ys d h = omega arith
  fits_in (x ∷ xs) ys d h =
      let i = h x (inl refl) in
      let k = fits_in xs (without x ys i) d.1 (λ a j. elim (without_in x ys i a (h a (inr j))) [ inl e ↦ absurd (d.0 (in_subst a x xs e j)) | inr m ↦ m ]) in
      omega (arith, k, without_length x ys i)

  in_append : (a : A) (xs ys : List A) → In a (xs ++ ys) → In a xs ⊎ In a ys
  in_append a [] ys h = inr h
  in_append a (x ∷ xs) ys (inl e) = inl (inl e)
  in_append a (x ∷ xs) ys (inr h) = elim (in_append a xs ys h) [ inl i ↦ inl (inr i) | inr i ↦ inr i ]

  in_left : (a : A) (xs ys : List A) → In a xs → In a (xs ++ ys)
  in_left a [] ys h = elim h [ ]
  in_left a (x ∷ xs) ys (inl e) = inl e
  in_left a (x ∷ xs) ys (inr h) = inr (in_left a xs ys h)

  in_right : (a : A) (xs ys : List A) → In a ys → In a (xs ++ ys)
  in_right a [] ys h = h
  in_right a (x ∷ xs) ys h = inr (in_right a xs ys h)

  distinct_append : (xs ys : List A) → Distinct xs → Distinct ys → ((a : A) → In a xs → In a ys → ⊥) → Distinct (xs ++ ys)
  distinct_append [] ys d e h = e
  distinct_append (x ∷ xs) ys d e h = (λ i. elim (in_append x xs ys i) [ inl j ↦ d.0 j | inr j ↦ h x (inl refl) j ], distinct_append xs ys d.1 e (λ a i j. h a (inr i) j))

no_more : (P : ℕ → ℕ → Type 0) (m n : ℕ) (a : Counted P m) (b : Counted P n) → length a.pairs ≤ length b.pairs
no_more P m n a b = fits_in a.pairs b.pairs a.once (λ c h. b.all c.0 c.1 (a.only c.0 c.1 h))

-- the number of pairs of a sort is one number
pub counted_one : (P : ℕ → ℕ → Type 0) (m n : ℕ) → Counted P m → Counted P n → m ≡ n
counted_one P m n a b = omega (arith, no_more P m n a b, no_more P n m b a, a.many, b.many)

module _ (K : Kind) (M : Meaning) where
  -- the cells of one reading
  layer_in : (i : ℕ) (b : ℕ → Bool) (n j s : ℕ) → In (j, s) (layer i b n) → (j ≡ i) × (s < n) × (b s ≡ true)
  layer_in i b zero j s h = elim h [ ]
  layer_in i b (suc n) j s h = at (b n) refl (layer_in i b n j s) h
    where
      more : (j ≡ i) × (s < n) × (b s ≡ true) → (j ≡ i) × (s < suc n) × (b s ≡ true)
      more m = (m.0, omega (arith, m.1), m.2)

      at : (o : Bool) → b n ≡ o → (In (j, s) (layer i b n) → (j ≡ i) × (s < n) × (b s ≡ true)) → In (j, s) (cond o ((i, n) ∷ layer i b n) (layer i b n)) → (j ≡ i) × (s < suc n) × (b s ≡ true)
      at true e r (inl k) = (ap (λ (z : ℕ × ℕ). z.0) k, omega (arith, ap (λ (z : ℕ × ℕ). z.1) k), ap b (ap (λ (z : ℕ × ℕ). z.1) k) ∙ e)
      at true e r (inr k) = more (r k)
      at false e r k = more (r k)

  layer_has : (i : ℕ) (b : ℕ → Bool) (n s : ℕ) → s < n → b s ≡ true → In (i, s) (layer i b n)
  layer_has i b zero s l e = absurd (omega arith)
  layer_has i b (suc n) s l e = at (in_front s n l) (layer_has i b n s)
    where
      at : (s < n) ⊎ (s ≡ n) → (s < n → b s ≡ true → In (i, s) (layer i b n)) → In (i, s) (layer i b (suc n))
      at (inl k) r = cond_both (b n) ((i, n) ∷ layer i b n) (layer i b n) (In (i, s)) (λ _. inr (r k e)) (λ _. r k e)
      at (inr k) r = subst (In (i, s)) (sym (cond-true (b n) ((i, n) ∷ layer i b n) (layer i b n) (ap b (sym k) ∙ e))) (inl (λ t. (i, k t)))

  layer_distinct : (i : ℕ) (b : ℕ → Bool) (n : ℕ) → Distinct (layer i b n)
  layer_distinct i b zero = tt
  layer_distinct i b (suc n) =
      let r = layer_distinct i b n in
      cond_both (b n) ((i, n) ∷ layer i b n) (layer i b n) Distinct (λ _. (λ h. omega (arith, (layer_in i b n i n h).1), r)) (λ _. r)

  -- what lies on the path of one of the first n
  any_from : (n : ℕ) (f : ℕ → Option (Kept K)) (i s : ℕ) → any_on K n f i s ≡ true → (u : ℕ) × (y : Kept K) × (u < n) × (f u ≡ Some y) × (get_or y.1 i 0 ≡ s)
  any_from zero f i s e = absurd (clash e)
  any_from (suc n) f i s e = at (or_cases (on_path K (f n) i s) (any_on K n f i s) e) (any_from n f i s)
    where
      on : (o : Option (Kept K)) → f n ≡ o → on_path K o i s ≡ true → (u : ℕ) × (y : Kept K) × (u < suc n) × (f u ≡ Some y) × (get_or y.1 i 0 ≡ s)
      on None k h = absurd (clash h)
      on (Some y) k h = (n, y, omega arith, k, eqb-true (get_or y.1 i 0) s h)

      at : (on_path K (f n) i s ≡ true) ⊎ (any_on K n f i s ≡ true) → (any_on K n f i s ≡ true → (u : ℕ) × (y : Kept K) × (u < n) × (f u ≡ Some y) × (get_or y.1 i 0 ≡ s)) → (u : ℕ) × (y : Kept K) × (u < suc n) × (f u ≡ Some y) × (get_or y.1 i 0 ≡ s)
      at (inl h) r = on (f n) refl h
      at (inr h) r = let m = r h in (m.0, m.1, omega (arith, m.2), m.3, m.4)

  any_to : (n : ℕ) (f : ℕ → Option (Kept K)) (i s u : ℕ) (y : Kept K) → u < n → f u ≡ Some y → get_or y.1 i 0 ≡ s → any_on K n f i s ≡ true
  any_to zero f i s u y l e h = absurd (omega arith)
  any_to (suc n) f i s u y l e h = at (in_front u n l) (any_to n f i s u y)
    where
      at : (u < n) ⊎ (u ≡ n) → (u < n → f u ≡ Some y → get_or y.1 i 0 ≡ s → any_on K n f i s ≡ true) → any_on K (suc n) f i s ≡ true
      at (inl k) r = or_right (on_path K (f n) i s) (any_on K n f i s) (r k e h)
      at (inr k) r = or_left (on_path K (f n) i s) (any_on K n f i s) (subst (λ o. on_path K o i s ≡ true) (sym (ap f (sym k) ∙ e)) (eq-eqb (get_or y.1 i 0) s h))

  -- the cells of the readings from d on
  module _ (d : ℕ) (f : ℕ → Option (Kept K)) where
    abbrev Here : ℕ → ℕ → ℕ → Type 0
    Here m i s = (d ≤ i) × (i < m) × (s < M.modes) × (any_on K M.modes f i s ≡ true)

    cells_in : (m i s : ℕ) → In (i, s) (cells_from K M d f m) → Here m i s
    cells_in zero i s h = elim h [ ]
    cells_in (suc m) i s h = at (leb d m) refl (cells_in m i s) h
      where
        row : List (ℕ × ℕ)
        row = layer m (any_on K M.modes f m) M.modes

        more : Here m i s → Here (suc m) i s
        more k = (k.0, omega (arith, k.1), k.2, k.3)

        at : (o : Bool) → leb d m ≡ o → (In (i, s) (cells_from K M d f m) → Here m i s) → In (i, s) (cond o (row ++ cells_from K M d f m) (cells_from K M d f m)) → Here (suc m) i s
        at true e r k = elim (in_append (i, s) row (cells_from K M d f m) k) [
          | inl j ↦ (let a = layer_in m (any_on K M.modes f m) M.modes i s j in (omega (arith, leb-true d m e, a.0), omega (arith, a.0), a.1, subst (λ z. any_on K M.modes f z s ≡ true) (sym a.0) a.2))
          | inr j ↦ more (r j)
        ]
        at false e r k = more (r k)

    cells_has : (m i s : ℕ) → Here m i s → In (i, s) (cells_from K M d f m)
    cells_has zero i s h = absurd (omega (arith, h.1))
    cells_has (suc m) i s h = at (in_front i m h.1) (cells_has m i s)
      where
        row : List (ℕ × ℕ)
        row = layer m (any_on K M.modes f m) M.modes

        rest : List (ℕ × ℕ)
        rest = cells_from K M d f m

        at : (i < m) ⊎ (i ≡ m) → (Here m i s → In (i, s) rest) → In (i, s) (cells_from K M d f (suc m))
        at (inl k) r = let j = r (h.0, k, h.2, h.3) in cond_both (leb d m) (row ++ rest) rest (In (i, s)) (λ _. in_right (i, s) row rest j) (λ _. j)
        at (inr k) r =
            let j = layer_has m (any_on K M.modes f m) M.modes s h.2 (subst (λ z. any_on K M.modes f z s ≡ true) k h.3) in
            subst (In (i, s)) (sym (cond-true (leb d m) (row ++ rest) rest (le-leb d m (omega (arith, h.0))))) (in_left (i, s) row rest (subst (λ z. In (z, s) row) (sym k) j))

    cells_distinct : (m : ℕ) → Distinct (cells_from K M d f m)
    cells_distinct zero = tt
    cells_distinct (suc m) =
        let b = any_on K M.modes f m in
        let row = layer m b M.modes in
        let rest = cells_from K M d f m in
        let r = cells_distinct m in
        cond_both (leb d m) (row ++ rest) rest Distinct (λ _. distinct_append row rest (layer_distinct m b M.modes) r (λ a i j. omega (arith, (layer_in m b M.modes a.0 a.1 i).0, (cells_in m a.0 a.1 j).1))) (λ _. r)

  module _ (xs : Log) (t : ℕ) (r : Reachable K M xs t) where
    stands : Decided K M xs (decided K M xs)
    stands = (grows K M).found xs t r

    shown_live : (i s : ℕ) → LiveCell K M xs i s → In (i, s) (live_cells K M xs)
    shown_live i s a =
        let c = a.cell in
        let o = c.survivor.2.is_open in
        let e = (grows K M).one xs a.decided (decided K M xs) a.is_decided stands in
        let v = (survivor_is K M xs c.survivor.0 c.path c.survivor.1).1 c.survivor.2 in
        cells_has (length (decided K M xs)) (survivors K M xs) (length xs) i s (
          omega (arith, a.undecided, ap length e),
          c.inside,
          subst (λ z. z < M.modes) c.lies (o.modes i 0 (omega (arith, o.one_each, c.inside))),
          any_to M.modes (survivors K M xs) i s c.survivor.0 (c.survivor.1, c.path) v.0 v.1 c.lies,
        )

    shown_only : (i s : ℕ) → In (i, s) (live_cells K M xs) → LiveCell K M xs i s
    shown_only i s h =
        let c = cells_in (length (decided K M xs)) (survivors K M xs) (length xs) i s h in
        let a = any_from M.modes (survivors K M xs) i s c.3 in
        record {
          decided = decided K M xs;
          is_decided = stands;
          undecided = c.0;
          cell = record { path = a.1.1; survivor = (a.0, a.1.0, (survivor_is K M xs a.0 a.1.1 a.1.0).0 (a.2, a.3)); inside = c.1; lies = a.4 };
        }

  no_cell : (i s : ℕ) → LiveCell K M [] i s → ⊥
  no_cell i s a = omega (arith, a.cell.inside)

  pub live_cells_lem : LiveCells K M
  live_cells_lem = record {
    one = λ xs m n a b. counted_one (LiveCell K M xs) m n a b;
    none = record { pairs = []; many = refl; once = tt; all = no_cell; only = λ i s h. absurd h };
    found = λ xs t r. record {
      pairs = live_cells K M xs;
      many = refl;
      once = cells_distinct (length (decided K M xs)) (survivors K M xs) (length xs);
      all = shown_live xs t r;
      only = shown_only xs t r;
    };
  }
