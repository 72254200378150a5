-- The forest of the cheapest paths.
use Rattle.std.proofs.Common.{◌≡◌, ℕ, suc, ◌<◌, ◌≤◌, ◌⊎◌, ◌↔◌, List, ◌++◌, length, get_or, take, drop, sym, refl, ap, ◌∙◌, subst, inl, inr, add-one, arith}
use Rattle.std.proofs.lemmas.List.{length-take, take-append-drop, take_more, get_or_append_left, get_or-take}
use Rattle.cost.specs.Kind.{Kind}
use Rattle.model.specs.Meaning.{Meaning}
use Rattle.viterbi.specs.Lists.{Begins}
use Rattle.viterbi.specs.Paths.{Reachable, CheapestTo, Survivor, Decided, Cell, Log}
use Rattle.viterbi.specs.Theorems.{OneCell, TwoCells, Link, Forest}
use Rattle.viterbi.proofs.Ends.{compare}
use Rattle.viterbi.proofs.Cheapest.{unique}
use Rattle.viterbi.proofs.Shared.{begins_fits}
use Rattle.viterbi.proofs.Growth.{exists, beginnings}

module _ (K : Kind) (M : Meaning) where
  -- a survivor, cut behind the reading i
  through : (xs : Log) (p : List ℕ) (a : Survivor K M xs p) (i : ℕ) → i < length xs → (e : K.Cost) × CheapestTo K M (take (suc i) xs) (get_or p i 0) (take (suc i) p) e
  through xs p a i l =
      let n : i < length p = omega (arith, a.2.is_open.one_each) in
      let m : length (take (suc i) p) ≡ suc i = omega (arith, length-take (suc i) p) in
      let b = beginnings K M xs a.0 p a.1 a.2 (take (suc i) p) (get_or p i 0) (drop (suc i) p, sym (take-append-drop (suc i) p)) (take i p, rw add-one at (take_more p i 0 n)) in
      (b.0, subst (λ z. CheapestTo K M (take z xs) (get_or p i 0) (take (suc i) p) b.0) m b.1)

  merged : (xs : Log) (p q : List ℕ) → Survivor K M xs p → Survivor K M xs q → (i : ℕ) → i < length xs → get_or p i 0 ≡ get_or q i 0 → take (suc i) p ≡ take (suc i) q
  merged xs p q h k i l e =
      let a = through xs p h i l in
      let b = through xs q k i l in
      (unique K M (take (suc i) xs) (get_or q i 0) (take (suc i) p) (take (suc i) q) a.0 b.0 (subst (λ z. CheapestTo K M (take (suc i) xs) z (take (suc i) p) a.0) e a.1) b.1).0

  cell : (xs : Log) (q : List ℕ) → Survivor K M xs q → (i : ℕ) → i < length xs → Cell K M xs i (get_or q i 0)
  cell xs q a i l = record { path = q; survivor = a; inside = l; lies = refl }

  at_front : (d p : List ℕ) (i : ℕ) → Begins d p → i < length d → get_or p i 0 ≡ get_or d i 0
  at_front d p i b l = ap (λ z. get_or z i 0) b.1 ∙ get_or_append_left d b.0 0 i l

  at_take : (p q : List ℕ) (n i : ℕ) → i < n → take n p ≡ take n q → get_or p i 0 ≡ get_or q i 0
  at_take p q n i l e = sym (get_or-take n p i 0 l) ∙ (ap (λ z. get_or z i 0) e ∙ get_or-take n q i 0 l)

  module _ (xs : Log) (d : List ℕ) (t : ℕ) (h : Decided K M xs d) (r : Reachable K M xs t) where
    layers : (i : ℕ) → i < length xs → (i < length d) ↔ OneCell K M xs i
    layers i l = (λ k s u a b. sym a.lies ∙ (at a k ∙ (sym (at b k) ∙ b.lies)), from)
      where
        at : {s : ℕ} (a : Cell K M xs i s) → i < length d → get_or a.path i 0 ≡ get_or d i 0
        at a k = at_front d a.path i (h.shared.begins a.path a.survivor) k

        from : OneCell K M xs i → i < length d
        from same =
            let e = exists K M xs t r in
            let p = e.0 in
            let a : Survivor K M xs p = (t, e.1, e.2) in
            let n : length (take (suc i) p) ≡ suc i = omega (arith, length-take (suc i) p, e.2.is_open.one_each) in
            let b = h.longest (take (suc i) p) (record {
              within = omega (arith, n);
              begins = λ q k.
                  let m = merged xs p q a k i l (same (get_or p i 0) (get_or q i 0) (cell xs p a i l) (cell xs q k i l)) in
                  (drop (suc i) q, sym (take-append-drop (suc i) q) ∙ ap (λ z. z ++ drop (suc i) q) (sym m));
            }) in
            omega (arith, n, begins_fits (take (suc i) p) d b)

    first : (n : ℕ) → n ≤ length xs → ((i : ℕ) → i < n → OneCell K M xs i) → (n ≡ length xs) ⊎ TwoCells K M xs n → length d ≡ n
    first n l below here = at (compare (length d) n) here
      where
        at : (length d < n) ⊎ (length d ≡ n) ⊎ (n < length d) → (n ≡ length xs) ⊎ TwoCells K M xs n → length d ≡ n
        at (inl k) _ = absurd (omega (arith, (layers (length d) (omega arith)).1 (below (length d) k)))
        at (inr (inl e)) _ = e
        at (inr (inr k)) (inl e) = absurd (omega (arith, h.shared.within))
        at (inr (inr k)) (inr w) = absurd (w.4 ((layers n w.2.inside).0 k w.0 w.1 w.2 w.3))

    equal : (i : ℕ) → i < length xs → (i < length d) ↔ ((p q : List ℕ) → Survivor K M xs p → Survivor K M xs q → take (suc i) p ≡ take (suc i) q)
    equal i l =
        let y = layers i l in (
          λ k p q a b. merged xs p q a b i l (y.0 k (get_or p i 0) (get_or q i 0) (cell xs p a i l) (cell xs q b i l)),
          λ k. y.1 (λ s u a b. sym a.lies ∙ (at_take a.path b.path (suc i) i (omega arith) (k a.path b.path a.survivor b.survivor) ∙ b.lies)),
        )

  only : (xs : Log) (i a b c : ℕ) → Link K M xs i a c → Link K M xs i b c → a ≡ b
  only xs i a b c h k =
      let m = merged xs h.path k.path h.survivor k.survivor (suc i) h.inside (h.upper ∙ sym k.upper) in
      sym h.lower ∙ (at_take h.path k.path (suc (suc i)) i (omega arith) m ∙ k.lower)

  pub forest : Forest K M
  forest = record {
    merged = merged;
    back = λ xs i b c. (get_or c.path i 0, record { path = c.path; survivor = c.survivor; inside = c.inside; lower = refl; upper = c.lies });
    only = only;
    equal = equal;
    layers = layers;
    first = first;
  }
