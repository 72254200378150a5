-- One reading more: how open paths and their costs grow at the end.
use Rattle.std.proofs.Common.{◌≡◌, ℕ, suc, ◌<◌, List, [], ◌∷◌, ◌++◌, length, Some, None, sym, refl, ap, ◌∙◌, subst, arith, option_and_then}
use Rattle.std.proofs.lemmas.List.{length_push}
use Rattle.std.proofs.lemmas.List.Elements.{All-push}
use Rattle.std.proofs.lemmas.Option.{none-some, same_Some}
use Rattle.cost.specs.Sums.{came}
use Rattle.cost.specs.declared.charge.Charge.{Charge}
use Rattle.cost.specs.Kind.{Kind, sum}
use Rattle.model.specs.Meaning.{Meaning}
use Rattle.viterbi.specs.Lists.{EndsIn}
use Rattle.viterbi.specs.Paths.{later, charges, cost, extended, Open, Reading, Log}
use Rattle.cost.proofs.Arising.{added_append}
use Rattle.viterbi.proofs.Ends.{unsnoc, last_of, last_push, all_split}

pub later_push : (M : Meaning) (s : ℕ) (rs : Log) (ts : List ℕ) (r : Reading) (t : ℕ) → length ts ≡ length rs → later M s (rs ++ r ∷ []) (ts ++ t ∷ []) ≡ later M s rs ts ++ M.passage (last_of s ts) t ∷ M.reading t r ∷ []
later_push M s [] [] r t n = refl
later_push M s [] (u ∷ us) r t n = absurd (omega arith)
later_push M s (x ∷ xs) [] r t n = absurd (omega arith)
later_push M s (x ∷ xs) (u ∷ us) r t n = ap (λ (l : List Charge). M.passage s u ∷ M.reading u x ∷ l) (later_push M u xs us r t (omega arith))

module _ (K : Kind) where
  -- from a lower cost the same charges come to a lower cost
  pub sum_less : (hs : List Charge) (b c d : K.Cost) → K.Less b c → sum K c hs ≡ Some d → (e : K.Cost) × (sum K b hs ≡ Some e) × K.Less e d
  sum_less [] b c d l e = (b, refl, subst (K.Less b) (same_Some c d e) l)
  sum_less (h ∷ hs) b c d l e =
      (elim (K.cost_of h) as (λ o. option_and_then (λ x. sum K (K.add c x) hs) o ≡ Some d → (f : K.Cost) × (option_and_then (λ x. sum K (K.add b x) hs) o ≡ Some f) × K.Less f d) [
        | None ↦ λ i. absurd (none-some d i)
        | Some x ↦ λ i. sum_less hs (K.add b x) (K.add c x) d (K.add_less b c x l) i
      ]) e

  -- whether charges are barred does not depend on what they are added to
  pub sum_defined : (hs : List Charge) (b c d : K.Cost) → sum K c hs ≡ Some d → (e : K.Cost) × (sum K b hs ≡ Some e)
  sum_defined [] b c d e = (b, refl)
  sum_defined (h ∷ hs) b c d e =
      (elim (K.cost_of h) as (λ o. option_and_then (λ x. sum K (K.add c x) hs) o ≡ Some d → (f : K.Cost) × (option_and_then (λ x. sum K (K.add b x) hs) o ≡ Some f)) [
        | None ↦ λ i. absurd (none-some d i)
        | Some x ↦ λ i. sum_defined hs (K.add b x) (K.add c x) d i
      ]) e

module _ (K : Kind) (M : Meaning) where
  pub cost_push : (x : Reading) (u : ℕ) (xs : Log) (us : List ℕ) (r : Reading) (t : ℕ) → length us ≡ length xs → cost K M (x ∷ xs ++ r ∷ []) (u ∷ us ++ t ∷ []) ≡ option_and_then (λ c. extended K M c (last_of u us) t r) (cost K M (x ∷ xs) (u ∷ us))
  cost_push x u xs us r t n =
      ap (λ (l : List Charge). sum K K.zero (M.start u ∷ M.reading u x ∷ l)) (later_push M u xs us r t n) ∙ added_append K.cost_of K.add K.zero (charges M (x ∷ xs) (u ∷ us)) (M.passage (last_of u us) t ∷ M.reading t r ∷ [])

  last_is : (u : ℕ) (us : List ℕ) (s : ℕ) → EndsIn (u ∷ us) s → last_of u us ≡ s
  last_is u us s e = ap (last_of 0) e.1 ∙ last_push 0 e.0 s

  pub open_push : (x : Reading) (xs : Log) (p : List ℕ) (c d : K.Cost) (s t : ℕ) (r : Reading) → Open K M (x ∷ xs) p c → EndsIn p s → t < M.modes → extended K M c s t r ≡ Some d → Open K M (x ∷ xs ++ r ∷ []) (p ++ t ∷ []) d
  open_push x xs [] c d s t r o e h i = absurd (omega (arith, o.one_each))
  open_push x xs (u ∷ us) c d s t r o e h i = record {
    modes = All-push (λ t. t < M.modes) (u ∷ us) t o.modes h;
    one_each = omega (arith, o.one_each, length_push (u ∷ us) t, length_push (x ∷ xs) r);
    costs = cost_push x u xs us r t (omega (arith, o.one_each)) ∙ rw (o.costs, last_is u us s e) i;
  }

  -- an open path for one reading more, taken apart
  pub record Split (xs : Log) (r : Reading) (q : List ℕ) (t : ℕ) (d : K.Cost) : Type 0 where
    pub path : List ℕ
    pub from : ℕ
    pub before : K.Cost
    pub is : q ≡ path ++ t ∷ []
    pub is_open : Open K M xs path before
    pub ends : EndsIn path from
    pub below : t < M.modes
    pub step : extended K M before from t r ≡ Some d

  split_at : (x : Reading) (xs : Log) (r : Reading) (p : List ℕ) (t : ℕ) (d : K.Cost) → Open K M (x ∷ xs ++ r ∷ []) (p ++ t ∷ []) d → Split (x ∷ xs) r (p ++ t ∷ []) t d
  split_at x xs r [] t d o = absurd (omega (arith, o.one_each, length_push xs r))
  split_at x xs r (u ∷ us) t d o =
      let n : length us ≡ length xs = omega (arith, o.one_each, length_push us t, length_push xs r) in
      let m = all_split (λ t. t < M.modes) (u ∷ us) t o.modes in
      let w = came (cost K M (x ∷ xs) (u ∷ us)) (λ c. extended K M c (last_of u us) t r) d (sym (cost_push x u xs us r t n) ∙ o.costs) in
      let l = unsnoc u us in
      let e : EndsIn (u ∷ us) l.1 = (l.0, l.2) in
      record {
        path = u ∷ us;
        from = l.1;
        before = w.0;
        is = refl;
        is_open = record { modes = m.0; one_each = ap suc n; costs = w.1 };
        ends = e;
        below = m.1;
        step = subst (λ z. extended K M w.0 z t r ≡ Some d) (last_is u us l.1 e) w.2;
      }

  pub split : (x : Reading) (xs : Log) (r : Reading) (q : List ℕ) (t : ℕ) (d : K.Cost) → Open K M (x ∷ xs ++ r ∷ []) q d → EndsIn q t → Split (x ∷ xs) r q t d
  split x xs r q t d o e = rw e.1 (split_at x xs r e.0 t d (rw e.1 at o))
