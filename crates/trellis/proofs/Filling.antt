-- A row that is written mode by mode.
use Rattle.std.proofs.Common.{◌≡◌, ℕ, ◌+◌, ◌<◌, Bool, true, false, ◌||◌, ◌⊎◌, ◌↔◌, List, [], ◌∷◌, ◌++◌, length, get_or, set, is_some, Some, None, MatchBool, Option, sym, refl, ap, ◌∙◌, subst, inl, inr, add-one, arith, option_and_then}
use Rattle.std.proofs.lemmas.List.{get_or-set_same, get_or-set_other}
use Rattle.std.proofs.lemmas.Option.{none-some, same_Some}
use Rattle.cost.specs.declared.charge.Total.{Total}
use Rattle.cost.specs.Kind.{Kind, carried_of}
use Rattle.model.specs.Meaning.{Meaning}
use Rattle.viterbi.specs.Paths.{Reading, Log, cost, Reachable, CheapestTo, Chosen}
use Rattle.viterbi.proofs.Algorithm.{in_front, end_below}
use Rattle.viterbi.proofs.Cheapest.{unique}
use Rattle.viterbi.proofs.Growth.{exists, one_step, survivor_is}
use Rattle.viterbi.proofs.Totals.{suffice}
use Rattle.trellis.specs.declared.best.Best.{Best}
use Rattle.trellis.specs.Rows.{total_at, from_at, EntersBy, Ready, Tells, Next, First, Filled, Beyond, WrittenBy, WayIn, OneBy, BegunBy, AllBacked}
use Rattle.trellis.specs.Carried.{best_total, best_from, OneOf}

module _ {A : Type 0} (l : List (Option A)) (n : ℕ) (a : Option A) where
  here : n < length l → get_or (set l n a) n None ≡ a
  here h = get_or-set_same l n a None h

  there : (t : ℕ) → (t ≡ n → ⊥) → get_or (set l n a) t None ≡ get_or l t None
  there t h = get_or-set_other l n t a None h

  beyond_more : (l₀ : List (Option A)) → Beyond n l l₀ → Beyond (n + 1) (set l n a) l₀
  beyond_more l₀ h t m = there t (λ e. omega arith) ∙ h t (omega arith)

module _ (P : ℕ → Option Total → Option ℕ → Type 0) (n : ℕ) (row₀ row : List (Option Total)) (from₀ from : List (Option ℕ)) (any : Bool) (f : Filled P n row₀ row from₀ from any) (w : Option Total) (s : Option ℕ) (wide : n < length row) (wide_from : n < length from) where
  tells_more : (b : Bool) (o : Option ℕ) → o ≡ s → MatchBool b ((t : ℕ) × (t < n) × (s : ℕ) × (from_at from t ≡ Some s)) ((t : ℕ) → t < n → from_at from t ≡ None) → MatchBool (b || is_some o) ((t : ℕ) × (t < n + 1) × (u : ℕ) × (from_at (set from n s) t ≡ Some u)) ((t : ℕ) → t < n + 1 → from_at (set from n s) t ≡ None)
  tells_more true o e (t, l, u, k) = (t, omega arith, u, there from n s t (λ e. omega arith) ∙ k)
  tells_more false (Some v) e h = (n, omega arith, v, here from n s wide_from ∙ sym e)
  tells_more false None e h = λ t l. elim (in_front t n (rw add-one at l)) [ inl m ↦ there from n s t (λ e. omega arith) ∙ h t m | inr i ↦ ap (λ z. from_at (set from n s) z) i ∙ here from n s wide_from ∙ sym e ]

  pub filled_more : (b : Bool) → b ≡ is_some s → P n w s → Filled P (n + 1) row₀ (set row n w) from₀ (set from n s) (any || b)
  filled_more b e p = record {
    each = λ t l. at t (in_front t n (rw add-one at l));
    tells = subst (λ b. MatchBool (any || b) ((t : ℕ) × (t < n + 1) × (u : ℕ) × (from_at (set from n s) t ≡ Some u)) ((t : ℕ) → t < n + 1 → from_at (set from n s) t ≡ None)) (sym e) (tells_more any s refl f.tells);
    beyond = beyond_more row n w row₀ f.beyond;
    beyond_from = beyond_more from n s from₀ f.beyond_from;
  }
    where
      at : (t : ℕ) → (t < n) ⊎ (t ≡ n) → P t (total_at (set row n w) t) (from_at (set from n s) t)
      at t (inl l) = subst (P t _) (sym (there from n s t (λ e. omega arith))) (subst (λ z. P t z (from_at from t)) (sym (there row n w t (λ e. omega arith))) (f.each t l))
      at t (inr e) = subst (λ t. P t (total_at (set row n w) t) (from_at (set from n s) t)) (sym e) (subst (P n _) (sym (here from n s wide_from)) (subst (λ z. P n z s) (sym (here row n w wide)) p))

-- nothing is written at first
pub filled_none : (P : ℕ → Option Total → Option ℕ → Type 0) (row : List (Option Total)) (from : List (Option ℕ)) → Filled P 0 row row from from false
filled_none P row from = record { each = λ t l. absurd (omega arith); tells = λ t l. absurd (omega arith); beyond = λ t l. refl; beyond_from = λ t l. refl }

-- what is told of each mode, said otherwise
pub written_as : (P Q : ℕ → Option Best → Type 0) (n : ℕ) (row₀ row : List (Option Total)) (from₀ from : List (Option ℕ)) (any : Bool) → ((t : ℕ) (b : Option Best) → t < n → P t b → Q t b) → Filled (WrittenBy P) n row₀ row from₀ from any → Filled (WrittenBy Q) n row₀ row from₀ from any
written_as P Q n row₀ row from₀ from any h f = record {
  each = λ t l. let e = f.each t l in record { way = e.way; told = h t e.way l e.told; total = e.total; from = e.from };
  tells = f.tells;
  beyond = f.beyond;
  beyond_from = f.beyond_from;
}

-- the first reading in the mode t, from itself
abbrev pub Begins : Kind → Meaning → Reading → ℕ → Option Best → Type 0
Begins K M r t b = BegunBy K M r t (best_total b) (best_from b)

module _ (K : Kind) (M : Meaning) (x : Reading) (xs : Log) (r : Reading) (old row₀ row : List (Option Total)) (from₀ from : List (Option ℕ)) (any : Bool) (k : ℕ) (ready : Ready K M k x xs old) (f : Filled (WrittenBy (WayIn K M k old r)) M.modes row₀ row from₀ from any) where
  abbrev long : Log
  long = x ∷ xs ++ r ∷ []

  goes_to : (t s : ℕ) (p : List ℕ) (c d : K.Cost) → Chosen K M (x ∷ xs) r t s p c d → CheapestTo K M long t (p ++ t ∷ []) d
  goes_to t s p c d h = (one_step K M x xs r t (p ++ t ∷ []) d).1 (s, p, c, refl, h)

  reachable : (t : ℕ) (p : List ℕ) (c : K.Cost) → CheapestTo K M long t p c → Reachable K M long t
  reachable t p c h = (p, c, h.is_open, h.ends)

  -- a mode with its total and predecessor, or neither
  abbrev Mode : ℕ → Type 0
  Mode t = ((total_at row t ≡ None) × (from_at from t ≡ None) × (Reachable K M long t → ⊥)) ⊎ ((s : ℕ) × (p : List ℕ) × (c : K.Cost) × (d : K.Cost) × Chosen K M (x ∷ xs) r t s p c d × (total_at row t ≡ Some (K.carried d)) × (from_at from t ≡ Some s))

  mode : (t : ℕ) → t < M.modes → Mode t
  mode t l = let e = f.each t l in at e.way (e.told.0 x xs ready l) e.total e.from
    where
      at : (b : Option Best) → EntersBy K M (x ∷ xs) r t b → total_at row t ≡ best_total b → from_at from t ≡ best_from b → Mode t
      at None h w s = inl (w, s, h)
      at (Some b) h w s = inr (b.from, h.0, h.1, h.2, h.3, w ∙ ap Some h.4, s)

  reached : (t : ℕ) (p : List ℕ) (c : K.Cost) → CheapestTo K M long t p c → total_at row t ≡ Some (K.carried c)
  reached t p c h = at (mode t (end_below K M long p c t h.is_open h.ends))
    where
      at : Mode t → total_at row t ≡ Some (K.carried c)
      at (inl n) = absurd (n.2 (reachable t p c h))
      at (inr m) = m.5 ∙ ap (λ z. Some (K.carried z)) (unique K M long t _ p m.3 c (goes_to t m.0 m.1 m.2 m.3 m.4) h).1

  only : (t : ℕ) (w : Total) → t < M.modes → total_at row t ≡ Some w → Reachable K M long t
  only t w l e = elim (mode t l) [
    | inl n ↦ absurd (none-some w (sym n.0 ∙ e))
    | inr m ↦ reachable t _ _ (goes_to t m.0 m.1 m.2 m.3 m.4)
  ]

  abbrev Choice : ℕ → ℕ → Type 0
  Choice t s = (p : List ℕ) × (c : K.Cost) × (d : K.Cost) × Chosen K M (x ∷ xs) r t s p c d

  one_choice : (t s u : ℕ) → t < M.modes → Choice t s → Choice t u → s ≡ u
  one_choice t s u l h k =
      let e = ((suffice K M).chosen x xs r t s h.2 l).1 (h.0, h.1, h.3) in
      let f = ((suffice K M).chosen x xs r t u k.2 l).1 (k.0, k.1, k.3) in
      ap (λ (y : K.Cost × ℕ). y.1) (same_Some {A = K.Cost × ℕ} (h.2, s) (k.2, u) (sym e ∙ f))

  chosen : (t s : ℕ) → t < M.modes → (from_at from t ≡ Some s) ↔ Choice t s
  chosen t s l = (λ e. to e (mode t l), λ h. back h (mode t l))
    where
      to : from_at from t ≡ Some s → Mode t → Choice t s
      to e (inl n) = absurd (none-some s (sym n.1 ∙ e))
      to e (inr m) = subst (Choice t) (same_Some m.0 s (sym m.6 ∙ e)) (m.1, m.2, m.3, m.4)

      back : Choice t s → Mode t → from_at from t ≡ Some s
      back h (inl n) = absurd (n.2 (reachable t _ _ (goes_to t s h.0 h.1 h.2 h.3)))
      back h (inr m) = m.6 ∙ ap Some (one_choice t m.0 s l (m.1, m.2, m.3, m.4) h)

  tells : (b : Bool) → MatchBool b ((t : ℕ) × (t < M.modes) × (s : ℕ) × (from_at from t ≡ Some s)) ((t : ℕ) → t < M.modes → from_at from t ≡ None) → Tells K M long b
  tells true (t, l, s, e) = let h = (chosen t s l).0 e in (t, reachable t _ _ (goes_to t s h.0 h.1 h.2 h.3))
  tells false h = λ t k. let l = end_below K M long k.0 k.1 t k.2 k.3 in elim (mode t l) [ inl n ↦ n.2 k | inr m ↦ none-some m.0 (sym (h t l) ∙ m.6) ]

  pub next : Next K M (x ∷ xs) r row from any
  next = record { stands = record { reached = reached; only = only }; chosen = chosen; tells = tells any f.tells }

module _ (K : Kind) (M : Meaning) (r : Reading) (row₀ row : List (Option Total)) (from₀ from : List (Option ℕ)) (any : Bool) (f : Filled (WrittenBy (Begins K M r)) M.modes row₀ row from₀ from any) where
  begun : (t : ℕ) → t < M.modes → BegunBy K M r t (total_at row t) (from_at from t)
  begun t l = let e = f.each t l in (e.total ∙ e.told.0, e.from ∙ e.told.1 ∙ ap (λ w. option_and_then (λ _. Some t) w) (sym e.total))

  abbrev Start : ℕ → Type 0
  Start t = ((total_at row t ≡ None) × (from_at from t ≡ None) × (Reachable K M (r ∷ []) t → ⊥)) ⊎ ((c : K.Cost) × CheapestTo K M (r ∷ []) t (t ∷ []) c × (total_at row t ≡ Some (K.carried c)) × (from_at from t ≡ Some t))

  start : (t : ℕ) → t < M.modes → Start t
  start t l = at (cost K M (r ∷ []) (t ∷ [])) refl (begun t l).0 (begun t l).1
    where
      at : (o : Option K.Cost) → cost K M (r ∷ []) (t ∷ []) ≡ o → total_at row t ≡ carried_of K (cost K M (r ∷ []) (t ∷ [])) → from_at from t ≡ option_and_then (λ _. Some t) (total_at row t) → Start t
      at None e w s =
          let n : total_at row t ≡ None = w ∙ ap (carried_of K) e in
          inl (n, s ∙ ap (λ o. option_and_then (λ _. Some t) o) n, λ h. let k = exists K M (r ∷ []) t h in none-some (k.1, k.0) (sym (ap (λ o. option_and_then (λ d. Some (d, t ∷ [])) o) e) ∙ ((survivor_is K M (r ∷ []) t k.0 k.1).1 k.2).1))
      at (Some c) e w s =
          let n : total_at row t ≡ Some (K.carried c) = w ∙ ap (carried_of K) e in
          inr (c, (survivor_is K M (r ∷ []) t (t ∷ []) c).0 (l, ap (λ o. option_and_then (λ d. Some (d, t ∷ [])) o) e), n, s ∙ ap (λ o. option_and_then (λ _. Some t) o) n)

  starts : (t : ℕ) (c : K.Cost) → CheapestTo K M (r ∷ []) t (t ∷ []) c → Reachable K M (r ∷ []) t
  starts t c h = (t ∷ [], c, h.is_open, h.ends)

  first_reached : (t : ℕ) (p : List ℕ) (c : K.Cost) → CheapestTo K M (r ∷ []) t p c → total_at row t ≡ Some (K.carried c)
  first_reached t p c h = elim (start t (end_below K M (r ∷ []) p c t h.is_open h.ends)) [
    | inl n ↦ absurd (n.2 (p, c, h.is_open, h.ends))
    | inr m ↦ m.2 ∙ ap (λ z. Some (K.carried z)) (unique K M (r ∷ []) t (t ∷ []) p m.0 c m.1 h).1
  ]

  first_only : (t : ℕ) (w : Total) → t < M.modes → total_at row t ≡ Some w → Reachable K M (r ∷ []) t
  first_only t w l e = elim (start t l) [ inl n ↦ absurd (none-some w (sym n.0 ∙ e)) | inr m ↦ starts t m.0 m.1 ]

  first_chosen : (t s : ℕ) → t < M.modes → (from_at from t ≡ Some s) ↔ ((s ≡ t) × Reachable K M (r ∷ []) t)
  first_chosen t s l = (λ e. to e (start t l), λ h. back h (start t l))
    where
      to : from_at from t ≡ Some s → Start t → (s ≡ t) × Reachable K M (r ∷ []) t
      to e (inl n) = absurd (none-some s (sym n.1 ∙ e))
      to e (inr m) = (same_Some s t (sym e ∙ m.3), starts t m.0 m.1)

      back : (s ≡ t) × Reachable K M (r ∷ []) t → Start t → from_at from t ≡ Some s
      back h (inl n) = absurd (n.2 h.1)
      back h (inr m) = m.3 ∙ ap Some (sym h.0)

  first_tells : (b : Bool) → MatchBool b ((t : ℕ) × (t < M.modes) × (s : ℕ) × (from_at from t ≡ Some s)) ((t : ℕ) → t < M.modes → from_at from t ≡ None) → Tells K M (r ∷ []) b
  first_tells true (t, l, s, e) = (t, ((first_chosen t s l).0 e).1)
  first_tells false h = λ t k. let l = end_below K M (r ∷ []) k.0 k.1 t k.2 k.3 in none-some t (sym (h t l) ∙ (first_chosen t t l).1 (refl, k))

  pub first : First K M r row from any
  first = record { stands = record { reached = first_reached; only = first_only }; chosen = first_chosen; tells = first_tells any f.tells }

-- the same modes, counted otherwise
pub filled_all : (P : ℕ → Option Total → Option ℕ → Type 0) (m n : ℕ) (row₀ row : List (Option Total)) (from₀ from : List (Option ℕ)) (any : Bool) → m ≡ n → Filled P m row₀ row from₀ from any → Filled P n row₀ row from₀ from any
filled_all P m n row₀ row from₀ from any e f = subst (λ n. Filled P n row₀ row from₀ from any) e f

module _ (K : Kind) (M : Meaning) (n : ℕ) (old row₀ row : List (Option Total)) (r : Reading) (from₀ from : List (Option ℕ)) (any : Bool) (f : Filled (WrittenBy (WayIn K M n old r)) n row₀ row from₀ from any) where
  pub next_backed : AllBacked n old from
  next_backed t s l e = let k = f.each t l in k.told.1 s (sym k.from ∙ e)

-- the better of two is one of the modes so far
pub one_more : (P : ℕ → Option Total → Type 0) (s : ℕ) (b r : Option Best) (a : Option Total) → P s a → OneOf b a s r → OneBy s P b → OneBy (s + 1) P r
one_more P s b r a told (inl e) one u i = let k = one u (sym (ap best_from e) ∙ i) in (omega (arith, k.0), k.1)
one_more P s b r a told (inr e) one u i = let k = same_Some s u (sym e.1 ∙ i) in (omega (arith, k), (a, subst (λ s. P s a) k told, e.0))
