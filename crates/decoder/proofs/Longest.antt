-- The longest beginning that paths share, behind a beginning that they share.
use Rattle.std.proofs.Common.{◌≡◌, ℕ, ◌+◌, ◌<◌, ◌≤◌, List, ◌++◌, length, sym, refl, ap, ◌∙◌, ⊎_elim, arith}
use Rattle.std.proofs.lemmas.Bool.{cases_lt}
use Rattle.std.proofs.lemmas.List.{append_assoc, append_cancel_left, length-append}
use Rattle.viterbi.specs.Lists.{Begins, Shared, LongestShared}
use Rattle.viterbi.proofs.Shared.{begins_trans, begins_both}

-- the paths of Q are those of P behind d
module _ (P Q : List ℕ → Type 0) (d : List ℕ) (split : (p : List ℕ) → Q p → (q : List ℕ) × P q × (p ≡ d ++ q)) (join : (q : List ℕ) → P q → Q (d ++ q)) (m n : ℕ) (many : n ≡ length d + m) where
  behind : (e e' : List ℕ) → e ≡ d ++ e' → Shared n Q e → Shared m P e'
  behind e e' i k = record {
    within = omega (arith, k.within, ap length i, length-append d e');
    begins = λ q h. let b = k.begins (d ++ q) (join q h) in (b.0, append_cancel_left d q (e' ++ b.0) (b.1 ∙ ap (λ z. z ++ b.0) i ∙ append_assoc d e' b.0));
  }

  pub longest_behind : (out q : List ℕ) → P q → LongestShared m P out → LongestShared n Q (d ++ out)
  longest_behind out q some h = record {
    shared = record {
      within = omega (arith, h.shared.within, length-append d out);
      begins = λ p k.
          let s = split p k in
          let b = h.shared.begins s.0 s.1 in
          (b.0, s.2 ∙ ap (λ z. d ++ z) b.1 ∙ sym (append_assoc d out b.0));
    };
    longest = λ e k. ⊎_elim (λ (l : length d < length e). long e k (begins_both d e (d ++ q) (q, refl) (k.begins (d ++ q) (join q some)) (omega arith))) (λ (l : length e ≤ length d). begins_trans e d (d ++ out) (begins_both e d (d ++ q) (k.begins (d ++ q) (join q some)) (q, refl) l) (out, refl)) (cases_lt (length d) (length e));
  }
    where
      long : (e : List ℕ) → Shared n Q e → Begins d e → Begins e (d ++ out)
      long e k b =
          let g = h.longest b.0 (behind e b.0 b.1 k) in
          (g.0, ap (λ z. d ++ z) g.1 ∙ sym (append_assoc d b.0 g.0) ∙ ap (λ z. z ++ g.0) (sym b.1))
