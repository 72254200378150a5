-- Laws of the ring of ready modes.
use Rattle.std.proofs.Common.{◌≡◌, ℕ, ◌+◌, ◌%◌, ◌<◌, ◌≢◌, List, [], ◌∷◌, ◌++◌, length, set, sym, refl, ◌∙◌, ⊎_elim, arith}
use Rattle.std.proofs.lemmas.Bool.{cases_eq}
use Rattle.std.proofs.lemmas.List.{length-set, length_push, get_or-set_same, get_or-set_other, get_or_push, get_or_append_left}
use Rattle.survivors.specs.Ring.{Written}

pub written_none : (ring : List ℕ) (from : ℕ) → Written ring from [] ring
written_none ring from = record { size = refl; new = λ i l. absurd (omega arith); others = λ k off. refl }

-- readings less than 4,096 apart have places of their own
apart : (from i n : ℕ) → i < n → n < i + 4096 → (from + i) % 4096 ≢ (from + n) % 4096
apart from i n l m e = omega arith

-- one more mode is written
pub written_push : (ring : List ℕ) (from : ℕ) (out ring' : List ℕ) (m : ℕ) → length ring ≡ 4096 → Written ring from out ring' → Written ring from (out ++ m ∷ []) (set ring' ((from + length out) % 4096) m)
written_push ring from out ring' m long w =
    let p = (from + length out) % 4096 in
    let n : length (out ++ m ∷ []) ≡ length out + 1 = length_push out m in
    record {
      size = length-set ring' p m ∙ w.size;
      new = λ i l k. ⊎_elim
          (λ (e : i ≡ length out).
          rw e (get_or-set_same ring' p m 0 (omega (arith, w.size)) ∙ sym (get_or_push out m 0 (length out) refl)))
          (λ (ne : i ≡ length out → ⊥).
          let il : i < length out = omega arith in
          get_or-set_other ring' p ((from + i) % 4096) m 0 (apart from i (length out) il (omega arith))
          ∙ w.new i il (omega arith)
          ∙ sym (get_or_append_left out (m ∷ []) 0 i il))
          (cases_eq i (length out));
      others = λ k off. get_or-set_other ring' p k m 0 (off (length out) (omega arith)) ∙ w.others k (λ i l. off i (omega arith));
    }
