-- Decided modes at their places in the ring.
use Rattle.std.proofs.Common.{◌≡◌, ℕ, ◌+◌, ◌-◌, ◌%◌, ◌<◌, ◌≤◌, List, ◌++◌, length, get_or, sym, refl, ap, ◌∙◌, ⊎_elim, arith}
use Rattle.std.proofs.lemmas.Bool.{cases_lt}
use Rattle.std.proofs.lemmas.List.{length-append, get_or_append_left, get_or-append_right}
use Rattle.survivors.specs.Ring.{Written}
use Rattle.decoder.specs.Shown.{PLACES}
use Rattle.decoder.specs.Decoder.{InRing}

apart : (i k : ℕ) → i < k → k < i + PLACES → i % PLACES ≡ k % PLACES → ⊥
apart i k l m e = omega arith

pub ring_more : (ring ring' d out : List ℕ) → InRing d ring → Written ring (length d) out ring' → InRing (d ++ out) ring'
ring_more ring ring' d out old w i l m = ⊎_elim before after (cases_lt i (length d))
  where
    before : i < length d → get_or ring' (i % PLACES) 0 ≡ get_or (d ++ out) i 0
    before h =
        w.others (i % PLACES) (λ j k e. apart i (length d + j) (omega arith) (omega (arith, length-append d out)) e)
        ∙ old i h (omega (arith, length-append d out))
        ∙ sym (get_or_append_left d out 0 i h)

    after : length d ≤ i → get_or ring' (i % PLACES) 0 ≡ get_or (d ++ out) i 0
    after h =
        let e : i ≡ length d + (i - length d) = omega arith in
        ap (λ i. get_or ring' (i % PLACES) 0) e
        ∙ w.new (i - length d) (omega (arith, length-append d out)) (omega (arith, length-append d out))
        ∙ sym (get_or-append_right d out (length d) i 0 refl h)
