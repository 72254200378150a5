-- Shared beginnings of two lists.
use Rattle.std.proofs.Common.{◌≡◌, ℕ, ◌≢◌, List, [], ◌∷◌, ◌++◌, get_or, sym, refl, ap, ◌∙◌}
use Rattle.viterbi.specs.Lists.{Begins}

-- what begins two lists that part after d begins d
pub before_fork : (e d p q p' q' : List ℕ) → d ++ p ≡ e ++ p' → d ++ q ≡ e ++ q' → get_or p 0 0 ≢ get_or q 0 0 → Begins e d
before_fork [] d p q p' q' a b ne = (d, refl)
before_fork (x ∷ e) [] p q p' q' a b ne = absurd (ne (ap (λ (z : List ℕ). get_or z 0 0) a ∙ sym (ap (λ (z : List ℕ). get_or z 0 0) b)))
before_fork (x ∷ e) (y ∷ d) p q p' q' a b ne =
    let ta : d ++ p ≡ e ++ p' = cc in
    let tb : d ++ q ≡ e ++ q' = cc in
    let r = before_fork e d p q p' q' ta tb ne in
    let h : y ≡ x = cc in
    (r.0, cc (h, r.1))
