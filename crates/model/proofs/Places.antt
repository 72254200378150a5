-- What holds of no element of a list, nor of the default, holds at no place.
use Rattle.std.proofs.Common.{ℕ, ◌<◌, List, length, get_or, subst, inl, inr}
use Rattle.std.proofs.lemmas.List.{get_or_past}
use Rattle.std.proofs.lemmas.Bool.{cases_lt}

pub nowhere : {X : Type 0} (P : X → Type 0) (xs : List X) (d : X) → ((k : ℕ) → k < length xs → P (get_or xs k d) → ⊥) → (P d → ⊥) → (i : ℕ) → P (get_or xs i d) → ⊥
nowhere P xs d none not_default i h =
    elim (cases_lt i (length xs)) [ inl l ↦ none i l h | inr l ↦ not_default (subst P (get_or_past xs i d l) h) ]
