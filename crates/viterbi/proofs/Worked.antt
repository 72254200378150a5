-- The worked logs, computed by Viterbi's algorithm.
use Rattle.std.proofs.Common.{◌≡◌, ℕ, ◌<◌, List, [], ◌∷◌, length, Some, sym, refl, ap, ◌∙◌, arith}
use Rattle.std.proofs.lemmas.Option.{none-some}
use Rattle.cost.specs.Kind.{Kind}
use Rattle.cost.specs.Strict.{strict}
use Rattle.cost.specs.Graded.{graded}
use Rattle.cost.specs.Orders.{pair}
use Rattle.model.specs.Meaning.{Meaning}
use Rattle.viterbi.specs.Paths.{Log, Reachable}
use Rattle.viterbi.specs.Algorithm.{survivors, cheapest, decided, live_cells}
use Rattle.viterbi.specs.Worked.{saw, even, wide, breach, Path, After, WorkedLogs}
use Rattle.viterbi.proofs.Growth.{exists, survivor_is, cheapest_is, grows}
use Rattle.viterbi.proofs.Count.{live_cells_lem}

reaches : (K : Kind) (M : Meaning) (xs : Log) (p : List ℕ) (c : K.Cost) → 0 < M.modes → survivors K M xs 0 ≡ Some (c, p) → Reachable K M xs 0
reaches K M xs p c l e = let h = (survivor_is K M xs 0 p c).0 (l, e) in (p, c, h.is_open, h.ends)

after : (xs : Log) (p : List ℕ) (c : ℕ) → survivors strict saw xs 0 ≡ Some (c, p) → After strict saw xs (decided strict saw xs) (length (live_cells strict saw xs))
after xs p c e =
    let r = reaches strict saw xs p c (omega arith) e in
    record { decided = (grows strict saw).found xs 0 r; live = (live_cells_lem strict saw).found xs 0 r }

path : (K : Kind) (M : Meaning) (xs : Log) (p : List ℕ) (c : K.Cost) → cheapest K M xs ≡ Some (c, p) → Path K M xs p (K.shown c).breaches (K.shown c).penalty
path K M xs p c e = record { cost = c; cheapest = (cheapest_is K M xs p c).0 e; shown = refl }

barred : (t : ℕ) → Reachable strict breach (0 ∷ 0 ∷ []) t → ⊥
barred t h =
    let e = exists strict breach (0 ∷ 0 ∷ []) t h in
    let k = (survivor_is strict breach (0 ∷ 0 ∷ []) t e.0 e.1).1 e.2 in
    let z : t ≡ 0 = omega (arith, k.0) in
    none-some (e.1, e.0) (ap (survivors strict breach (0 ∷ 0 ∷ [])) (sym z) ∙ k.1)

pub worked_logs_lem : WorkedLogs
worked_logs_lem = record {
  saw_path = path strict saw (2 ∷ 2 ∷ 7 ∷ 7 ∷ 7 ∷ []) (0 ∷ 0 ∷ 1 ∷ 1 ∷ 1 ∷ []) 4 refl;
  saw_one = after (2 ∷ []) (0 ∷ []) 0 refl;
  saw_two = after (2 ∷ 2 ∷ []) (0 ∷ 0 ∷ []) 0 refl;
  saw_three = after (2 ∷ 2 ∷ 7 ∷ []) (0 ∷ 0 ∷ 0 ∷ []) 5 refl;
  saw_four = after (2 ∷ 2 ∷ 7 ∷ 7 ∷ []) (0 ∷ 0 ∷ 0 ∷ 0 ∷ []) 10 refl;
  saw_five = after (2 ∷ 2 ∷ 7 ∷ 7 ∷ 7 ∷ []) (0 ∷ 0 ∷ 1 ∷ 1 ∷ 0 ∷ []) 13 refl;
  even_path = path strict even (4 ∷ 6 ∷ []) (0 ∷ 1 ∷ []) 2 refl;
  even_decided = (grows strict even).found (4 ∷ 6 ∷ []) 0 (reaches strict even (4 ∷ 6 ∷ []) (0 ∷ 0 ∷ []) 6 (omega arith) refl);
  wide_strict = path strict wide (0 ∷ 8 ∷ []) (0 ∷ 1 ∷ []) 5 refl;
  wide_graded = path graded wide (0 ∷ 8 ∷ []) (0 ∷ 1 ∷ []) (pair 0 5) refl;
  empty_strict = path strict saw [] [] 0 refl;
  empty_graded = path graded saw [] [] (pair 0 0) refl;
  breach_first = path strict breach (0 ∷ []) (0 ∷ []) 0 refl;
  breach_strict = barred;
  breach_graded = path graded breach (0 ∷ 0 ∷ []) (0 ∷ 0 ∷ []) (pair 1 0) refl;
}
