use Rattle.std.proofs.Common.{◌≡◌, length, IfSome, vec_len}
use Rattle.reference.proofs.all_paths.cheapest.Given as goal

abbrev pub invariant-loop : goal.invariant-loop
invariant-loop g l =
    (vec_len l.path ≡ length l.readings) × IfSome l.best (λ d. vec_len d.modes ≡ length l.readings)
