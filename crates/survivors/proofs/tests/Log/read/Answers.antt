use Rattle.std.proofs.Common.{◌≡◌, ℕ, zero, suc, ◌<◌, ◌≤◌, [], ◌∷◌, get_or, Some, None, refl, arith}
use Rattle.viterbi.specs.Lists.{Counted}
use Rattle.survivors.specs.Survivors.{Grown, HasTip, MayGrow, OnPath, decided, taken}
use Rattle.survivors.specs.declared.Survivors.{Survivors}
use Rattle.survivors.proofs.tests.Log.read.Goals as goal

-- both modes are chosen among 0 and 1
low : (a b : ℕ) → a ≤ 1 → b ≤ 1 → (u p : ℕ) → get_or (Some a ∷ (Some b ∷ [])) u None ≡ Some p → p < 2
low a b l m zero p e = let q : a ≡ p = cc in omega arith
low a b l m (suc zero) p e = let q : b ≡ p = cc in omega arith
low a b l m (suc (suc u)) p e = absurd (let z : ◌≡◌ {A = ℕ} 0 1 = cc in omega arith)

may : (s : Survivors) (a b n : ℕ) → a ≤ 1 → b ≤ 1 → ((u : ℕ) → u < 2 → decided s < taken s → HasTip s u) → Counted (OnPath s) n → n ≤ 1022 → taken s ≤ 999999 → MayGrow s (Some a ∷ (Some b ∷ []))
may s a b n l m tips live room count = record {
  few = omega arith;
  some = (0, a, refl);
  mode = λ u p e. omega (arith, low a b l m u p e);
  from = λ u p e. tips p (low a b l m u p e);
  room = (n, live, omega arith);
  bound = omega arith;
}

both : (s : Survivors) (a b : ℕ) (t : Survivors) → Grown s (Some a ∷ (Some b ∷ [])) t → (u : ℕ) → u < 2 → HasTip t u
both s a b t g zero l = g.tips 0 a refl
both s a b t g (suc zero) l = g.tips 1 b refl
both s a b t g (suc (suc u)) l = absurd (omega arith)

pub grow-requires : goal.grow-requires
grow-requires c = may c.args.self.now.survivors c.args.zero c.args.one c.live.result c.if-zero-gt1.false c.if-one-gt1.false c.args.self.now.tips c.live.ensures c.if-live-gt1022.false (omega (arith, c.taken.ensures))

pub invariant_of-self : goal.invariant_of-self
invariant_of-self c = record { tips = λ u l d. c.settle.ensures.tips u (both _ c.args.zero c.args.one c.grow.new.self c.grow.ensures u l) d }
