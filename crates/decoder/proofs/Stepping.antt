-- What a step asks of the tree, and what it answers.
use Rattle.std.proofs.Common.{◌≡◌, ℕ, ◌+◌, ◌<◌, ◌≤◌, Bool, true, false, List, [], ◌∷◌, ◌++◌, length, take, is_some, Some, None, Ok, Err, Option, sym, refl, ◌∙◌, subst, inl, inr, arith}
use Rattle.std.proofs.lemmas.List.{length-take, get_or-take}
use Rattle.fault.specs.declared.Fault.TheVariants.{TreeFull, NoReachableMode}
use Rattle.cost.specs.declared.charge.Total.{Total}
use Rattle.cost.specs.Kind.{Kind}
use Rattle.model.specs.Meaning.{Meaning}
use Rattle.viterbi.specs.Lists.{Counted}
use Rattle.viterbi.specs.Paths.{Reading, Log}
use Rattle.viterbi.proofs.Count.{live_cells_lem}
use Rattle.trellis.specs.declared.Rows.{Rows}
use Rattle.trellis.specs.declared.best.Best.{Best}
use Rattle.trellis.specs.Rows.{First, Advances, Ends, Marked, Tells, total_at, from_at}
use Rattle.trellis.specs.Size.{READINGS}
use Rattle.trellis.specs.State.{modes, present, Kept}
use Rattle.survivors.specs.declared.Survivors.{Survivors}
use Rattle.survivors.specs.Survivors.{HasTip, OnPath, MayGrow, Grown, Settled, Finished, taken}
use Rattle.survivors.specs.Survivors as tree
use Rattle.decoder.specs.declared.Decoder.{Decoder}
use Rattle.decoder.specs.Linked.{Linked}
use Rattle.decoder.specs.Decoder.{CELLS, Stands, Ended, Totalled, Goes, Advanced, BackedAfter, Full, Unchanged, Stepped}
use Rattle.decoder.proofs.Standing.{in_taken, GoesOn, first_goes, next_goes, stepped, path_ended}

-- rows that are kept are linked as before
pub still_linked : (r s : Rows) (t : Survivors) → Kept r s → Linked r t → Linked s t
still_linked r s t k h u l i = h u (omega (arith, k.modes)) (subst (λ row. is_some (total_at row u) ≡ true) k.present i)

-- where nothing is undecided, there is nothing to link
pub all_linked : (r : Rows) (t : Survivors) → taken t ≤ tree.decided t → Linked r t
all_linked r t h u l i k = absurd (omega arith)

is_there : {A : Type 0} (o : Option A) → is_some o ≡ true → (a : A) × (o ≡ Some a)
is_there (Some a) h = (a, refl)
is_there None h = absurd (let z : ◌≡◌ {A = ℕ} 0 1 = cc in omega arith)

module _ (r : Rows) (t : Survivors) (linked : Linked r t) (n : ℕ) (is : n ≡ modes r) (row : List (Option Total)) (from : List (Option ℕ)) (long : length from ≡ 32) (marked : Marked n row from true) (backed : BackedAfter (taken t) n (present r) from) where
  pub may_grow : (live : ℕ) → Counted (OnPath t) live → live + n ≤ CELLS → taken t < READINGS → MayGrow t (take n from)
  may_grow live counted room short =
      let few : n ≤ 32 = omega (arith, r.modes.few) in
      let s = marked.tells in
      record {
        few = omega (arith, length-take n from);
        some = (s.0, s.2, get_or-take n from s.0 None s.1 ∙ s.3);
        mode = λ u p e. let i = in_taken from n u p e in omega (arith, (backed u p i.0 i.1).0);
        from = λ u p e k.
            let i = in_taken from n u p e in
            let b = backed u p i.0 i.1 in
            linked p (omega (arith, b.0)) (b.1 (omega arith)) k;
        room = (live, counted, omega (arith, length-take n from));
        bound = omega arith;
      }

  module _ (s : Rows) (present_is : present s ≡ row) (modes_is : modes s ≡ n) (t' : Survivors) (grown : Grown t (take n from) t') (ring ring' : List ℕ) (t'' : Survivors) (settled : Settled t' ring t'' ring') where
    pub now_linked : Linked s t''
    now_linked u l h k =
        let m : u < n = omega (arith, modes_is) in
        let i : is_some (from_at from u) ≡ true = sym (marked.same u m) ∙ subst (λ row. is_some (total_at row u) ≡ true) present_is h in
        let p = is_there (from_at from u) i in
        settled.tips u (grown.tips u p.0 (get_or-take n from u None m ∙ p.1)) k

module _ (K : Kind) (M : Meaning) (xs : Log) (r : Reading) (at : ℕ) (d : Decoder) (s : Stands K M xs d) where
  same : Unchanged d d
  same = record { tree = refl; ring = refl; rows = record { modes = refl; present = refl } }

  pub refused_full : (live n : ℕ) → Counted (OnPath d.tree) live → n ≡ modes d.rows → CELLS < live + n → Stepped K M xs r at d (Err (TreeFull at)) d
  refused_full live n counted is h = inl (record { cells = live; live = s.live live counted; more = omega (arith, s.modes) }, (refl, same))

  not_full : (live n : ℕ) → Counted (OnPath d.tree) live → n ≡ modes d.rows → live + n ≤ CELLS → Full K M xs → ⊥
  not_full live n counted is h f = omega (arith, s.modes, f.more, (live_cells_lem K M).one xs f.cells live f.live (s.live live counted))

  tells : (ys : Log) (row : List (Option Total)) (from : List (Option ℕ)) (any : Bool) → Goes K M ys r row from any → Tells K M (ys ++ r ∷ []) any
  tells [] row from any g = g.tells
  tells (y ∷ ys) row from any g = g.tells

  module _ (live n : ℕ) (counted : Counted (OnPath d.tree) live) (is : n ≡ modes d.rows) (room : live + n ≤ CELLS) (short : taken d.tree < READINGS) (row : List (Option Total)) (from : List (Option ℕ)) where
    goes : (any : Bool) → Advanced K M (modes d.rows) (taken d.tree) (present d.rows) r row from any → Goes K M xs r row from any
    goes any h = h xs (sym s.many) (omega (arith, s.many)) s.modes s.totals

    pub refused_stuck : (e : Decoder) → Unchanged d e → Advanced K M (modes d.rows) (taken d.tree) (present d.rows) r row from false → Stepped K M xs r at d (Err (NoReachableMode at)) e
    refused_stuck e u h = inr (not_full live n counted is room, inl (tells xs row from false (goes false h), (refl, u)))

    goes_on : (ys : Log) (k : Stands K M ys d) → Goes K M ys r row from true → GoesOn K M ys r d.tree k.decided (take n from)
    goes_on [] k g = subst (λ n. GoesOn K M [] r d.tree k.decided (take n from)) (sym (is ∙ s.modes)) (first_goes K M r d row from true k g)
    goes_on (y ∷ ys) k g = subst (λ n. GoesOn K M (y ∷ ys) r d.tree k.decided (take n from)) (sym (is ∙ s.modes)) (next_goes K M y ys r d row from true k g)

    totals_now : (ys : Log) → Goes K M ys r row from true → Totalled K M (ys ++ r ∷ []) row
    totals_now [] g = g.stands
    totals_now (y ∷ ys) g = g.stands

    pub accepted : (e : Decoder) → Advanced K M (modes d.rows) (taken d.tree) (present d.rows) r row from true → (t : Survivors) → Grown d.tree (take n from) t → Settled t d.ring e.tree e.ring → modes e.rows ≡ modes d.rows → present e.rows ≡ row → Stepped K M xs r at d (Ok tt) e
    accepted e h t grown settled modes_is present_is =
        let g = goes true h in
        let reach = tells xs row from true g in
        inr (
          not_full live n counted is room,
          inr (
            λ stuck. stuck reach.0 reach.1,
            (refl, stepped K M xs r d s (take n from) (goes_on xs s g) t grown e settled (omega (arith, s.many)) (modes_is ∙ s.modes) (subst (Totalled K M (xs ++ r ∷ [])) (sym present_is) (totals_now xs g)) reach),
          ),
        )

-- the row after the first reading, and after a later one
module _ (K : Kind) (M : Meaning) (n m : ℕ) (old : List (Option Total)) (r : Reading) (row : List (Option Total)) (from : List (Option ℕ)) (any : Bool) where
  pub first_advanced : m ≡ 0 → (n ≡ M.modes → First K M r row from any) → Advanced K M n m old r row from any
  first_advanced z f [] e l is t = f is
  first_advanced z f (x ∷ xs) e l is t = absurd (omega (arith, e, z))

  pub next_advanced : (m ≡ 0 → ⊥) → Advances K M n old r row from any → Advanced K M n m old r row from any
  next_advanced z f [] e l is t = absurd (z (sym e))
  next_advanced z f (x ∷ xs) e l is t = f x xs (record { stood = record { fits = is; short = omega arith; stands = t }; more = l })

-- the end of a log
pub ended : (K : Kind) (M : Meaning) (xs : Log) (d e : Decoder) (b : Best) → Stands K M xs d → (taken d.tree ≡ 0 → ⊥) → Ends K M (modes d.rows) (present d.rows) (Some b) → Finished d.tree b.from d.ring e.tree e.ring → Ended K M xs b.total e
ended K M [] d e b s z h f = absurd (z s.many)
ended K M (x ∷ xs) d e b s z h f = path_ended K M x xs d e b s (h x xs (record { fits = s.modes; short = s.short; stands = s.totals })) f

pub never_stuck : (K : Kind) (M : Meaning) (xs : Log) (d : Decoder) → Stands K M xs d → (taken d.tree ≡ 0 → ⊥) → Ends K M (modes d.rows) (present d.rows) None → ⊥
never_stuck K M [] d s z h = z s.many
never_stuck K M (x ∷ xs) d s z h = let t = s.some (omega arith) in h x xs (record { fits = s.modes; short = s.short; stands = s.totals }) t.0 t.1
