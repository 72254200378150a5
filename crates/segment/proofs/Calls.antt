-- What the calls of a segmenter come to.
use Rattle.std.proofs.Common.{◌≡◌, ℕ, ◌+◌, ◌-◌, ◌<◌, ◌≤◌, ◌⊎◌, List, [], ◌∷◌, ◌++◌, length, take, Some, None, Option, refl, ap, ◌∙◌, ⊎_elim, arith}
use Rattle.std.specs.Option.{option_to_list}
use Rattle.std.proofs.Math.Seq.{take-append-add}
use Rattle.std.proofs.lemmas.List.{append_assoc, length-append, length_push, nil_from_length, take_all, take_at}
use Rattle.std.proofs.lemmas.Bool.{cases_lt}
use Rattle.queue.proofs.Moves.{appended_capacity, appended_length, appended_fits, removed_none, removed_more}
use Rattle.queue.specs.Contents.{contents, capacity, Appended, Removed}
use Rattle.queue.specs.declared.Queue.{Queue}
use Rattle.segment.specs.declared.Segment.{Segment}
use Rattle.segment.specs.declared.Segmenter.{Segmenter}
use Rattle.segment.specs.Segments.{limit}
use Rattle.segment.specs.Segmenter.{Stands, Grown, Blocked, CanTake, Greatest, Advanced, Ended}
use Rattle.segment.proofs.Segments.{alone, unique, goes_on, segments_other}
use Rattle.segment.proofs.Steps.{with_hand, grown_none, grown_more}

length-hand : (o : Option Segment) → length (option_to_list o) ≤ 1
length-hand None = omega arith
length-hand (Some s) = omega arith

-- So far count modes are moved.
pub record Moving (s : Segmenter) (modes : Queue ℕ) (q : Queue Segment) (count : ℕ) (s' : Segmenter) (modes' : Queue ℕ) (q' : Queue Segment) : Type 0 where
  pub moved : List ℕ
  pub counted : count ≡ length moved
  pub removed : Removed modes moved modes'
  pub grown : Grown s q moved s' q'

pub moving_none : (s : Segmenter) (modes : Queue ℕ) (q : Queue Segment) → Moving s modes q 0 s modes q
moving_none s modes q = record { moved = []; counted = refl; removed = removed_none modes; grown = grown_none s q }

pub moving_more : {s s' s'' : Segmenter} {modes modes' modes'' : Queue ℕ} {q q' q'' : Queue Segment} {count : ℕ} (m : ℕ) → Moving s modes q count s' modes' q' → Removed modes' (m ∷ []) modes'' → Grown s' q' (m ∷ []) s'' q'' → Moving s modes q (count + 1) s'' modes'' q''
moving_more m a r g = record {
  moved = a.moved ++ m ∷ [];
  counted = omega (arith, a.counted, length_push a.moved m);
  removed = removed_more a.removed r;
  grown = grown_more a.grown g;
}

-- Why a segmenter stops: no mode is left, it has taken 1,000,000, or the next one would close a segment and there is no room for that.
abbrev pub Stopped : Segmenter → Queue ℕ → Queue Segment → Type 0
Stopped s modes q = (contents modes ≡ []) ⊎ (limit ≤ s.taken) ⊎ ((m : ℕ) × (rest : List ℕ) × (contents modes ≡ m ∷ rest) × Blocked s m q)

module _ (s s' : Segmenter) (modes modes' : Queue ℕ) (q q' : Queue Segment) (count : ℕ) (a : Moving s modes q count s' modes' q') (taken : List ℕ) (put : List Segment) (b : Stands s taken put) where
  -- The modes moved can be taken.
  can_take : CanTake taken put (contents modes) (capacity q - length (contents q)) count
  can_take =
      let b' = a.grown.stands taken put b in
      let front : take (length a.moved) (contents modes) ≡ a.moved = rw a.removed.items (take_at a.moved (contents modes') (length a.moved) refl) in
      let all = put ++ a.grown.closed in
      record {
        there = omega (arith, a.counted, ap length a.removed.items, length-append a.moved (contents modes'));
        few = omega (arith, a.counted, b'.few, length-append taken a.moved);
        segments = all ++ option_to_list s'.hand;
        are = rw (a.counted, front) b'.segments.are;
        fit = omega (arith, length-append all (option_to_list s'.hand), length-append put a.grown.closed, length-hand s'.hand, appended_fits a.grown.appended);
      }

  -- The next mode cannot, where it is blocked.
  blocked : (m : ℕ) (rest : List ℕ) → contents modes' ≡ m ∷ rest → Blocked s' m q' → (k : ℕ) → CanTake taken put (contents modes) (capacity q - length (contents q)) k → count < k → ⊥
  blocked m rest e w k c l =
      let h = w.segment in
      let all = put ++ a.grown.closed in
      let before = taken ++ a.moved in
      let t = alone m (length before + 1) in
      let past = take (k - count - 1) rest in
      let all_taken : k ≡ length (a.moved ++ m ∷ []) + (k - count - 1) = omega (arith, a.counted, length_push a.moved m) in
      let front : take k (contents modes) ≡ (a.moved ++ m ∷ []) ++ past = rw (a.removed.items, e, ← append_assoc a.moved (m ∷ []) rest) (ap (λ i. take i ((a.moved ++ m ∷ []) ++ rest)) all_taken ∙ take-append-add (a.moved ++ m ∷ []) rest (k - count - 1)) in
      let same : taken ++ take k (contents modes) ≡ (before ++ m ∷ []) ++ past = rw front (simp append_assoc) in
      let on = goes_on past (before ++ m ∷ []) ((all ++ h ∷ []) ++ t ∷ []) (segments_other all h m (with_hand s' h before all (a.grown.stands taken put b) w.held) w.other) in
      let is : c.segments ≡ on.0 = (unique on.1).only c.segments (rw same at c.are) in
      omega (arith, c.fit, ap length is, on.2, length_push (all ++ h ∷ []) t, length_push all h, length-append put a.grown.closed, w.full, appended_length a.grown.appended, appended_capacity a.grown.appended)

  -- So they are as many as can be taken, where the segmenter has stopped.
  most : Stopped s' modes' q' → Greatest (CanTake taken put (contents modes) (capacity q - length (contents q))) count
  most stopped = record {
    here = can_take;
    above = λ k c. ⊎_elim (λ l. absurd (past k c l)) (λ g. g) (cases_lt count k);
  }
    where
      past : (k : ℕ) → CanTake taken put (contents modes) (capacity q - length (contents q)) k → count < k → ⊥
      past k c l = ⊎_elim (λ e. omega (arith, a.counted, c.there, ap length a.removed.items, length-append a.moved (contents modes'), ap length e)) (⊎_elim (λ f. omega (arith, a.counted, c.few, f, a.grown.count, b.count)) (λ v. blocked v.0 v.1 v.2 v.3 k c l)) stopped

pub advanced : {s s' : Segmenter} {modes modes' : Queue ℕ} {q q' : Queue Segment} {count : ℕ} → Moving s modes q count s' modes' q' → Stopped s' modes' q' → Advanced s modes q count s' modes' q'
advanced {s} {s'} {modes} {modes'} {q} {q'} {count} a stopped = record {
  moved = a.moved;
  counted = a.counted;
  removed = a.removed;
  grown = a.grown;
  most = λ taken put b. most s s' modes modes' q q' count a taken put b stopped;
}

-- All modes are taken where there is room for as many segments.
pub takes_all : {s s' : Segmenter} {modes modes' : Queue ℕ} {q q' : Queue Segment} {count : ℕ} {taken : List ℕ} {put : List Segment} → Stands s taken put → Advanced s modes q count s' modes' q' → length (contents q) + length (contents modes) ≤ capacity q → length taken + length (contents modes) ≤ limit → contents modes' ≡ []
takes_all {s} {s'} {modes} {modes'} {q} {q'} {count} {taken} {put} b a fits few =
    let n = length (contents modes) in
    let long = goes_on (contents modes) taken (put ++ option_to_list s.hand) b.segments.are in
    let can : CanTake taken put (contents modes) (capacity q - length (contents q)) n = record {
      there = omega arith;
      few = few;
      segments = long.0;
      are = rw (take_all n (contents modes) (omega arith)) long.1;
      fit = omega (arith, long.3, length-append put (option_to_list s.hand), length-hand s.hand);
    } in
    nil_from_length (contents modes') (omega (arith, (a.most taken put b).above n can, a.counted, ap length a.removed.items, length-append a.moved (contents modes')))

-- The end call.

pub ended : (s s' : Segmenter) (q q' : Queue Segment) → Appended q (option_to_list s.hand) q' → Stands s' [] [] → Ended s q s' q'
ended s s' q q' a n = record { last = option_to_list s.hand; appended = a; whole = λ taken put b. b.segments; new = n }
