-- What modes do to a segmenter, one after another.
use Rattle.std.proofs.Common.{◌≡◌, ℕ, ◌+◌, List, [], ◌∷◌, ◌++◌, length, Some, None, sym, ap, ◌∙◌, subst, arith}
use Rattle.std.specs.Option.{option_to_list}
use Rattle.std.proofs.lemmas.List.{append_assoc, append-nil, length-append, length_push}
use Rattle.queue.proofs.Moves.{appended_none, appended_more}
use Rattle.queue.specs.Contents.{Appended}
use Rattle.queue.specs.declared.Queue.{Queue}
use Rattle.segment.specs.declared.Segment.{Segment}
use Rattle.segment.specs.declared.Segmenter.{Segmenter}
use Rattle.segment.specs.Segments.{SegmentsOf}
use Rattle.segment.specs.Segmenter.{Stands, Grown}
use Rattle.segment.proofs.Segments.{alone, longer, unique, segments_none, segments_first, segments_equal, segments_other}

-- With a segment in hand, the segments are those put and that one.
pub with_hand : (s : Segmenter) (h : Segment) (taken : List ℕ) (put : List Segment) → Stands s taken put → s.hand ≡ Some h → SegmentsOf taken (put ++ h ∷ [])
with_hand s h taken put b e = rw e at b.segments.are

-- With none, there is none, and no mode was taken.
without_hand : (s : Segmenter) (taken : List ℕ) (put : List Segment) → Stands s taken put → s.hand ≡ None → (taken ≡ []) × (put ≡ [])
without_hand s taken put b e =
    let nil = b.none e in
    let nothing : put ++ option_to_list s.hand ≡ [] = sym (b.segments.only [] (rw nil segments_none)) in
    (nil, sym (append-nil put) ∙ (rw e at nothing))

-- One mode taken, and the segment t in hand then.
grown_one : (s s' : Segmenter) (q q' : Queue Segment) (m : ℕ) (t : Segment) (closed : List Segment) → s'.hand ≡ Some t → s'.taken ≡ s.taken + 1 → Appended q closed q' → ((taken : List ℕ) (put : List Segment) → Stands s taken put → SegmentsOf (taken ++ m ∷ []) ((put ++ closed) ++ t ∷ [])) → Grown s q (m ∷ []) s' q'
grown_one s s' q q' m t closed h n a f = record {
  closed = closed;
  appended = a;
  count = n;
  stands = λ taken put b.
      let long = length_push taken m in
      record {
        segments = unique (rw h (f taken put b));
        none = λ e. cc (h, e);
        count = omega (arith, b.count);
        few = omega (arith, b.count, s'.few);
      };
}

-- With none in hand, a mode begins a segment.
pub grown_first : (s s' : Segmenter) (q q' : Queue Segment) (m : ℕ) → s.hand ≡ None → s'.hand ≡ Some (alone m (s.taken + 1)) → s'.taken ≡ s.taken + 1 → q' ≡ q → Grown s q (m ∷ []) s' q'
grown_first s s' q q' m none h n same = grown_one s s' q q' m (alone m (s.taken + 1)) [] h n (rw same (appended_none q)) (λ taken put b.
    let nil = without_hand s taken put b none in
    let zero : s.taken ≡ 0 = omega (arith, b.count, ap length nil.0) in
    rw (nil.0, nil.1, zero) (segments_first m))

-- An equal mode lengthens the one in hand.
pub grown_equal : (s s' : Segmenter) (q q' : Queue Segment) (h : Segment) (m : ℕ) → s.hand ≡ Some h → h.mode ≡ m → s'.hand ≡ Some (longer h) → s'.taken ≡ s.taken + 1 → q' ≡ q → Grown s q (m ∷ []) s' q'
grown_equal s s' q q' h m some e g n same = subst (λ x. Grown s q (x ∷ []) s' q') e (grown_one s s' q q' h.mode (longer h) [] g n (rw same (appended_none q)) (λ taken put b.
    rw (append-nil put) (segments_equal put h (with_hand s h taken put b some))))

-- Another mode closes it and begins another.
pub grown_other : (s s' : Segmenter) (q q' : Queue Segment) (h : Segment) (m : ℕ) → s.hand ≡ Some h → (h.mode ≡ m → ⊥) → s'.hand ≡ Some (alone m (s.taken + 1)) → s'.taken ≡ s.taken + 1 → Appended q (h ∷ []) q' → Grown s q (m ∷ []) s' q'
grown_other s s' q q' h m some other g n a = grown_one s s' q q' m (alone m (s.taken + 1)) (h ∷ []) g n a (λ taken put b.
    rw b.count (segments_other put h m (with_hand s h taken put b some) other))

-- No mode taken, and some after others.
pub grown_none : (s : Segmenter) (q : Queue Segment) → Grown s q [] s q
grown_none s q = record {
  closed = [];
  appended = appended_none q;
  count = omega arith;
  stands = λ taken put b. rw (append-nil put, append-nil taken) b;
}

pub grown_more : {s s' s'' : Segmenter} {q q' q'' : Queue Segment} {ms ns : List ℕ} → Grown s q ms s' q' → Grown s' q' ns s'' q'' → Grown s q (ms ++ ns) s'' q''
grown_more {s} {s'} {s''} {q} {q'} {q''} {ms} {ns} a b = record {
  closed = a.closed ++ b.closed;
  appended = appended_more a.appended b.appended;
  count = omega (arith, a.count, b.count, length-append ms ns);
  stands = λ taken put c. rw (← append_assoc taken ms ns, ← append_assoc put a.closed b.closed) (b.stands (taken ++ ms) (put ++ a.closed) (a.stands taken put c));
}
