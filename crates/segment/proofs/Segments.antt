-- The segments of a list: there is one way only, and what one more mode does to them.
use Rattle.std.proofs.Common.{◌≡◌, ℕ, zero, suc, ◌+◌, ◌-◌, ◌<◌, ◌≤◌, ◌⊎◌, List, [], ◌∷◌, ◌++◌, length, take, drop, get_or, replicate, sym, refl, ap, ◌∙◌, subst, inl, inr, ⊎_elim, arith}
use Rattle.std.specs.Prelude.{All}
use Rattle.std.specs.List.{flat_map}
use Rattle.std.proofs.lemmas.Grind.{flat_map-append}
use Rattle.std.proofs.lemmas.List.{append_assoc, append-nil, drop_more, flat_map_more, length-append, length_push, length-replicate, replicate_more, same_from_push, take-append-drop, take_at, drop_at}
use Rattle.std.proofs.lemmas.List.Elements.{All-nil, All-cons, All-head, All-tail, All-take, All-drop, All-push}
use Rattle.std.proofs.lemmas.Bool.{cases_eq}
use Rattle.segment.specs.declared.Segment.{Segment}
use Rattle.segment.specs.Segments.{modes_of, NeighboursDiffer, PlacedFrom, SegmentsOf, LongestStretch, TheSegments}

-- None of them is empty.
abbrev Lasts : Segment → Type 0
Lasts s = 0 < s.length

-- What a list begins with.

abbrev Begins : ℕ → List ℕ → Type 0
Begins m xs = (ys : List ℕ) × (xs ≡ m ∷ ys)

first_mode : (n x m : ℕ) (xs ys : List ℕ) → 0 < n → replicate n x ++ xs ≡ m ∷ ys → x ≡ m
first_mode zero x m xs ys p e = absurd (omega arith)
first_mode (suc n) x m xs ys p e = cc

-- After a segment comes another mode, or nothing.
rest_differs : (s : Segment) (ss : List Segment) → NeighboursDiffer (s ∷ ss) → All Lasts ss → Begins s.mode (flat_map modes_of ss) → ⊥
rest_differs s [] d p b = cc b.1
rest_differs s (t ∷ ss) d p b = d.0 (sym (first_mode t.length t.mode s.mode (flat_map modes_of ss) b.0 (All-head Lasts t ss p) b.1))

-- Where one list begins with two stretches, of which neither could be longer, these are equally long.
same_stretch : (m a b : ℕ) (xs ys : List ℕ) → replicate a m ++ xs ≡ replicate b m ++ ys → (Begins m xs → ⊥) → (Begins m ys → ⊥) → (a ≡ b) × (xs ≡ ys)
same_stretch m zero zero xs ys e f g = (refl, e)
same_stretch m zero (suc b) xs ys e f g = absurd (f (replicate b m ++ ys, e))
same_stretch m (suc a) zero xs ys e f g = absurd (g (replicate a m ++ xs, sym e))
same_stretch m (suc a) (suc b) xs ys e f g = let r = same_stretch m a b xs ys (cc) f g in (ap suc r.0, r.1)

same_mode : (a b m n : ℕ) (xs ys : List ℕ) → 0 < a → 0 < b → replicate a m ++ xs ≡ replicate b n ++ ys → m ≡ n
same_mode a zero m n xs ys p q e = absurd (omega arith)
same_mode a (suc b) m n xs ys p q e = first_mode a m n xs (replicate b n ++ ys) p e

same_segment : (s t : Segment) → s.mode ≡ t.mode → s.first ≡ t.first → s.length ≡ t.length → s ≡ t
same_segment s t e f g i = record { mode = e i; first = f i; length = g i }

rest_differ : (s : Segment) (ss : List Segment) → NeighboursDiffer (s ∷ ss) → NeighboursDiffer ss
rest_differ s [] d = tt
rest_differ s (t ∷ ss) d = d.1

not_empty : (s : Segment) (ss : List Segment) → All Lasts (s ∷ ss) → flat_map modes_of (s ∷ ss) ≡ [] → ⊥
not_empty s ss p e = omega (arith, All-head Lasts s ss p, ap length e, length-append (modes_of s) (flat_map modes_of ss), length-replicate s.length s.mode)

unique_from : (n : ℕ) (ss ts : List Segment) → flat_map modes_of ss ≡ flat_map modes_of ts → All Lasts ss → All Lasts ts → NeighboursDiffer ss → NeighboursDiffer ts → PlacedFrom n ss → PlacedFrom n ts → ss ≡ ts
unique_from n [] [] e p q c d k l = refl
unique_from n [] (t ∷ ts) e p q c d k l = absurd (not_empty t ts q (sym e))
unique_from n (s ∷ ss) [] e p q c d k l = absurd (not_empty s ss p e)
unique_from n (s ∷ ss) (t ∷ ts) e p q c d k l =
    let m : s.mode ≡ t.mode = same_mode s.length t.length s.mode t.mode (flat_map modes_of ss) (flat_map modes_of ts) (All-head Lasts s ss p) (All-head Lasts t ts q) e in
    let same : flat_map modes_of (s ∷ ss) ≡ replicate t.length s.mode ++ flat_map modes_of ts = e ∙ ap (λ x. replicate t.length x ++ flat_map modes_of ts) (sym m) in
    let ps = All-tail Lasts s ss p in
    let qs = All-tail Lasts t ts q in
    let r = same_stretch s.mode s.length t.length (flat_map modes_of ss) (flat_map modes_of ts) same (rest_differs s ss c ps) (λ b. rest_differs t ts d qs (b.0, b.1 ∙ ap (λ x. x ∷ b.0) m)) in
    let on : PlacedFrom (n + s.length) ts = rw r.0 l.1 in
    let rest : ss ≡ ts = unique_from (n + s.length) ss ts r.1 ps qs (rest_differ s ss c) (rest_differ t ts d) k.1 on in
    let head : s ≡ t = same_segment s t m (k.0 ∙ sym l.0) r.0 in
    cc

-- The last of a list of segments.

whole_last : (ss : List Segment) (s : Segment) → flat_map modes_of (ss ++ s ∷ []) ≡ flat_map modes_of ss ++ modes_of s
whole_last ss s = sym (flat_map_more modes_of [] ss s)

some_parts : (rs ss : List Segment) → All Lasts (rs ++ ss) → All Lasts rs × All Lasts ss
some_parts rs ss p = (rw (take_at rs ss (length rs) refl) at (All-take Lasts (length rs) (rs ++ ss) p), rw (drop_at rs ss (length rs) refl) at (All-drop Lasts (length rs) (rs ++ ss) p))

differ_rest : (rs ss : List Segment) → NeighboursDiffer (rs ++ ss) → NeighboursDiffer ss
differ_rest [] ss d = d
differ_rest (r ∷ rs) ss d = differ_rest rs ss (rest_differ r (rs ++ ss) d)

placed_front : (n : ℕ) (rs : List Segment) (s : Segment) (ss : List Segment) → PlacedFrom n (rs ++ s ∷ ss) → PlacedFrom n rs × (s.first ≡ n + length (flat_map modes_of rs))
placed_front n [] s ss p = (tt, p.0 ∙ omega arith)
placed_front n (r ∷ rs) s ss p =
    let rest = placed_front (n + r.length) rs s ss p.1 in
    ((p.0, rest.0), omega (arith, rest.1, length-append (modes_of r) (flat_map modes_of rs), length-replicate r.length r.mode))

placed_last : (n : ℕ) (ss : List Segment) (s : Segment) → PlacedFrom n ss → s.first ≡ n + length (flat_map modes_of ss) → PlacedFrom n (ss ++ s ∷ [])
placed_last n [] s p e = (e ∙ omega arith, tt)
placed_last n (r ∷ ss) s p e = (p.0, placed_last (n + r.length) ss s p.1 (omega (arith, e, length-append (modes_of r) (flat_map modes_of ss), length-replicate r.length r.mode)))

-- A list of segments is empty, or has a last one.
last_of : (ss : List Segment) → (ss ≡ []) ⊎ ((rs : List Segment) × (s : Segment) × (ss ≡ rs ++ s ∷ []))
last_of [] = inl refl
last_of (s ∷ ss) = inr (⊎_elim (λ e. ([], s, ap (λ xs. s ∷ xs) e)) (λ v. (s ∷ v.0, v.1, ap (λ xs. s ∷ xs) v.2)) (last_of ss))

-- Each segment is a longest stretch of one mode.

last_mode : (n m x : ℕ) (xs ys : List ℕ) → 0 < n → xs ++ replicate n m ≡ ys ++ x ∷ [] → m ≡ x
last_mode n m x xs ys p e =
    let back : n - 1 + 1 ≡ n = omega arith in
    let more : replicate (n - 1) m ++ m ∷ [] ≡ replicate n m = rw back at (replicate_more (n - 1) m) in
    (same_from_push (xs ++ replicate (n - 1) m) ys m x (rw (append_assoc, more) e)).1

front_differs : (rs : List Segment) (s : Segment) (ss : List Segment) → NeighboursDiffer (rs ++ s ∷ ss) → All Lasts rs → (xs : List ℕ) → flat_map modes_of rs ≡ xs ++ s.mode ∷ [] → ⊥
front_differs rs s ss d p xs e =
    ⊎_elim
    (λ n. omega (arith, ap length (sym e ∙ ap (flat_map modes_of) n), length_push xs s.mode))
    (λ v.
    let qs = v.0 in
    let r = v.1 in
    let split : rs ++ s ∷ ss ≡ qs ++ (r ∷ (s ∷ ss)) = ap (λ zs. zs ++ s ∷ ss) v.2 ∙ append_assoc qs (r ∷ []) (s ∷ ss) in
    let two : NeighboursDiffer (r ∷ (s ∷ ss)) = differ_rest qs (r ∷ (s ∷ ss)) (subst NeighboursDiffer split d) in
    let long : 0 < r.length = All-head Lasts r [] (some_parts qs (r ∷ []) (subst (All Lasts) v.2 p)).1 in
    two.0 (last_mode r.length r.mode s.mode (flat_map modes_of qs) xs long (sym (whole_last qs r) ∙ ap (flat_map modes_of) (sym v.2) ∙ e)))
    (last_of rs)

stretch : (ms : List ℕ) (rs : List Segment) (s : Segment) (ss : List Segment) → SegmentsOf ms (rs ++ s ∷ ss) → LongestStretch ms s
stretch ms rs s ss a =
    let parts = some_parts rs (s ∷ ss) a.some in
    record {
      before = flat_map modes_of rs;
      after = flat_map modes_of ss;
      stands = sym a.whole ∙ flat_map-append modes_of rs (s ∷ ss) ∙ sym (append_assoc (flat_map modes_of rs) (modes_of s) (flat_map modes_of ss));
      first = omega (arith, (placed_front 1 rs s ss a.placed).1);
      some = All-head Lasts s ss parts.1;
      begins = front_differs rs s ss a.longest parts.0;
      ends = λ xs e. rest_differs s ss (differ_rest rs (s ∷ ss) a.longest) (All-tail Lasts s ss parts.1) (xs, e);
    }

-- A list has one list of segments only.
pub unique : {ms : List ℕ} {ss : List Segment} → SegmentsOf ms ss → TheSegments ms ss
unique {ms} {ss} a = record {
  are = a;
  only = λ ts b. unique_from 1 ts ss (b.whole ∙ sym a.whole) b.some a.some b.longest a.longest b.placed a.placed;
  stretches = λ k d l. stretch ms (take k ss) (get_or ss k d) (drop (k + 1) ss) (subst (SegmentsOf ms) (sym (take-append-drop k ss) ∙ ap (λ xs. take k ss ++ xs) (drop_more ss k d l)) a);
}

-- Another last segment of the same mode, and one more of another mode.
differ_same : (ss : List Segment) (s t : Segment) → t.mode ≡ s.mode → NeighboursDiffer (ss ++ s ∷ []) → NeighboursDiffer (ss ++ t ∷ [])
differ_same [] s t e d = tt
differ_same (r ∷ []) s t e d = (λ f. d.0 (f ∙ e), tt)
differ_same (r ∷ (q ∷ ss)) s t e d = (d.0, differ_same (q ∷ ss) s t e d.1)

differ_more : (ss : List Segment) (s t : Segment) → (s.mode ≡ t.mode → ⊥) → NeighboursDiffer (ss ++ s ∷ []) → NeighboursDiffer ((ss ++ s ∷ []) ++ t ∷ [])
differ_more [] s t f d = (f, tt)
differ_more (r ∷ []) s t f d = (d.0, (f, tt))
differ_more (r ∷ (q ∷ ss)) s t f d = (d.0, differ_more (q ∷ ss) s t f d.1)

-- The last segment is no longer than the list.
pub last_within : {ms : List ℕ} (ss : List Segment) (s : Segment) → SegmentsOf ms (ss ++ s ∷ []) → s.length ≤ length ms
last_within ss s a = omega (arith, ap length a.whole, ap length (whole_last ss s), length-append (flat_map modes_of ss) (modes_of s), length-replicate s.length s.mode)

-- No mode, the first mode, an equal mode, another mode.

-- The segment of the n-th reading alone, and one reading more of a segment's mode.
abbrev pub alone : ℕ → ℕ → Segment
alone m n = record { mode = m; first = n; length = 1 }

abbrev pub longer : Segment → Segment
longer s = record { mode = s.mode; first = s.first; length = s.length + 1 }

pub segments_none : SegmentsOf [] []
segments_none = record { whole = refl; some = All-nil Lasts; longest = tt; placed = tt }

pub segments_first : (m : ℕ) → SegmentsOf (m ∷ []) (alone m 1 ∷ [])
segments_first m = record { whole = refl; some = All-cons Lasts (alone m 1) [] (omega arith) (All-nil Lasts); longest = tt; placed = (refl, tt) }

pub segments_equal : {ms : List ℕ} (ss : List Segment) (s : Segment) → SegmentsOf ms (ss ++ s ∷ []) → SegmentsOf (ms ++ s.mode ∷ []) (ss ++ longer s ∷ [])
segments_equal {ms} ss s a =
    let was = placed_front 1 ss s [] a.placed in
    record {
      whole = whole_last ss (longer s) ∙ ap (λ xs. flat_map modes_of ss ++ xs) (sym (replicate_more s.length s.mode)) ∙ sym (append_assoc (flat_map modes_of ss) (modes_of s) (s.mode ∷ [])) ∙ ap (λ xs. xs ++ s.mode ∷ []) (sym (whole_last ss s) ∙ a.whole);
      some = All-push Lasts ss (longer s) (some_parts ss (s ∷ []) a.some).0 (omega arith);
      longest = differ_same ss s (longer s) refl a.longest;
      placed = placed_last 1 ss (longer s) was.0 was.1;
    }

pub segments_other : {ms : List ℕ} (ss : List Segment) (s : Segment) (m : ℕ) → SegmentsOf ms (ss ++ s ∷ []) → (s.mode ≡ m → ⊥) → SegmentsOf (ms ++ m ∷ []) ((ss ++ s ∷ []) ++ alone m (length ms + 1) ∷ [])
segments_other {ms} ss s m a f =
    let before = ss ++ s ∷ [] in
    let t = alone m (length ms + 1) in
    record {
      whole = whole_last before t ∙ ap (λ xs. xs ++ m ∷ []) a.whole;
      some = All-push Lasts before t a.some (omega arith);
      longest = differ_more ss s t f a.longest;
      placed = placed_last 1 before t a.placed (omega (arith, ap length a.whole));
    }

-- Where the list of modes goes on, so do its segments: none is lost, and each mode brings at most one.
abbrev Goes : List ℕ → List Segment → ℕ → Type 0
Goes ms ss n = (ts : List Segment) × SegmentsOf ms ts × (length ss ≤ length ts) × (length ts ≤ length ss + n)

goes_one : (ms : List ℕ) (ss : List Segment) (m : ℕ) → SegmentsOf ms ss → Goes (ms ++ m ∷ []) ss 1
goes_one ms ss m a =
    ⊎_elim
    (λ e.
    let none : ms ≡ [] = sym a.whole ∙ ap (flat_map modes_of) e in
    (alone m 1 ∷ [], rw none (segments_first m), omega (arith, ap length e), omega arith))
    (λ v.
    let rs = v.0 in
    let s = v.1 in
    let was : SegmentsOf ms (rs ++ s ∷ []) = subst (SegmentsOf ms) v.2 a in
    let long : length ss ≡ length rs + 1 = ap length v.2 ∙ length_push rs s in
    ⊎_elim
    (λ e. (rs ++ longer s ∷ [], subst (λ x. SegmentsOf (ms ++ x ∷ []) (rs ++ longer s ∷ [])) e (segments_equal rs s was), omega (arith, length_push rs (longer s)), omega (arith, length_push rs (longer s))))
    (λ f. ((rs ++ s ∷ []) ++ alone m (length ms + 1) ∷ [], segments_other rs s m was f, omega (arith, length_push (rs ++ s ∷ []) (alone m (length ms + 1)), length_push rs s), omega (arith, length_push (rs ++ s ∷ []) (alone m (length ms + 1)), length_push rs s)))
    (cases_eq s.mode m))
    (last_of ss)

pub goes_on : (ns ms : List ℕ) (ss : List Segment) → SegmentsOf ms ss → Goes (ms ++ ns) ss (length ns)
goes_on [] ms ss a = (ss, rw (append-nil ms) a, omega arith, omega arith)
goes_on (n ∷ ns) ms ss a =
    let one = goes_one ms ss n a in
    let rest = goes_on ns (ms ++ n ∷ []) one.0 one.1 in
    (rest.0, rw (append_assoc ms (n ∷ []) ns) at rest.1, omega (arith, one.2, rest.2), omega (arith, one.3, rest.3))
