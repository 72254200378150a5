-- Puts and takes one after another, for a loop that moves elements to or from a queue.
use Rattle.std.proofs.Common.{◌≡◌, ℕ, ◌+◌, ◌-◌, ◌<◌, ◌≤◌, List, [], ◌∷◌, ◌++◌, length, drop, set, Some, None, Option, sym, refl, ap, ◌∙◌, arith, MatchOption}
use Rattle.std.proofs.lemmas.List.{append_assoc, append-nil, length-append, length-set}
use Rattle.queue.specs.Contents.{onward, stored, contents, place, capacity, memory, Appended, Removed}
use Rattle.queue.specs.declared.Queue.{Queue}
use Rattle.queue.proofs.Ring.{length-ring, ring_put, ring_take, onward_within, onward_none, onward_more}

-- A queue holds its len elements, and no more than it has room for.
length-contents : {X : Type 0} (q : Queue X) → length (contents q) ≡ q.len
length-contents q = length-ring q.slots.now q.head q.len q.few

pub held : {X : Type 0} (q : Queue X) → length (contents q) ≤ capacity q
held q = omega (arith, length-contents q, q.few)

-- The place where the next element is written is one of the slots, or 0 where there are none.
place_within : {X : Type 0} (q : Queue X) → place q ≤ capacity q - 1
place_within q = onward_within (capacity q) q.head q.len q.inside q.few

-- One element put, and one taken.
pub appended_one : {X : Type 0} (q q' : Queue X) (x : X) → (length (contents q) ≡ capacity q → ⊥) → q'.slots.now ≡ set q.slots.now (place q) x → q'.slots.ghost_name ≡ q.slots.ghost_name → q'.head ≡ q.head → q'.len ≡ q.len + 1 → Appended q (x ∷ []) q'
appended_one q q' x f s l h n =
    let room : q.len < capacity q = omega (arith, q.few, length-contents q) in
    record {
      items = rw (s, h, n) (ring_put q.slots.now q.head q.len x q.inside room);
      slots = s;
      next = rw (s, h, n, length-set) (sym (onward_more (capacity q) q.head q.len 1 q.inside (omega arith)));
      lent = l;
    }

pub removed_one : {X : Type 0} (q q' : Queue X) (x : X) → contents q ≡ x ∷ drop 1 (contents q) → q'.slots ≡ q.slots → q'.head ≡ onward (capacity q) q.head 1 → q'.len ≡ q.len - 1 → Removed q (x ∷ []) q'
removed_one q q' x e s h n =
    let some : 0 < q.len = omega (arith, ap length e, length-contents q) in
    record {
      items = rw (s, h, n) (cc (e, ring_take q.slots.now q.head q.len x some q.few q.inside));
      slots = ap (λ b. b.now) s;
      next = rw (s, h, n) (onward_more (capacity q) q.head 1 (q.len - 1) q.inside (omega (arith, q.few)) ∙ ap (onward (capacity q) q.head) (omega arith));
      lent = ap (λ b. b.ghost_name) s;
    }

length-stored : {X : Type 0} (xs : List X) (p : ℕ) (ys : List X) → length (stored xs p ys) ≡ length xs
length-stored xs p [] = refl
length-stored xs p (y ∷ ys) = length-stored (set xs p y) (onward (length xs) p 1) ys ∙ length-set xs p y

stored-append : {X : Type 0} (xs : List X) (p : ℕ) (ys zs : List X) → p ≤ length xs - 1 → length ys ≤ length xs → stored xs p (ys ++ zs) ≡ stored (stored xs p ys) (onward (length xs) p (length ys)) zs
stored-append xs p [] zs l m = rw (onward_none (length xs) p l)
stored-append xs p (y ∷ ys) zs l m =
    let long = length-set xs p y in
    let next : onward (length xs) p (length (y ∷ ys)) ≡ onward (length xs) (onward (length xs) p 1) (length ys) = ap (onward (length xs) p) (omega arith) ∙ sym (onward_more (length xs) p 1 (length ys) l (omega arith)) in
    rw next (rw long at (stored-append (set xs p y) (onward (length xs) p 1) ys zs (rw long (onward_within (length xs) p 1 l (omega arith))) (omega arith)))

-- Putting leaves the capacity.
pub appended_capacity : {X : Type 0} {q q' : Queue X} {ys : List X} → Appended q ys q' → capacity q' ≡ capacity q
appended_capacity {X} {q} {q'} {ys} a = ap length a.slots ∙ length-stored (memory q).now (place q) ys

-- It adds as many elements as are put, and no more than there was room for.
pub appended_length : {X : Type 0} {q q' : Queue X} {ys : List X} → Appended q ys q' → length (contents q') ≡ length (contents q) + length ys
appended_length {X} {q} {q'} {ys} a = ap length a.items ∙ length-append (contents q) ys

pub appended_fits : {X : Type 0} {q q' : Queue X} {ys : List X} → Appended q ys q' → length (contents q) + length ys ≤ capacity q
appended_fits {X} {q} {q'} {ys} a = omega (arith, held q', appended_length a, appended_capacity a)

-- Nothing put, and a put after others.
pub appended_none : {X : Type 0} (q : Queue X) → Appended q [] q
appended_none q = record {
  items = sym (append-nil (contents q));
  slots = refl;
  next = sym (onward_none (capacity q) (place q) (place_within q));
  lent = refl;
}

pub appended_more : {X : Type 0} {p q r : Queue X} {xs ys : List X} → Appended p xs q → Appended q ys r → Appended p (xs ++ ys) r
appended_more {X} {p} {q} {r} {xs} {ys} a b =
    let same : capacity q ≡ capacity p = appended_capacity a in
    let fits : length xs + length ys ≤ capacity p = omega (arith, appended_fits b, appended_length a) in
    record {
      items = rw (b.items, a.items) (append_assoc (contents p) xs ys);
      slots = cc (b.slots, a.slots, a.next, stored-append (memory p).now (place p) xs ys (place_within p) (omega arith));
      next = cc (b.next, a.next, same, length-append xs ys, onward_more (capacity p) (place p) (length xs) (length ys) (place_within p) fits);
      lent = b.lent ∙ a.lent;
    }

-- Nothing taken, and a take after others.
pub removed_none : {X : Type 0} (q : Queue X) → Removed q [] q
removed_none q = record { items = refl; slots = refl; next = refl; lent = refl }

pub removed_more : {X : Type 0} {p q r : Queue X} {xs ys : List X} → Removed p xs q → Removed q ys r → Removed p (xs ++ ys) r
removed_more {X} {p} {q} {r} {xs} {ys} a b = record {
  items = rw (a.items, b.items) (sym (append_assoc xs ys (contents r)));
  slots = b.slots ∙ a.slots;
  next = b.next ∙ a.next;
  lent = b.lent ∙ a.lent;
}

-- What a take gives where the oldest element is known, as after a peek.
pub taken_known : {X : Type 0} {q q' : Queue X} {m : X} {rest : List X} (r : Option X) → MatchOption r ((contents q ≡ []) × (q' ≡ q)) (λ x. Removed q (x ∷ []) q') → contents q ≡ m ∷ rest → Removed q (m ∷ []) q'
taken_known None t e = cc (t.0, e)
taken_known (Some x) t e = let same : x ≡ _ = cc (t.items, e) in rw same at t
