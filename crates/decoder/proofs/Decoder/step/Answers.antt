use Rattle.std.proofs.Common.{true, false, sym, refl, ◌∙◌, subst, arith}
use Rattle.trellis.specs.Rows.{Marked}
use Rattle.trellis.specs.State.{modes, present, other}
use Rattle.survivors.specs.Survivors.{taken}
use Rattle.decoder.specs.Decoder.{Advanced, BackedAfter}
use Rattle.survivors.proofs.Laws.{room_live}
use Rattle.decoder.proofs.Stepping.{still_linked, may_grow, now_linked, refused_full, refused_stuck, accepted}
use Rattle.decoder.proofs.Decoder.step.Goals as goal

pub overflow_add-needed : goal.overflow_add-needed
overflow_add-needed g c = let d = c.args.self.now in omega (arith, room_live d.tree c.live.result c.live.ensures, c.modes-modes.ensures, d.rows.modes.few)

pub returns-then-needed-gt-CELLS : goal.returns-then-needed-gt-CELLS
returns-then-needed-gt-CELLS g c xs s = refused_full (g.C.CostKind.kind c.args.costs.now.kind.now) (g.M.Model.meaning c.args.costs.now.model.now) xs c.args.reading c.args.at c.args.self.now s c.live.result c.modes-modes.result c.live.ensures c.modes-modes.ensures c.if-needed-gt-CELLS.true

pub invariant_of-self : goal.invariant_of-self
invariant_of-self g c = let d = c.args.self.now in record { linked = still_linked d.rows c.next_row.new.rows d.tree c.if-not-next_row.ensures.kept d.linked }

pub returns-then-not-next_row : goal.returns-then-not-next_row
returns-then-not-next_row g c xs s =
    let K = g.C.CostKind.kind c.args.costs.now.kind.now in
    let M = g.M.Model.meaning c.args.costs.now.model.now in
    let d = c.args.self.now in
    let e = c.if-not-next_row.ensures in
    let rows = c.next_row.new.rows in
    let from = c.next_row.new.from in
    refused_stuck K M xs c.args.reading c.args.at d s c.live.result c.modes-modes.result c.live.ensures c.modes-modes.ensures c.if-needed-gt-CELLS.false c.requires (other rows) from _ (record { tree = refl; ring = refl; rows = e.kept }) (subst (λ m. Advanced K M (modes d.rows) m (present d.rows) c.args.reading (other rows) from false) c.taken-taken.ensures e.advanced)

pub grow-requires : goal.grow-requires
grow-requires g c =
    let d = c.args.self.now in
    let e = c.if-not-next_row.ensures in
    let n = c.modes-modes.result in
    let rows = c.next_row.new.rows in
    let from = c.next_row.new.from in
    may_grow d.rows d.tree d.linked n c.modes-modes.ensures (other rows) from c.next_row.array_long (subst (λ n. Marked n (other rows) from true) (sym c.modes-modes.ensures) e.marked) (subst (λ n. BackedAfter (taken d.tree) n (present d.rows) from) (sym c.modes-modes.ensures) (subst (λ m. BackedAfter m (modes d.rows) (present d.rows) from) c.taken-taken.ensures e.backed)) c.live.result c.live.ensures c.if-needed-gt-CELLS.false c.requires

pub invariant_of-self-2 : goal.invariant_of-self-2
invariant_of-self-2 g c =
    let d = c.args.self.now in
    let e = c.if-not-next_row.ensures in
    let n = c.modes-modes.result in
    let rows = c.next_row.new.rows in
    let from = c.next_row.new.from in
    let marked = subst (λ n. Marked n (other rows) from true) (sym c.modes-modes.ensures) e.marked in
    let backed = subst (λ n. BackedAfter (taken d.tree) n (present d.rows) from) (sym c.modes-modes.ensures) (subst (λ m. BackedAfter m (modes d.rows) (present d.rows) from) c.taken-taken.ensures e.backed) in
    record { linked = now_linked d.rows d.tree d.linked n c.modes-modes.ensures (other rows) from c.next_row.array_long marked backed c.turn.new.self c.turn.ensures.present (c.turn.ensures.modes ∙ e.kept.modes ∙ sym c.modes-modes.ensures) c.grow.new.self c.grow.ensures d.ring c.settle.new.ring c.settle.new.self c.settle.ensures }

pub returns : goal.returns
returns g c xs s =
    let K = g.C.CostKind.kind c.args.costs.now.kind.now in
    let M = g.M.Model.meaning c.args.costs.now.model.now in
    let d = c.args.self.now in
    let e = c.if-not-next_row.ensures in
    let rows = c.next_row.new.rows in
    let from = c.next_row.new.from in
    accepted K M xs c.args.reading c.args.at d s c.live.result c.modes-modes.result c.live.ensures c.modes-modes.ensures c.if-needed-gt-CELLS.false c.requires (other rows) from _ (subst (λ m. Advanced K M (modes d.rows) m (present d.rows) c.args.reading (other rows) from true) c.taken-taken.ensures e.advanced) c.grow.new.self c.grow.ensures c.settle.ensures (c.turn.ensures.modes ∙ e.kept.modes) c.turn.ensures.present
