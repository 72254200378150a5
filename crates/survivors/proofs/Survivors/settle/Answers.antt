use Rattle.survivors.proofs.Tips.{blank_none}
use Rattle.survivors.proofs.Decides.{first_below, room_below, deep, settle_start, settle_on, settle_end, settle_less}
use Rattle.survivors.proofs.Paths.{parted}
use Rattle.survivors.proofs.Outcomes.{settled_of}
use Rattle.survivors.proofs.Survivors.settle.Goals as goal

pub down-init : goal.down-init
down-init c = settle_start c.args.ring.now c.args.self.now.valid

pub decide-requires : goal.decide-requires
decide-requires c =
    let r = c.down.self.valid in
    record { cell = first_below r c.down-test.true; room = room_below r c.down-test.true; later = deep r c.down-test.true }

pub down-preserved-then-self : goal.down-preserved-then-self
down-preserved-then-self c = settle_end c.down.invariant c.told-ring c.down-test.true c.decide.ensures.tree c.decide.ensures.mode c.if-self.true

pub invariant_of-self : goal.invariant_of-self
invariant_of-self c = record { valid = (settle_end c.down.invariant c.told-ring c.down-test.true c.decide.ensures.tree c.decide.ensures.mode c.if-self.true).valid; within = c.down.self.within; none = blank_none c.down.self.modes 32 }

pub down-preserved : goal.down-preserved
down-preserved c = settle_on c.down.invariant c.told-ring c.down-test.true c.decide.ensures.tree c.decide.ensures.mode c.if-self.false

pub invariant_of-self-else-self : goal.invariant_of-self-else-self
invariant_of-self-else-self c = record { valid = (settle_on c.down.invariant c.told-ring c.down-test.true c.decide.ensures.tree c.decide.ensures.mode c.if-self.false).valid; within = c.down.self.within; none = c.down.self.none }

pub down-smaller : goal.down-smaller
down-smaller c = settle_less c.down.invariant c.told-ring c.down-test.true c.decide.ensures.tree c.decide.ensures.mode

pub returns : goal.returns
returns c = settled_of c.args.self.now c.down.self c.down.invariant (parted c.down.self.valid c.down-test.false)
