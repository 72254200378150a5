use Rattle.std.proofs.Common.{rules, ◌≡◌, ◌<◌, is_some, ◌∙◌, arith}
use Rattle.std.proofs.lemmas.List.{length-set}
use Rattle.trellis.specs.Size.{MODES}
use Rattle.trellis.proofs.Filling.{filled_more, filled_none, filled_all}
use Rattle.trellis.proofs.row.fill.Goals as goal

pub loop-t-init : goal.loop-t-init
loop-t-init g c = (c.told-new, c.told-from, filled_none _ _ _)

pub loop-t-preserved : goal.loop-t-preserved
loop-t-preserved g c =
    let i = c.loop-t.invariant in
    let l : c.loop-t.t < MODES = omega (arith, c.loop-t-test.true, c.args.modes.few) in
    let b = c.way-best in
    let same : is_some b.result ≡ is_some c.map-in-loop-t.result = search rules in (
      length-set c.loop-t.new c.loop-t.t c.map.result ∙ i.0,
      length-set c.loop-t.from c.loop-t.t c.map-in-loop-t.result ∙ i.1,
      filled_more _ c.loop-t.t _ _ _ _ _ i.2 c.map.result c.map-in-loop-t.result (omega (arith, i.0)) (omega (arith, i.1)) c.is_some-any.result (c.is_some-any.ensures ∙ same) (record {
        way = b.result;
        told = b.ensures;
        total = search rules;
        from = search rules;
      }),
    )

pub returns : goal.returns
returns g c = record { filled = filled_all _ _ _ _ _ _ _ _ (omega arith) c.loop-t.invariant.2 }
