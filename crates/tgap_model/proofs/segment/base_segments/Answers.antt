use Rattle.std.proofs.Common.{length, ap, ◌∙◌, arith}
use Rattle.std.specs.List.{list_all}
use Rattle.tgap_model.specs.Partition.{is_proper, arc_segments}
use Rattle.tgap_model.proofs.BaseFacts.{base_facts}
use Rattle.tgap_model.proofs.Segments.{few_points, all_listed, proper_segments, few_segments}
use Rattle.tgap_model.proofs.segment.base_segments.Goals as goal

pub overflow_cast-i : goal.overflow_cast-i
overflow_cast-i c =
    let few = (base_facts c.args.base.now c.arcs.ensures.base).few_arcs in
    let count = ap length (c.as_slice-arcs.ensures ∙ c.arcs.ensures.value) in
    omega (arith, few, count, c.loop-i-test.true)

pub push_path-requires : goal.push_path-requires
push_path-requires c =
    let arcs = c.as_slice-arcs.ensures ∙ c.arcs.ensures.value in
    let count = ap length arcs in
    let few = few_points c.args.base.now c.loop-i.i c.index-arcs-i.result c.arcs.ensures.base (omega (arith, count, c.loop-i-test.true)) in
    record { few = rw (c.index-arcs-i.is, arcs) few }

pub returns-clause-proper : goal.returns-clause-proper
returns-clause-proper c =
    let arcs = c.as_slice-arcs.ensures ∙ c.arcs.ensures.value in
    let listed = c.from.ensures ∙ all_listed c.loop-i.segments.items c.as_slice-arcs.result.now c.loop-i.i c.loop-i-test.false c.loop-i.invariant ∙ ap (arc_segments 0) arcs in
    ap (list_all is_proper) listed ∙ proper_segments c.args.base.now c.arcs.ensures.base

pub returns-clause-few : goal.returns-clause-few
returns-clause-few c =
    let arcs = c.as_slice-arcs.ensures ∙ c.arcs.ensures.value in
    let listed = c.from.ensures ∙ all_listed c.loop-i.segments.items c.as_slice-arcs.result.now c.loop-i.i c.loop-i-test.false c.loop-i.invariant ∙ ap (arc_segments 0) arcs in
    omega (arith, ap length listed, few_segments c.args.base.now c.arcs.ensures.base)
