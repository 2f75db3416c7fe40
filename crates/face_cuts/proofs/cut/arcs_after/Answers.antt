use Rattle.std.proofs.Common.{◌∙◌, All, Ok, length, ap, sym, subst}
use Rattle.ring_walk.specs.Spans.{IsSide}
use Rattle.face_cuts.specs.Moves.{divided_arcs}
use Rattle.face_cuts.proofs.CutCalls.{after_cut, cut_off_within}
use Rattle.face_cuts.proofs.cut.arcs_after.Goals as goal

pub arcs_with-requires-clause-moved : goal.arcs_with-requires-clause-moved
arcs_with-requires-clause-moved c =
    subst (All (IsSide (length c.args.arcs.now))) (sym c.as_slice.ensures)
    (cut_off_within c.args.arcs.now c.args.arc.face c.args.arc.new c.args.arc.points.now c.in_ok-moved.moved c.in_ok-moved.ensures.exact)

pub returns : goal.returns
returns c =
    let arcs = c.args.arcs.now in
    let arc = c.args.arc in
    record {
      exact = after_cut arcs arc.face arc.new arc.points.now c.in_ok-moved.moved c.in_ok-moved.ensures.exact
          ∙ ap Ok (sym (c.in_ok-arcs_with.ensures ∙ ap (divided_arcs arcs arc.face arc.new arc.points.now) c.as_slice.ensures));
    }
