-- The look-up has the edges, so the keys are those of candidates among them; where there is none, nothing goes.
use Rattle.std.proofs.Common.{◌≡◌, ◌&&◌, ℤ, true, List, map, length, All, Contains, sym, ap, ◌∙◌, subst, arith}
use Rattle.std.proofs.lemmas.Bool.{and_parts, eqb-true, false_from_ne_true}
use Rattle.std.specs.Int.{w128}
use Rattle.std.proofs.lemmas.Int.{to_z-of_z}
use Rattle.tgap_model.specs.declared.geometry.Point.{Point}
use Rattle.tgap_model.specs.declared.slice.Edge.{Edge}
use Rattle.tgap_model.specs.declared.slice.Removal.{Removal}
use Rattle.tgap_model.specs.Removals.{has_side}
use Rattle.removal_laws.proofs.ChainEnds.{contained}
use Rattle.grid_index.specs.Keyed.{edges_in}
use Rattle.vertex_drop.specs.Corners.{has_small_corner}
use Rattle.tgap_build.specs.Table.{labelled_edges}
use Rattle.tgap_build.specs.Queues.{IsBeside}
use Rattle.tgap_build.proofs.WideEdges.{none_swept}
use Rattle.tgap_build.proofs.sought.swept.Goals as goal

pub sweep_some-requires-clause-there : goal.sweep_some-requires-clause-there
sweep_some-requires-clause-there c = subst (λ (es : List Edge). All (IsBeside es c.args.made) c.args.keys.now) (sym (c.of-live.ensures ∙ ap edges_in c.places.ensures)) c.requires.there

pub sweep_some-requires-clause-corners : goal.sweep_some-requires-clause-corners
sweep_some-requires-clause-corners c = λ e m side h.
    c.requires.small e (subst (λ (es : List Edge). Contains es e) (c.of-live.ensures ∙ ap edges_in c.places.ensures) m) side
    (subst (λ (z : ℤ). has_small_corner c.args.ratio z e.points ≡ true) (to_z-of_z w128 c.args.loser_area c.ranges.loser_area) h)

pub returns-then-is_empty-clause-removals : goal.returns-then-is_empty-clause-removals
returns-then-is_empty-clause-removals c =
    let edges = labelled_edges c.args.edges.now in
    let none : length c.args.keys.now ≡ 0 = eqb-true (length c.args.keys.now) 0 (sym c.is_empty.ensures ∙ c.if-is_empty.true) in
    c.new.ensures ∙ sym (ap {A = List Point} {B = List Removal} (map (λ (p : Point). record { point = p; step = c.args.step })) (none_swept c.args.ratio c.args.loser_area c.args.made edges (λ e m.
    false_from_ne_true (has_side c.args.made e && has_small_corner c.args.ratio c.args.loser_area e.points) (λ both.
    let parts = and_parts (has_side c.args.made e) (has_small_corner c.args.ratio c.args.loser_area e.points) both in
    let place = c.requires.small e (contained edges e m) parts.0 parts.1 in
    absurd (omega (arith, place.1, none))))))
