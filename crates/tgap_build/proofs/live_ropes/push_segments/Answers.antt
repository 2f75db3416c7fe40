use Rattle.std.proofs.Common.{◌<◌, ◌-◌, ◌^◌, length, sym, ap, ◌∙◌, subst}
use Rattle.std.specs.Option.{option_map}
use Rattle.tgap_model.specs.declared.slice.Edge.{Edge}
use Rattle.grid_index.specs.Live.{IsLiveEdge}
use Rattle.grid_index.proofs.KeyedPlaces.{placed_all}
use Rattle.tgap_build.proofs.live_ropes.push_segments.Goals as goal

pub push_near-requires : goal.push_near-requires
push_near-requires c =
    let told = sym c.edge_with_key.ensures ∙ ap (option_map (λ e. e.now)) c.in-Some.is in
    subst (λ (e : Edge). length e.points < 2 ^ 32 - 1) (sym c.of_rope.ensures) (placed_all IsLiveEdge c.args.places.now c.requires.each c.args.key c.in-Some.edge.now told).few
