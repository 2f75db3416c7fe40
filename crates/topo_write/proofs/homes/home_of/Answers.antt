use Rattle.std.proofs.Common.{◌≡◌, ◌<◌, ◌∙◌, ℕ, List, length, map, All, sym, ap, subst, arith}
use Rattle.std.specs.Prelude.{Option, None, fold, option_map, unwrap_or}
use Rattle.std.proofs.lemmas.List.Elements.{All-weaker}
use Rattle.grid_index.specs.Near.{near_boxes}
use Rattle.grid_index.proofs.Meeting.{near_below}
use Rattle.topo_write.specs.declared.home.Home.{Home}
use Rattle.topo_write.specs.Building.{column_of, home_after, ring_at}
use Rattle.topo_write.specs.Polygons.{lines_of}
use Rattle.topo_write.proofs.NearHomes.{near_home, no_probe}
use Rattle.topo_write.proofs.homes.home_of.Goals as goal

pub returns-in_default : goal.returns-in_default
returns-in_default c = sym (no_probe (lines_of c.args.edges.now) (map (ring_at c.args.rings.now) c.args.outer.now) c.args.inner.now (sym c.in_default.ensures.value))

pub home_among-home-requires-clause-near : goal.home_among-home-requires-clause-near
home_among-home-requires-clause-near c =
    let boxes = c.args.boxes.now in
    subst (All (λ j. j < length c.args.outer.now)) (sym (c.as_slice.ensures ∙ c.in_ok-near.ensures))
    (All-weaker (λ j. j < length boxes) (λ j. j < length c.args.outer.now) (λ j l. omega (arith, l, c.requires.boxes.long)) _ (near_below _ boxes))

pub returns : goal.returns
returns c =
    let lines = lines_of c.args.edges.now in
    let os = map (ring_at c.args.rings.now) c.args.outer.now in
    let probe = c.in-Some.probe in
    let near : c.as_slice.result.now ≡ near_boxes (column_of probe) c.args.boxes.now = c.as_slice.ensures ∙ c.in_ok-near.ensures ∙ ap (λ b. near_boxes b c.args.boxes.now) c.column_of.ensures in
    c.place_of.ensures
    ∙ ap (λ (h : Option Home). unwrap_or (option_map (λ g. g.place) h) 0) (c.home_among-home.ensures ∙ ap (λ (js : List ℕ). fold (home_after lines os probe) None js) near)
    ∙ sym (near_home lines c.args.rings.now c.args.outer.now c.args.boxes.now c.args.inner.now probe (sym c.in-Some.ensures.value) c.requires.boxes)
