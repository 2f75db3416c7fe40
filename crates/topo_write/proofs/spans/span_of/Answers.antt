use Rattle.std.proofs.Common.{◌≡◌, ◌-◌, length, get_or, ap, ap₂, ◌∙◌, List, [], ◌∷◌, refl}
use Rattle.tgap_model.specs.declared.geometry.Point.{Point}
use Rattle.tgap_model.specs.Chains.{first_point}
use Rattle.ring_sides.proofs.RawArcs.{last_at}
use Rattle.ring_walk.specs.Sides.{origin}
use Rattle.topo_write.proofs.spans.span_of.Goals as goal

first_at : (points : List Point) → get_or points 0 origin ≡ first_point points
first_at [] = refl
first_at (p ∷ points) = refl

pub returns : goal.returns
returns c =
    let points = c.args.edge.now.points in
    let same = c.as_slice-points.ensures in
    ap₂ (λ (p q : Point). record { first = p; last = q; ends = c.args.ends; left = c.args.edge.now.left; right = c.args.edge.now.right })
    (ap (λ (ps : List Point). get_or ps 0 origin) same ∙ first_at points)
    (ap (λ (ps : List Point). get_or ps (length ps - 1) origin) same ∙ last_at points origin c.requires.some)
