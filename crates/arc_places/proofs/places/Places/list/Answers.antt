use Rattle.std.proofs.Common.{◌∙◌, ℕ, List, map, ap}
use Rattle.tgap_model.specs.Base.{same_point}
use Rattle.arc_places.specs.Bodies.{image}
use Rattle.arc_places.specs.Places.{bodies_at}
use Rattle.arc_places.proofs.Parts.{slots_more}
use Rattle.arc_places.proofs.places.Places.list.Goals as goal

pub returns : goal.returns
returns c = λ p.
    let places = c.args.self.now in
    let point = c.args.point in
    ap (λ (slots : List ℕ). map (image slots) (bodies_at c.push.new.self p)) c.in_ok-push.ensures.bodies
    ∙ slots_more places.bodies (bodies_at places point) (bodies_at places p) (bodies_at c.push.new.self p) c.body-body.result c.args.arc (same_point p point) c.body-body.ensures
    (c.in_ok-push.ensures.lists p)
