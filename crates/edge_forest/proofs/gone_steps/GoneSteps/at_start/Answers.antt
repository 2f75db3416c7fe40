-- A turned arc starts at its last point.
use Rattle.std.proofs.Common.{◌≡◌, ◌-◌, ◌≤◌, Bool, List, [], ℕ, cond, length, map, get_or, pos, sym, ap, ◌∙◌, arith}
use Rattle.std.proofs.Math.ListN.{get_or-map}
use Rattle.std.proofs.lemmas.List.{get_or_default, length-map}
use Rattle.tgap_model.specs.declared.geometry.Point.{Point}
use Rattle.tgap_model.specs.declared.base.BaseArc.{BaseArc}
use Rattle.tgap_model.specs.Chains.{first_point, last_point, arc_number}
use Rattle.edge_forest.specs.Removed.{PointSteps, step_of}
use Rattle.edge_forest.proofs.PartSpans.{last_at}
use Rattle.edge_forest.proofs.gone_steps.GoneSteps.at_start.Goals as goal

no_point : Point
no_point = record { x = pos 0; y = pos 0 }

abbrev no_arc : BaseArc
no_arc = record { left = 0; right = 0; points = [] }

-- there are as many as points, two at least
enough : (arcs : List BaseArc) (t : PointSteps) (a : ℕ) (steps : List ℕ) → 2 ≤ length (arc_number arcs a).points
    → steps ≡ map (step_of t) (arc_number arcs a).points → 2 ≤ length steps
enough arcs t a steps two same = omega (arith, two, ap length same, length-map (arc_number arcs a).points (step_of t))

pub overflow_sub-result : goal.overflow_sub-result
overflow_sub-result c =
    let w = c.requires.gone in
    let two = enough c.args.arcs.now w.0 c.args.link.arc c.along-steps.result.now (c.requires.long c.args.link.arc no_arc c.requires.arc) (c.along-steps.ensures w.0 w.1) in
    omega (arith, two)

pub bounds-steps-steps : goal.bounds-steps-steps
bounds-steps-steps c =
    let w = c.requires.gone in
    let two = enough c.args.arcs.now w.0 c.args.link.arc c.along-steps.result.now (c.requires.long c.args.link.arc no_arc c.requires.arc) (c.along-steps.ensures w.0 w.1) in
    omega (arith, two)

pub bounds-steps-0 : goal.bounds-steps-0
bounds-steps-0 c =
    let w = c.requires.gone in
    let two = enough c.args.arcs.now w.0 c.args.link.arc c.along-steps.result.now (c.requires.long c.args.link.arc no_arc c.requires.arc) (c.along-steps.ensures w.0 w.1) in
    omega (arith, two)

-- the step of the last point
last_step_of : (t : PointSteps) (points : List Point) (steps : List ℕ) → 2 ≤ length points → steps ≡ map (step_of t) points
    → get_or steps (length steps - 1) 0 ≡ step_of t (last_point points)
last_step_of t points steps two same =
    get_or_default steps (length steps - 1) 0 (step_of t no_point) (omega (arith, two, ap length same, length-map points (step_of t)))
    ∙ ap (λ (ss : List ℕ). get_or ss (length ss - 1) (step_of t no_point)) same
    ∙ get_or-map (step_of t) points (length (map (step_of t) points) - 1) no_point
    ∙ ap (λ (n : ℕ). step_of t (get_or points (n - 1) no_point)) (length-map points (step_of t))
    ∙ ap (step_of t) (last_at points no_point (omega (arith, two)))

pub returns-then-link : goal.returns-then-link
returns-then-link c = λ t w.
    let points = (arc_number c.args.arcs.now c.args.link.arc).points in
    let two = c.requires.long c.args.link.arc no_arc c.requires.arc in
    last_step_of t points c.along-steps.result.now two (c.along-steps.ensures t w)
    ∙ ap (step_of t) (sym (ap (λ (b : Bool). cond b (last_point points) (first_point points)) c.if-link.true))
