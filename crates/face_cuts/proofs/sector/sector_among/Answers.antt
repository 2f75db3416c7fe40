use Rattle.std.proofs.Common.{◌≡◌, ◌∙◌, ◌<◌, ◌+◌, ◌-◌, ℕ, Bool, false, List, None, Some, get_or, length, sym, ap, subst, arith}
use Rattle.std.specs.Prelude.{cond, IfSome}
use Rattle.std.proofs.lemmas.List.{get_or_default}
use Rattle.tgap_model.specs.declared.geometry.Point.{Point}
use Rattle.ring_walk.specs.declared.span.Span.{Span}
use Rattle.ring_walk.specs.declared.side.Side.{Side}
use Rattle.ring_walk.specs.declared.side.Way.TheVariants.{Along}
use Rattle.face_cuts.specs.Sectors.{leaves_along, leaves_before, spans_of}
use Rattle.face_cuts.specs.Spokes.{IsSpoke, later}
use Rattle.face_cuts.specs.Tables.{sides_leaving}
use Rattle.face_cuts.proofs.LastSpokes.{AreSeen, is_spoke, seen_none, seen_along, seen_spoke, seen_all}
use Rattle.face_cuts.proofs.SpansOfArcs.{of_arc}
use Rattle.face_cuts.proofs.sector.sector_among.Goals as goal
use Rattle.face_cuts.proofs.sector.sector_among.Goals.{then-leaves_before, else-leaves_before}

abbrev none : Side
none = record { span = 0; way = Along }

-- the spoke at a place
at_place : (spans : List Span) (v : Point) (spokes : List Side) (k : ℕ) → spokes ≡ sides_leaving spans v → k < length spokes → get_or spokes k none ≡ get_or (sides_leaving spans v) k (get_or spokes k none)
at_place spans v spokes k e l = get_or_default spokes k none (get_or spokes k none) l ∙ ap (λ (xs : List Side). get_or xs k (get_or spokes k none)) e

pub loop-step-init : goal.loop-step-init
loop-step-init g c =
    let spans = spans_of (g.T.ArcTable.arcs c.args.table.now) in
    let all : length (sides_leaving spans c.args.node) ≡ length c.args.spokes.now - 0 = omega (arith, ap length c.requires.spokes) in
    subst (λ i. AreSeen spans c.args.node c.args.toward i None None) all (seen_none spans c.requires.spans c.args.node c.args.toward)

pub returns-then-leaves_along-clause-value : goal.returns-then-leaves_along-clause-value
returns-then-leaves_along-clause-value g c =
    let spans = spans_of (g.T.ArcTable.arcs c.args.table.now) in
    let v = c.args.node in
    let p = c.args.toward in
    let spokes = c.args.spokes.now in
    let i = length spokes - 1 - c.loop-step.step in
    let short : i < length spokes = omega (arith, c.loop-step-test.true) in
    let l : i < length (sides_leaving spans v) = omega (arith, short, ap length c.requires.spokes) in
    let next : length spokes - c.loop-step.step ≡ i + 1 = omega (arith, c.loop-step-test.true) in
    let s = get_or spokes i none in
    seen_along spans c.requires.spans v p i s l (at_place spans v spokes i c.requires.spokes short) c.loop-step.last c.loop-step.before
    (subst (λ j. AreSeen spans v p j c.loop-step.last c.loop-step.before) next c.loop-step.invariant)
    (sym c.leaves_along.ensures ∙ c.if-leaves_along.true)

-- the spoke leaves the node
pub leaves_along-requires-clause-spoke : goal.leaves_along-requires-clause-spoke
leaves_along-requires-clause-spoke g c =
    let spans = spans_of (g.T.ArcTable.arcs c.args.table.now) in
    let v = c.args.node in
    let p = c.args.toward in
    let spokes = c.args.spokes.now in
    let i = length spokes - 1 - c.loop-step.step in
    let short : i < length spokes = omega (arith, c.loop-step-test.true) in
    let l : i < length (sides_leaving spans v) = omega (arith, short, ap length c.requires.spokes) in
    let next : length spokes - c.loop-step.step ≡ i + 1 = omega (arith, c.loop-step-test.true) in
    let spoke = is_spoke spans c.requires.spans v p i (get_or spokes i none) l (at_place spans v spokes i c.requires.spokes short) c.loop-step.last c.loop-step.before
    (subst (λ j. AreSeen spans v p j c.loop-step.last c.loop-step.before) next c.loop-step.invariant) in
    spoke

pub later-requires-clause-spoke : goal.later-requires-clause-spoke
later-requires-clause-spoke g c =
    let spans = spans_of (g.T.ArcTable.arcs c.args.table.now) in
    let v = c.args.node in
    let p = c.args.toward in
    let spokes = c.args.spokes.now in
    let i = length spokes - 1 - c.loop-step.step in
    let short : i < length spokes = omega (arith, c.loop-step-test.true) in
    let l : i < length (sides_leaving spans v) = omega (arith, short, ap length c.requires.spokes) in
    let next : length spokes - c.loop-step.step ≡ i + 1 = omega (arith, c.loop-step-test.true) in
    let spoke = is_spoke spans c.requires.spans v p i (get_or spokes i none) l (at_place spans v spokes i c.requires.spokes short) c.loop-step.last c.loop-step.before
    (subst (λ j. AreSeen spans v p j c.loop-step.last c.loop-step.before) next c.loop-step.invariant) in
    of_arc (g.T.ArcTable.arcs c.args.table.now) (get_or spokes i none) spoke.side

pub later-requires-clause-last : goal.later-requires-clause-last
later-requires-clause-last g c =
    let spans = spans_of (g.T.ArcTable.arcs c.args.table.now) in
    let v = c.args.node in
    let p = c.args.toward in
    let spokes = c.args.spokes.now in
    let i = length spokes - 1 - c.loop-step.step in
    let short : i < length spokes = omega (arith, c.loop-step-test.true) in
    let l : i < length (sides_leaving spans v) = omega (arith, short, ap length c.requires.spokes) in
    let next : length spokes - c.loop-step.step ≡ i + 1 = omega (arith, c.loop-step-test.true) in
    let spoke = is_spoke spans c.requires.spans v p i (get_or spokes i none) l (at_place spans v spokes i c.requires.spokes short) c.loop-step.last c.loop-step.before
    (subst (λ j. AreSeen spans v p j c.loop-step.last c.loop-step.before) next c.loop-step.invariant) in
    subst (λ (u : Point). IfSome c.loop-step.last (IsSpoke spans u)) (sym spoke.node) c.loop-step.invariant.last_spoke

pub leaves_before-requires-clause-spoke : goal.leaves_before-requires-clause-spoke
leaves_before-requires-clause-spoke g c =
    let spans = spans_of (g.T.ArcTable.arcs c.args.table.now) in
    let v = c.args.node in
    let p = c.args.toward in
    let spokes = c.args.spokes.now in
    let i = length spokes - 1 - c.loop-step.step in
    let short : i < length spokes = omega (arith, c.loop-step-test.true) in
    let l : i < length (sides_leaving spans v) = omega (arith, short, ap length c.requires.spokes) in
    let next : length spokes - c.loop-step.step ≡ i + 1 = omega (arith, c.loop-step-test.true) in
    let spoke = is_spoke spans c.requires.spans v p i (get_or spokes i none) l (at_place spans v spokes i c.requires.spokes short) c.loop-step.last c.loop-step.before
    (subst (λ j. AreSeen spans v p j c.loop-step.last c.loop-step.before) next c.loop-step.invariant) in
    spoke

pub later-requires-then-leaves_before-clause-spoke : goal.later-requires-then-leaves_before-clause-spoke
later-requires-then-leaves_before-clause-spoke g c =
    let spans = spans_of (g.T.ArcTable.arcs c.args.table.now) in
    let v = c.args.node in
    let p = c.args.toward in
    let spokes = c.args.spokes.now in
    let i = length spokes - 1 - c.loop-step.step in
    let short : i < length spokes = omega (arith, c.loop-step-test.true) in
    let l : i < length (sides_leaving spans v) = omega (arith, short, ap length c.requires.spokes) in
    let next : length spokes - c.loop-step.step ≡ i + 1 = omega (arith, c.loop-step-test.true) in
    let spoke = is_spoke spans c.requires.spans v p i (get_or spokes i none) l (at_place spans v spokes i c.requires.spokes short) c.loop-step.last c.loop-step.before
    (subst (λ j. AreSeen spans v p j c.loop-step.last c.loop-step.before) next c.loop-step.invariant) in
    of_arc (g.T.ArcTable.arcs c.args.table.now) (get_or spokes i none) spoke.side

pub later-requires-then-leaves_before-clause-last : goal.later-requires-then-leaves_before-clause-last
later-requires-then-leaves_before-clause-last g c =
    let spans = spans_of (g.T.ArcTable.arcs c.args.table.now) in
    let v = c.args.node in
    let p = c.args.toward in
    let spokes = c.args.spokes.now in
    let i = length spokes - 1 - c.loop-step.step in
    let short : i < length spokes = omega (arith, c.loop-step-test.true) in
    let l : i < length (sides_leaving spans v) = omega (arith, short, ap length c.requires.spokes) in
    let next : length spokes - c.loop-step.step ≡ i + 1 = omega (arith, c.loop-step-test.true) in
    let spoke = is_spoke spans c.requires.spans v p i (get_or spokes i none) l (at_place spans v spokes i c.requires.spokes short) c.loop-step.last c.loop-step.before
    (subst (λ j. AreSeen spans v p j c.loop-step.last c.loop-step.before) next c.loop-step.invariant) in
    subst (λ (u : Point). IfSome c.loop-step.before (IsSpoke spans u)) (sym spoke.node) c.loop-step.invariant.before_spoke

pub loop-step-preserved : goal.loop-step-preserved
loop-step-preserved g c =
    let spans = spans_of (g.T.ArcTable.arcs c.args.table.now) in
    let v = c.args.node in
    let p = c.args.toward in
    let spokes = c.args.spokes.now in
    let i = length spokes - 1 - c.loop-step.step in
    let short : i < length spokes = omega (arith, c.loop-step-test.true) in
    let l : i < length (sides_leaving spans v) = omega (arith, short, ap length c.requires.spokes) in
    let next : length spokes - c.loop-step.step ≡ i + 1 = omega (arith, c.loop-step-test.true) in
    let here : i ≡ length spokes - (c.loop-step.step + 1) = omega (arith, c.loop-step-test.true) in
    let s = get_or spokes i none in
    let all = c.loop-step.last in
    let front = c.loop-step.before in
    let before : AreSeen spans v p (i + 1) all front = subst (λ j. AreSeen spans v p j all front) next c.loop-step.invariant in
    let apart : leaves_along spans v p s ≡ false = sym c.leaves_along.ensures ∙ c.if-leaves_along.false in
    let now : c.if-leaves_before.before ≡ cond (leaves_before spans v p s) (Some (later spans s front)) front =
    elim c.if-leaves_before.branch [
      | then-leaves_before w ↦ w.before-is ∙ ap Some w.later-then-leaves_before.ensures ∙ sym (ap (λ (b : Bool). cond b (Some (later spans s front)) front) (sym c.leaves_before.ensures ∙ w.if-leaves_before.true))
      | else-leaves_before w ↦ w.before-is ∙ sym (ap (λ (b : Bool). cond b (Some (later spans s front)) front) (sym c.leaves_before.ensures ∙ w.if-leaves_before.false))
    ] in
    subst (λ j. AreSeen spans v p j (Some c.later.result) c.if-leaves_before.before) here
    (subst (λ (t : Side). AreSeen spans v p i (Some t) c.if-leaves_before.before) (sym c.later.ensures)
    (seen_spoke spans c.requires.spans v p i s l (at_place spans v spokes i c.requires.spokes short) all front before c.if-leaves_before.before apart now))

pub returns-clause-value : goal.returns-clause-value
returns-clause-value g c =
    let spans = spans_of (g.T.ArcTable.arcs c.args.table.now) in
    let none : length c.args.spokes.now - c.loop-step.step ≡ 0 = omega (arith, c.loop-step-test.false) in
    c.or.ensures
    ∙ seen_all spans c.requires.spans c.args.node c.args.toward c.loop-step.last c.loop-step.before
    (subst (λ i. AreSeen spans c.args.node c.args.toward i c.loop-step.last c.loop-step.before) none c.loop-step.invariant)
