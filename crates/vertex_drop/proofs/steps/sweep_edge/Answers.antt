-- What was kept and removed in the end is what the definition says.
use Rattle.std.proofs.Common.{◌≡◌, ◌+◌, ◌-◌, ◌++◌, ◌∷◌, [], ℕ, pos, List, length, get_or, sym, ap, ◌∙◌, subst, arith}
use Rattle.std.proofs.lemmas.List.{get_or_default}
use Rattle.std.proofs.lemmas.Result.{IfOk-weaker}
use Rattle.tgap_model.specs.declared.geometry.Point.{Point}
use Rattle.tgap_model.specs.declared.slice.Edge.{Edge}
use Rattle.tgap_model.specs.Removals.{path}
use Rattle.vertex_drop.specs.Left.{is_swept, other_segments}
use Rattle.vertex_drop.specs.Sweep.{sweep_after, IsEdgeSwept, GoesOn}
use Rattle.vertex_drop.proofs.Walked.{sweep_ends}
use Rattle.vertex_drop.proofs.Unswept.{no_edge}
use Rattle.vertex_drop.proofs.steps.sweep_edge.Goals as goal

pub returns : goal.returns
returns g c i d there is =
    let rule = c.args.rule in
    let swept = is_swept c.args.made c.args.keys.now in
    let live = g.L.LiveTable.edges c.args.live.now in
    let l = c.loop-place in
    let h = l.invariant in
    let o : Point = record { x = pos 0; y = pos 0 } in
    let points = c.args.edge.now.points in
    let others = other_segments swept i live in
    let first = c.args.kept.now in
    let before = c.args.gone.now.items in
    let last : l.place ≡ length points - 1 = omega (arith, c.loop-place-test.false, h.to, c.len-last.ensures) in
    let all : l.place + 1 ≡ length points = omega (arith, last, h.to) in
    let same : points ≡ (get_or live i d).points = ap (λ (f : Edge). f.points) is in
    let on : GoesOn rule others points (record { kept = first; gone = before; last = get_or points 0 o; place = 1 }) (record { kept = l.kept; gone = l.gone.items; last = l.a; place = l.place }) =
    subst (λ (p : Point). GoesOn rule others points (record { kept = first; gone = before; last = p; place = 1 }) (record { kept = l.kept; gone = l.gone.items; last = l.a; place = l.place }))
    (c.at-a.ensures o) (h.on i there (is ∙ get_or_default live i d no_edge there)) in
    let done = sweep_ends rule others points first l.kept before l.gone.items l.a l.place o all on in
    let end : get_or points l.place o ≡ c.at-b.result = ap (λ (n : ℕ). get_or points n o) (last ∙ ap (λ (n : ℕ). n - 1) (sym c.len-last.ensures)) ∙ sym (c.at-b.ensures o) in
    let kept : c.push.new.self ≡ first ++ path (sweep_after rule.ratio rule.area others first (get_or live i d).points).kept =
    c.in_ok-push.ensures ∙ ap (λ (p : Point). l.kept ++ record { a = l.a; b = p } ∷ []) (sym end) ∙ done.0
    ∙ ap (λ (ps : List Point). first ++ path (sweep_after rule.ratio rule.area others first ps).kept) same in
    let gone = done.1 ∙ ap (λ (ps : List Point). before ++ (sweep_after rule.ratio rule.area others first ps).gone) same in
    IfOk-weaker c.end_edge.result (λ _. c.end_edge.new.self ≡ c.push.new.self)
    (λ _. IsEdgeSwept rule swept live i d first c.end_edge.new.self before l.gone.items) (λ _ h. record { left = h ∙ kept; removed = gone }) c.end_edge.ensures
