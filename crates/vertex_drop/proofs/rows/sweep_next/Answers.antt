-- The points ahead are those of the edge.
use Rattle.std.proofs.Common.{◌≡◌, ◌+◌, ◌-◌, ◌∷◌, pos, List, drop, get_or, sym, ap, ap₂, ◌∙◌, subst, arith}
use Rattle.std.proofs.lemmas.List.{drop_more}
use Rattle.tgap_model.specs.declared.geometry.Point.{Point}
use Rattle.tgap_model.specs.declared.slice.Edge.{Edge}
use Rattle.point_rope.specs.Held.{IsNearPoint}
use Rattle.vertex_drop.proofs.Walked.{within_length, all_within}
use Rattle.vertex_drop.proofs.rows.sweep_next.Goals as goal

pub sweep_vertex-requires-clause-b : goal.sweep_vertex-requires-clause-b
sweep_vertex-requires-clause-b g c =
    let o : Point = record { x = pos 0; y = pos 0 } in
    subst IsNearPoint (sym (c.at.ensures o)) (c.requires.edge.limits c.args.at.place o (omega (arith, c.requires.to)))

pub sweep_vertex-requires-clause-c : goal.sweep_vertex-requires-clause-c
sweep_vertex-requires-clause-c g c =
    let o : Point = record { x = pos 0; y = pos 0 } in
    subst IsNearPoint (sym (c.at-then-count-lt3.ensures o)) (c.requires.edge.limits (c.args.at.place + 1) o c.requires.to)

pub returns-then-count-lt3-clause-on : goal.returns-then-count-lt3-clause-on
returns-then-count-lt3-clause-on g c i d short is =
    let points = c.args.edge.now.points in
    let place = c.args.at.place in
    let o : Point = record { x = pos 0; y = pos 0 } in
    let ahead : drop place points ≡ c.at.result ∷ c.at-then-count-lt3.result ∷ drop (place + 1 + 1) points =
    drop_more points place o (omega (arith, c.requires.to)) ∙ ap (λ (l : List Point). get_or points place o ∷ l) (drop_more points (place + 1) o c.requires.to)
    ∙ ap₂ (λ (p q : Point). p ∷ q ∷ drop (place + 1 + 1) points) (sym (c.at.ensures o)) (sym (c.at-then-count-lt3.ensures o)) in
    c.in_ok-last.ensures.on i d (drop (place + 1 + 1) points) short (sym (ap (λ (e : Edge). e.key) is) ∙ c.requires.key)
    (ap (λ (e : Edge). drop place e.points) (sym is) ∙ ahead)

pub sweep_run-requires-clause-points : goal.sweep_run-requires-clause-points
sweep_run-requires-clause-points g c =
    let there = c.run_from-run.ensures.there in
    all_within IsNearPoint c.args.edge.now.points c.run_from-run.result.points.now there.0 (c.args.at.place - 1) there.1 c.requires.edge.limits

pub sweep_run-requires-clause-at : goal.sweep_run-requires-clause-at
sweep_run-requires-clause-at g c =
    let there = c.run_from-run.ensures.there in
    let all = within_length c.args.edge.now.points c.run_from-run.result.points.now there.0 (c.args.at.place - 1) there.1 (omega (arith, c.requires.to)) in
    omega (arith, all, c.requires.from, c.requires.edge.few)

pub returns-clause-next : goal.returns-clause-next
returns-clause-next g c =
    let there = c.run_from-run.ensures.there in
    let all = within_length c.args.edge.now.points c.run_from-run.result.points.now there.0 (c.args.at.place - 1) there.1 (omega (arith, c.requires.to)) in
    (omega (arith, c.if-count-lt3.false), omega (arith, all, c.requires.from, c.if-count-lt3.false))

pub returns-clause-on : goal.returns-clause-on
returns-clause-on g c i d short is =
    let there = c.run_from-run.ensures.there in
    c.in_ok-last-2.ensures.on i d there.0 short (sym (ap (λ (e : Edge). e.key) is) ∙ c.requires.key)
    (ap (λ (e : Edge). drop (c.args.at.place - 1) e.points) (sym is) ∙ there.1)
