-- Each vertex is one step on.
use Rattle.std.proofs.Common.{◌≡◌, ◌+◌, ◌-◌, ◌++◌, ℕ, pos, length, drop, get_or, sym, ap, ◌∙◌, subst, arith}
use Rattle.tgap_model.specs.declared.geometry.Point.{Point}
use Rattle.vertex_drop.specs.Left.{swept_by, other_segments}
use Rattle.vertex_drop.specs.Sweep.{Standing, GoesOn}
use Rattle.vertex_drop.proofs.Walked.{goes_then, two_within}
use Rattle.vertex_drop.proofs.rows.sweep_points.Goals as goal

pub loop-i-preserved : goal.loop-i-preserved
loop-i-preserved g c =
    let live = g.L.LiveTable.edges c.args.live.now in
    let at = c.args.at in
    let l = c.loop-i in
    let run = c.args.points.now in
    let o : Point = record { x = pos 0; y = pos 0 } in
    let here : at.place - 1 + l.i ≡ at.place + l.i - 1 = omega (arith, c.requires.from) in
    let there : at.place + l.i - 1 + 1 ≡ at.place + (l.i + 1) - 1 = omega (arith, c.requires.from) in
    record {
      near = c.in_ok-a.ensures.near;
      on = λ i d more short same ahead.
          let points = (get_or live i d).points in
          let others = other_segments (swept_by at) i live in
          let start : Standing = record { kept = c.args.kept.now; gone = c.args.gone.now.items; last = c.args.a; place = at.place } in
          let now : Standing = record { kept = l.kept; gone = l.gone.items; last = l.a; place = at.place + l.i - 1 } in
          let next : ℕ → Standing = λ (n : ℕ). record { kept = c.sweep_vertex.new.kept; gone = c.sweep_vertex.new.gone.items; last = c.in_ok-a.a; place = n } in
          let two = ap (λ (n : ℕ). drop n points) (sym here) ∙ two_within points run more (at.place - 1) l.i (l.i + 1) o ahead (omega arith) (omega (arith, c.loop-i-test.true)) in
          subst (λ (n : ℕ). GoesOn c.args.rule others points start (next n)) there
          (goes_then c.args.rule others points start now (next (at.place + l.i - 1 + 1)) (l.invariant.on i d more short same ahead)
          (c.in_ok-a.ensures.on i d (drop (l.i + 1 + 1) run ++ more) short same two));
    }

pub returns-clause-on : goal.returns-clause-on
returns-clause-on g c i d more short same ahead =
    let live = g.L.LiveTable.edges c.args.live.now in
    let at = c.args.at in
    let l = c.loop-i in
    let start : Standing = record { kept = c.args.kept.now; gone = c.args.gone.now.items; last = c.args.a; place = at.place } in
    let end : at.place + l.i - 1 ≡ at.place + length c.args.points.now - 2 = omega (arith, c.loop-i-test.false, l.auto.i-end, c.requires.some) in
    subst (λ (n : ℕ). GoesOn c.args.rule (other_segments (swept_by at) i live) (get_or live i d).points start (record { kept = l.kept; gone = l.gone.items; last = l.a; place = n })) end
    (l.invariant.on i d more short same ahead)
