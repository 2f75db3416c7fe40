use Rattle.std.proofs.Common.{Bool, List, length, not, map, filter, ap, ◌∙◌, arith}
use Rattle.tgap_model.specs.declared.geometry.Point.{Point}
use Rattle.point_rope.specs.Runs.{joined}
use Rattle.point_rope.proofs.Joined.{whole_written, filter-joined, filter_few}
use Rattle.point_rope.proofs.Places.{starts_size}
use Rattle.point_rope.proofs.runs.Runs.remove.Goals as goal

pub renew-self-inside-requires-clause-room : goal.renew-self-inside-requires-clause-room
renew-self-inside-requires-clause-room g c =
    let runs = c.self.inside.runs in
    let same = ap (λ (rs : List (List Point)). length rs) c.deref_mut.ensures.value in
    let written = whole_written runs.items c.remove_from.new.runs runs.len (omega (arith, c.remove_from.auto.runs, same)) (omega (arith, runs.ok.0)) in
    omega (
      arith,
      ap (λ (rs : List (List Point)). length rs) c.deref.ensures.value,
      c.remove_empty.ensures.fewer,
      ap (λ (rs : List (List Point)). length rs) written,
      c.remove_from.auto.runs,
      same,
      starts_size c.self.inside.starts.items runs.items c.self.invariant.begin,
    )

pub renew-self-inside-requires-clause-few : goal.renew-self-inside-requires-clause-few
renew-self-inside-requires-clause-few g c =
    let runs = c.self.inside.runs in
    let left : Point → Bool = λ (p : Point). not (g.T.PointTest.passes c.args.test.now p) in
    let same = ap (λ (rs : List (List Point)). length rs) c.deref_mut.ensures.value in
    let written = whole_written runs.items c.remove_from.new.runs runs.len (omega (arith, c.remove_from.auto.runs, same)) (omega (arith, runs.ok.0)) in
    let removed = c.remove_empty.ensures.same ∙ ap joined (written ∙ c.remove_from.ensures ∙ ap (map (filter left)) c.deref_mut.ensures.value) ∙ filter-joined left runs.items in
    omega (arith, ap (λ (rs : List (List Point)). length (joined rs)) c.deref.ensures.value, ap (λ (ps : List Point). length ps) removed, filter_few left (joined runs.items), c.self.invariant.counted, c.self.ranges)

pub returns : goal.returns
returns g c =
    let runs = c.self.inside.runs in
    let left : Point → Bool = λ (p : Point). not (g.T.PointTest.passes c.args.test.now p) in
    let same = ap (λ (rs : List (List Point)). length rs) c.deref_mut.ensures.value in
    let written = whole_written runs.items c.remove_from.new.runs runs.len (omega (arith, c.remove_from.auto.runs, same)) (omega (arith, runs.ok.0)) in
    c.remove_empty.ensures.same ∙ ap joined (written ∙ c.remove_from.ensures ∙ ap (map (filter left)) c.deref_mut.ensures.value) ∙ filter-joined left runs.items
    ∙ ap (λ (rs : List (List Point)). filter left (joined rs)) c.self.view_is
