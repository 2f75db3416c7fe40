use Rattle.std.proofs.Common.{◌≡◌, ◌≤◌, ◌++◌, ℤ, Bool, unsigned_abs, sym, ◌∙◌, subst}
use Rattle.std.specs.List.{list_all}
use Rattle.std.proofs.lemmas.Result.{IfOk-weaker}
use Rattle.tgap_model.specs.Bounds.{max_cross}
use Rattle.tgap_model.specs.Point.{area2}
use Rattle.tgap_model.specs.Clear.{is_clear}
use Rattle.vertex_drop.specs.Left.{left_segments}
use Rattle.point_rope.proofs.SmallAreas.{area_small}
use Rattle.vertex_drop.proofs.Small.{wide_area, area_of_zero, not_zero}
use Rattle.vertex_drop.proofs.Removed.{removed_flat, kept_large, removed_clear}
use Rattle.vertex_drop.proofs.removable.is_removable.Goals as goal

pub returns-then-area-eq0 : goal.returns-then-area-eq0
returns-then-area-eq0 g c =
    let t = c.args.corner in
    let r = c.requires in
    let small = area_small t.a t.b t.c r.a r.b r.c in
    removed_flat c.args.rule.ratio c.args.rule.area _ t.a t.b t.c
    (area_of_zero c.area2-area.result (area2 t.a t.b t.c) c.area2-area.ensures small c.if-area-eq0.true)

pub is_small-requires : goal.is_small-requires
is_small-requires g c =
    let t = c.args.corner in
    let r = c.requires in
    let small = area_small t.a t.b t.c r.a r.b r.c in
    subst (λ (z : ℤ). unsigned_abs z ≤ max_cross) (sym (wide_area c.area2-area.result (area2 t.a t.b t.c) c.area2-area.ensures small)) small

pub returns-then-not-is_small : goal.returns-then-not-is_small
returns-then-not-is_small g c =
    let t = c.args.corner in
    let r = c.requires in
    let small = area_small t.a t.b t.c r.a r.b r.c in
    sym c.if-not-is_small.true
    ∙ kept_large c.args.rule.ratio c.args.rule.area _ t.a t.b t.c (not_zero c.area2-area.result (area2 t.a t.b t.c) c.area2-area.ensures c.if-area-eq0.false)
    (c.is_small.ensures (area2 t.a t.b t.c) (wide_area c.area2-area.result (area2 t.a t.b t.c) c.area2-area.ensures small)) c.if-not-is_small.true

pub returns : goal.returns
returns g c =
    let t = c.args.corner in
    let r = c.requires in
    let u = c.triangle_of.result in
    let others = c.args.kept.now ++ left_segments c.args.at (g.L.LiveTable.edges c.args.live.now) in
    let small = area_small t.a t.b t.c r.a r.b r.c in
    IfOk-weaker c.is_clear_of_all.result (λ (clear : Bool). clear ≡ list_all (is_clear u.a u.b u.c) others) _
    (λ clear e.
    removed_clear c.args.rule.ratio c.args.rule.area others t.a t.b t.c (not_zero c.area2-area.result (area2 t.a t.b t.c) c.area2-area.ensures c.if-area-eq0.false)
    (c.is_small.ensures (area2 t.a t.b t.c) (wide_area c.area2-area.result (area2 t.a t.b t.c) c.area2-area.ensures small)) c.if-not-is_small.false
    (rw (sym c.triangle_of.ensures.a, sym c.triangle_of.ensures.b, sym c.triangle_of.ensures.c) e))
    c.is_clear_of_all.ensures
