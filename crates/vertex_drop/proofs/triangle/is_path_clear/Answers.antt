use Rattle.std.proofs.Common.{◌≡◌, ◌+◌, ◌-◌, ◌&&◌, ℕ, pos, true, Bool, drop, get_or, sym, ap, ◌∙◌, arith}
use Rattle.std.specs.List.{list_all}
use Rattle.tgap_model.specs.declared.geometry.Point.{Point}
use Rattle.tgap_model.specs.Clear.{is_clear}
use Rattle.tgap_model.specs.Removals.{path}
use Rattle.vertex_drop.proofs.Paths.{path_at}
use Rattle.vertex_drop.proofs.triangle.is_path_clear.Goals as goal

pub loop-i-preserved : goal.loop-i-preserved
loop-i-preserved c =
    let t = c.args.t.now in
    let points = c.args.points.now in
    let i = c.loop-i.i in
    let o : Point = record { x = pos 0; y = pos 0 } in
    let all = list_all (is_clear t.a t.b t.c) in
    let here : i - 1 + 1 ≡ i = omega (arith, c.loop-i.auto.i) in
    let next : i + 1 - 1 ≡ i = omega arith in
    let clear : is_clear t.a t.b t.c (record { a = get_or points (i - 1) o; b = get_or points i o }) ≡ true =
    sym c.is_segment_clear.ensures ∙ c.if-not-is_segment_clear.false in
    ap (λ (n : ℕ). all (path (drop n points))) next
    ∙ sym (
    ap all (path_at points (i - 1) o (omega (arith, here, c.loop-i-test.true)))
    ∙ ap (λ (n : ℕ). is_clear t.a t.b t.c (record { a = get_or points (i - 1) o; b = get_or points n o }) && all (path (drop n points))) here
    ∙ ap (λ (b : Bool). b && all (path (drop i points))) clear
    )
    ∙ c.loop-i.invariant
