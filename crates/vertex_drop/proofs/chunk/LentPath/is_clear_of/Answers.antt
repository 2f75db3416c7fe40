use Rattle.std.proofs.Common.{sym, ap, ◌∙◌}
use Rattle.std.specs.List.{list_all}
use Rattle.tgap_model.specs.Clear.{is_clear}
use Rattle.tgap_model.specs.Removals.{path}
use Rattle.vertex_drop.proofs.Outside.{apart_is_clear}
use Rattle.vertex_drop.proofs.Paths.{path_held}
use Rattle.vertex_drop.proofs.chunk.LentPath.is_clear_of.Goals as goal

pub returns-then-are_apart : goal.returns-then-are_apart
returns-then-are_apart c =
    let t = c.args.t.now in
    let lent = c.self.inside in
    c.if-are_apart.true
    ∙ sym (apart_is_clear t lent.bounds (path lent.points.now) c.requires (c.are_apart.ensures c.if-are_apart.true)
    (path_held lent.bounds lent.points.now c.self.invariant.0 c.self.invariant.1))
    ∙ ap (list_all (is_clear t.a t.b t.c)) c.self.view_is
