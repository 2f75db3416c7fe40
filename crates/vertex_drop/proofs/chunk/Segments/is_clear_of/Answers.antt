use Rattle.std.proofs.Common.{sym, ap, ◌∙◌}
use Rattle.std.specs.List.{list_all}
use Rattle.tgap_model.specs.Clear.{is_clear}
use Rattle.vertex_drop.proofs.Outside.{apart_is_clear}
use Rattle.vertex_drop.proofs.chunk.Segments.is_clear_of.Goals as goal

pub returns-then-are_apart : goal.returns-then-are_apart
returns-then-are_apart c =
    let t = c.args.t.now in
    let chunk = c.self.inside in
    c.if-are_apart.true
    ∙ sym (apart_is_clear t chunk.bounds chunk.items c.requires (c.are_apart.ensures c.if-are_apart.true) c.self.invariant)
    ∙ ap (list_all (is_clear t.a t.b t.c)) c.self.view_is
