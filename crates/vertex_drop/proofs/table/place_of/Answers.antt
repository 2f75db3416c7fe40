use Rattle.std.proofs.Common.{rules}
use Rattle.std.proofs.lemmas.Fn.{always_returns_same}
use Rattle.tgap_model.specs.declared.slice.Edge.{Edge}
use Rattle.grid_index.proofs.Placing.{place_found, place_none}
use Rattle.vertex_drop.proofs.table.place_of.Goals as goal

pub returns-in-Ok-clause-some : goal.returns-in-Ok-clause-some
returns-in-Ok-clause-some c =
    (c.in-Ok.ensures.bound, place_found c.args.edges.now c.args.key c.in-Ok.place (c.in-Ok.ensures.position (λ (e : Edge). e.key) (always_returns_same _ _ _ (λ a r f k. search rules))))

pub returns-in-Err-clause-none : goal.returns-in-Err-clause-none
returns-in-Err-clause-none c =
    place_none c.args.edges.now c.args.key c.in-Err.field-0 c.requires (c.in-Err.ensures.position (λ (e : Edge). e.key) (always_returns_same _ _ _ (λ a r f k. search rules)))
