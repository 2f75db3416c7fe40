use Rattle.std.proofs.Common.{◌∙◌}
use Rattle.tgap_model.specs.Point.{cross}
use Rattle.grid_geo.proofs.Triangles.{first_or, second_or, sign_bits, sign_bits_small, next_corner}
use Rattle.grid_geo.proofs.clear.is_beyond_a_side.Goals as goal

pub is_beyond-requires-clause-inner : goal.is_beyond-requires-clause-inner
is_beyond-requires-clause-inner c = sign_bits_small c.side-inner.result (cross c.args.a c.args.b c.args.c) c.side-inner.ensures

pub is_beyond-requires-else-is_beyond-clause-inner : goal.is_beyond-requires-else-is_beyond-clause-inner
is_beyond-requires-else-is_beyond-clause-inner c = sign_bits_small c.side-inner.result (cross c.args.a c.args.b c.args.c) c.side-inner.ensures

pub is_beyond-requires-else-is_beyond-2-clause-inner : goal.is_beyond-requires-else-is_beyond-2-clause-inner
is_beyond-requires-else-is_beyond-2-clause-inner c = sign_bits_small c.side-inner.result (cross c.args.a c.args.b c.args.c) c.side-inner.ensures

pub returns-then-is_beyond : goal.returns-then-is_beyond
returns-then-is_beyond c =
    let t = c.args in
    let inner = sign_bits c.side-inner.result (cross t.a t.b t.c) c.side-inner.ensures in
    let first = c.if-is_beyond.true in
    first_or _ (first_or _ (c.is_beyond.ensures t.c inner) first) first

pub returns-then-is_beyond-2 : goal.returns-then-is_beyond-2
returns-then-is_beyond-2 c =
    let t = c.args in
    let inner = sign_bits c.side-inner.result (cross t.a t.b t.c) c.side-inner.ensures in
    first_or _ (second_or (c.is_beyond.ensures t.c inner) c.if-is_beyond.false
    (c.is_beyond-else-is_beyond.ensures t.a (inner ∙ next_corner t.a t.b t.c))) c.if-is_beyond-2.true

pub returns-else-is_beyond-2 : goal.returns-else-is_beyond-2
returns-else-is_beyond-2 c =
    let t = c.args in
    let inner = sign_bits c.side-inner.result (cross t.a t.b t.c) c.side-inner.ensures in
    let next = next_corner t.a t.b t.c in
    second_or (second_or (c.is_beyond.ensures t.c inner) c.if-is_beyond.false (c.is_beyond-else-is_beyond.ensures t.a (inner ∙ next)))
    c.if-is_beyond-2.false (c.is_beyond-else-is_beyond-2.ensures t.b (inner ∙ next ∙ next_corner t.b t.c t.a))
