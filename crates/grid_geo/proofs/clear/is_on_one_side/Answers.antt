use Rattle.std.proofs.Common.{◌≡◌, ℤ, subst}
use Rattle.std.specs.Int.{w8}
use Rattle.std.proofs.lemmas.Int.{to_z-of_z}
use Rattle.tgap_model.specs.Clear.{is_beside}
use Rattle.grid_geo.proofs.Triangles.{first_and, second_and}
use Rattle.grid_geo.proofs.clear.is_on_one_side.Goals as goal

pub returns-then-is_at_side-2 : goal.returns-then-is_at_side-2
returns-then-is_at_side-2 c =
    let t = c.args in
    subst (λ (z : ℤ). c.is_at_side-then-is_at_side-2.result ≡ is_beside t.a t.b t.c t.s z) (to_z-of_z w8 t.z c.ranges.z)
    (second_and (second_and c.is_at_side.ensures c.if-is_at_side.true c.is_at_side-then-is_at_side.ensures) c.if-is_at_side-2.true
    c.is_at_side-then-is_at_side-2.ensures)

pub returns-else-is_at_side-2 : goal.returns-else-is_at_side-2
returns-else-is_at_side-2 c =
    let t = c.args in
    subst (λ (z : ℤ). c.is_at_side-then-is_at_side.result ≡ is_beside t.a t.b t.c t.s z) (to_z-of_z w8 t.z c.ranges.z)
    (first_and _ (second_and c.is_at_side.ensures c.if-is_at_side.true c.is_at_side-then-is_at_side.ensures) c.if-is_at_side-2.false)

pub returns-else-is_at_side : goal.returns-else-is_at_side
returns-else-is_at_side c =
    let t = c.args in
    subst (λ (z : ℤ). c.is_at_side.result ≡ is_beside t.a t.b t.c t.s z) (to_z-of_z w8 t.z c.ranges.z)
    (first_and _ (first_and _ c.is_at_side.ensures c.if-is_at_side.false) c.if-is_at_side.false)
