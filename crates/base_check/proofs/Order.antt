-- The order of spokes is a strict weak order: by node, and then by direction.
use Rattle.std.proofs.Common.{◌≡◌, ◌≢◌, true, false, sym, ◌∙◌, subst}
use Rattle.std.specs.Prelude.{⊤}
use Rattle.std.specs.Cmp.{IsStrictWeakOrder}
use Rattle.lemmas.specs.Sorting.{IsStrictOrderOn}
use Rattle.lemmas.proofs.Keys.{joined_one_way, joined_chain, strict_from_weak}
use Rattle.tgap_model.specs.declared.geometry.Point.{Point}
use Rattle.tgap_model.specs.Base.{same_point}
use Rattle.tgap_model.specs.Segment.{point_before, turns_before}
use Rattle.grid_geo.proofs.PointOrder.{points}
use Rattle.grid_geo.proofs.Turns.{turns_one_way, turns_chain}
use Rattle.base_check.specs.declared.spoke.NodeSpoke.{NodeSpoke}
use Rattle.base_check.specs.Spokes.{before}

one_way : (x y : NodeSpoke) → x.node ≡ y.node → turns_before x.node x.toward y.toward ≡ true → turns_before y.node y.toward x.toward ≡ false
one_way x y e h = subst (λ (v : Point). turns_before v y.toward x.toward ≡ false) e (turns_one_way x.node x.toward y.toward h)

chain : (x y z : NodeSpoke) → ⊤ → ⊤ → ⊤ → x.node ≡ y.node → y.node ≡ z.node
    → turns_before x.node x.toward y.toward ≡ false → turns_before y.node y.toward z.toward ≡ false → turns_before x.node x.toward z.toward ≡ false
chain x y z _ _ _ e f h k = turns_chain x.node x.toward y.toward z.toward x.apart
    (subst (λ (v : Point). v ≢ y.toward) (sym e) y.apart) (subst (λ (v : Point). v ≢ z.toward) (sym f ∙ sym e) z.apart)
    h (subst (λ (v : Point). turns_before v y.toward z.toward ≡ false) (sym e) k)

before_one_way : (x y : NodeSpoke) → before x y ≡ true → before y x ≡ false
before_one_way = joined_one_way (λ (p : NodeSpoke). ⊤) (λ p. p.node) point_before same_point points (λ p q. turns_before p.node p.toward q.toward) one_way chain

before_chain : (x y z : NodeSpoke) → ⊤ → ⊤ → ⊤ → before x y ≡ false → before y z ≡ false → before x z ≡ false
before_chain = joined_chain (λ (p : NodeSpoke). ⊤) (λ p. p.node) point_before same_point points (λ p q. turns_before p.node p.toward q.toward) one_way chain

pub before_order : IsStrictWeakOrder before
before_order = record { one_way = before_one_way; chain = λ x y z e f. before_chain x y z tt tt tt e f }

pub before_strict : IsStrictOrderOn (λ (p : NodeSpoke). ⊤) before
before_strict = strict_from_weak (λ p. ⊤) before before_one_way before_chain
