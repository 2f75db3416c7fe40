-- The order of spokes is a strict weak order, and decides between the spokes of any two sides.
use Rattle.std.proofs.Common.{◌≡◌, ◌≢◌, ℕ, Bool, true, false, ◌&&◌, ◌||◌, not, nat_lt, refl, sym, ap, ◌∙◌, subst, true≢false, arith}
use Rattle.std.specs.Prelude.{⊤}
use Rattle.std.specs.Cmp.{IsStrictWeakOrder}
use Rattle.std.proofs.lemmas.Bool.Decides.{nat_tests}
use Rattle.lemmas.specs.Sorting.{IsStrictOrderOn}
use Rattle.lemmas.proofs.Keys.{joined_one_way, joined_chain, tied, strict_from_weak}
use Rattle.tgap_model.specs.declared.geometry.Point.{Point}
use Rattle.tgap_model.specs.Base.{same_point}
use Rattle.tgap_model.specs.Segment.{point_before, turns_before}
use Rattle.grid_geo.proofs.PointOrder.{points}
use Rattle.grid_geo.proofs.Turns.{turns_one_way, turns_chain}
use Rattle.ring_walk.specs.declared.spoke.Spoke.{Spoke}
use Rattle.ring_walk.specs.Sides.{side_number}
use Rattle.ring_walk.specs.Spans.{before}

-- ---- a test, and a number where the test does not decide

abbrev pub then_number : Bool → Bool → ℕ → ℕ → Bool
then_number a b m n = a || (not b && nat_lt m n)

number_one_way : (a b : Bool) (m n : ℕ) → (a ≡ true → b ≡ false) → (b ≡ true → a ≡ false) → then_number a b m n ≡ true → then_number b a n m ≡ false
number_one_way true true m n h k e = absurd (true≢false (h refl))
number_one_way true false m n h k e = refl
number_one_way false true m n h k e = absurd (true≢false (sym e))
number_one_way false false m n h k e = grind (arith, nat_tests)

number_chain : (xy yx yz zy xz zx : Bool) (k m n : ℕ) → (xy ≡ false → yz ≡ false → xz ≡ false) → (yz ≡ false → zx ≡ false → yx ≡ false) → (zx ≡ false → xy ≡ false → zy ≡ false)
    → then_number xy yx k m ≡ false → then_number yz zy m n ≡ false → then_number xz zx k n ≡ false
number_chain true yx yz zy xz zx k m n h i j e f = absurd (true≢false e)
number_chain false yx true zy xz zx k m n h i j e f = absurd (true≢false f)
number_chain false yx false zy true zx k m n h i j e f = absurd (true≢false (h refl refl))
number_chain false yx false zy false true k m n h i j e f = refl
number_chain false true false zy false false k m n h i j e f = absurd (true≢false (i refl refl))
number_chain false false false true false false k m n h i j e f = absurd (true≢false (j refl refl))
number_chain false false false false false false k m n h i j e f = grind (arith, nat_tests)

number_tied : (a b : Bool) (m n : ℕ) → then_number a b m n ≡ false → then_number b a n m ≡ false → m ≡ n
number_tied true b m n e f = absurd (true≢false e)
number_tied false true m n e f = absurd (true≢false f)
number_tied false false m n e f = grind (arith, nat_tests)

-- ---- round a node

abbrev rank : Spoke → Spoke → Bool
rank p q = then_number (turns_before p.node p.toward q.toward) (turns_before p.node q.toward p.toward) (side_number p.side) (side_number q.side)

rank_at : (x y : Spoke) (v : Point) → x.node ≡ v → rank x y ≡ then_number (turns_before v x.toward y.toward) (turns_before v y.toward x.toward) (side_number x.side) (side_number y.side)
rank_at x y v e = ap (λ (u : Point). then_number (turns_before u x.toward y.toward) (turns_before u y.toward x.toward) (side_number x.side) (side_number y.side)) e

one_way : (x y : Spoke) → x.node ≡ y.node → rank x y ≡ true → rank y x ≡ false
one_way x y e h = rank_at y x x.node (sym e)
    ∙ number_one_way (turns_before x.node x.toward y.toward) (turns_before x.node y.toward x.toward) (side_number x.side) (side_number y.side)
    (turns_one_way x.node x.toward y.toward) (turns_one_way x.node y.toward x.toward) h

chain : (x y z : Spoke) → ⊤ → ⊤ → ⊤ → x.node ≡ y.node → y.node ≡ z.node → rank x y ≡ false → rank y z ≡ false → rank x z ≡ false
chain x y z _ _ _ e f h k =
    let v = x.node in
    let ny : v ≢ y.toward = subst (λ (u : Point). u ≢ y.toward) (sym e) y.apart in
    let nz : v ≢ z.toward = subst (λ (u : Point). u ≢ z.toward) (sym f ∙ sym e) z.apart in
    number_chain (turns_before v x.toward y.toward) (turns_before v y.toward x.toward) (turns_before v y.toward z.toward) (turns_before v z.toward y.toward)
    (turns_before v x.toward z.toward) (turns_before v z.toward x.toward) (side_number x.side) (side_number y.side) (side_number z.side)
    (turns_chain v x.toward y.toward z.toward x.apart ny nz) (turns_chain v y.toward z.toward x.toward ny nz x.apart) (turns_chain v z.toward x.toward y.toward nz x.apart ny)
    h (sym (rank_at y z v (sym e)) ∙ k)

-- ---- of all

before_one_way : (x y : Spoke) → before x y ≡ true → before y x ≡ false
before_one_way = joined_one_way (λ (p : Spoke). ⊤) (λ p. p.node) point_before same_point points rank one_way chain

before_chain : (x y z : Spoke) → ⊤ → ⊤ → ⊤ → before x y ≡ false → before y z ≡ false → before x z ≡ false
before_chain = joined_chain (λ (p : Spoke). ⊤) (λ p. p.node) point_before same_point points rank one_way chain

pub before_order : IsStrictWeakOrder before
before_order = record { one_way = before_one_way; chain = λ x y z e f. before_chain x y z tt tt tt e f }

pub before_strict : IsStrictOrderOn (λ (p : Spoke). ⊤) before
before_strict = strict_from_weak (λ p. ⊤) before before_one_way before_chain

-- spokes of which neither is before the other have one side
pub before_tied : (x y : Spoke) → before x y ≡ false → before y x ≡ false → side_number x.side ≡ side_number y.side
before_tied x y e f =
    let t = tied (λ (p : Spoke). ⊤) (λ p. p.node) point_before same_point points rank one_way chain x y e f in
    number_tied (turns_before x.node x.toward y.toward) (turns_before x.node y.toward x.toward) (side_number x.side) (side_number y.side)
    t.1.0 (sym (rank_at y x x.node (sym t.0)) ∙ t.1.1)
