-- Cases of a test and of an option, and what a test of two points says.
use Rattle.std.proofs.Common.{◌≡◌, Bool, true, false, Option, cond, refl, sym, ap, ◌∙◌}
use Rattle.std.proofs.lemmas.Bool.{false≢true}
use Rattle.tgap_model.specs.declared.geometry.Point.{Point}
use Rattle.tgap_model.specs.Base.{same_point}
use Rattle.tgap_model.proofs.Points.{same_point-true, same_point-from}
pub use Rattle.face_cuts.proofs.Cases.{by_test, by_option, not_held}

-- what a test lets pass
pub passed : {A : Type 0} (b : Bool) (x y : Option A) → b ≡ true → cond b x y ≡ x
passed b x y e = ap (λ t. cond t x y) e

pub stopped : {A : Type 0} (b : Bool) (x y : Option A) → b ≡ false → cond b x y ≡ y
stopped b x y e = ap (λ t. cond t x y) e

-- two tests that hold together are equal
pub same_test : (a b : Bool) → (a ≡ true → b ≡ true) → (b ≡ true → a ≡ true) → a ≡ b
same_test true b to from = sym (to refl)
same_test false true to from = absurd (false≢true (from refl))
same_test false false to from = refl

-- points that do not test equal, the other way round
pub apart_turned : (p q : Point) → same_point p q ≡ false → same_point q p ≡ false
apart_turned p q e = not_held (same_point q p) (λ h. false≢true (sym e ∙ same_point-from p q (sym (same_point-true q p h))))
