use Rattle.std.proofs.Common.{◌≡◌, ◌≤◌, ◌-◌, true, List, [], ◌∷◌, length, drop, refl, sym, ◌∙◌, arith, length-drop}
use Rattle.tgap_model.specs.declared.geometry.Point.{Point}
use Rattle.tgap_model.specs.Base.{no_repeat}
use Rattle.tgap_model.proofs.validity.are_without_repeat.Goals as goal

-- one point has no repeat
no_repeat-short : (points : List Point) → length points ≤ 1 → no_repeat points ≡ true
no_repeat-short [] h = refl
no_repeat-short (a ∷ []) h = refl
no_repeat-short (a ∷ b ∷ points) h = absurd (omega arith)

pub returns : goal.returns
returns c = sym (no_repeat-short (drop (c.loop-i.i - 1) c.args.points.now) (omega (arith, length-drop {A = Point}))) ∙ c.loop-i.invariant
