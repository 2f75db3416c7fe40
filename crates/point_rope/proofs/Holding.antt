-- Points that no test finds.
use Rattle.std.proofs.Common.{◌≡◌, Bool, false, cond, not, List, [], ◌∷◌, filter, All, refl, ap, ◌∙◌}
use Rattle.std.specs.List.{list_any}
use Rattle.std.proofs.lemmas.Bool.{or_parts}
use Rattle.std.proofs.lemmas.List.Folds.{list_any_none}
use Rattle.std.proofs.lemmas.List.Elements.{All-weaker}
use Rattle.tgap_model.specs.declared.geometry.Point.{Point}
use Rattle.tgap_model.specs.declared.geometry.Window.{Window}
use Rattle.point_rope.specs.Held.{IsHeld}

-- where no point passes, none goes
pub none_goes : (test : Point → Bool) (points : List Point) → list_any test points ≡ false → filter (λ p. not (test p)) points ≡ points
none_goes test [] h = refl
none_goes test (p ∷ points) h =
    let parts = or_parts (test p) (list_any test points) h in
    ap (λ (b : Bool). cond (not b) (p ∷ filter (λ q. not (test q)) points) (filter (λ q. not (test q)) points)) parts.0
    ∙ ap (λ (rest : List Point). p ∷ rest) (none_goes test points parts.1)

-- where none passes that the box holds, none of these does
pub none_held : (test : Point → Bool) (b : Window) (points : List Point) → All (IsHeld b) points → ((p : Point) → IsHeld b p → test p ≡ false) → list_any test points ≡ false
none_held test b points held none = list_any_none test points (All-weaker (IsHeld b) (λ p. test p ≡ false) none points held)
