-- The labels at the sides of arcs.
use Rattle.std.proofs.Common.{◌≡◌, ℕ, ◌+◌, ◌<◌, ◌≤◌, All, List, [], ◌∷◌, refl, arith}
use Rattle.std.specs.List.{AllByRecursion}
use Rattle.std.proofs.lemmas.List.Elements.{All-weaker}
use Rattle.tgap_model.specs.declared.base.BaseArc.{BaseArc}
use Rattle.commands.specs.Border.{border_by}
use Rattle.tgap_model.proofs.BaseFacts.{ArcFacts}

-- labels that agree on the faces of all arcs give the same border
pub same_border : (n : ℕ) (f g : ℕ → ℕ) (i : ℕ) (arcs : List BaseArc) → AllByRecursion (ArcFacts n) arcs → ((x : ℕ) → x ≤ n → f x ≡ g x) → border_by f i arcs ≡ border_by g i arcs
same_border n f g i [] h same = refl
same_border n f g i (a ∷ arcs) h same = rw (same a.left h.0.left, same a.right h.0.right, same_border n f g (i + 1) arcs h.1 same) refl

-- each side of each arc has a label
pub sides_below : (n size : ℕ) (arcs : List BaseArc) → All (ArcFacts n) arcs → n < size → All (λ a. (a.left < size) × (a.right < size)) arcs
sides_below n size arcs h lt =
    All-weaker (ArcFacts n) (λ a. (a.left < size) × (a.right < size)) (λ a e. (omega (arith, e.left), omega (arith, e.right))) arcs h
