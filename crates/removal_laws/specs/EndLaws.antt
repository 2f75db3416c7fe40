-- Laws of the ends of chains: they were ends of chains before, and no sweep takes them out.
use Rattle.std.specs.Prelude.{◌≡◌, ◌<◌, ◌≤◌, ℕ, ◌+◌, true, false, List, length, All, Contains, ◌⊎◌}
use Rattle.tgap_model.specs.declared.geometry.Point.{Point}
use Rattle.tgap_model.specs.declared.base.BaseArc.{BaseArc}
use Rattle.tgap_model.specs.History.{AreNumbered}
use Rattle.tgap_model.specs.Merged.{MergedMap}
use Rattle.tgap_model.specs.Chains.{Chain, chain_start, chain_end, chains_at}
use Rattle.tgap_model.specs.Removals.{is_removed, removals_to}
use Rattle.map_laws.specs.ChainLaws.{has_base_faces, HasEvenSides}
use Rattle.removal_laws.specs.StandLaws.{ChainPointsStandOnce}

-- the point is the start or the end of one of these chains
abbrev pub IsChainEnd : List BaseArc → List Chain → Point → Type 0
IsChainEnd arcs chains p = (c : Chain) × Contains chains c × ((chain_start arcs c ≡ p) ⊎ (chain_end arcs c ≡ p))

-- A map whose steps are numbered, whose arcs are between base faces, and along whose chains the faces stay the same.
pub record HasEvenChains (h : MergedMap) (k : ℕ) : Type 0 where
  pub numbered : AreNumbered (length h.base.classes) h.steps
  pub within : k ≤ length h.steps
  pub faces : All (λ a. has_base_faces h a ≡ true) h.base.arcs
  pub even : (j : ℕ) → j < k → HasEvenSides h j

-- an end of a chain after a step was an end of a chain before it
abbrev pub EndsWereEnds : Type 0
EndsWereEnds =
    (h : MergedMap) (k : ℕ) → HasEvenChains h (k + 1) → (p : Point)
    → IsChainEnd h.base.arcs (chains_at h (k + 1)) p → IsChainEnd h.base.arcs (chains_at h k) p

-- Where inner points of the chains stand once, no end of a chain after k steps is listed by then.
abbrev pub EndsAreNotListed : Type 0
EndsAreNotListed =
    (h : MergedMap) (k : ℕ) → HasEvenChains h k → All (λ a. 2 ≤ length a.points) h.base.arcs → ChainPointsStandOnce h k
    → (p : Point) → IsChainEnd h.base.arcs (chains_at h k) p → is_removed (removals_to h k) p ≡ false
