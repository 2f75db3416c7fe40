-- Sums over the links of chains are sums over the border arcs.
use Rattle.std.proofs.Common.{◌≡◌, ℕ, ◌+◌, true, cond, List, [], ◌∷◌, refl, sym, ap, ◌∙◌}
use Rattle.std.specs.Prelude.{sum_by, flat_map}
use Rattle.std.proofs.lemmas.List.Sums.{sum_by-cons, sum_by-append}
use Rattle.tgap_model.specs.declared.base.BaseArc.{BaseArc}
use Rattle.tgap_model.specs.Merged.{MergedMap, is_border}
use Rattle.tgap_model.specs.Chains.{Chain, arc_number, are_chains}
use Rattle.map_laws.proofs.Lists.{sum_passing}
use Rattle.map_laws.proofs.ChainsExist.{chains_are, chains_sums}

-- a sum over lists put together
pub sum_by-flat_map : {A B : Type 0} (w : B → ℕ) (f : A → List B) (xs : List A) → sum_by w (flat_map f xs) ≡ sum_by (λ x. sum_by w (f x)) xs
sum_by-flat_map w f [] = refl
sum_by-flat_map w f (x ∷ xs) =
    sum_by-append w (f x) (flat_map f xs) ∙ ap (λ n. sum_by w (f x) + n) (sum_by-flat_map w f xs) ∙ sym (sum_by-cons (λ y. sum_by w (f y)) x xs)

-- a sum over all links of the chains is the sum over the border arcs
pub sum_of_chains : (h : MergedMap) (k : ℕ) (cs : List Chain) → are_chains h k cs ≡ true → (v : BaseArc → ℕ)
    → sum_by (λ c. sum_by (λ d. v (arc_number h.base.arcs d.arc)) c) cs ≡ sum_by (λ a. cond (is_border h k a) (v a) 0) h.base.arcs
sum_of_chains h k cs t v =
    ap (λ (cs : List Chain). sum_by (λ c. sum_by (λ d. v (arc_number h.base.arcs d.arc)) c) cs) (chains_are h k cs t)
    ∙ chains_sums h k (λ i. v (arc_number h.base.arcs i)) ∙ sum_passing v (is_border h k) h.base.arcs _
