-- Each border arc stands in a chain, and each link of a chain is of a border arc.
use Rattle.std.proofs.Common.{◌≡◌, inl, inr, ℕ, zero, suc, ◌+◌, ◌<◌, ◌≤◌, true, ◌==◌, List, [], ◌∷◌, length, refl, ap, ◌∙◌, arith, eq-eqb, if◌then◌else◌}
use Rattle.std.specs.Prelude.{count_by, flat_map}
use Rattle.std.specs.List.{range_with_len}
use Rattle.std.proofs.lemmas.Bool.{eqb-true, cases_eq}
use Rattle.tgap_model.specs.declared.base.BaseArc.{BaseArc}
use Rattle.tgap_model.specs.Merged.{MergedMap, is_border}
use Rattle.tgap_model.specs.Chains.{Link, Chain, arc_number, border_numbers, are_chains}
use Rattle.map_laws.proofs.ChainMembers.{Among, among_joined, counted_among}
use Rattle.map_laws.proofs.ChainLinks.{chains_count}
use Rattle.map_laws.proofs.Lists.{any_from, among_kept}

-- ---- members

-- the numbers of a range
pub range_holds : (a n i : ℕ) → a ≤ i → i < a + n → Among i (range_with_len a n)
range_holds a zero i l u = absurd (omega arith)
range_holds a (suc n) i l u = elim (cases_eq a i) [ inl e ↦ inl e | inr apart ↦ inr (range_holds (a + 1) n i (omega arith) (omega arith)) ]

-- the arc with a number is a member
pub number_among : (arcs : List BaseArc) (i : ℕ) → i < length arcs → Among (arc_number arcs i) arcs
number_among [] i l = absurd (omega arith)
number_among (a ∷ arcs) zero l = inl refl
number_among (a ∷ arcs) (suc i) l = inr (number_among arcs i (omega arith))

-- and each member has a number
pub among_number : (arcs : List BaseArc) (a : BaseArc) → Among a arcs → (i : ℕ) × (i < length arcs) × (arc_number arcs i ≡ a)
among_number [] a m = absurd m
among_number (b ∷ arcs) a (inl e) = (0, omega arith, e)
among_number (b ∷ arcs) a (inr m) = let n = among_number arcs a m in (suc n.0, omega (arith, n.1), n.2)

-- ---- chains

-- each border arc stands in a chain
pub border_in_chain : (h : MergedMap) (k : ℕ) (cs : List Chain) → are_chains h k cs ≡ true → (i : ℕ) → i < length h.base.arcs
    → is_border h k (arc_number h.base.arcs i) ≡ true
    → (c : Chain) × Among c cs × (d : Link) × Among d c × (d.arc ≡ i)
border_in_chain h k cs t i l b =
    let listed =
    among_kept (λ j. is_border h k (arc_number h.base.arcs j)) (range_with_len 0 (length h.base.arcs)) i (range_holds 0 (length h.base.arcs) i (omega arith) (omega arith)) b in
    let one : count_by (λ (d : Link). d.arc == i) (flat_map (λ c. c) cs) ≡ 1
    = chains_count h k cs t i l ∙ ap (λ b. if b then 1 else 0) (any_from (λ j. j == i) (border_numbers h k) i listed (eq-eqb i i refl)) in
    let found = counted_among (λ (d : Link). d.arc == i) (flat_map (λ c. c) cs) (omega arith) in
    let place = among_joined cs found.0 found.1 in
    (place.0, place.1, found.0, place.2, eqb-true _ _ found.2)
