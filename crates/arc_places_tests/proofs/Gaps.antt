-- Slots with one more, whose arc is gone, and the arcs of a base map in slots.
use Rattle.std.proofs.Common.{◌≡◌, ◌∙◌, ℕ, zero, suc, Bool, true, false, cond, List, [], ◌∷◌, length, insert, refl, ap, arith}
use Rattle.std.specs.List.{list_all}
use Rattle.std.proofs.lemmas.Bool.{and_parts, lt-ltb}
use Rattle.std.proofs.lemmas.List.Elements.{All-cons, All-head, All-tail, All-weaker}
use Rattle.std.proofs.lemmas.List.Sums.{AllPass-from_list_all}
use Rattle.tgap_model.specs.declared.base.BaseArc.{BaseArc}
use Rattle.tgap_model.specs.Base.{is_arc}
use Rattle.tgap_model.proofs.BaseFacts.{arc_facts}
use Rattle.arc_places.specs.Borders.{HasFaces, HaveFaces}
use Rattle.arc_places.specs.Slots.{arcs_in, is_there}

-- one more slot without an arc
pub gap_in : (slots : List BaseArc) (at : ℕ) (a : BaseArc) → is_there a ≡ false → arcs_in (insert slots at a) ≡ arcs_in slots
gap_in slots zero a gone = ap (λ (b : Bool). cond b (a ∷ arcs_in slots) (arcs_in slots)) gone
gap_in [] (suc at) a gone = ap (λ (b : Bool). cond b (a ∷ []) []) gone
gap_in (b ∷ slots) (suc at) a gone = ap (λ (rest : List BaseArc). cond (is_there b) (b ∷ rest) rest) (gap_in slots at a gone)

pub gap_faces : (n : ℕ) (slots : List BaseArc) (at : ℕ) (a : BaseArc) → HasFaces n a → HaveFaces n slots → HaveFaces n (insert slots at a)
gap_faces n slots zero a has have = All-cons (HasFaces n) a slots has have
gap_faces n [] (suc at) a has have = All-cons (HasFaces n) a [] has have
gap_faces n (b ∷ slots) (suc at) a has have =
    All-cons (HasFaces n) b (insert slots at a) (All-head (HasFaces n) b slots have) (gap_faces n slots at a has (All-tail (HasFaces n) b slots have))

-- each arc of a base map is there, and has faces of the map
pub all_there : (n : ℕ) (arcs : List BaseArc) → list_all (is_arc n) arcs ≡ true → arcs_in arcs ≡ arcs
all_there n [] all = refl
all_there n (a ∷ arcs) all =
    let parts = and_parts (is_arc n a) (list_all (is_arc n) arcs) all in
    let here : is_there a ≡ true = (let long = (arc_facts n a parts.0).two_points in lt-ltb 0 (length a.points) (omega (arith, long))) in
    ap (λ (b : Bool). cond b (a ∷ arcs_in arcs) (arcs_in arcs)) here ∙ ap (λ (rest : List BaseArc). a ∷ rest) (all_there n arcs parts.1)

pub have_faces : (n : ℕ) (arcs : List BaseArc) → list_all (is_arc n) arcs ≡ true → HaveFaces n arcs
have_faces n arcs all =
    All-weaker (λ a. is_arc n a ≡ true) (HasFaces n) (λ a h. let facts = arc_facts n a h in record { left = facts.left; right = facts.right }) arcs (AllPass-from_list_all (is_arc n) arcs all)
