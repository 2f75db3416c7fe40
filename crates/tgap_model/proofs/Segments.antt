-- The segments of an arc and of all arcs, from any place on: how many there are, and what each of them keeps.
use Rattle.std.proofs.Common.{◌≡◌, ℕ, ◌+◌, ◌-◌, ◌<◌, ◌≤◌, ◌^◌, not, true, List, [], ◌∷◌, ◌++◌, length, drop, get_or, refl, sym, ap, ◌∙◌, arith}
use Rattle.std.specs.List.{list_all}
use Rattle.std.proofs.lemmas.Bool.{and_parts, and_from}
use Rattle.std.proofs.lemmas.List.Folds.{list_all-append}
use Rattle.std.proofs.lemmas.List.{length-drop, length-append, drop_all, append-nil}
use Rattle.std.proofs.lemmas.List.Sums.{get_or-le-sum_by, sum_by-cons}
use Rattle.tgap_model.specs.declared.geometry.Point.{Point}
use Rattle.tgap_model.specs.declared.base.BaseArc.{BaseArc}
use Rattle.tgap_model.specs.declared.segment.LabelledSegment.{LabelledSegment}
use Rattle.tgap_model.specs.declared.limits.TheConstants.{MAX_POINTS}
use Rattle.tgap_model.specs.Base.{BaseMap, in_limits, same_point, no_repeat, is_arc, is_base, count_points}
use Rattle.tgap_model.specs.Partition.{is_proper, path_segments, arc_segments, base_segments}
use Rattle.tgap_model.proofs.BaseFacts.{arc_facts, base_facts}

pub path_end : (number left right : ℕ) (points : List Point) (i : ℕ) → 1 ≤ i → length points ≤ i → path_segments number left right (i - 1) (drop (i - 1) points) ≡ []
path_end number left right points i some le = short (drop (i - 1) points) (omega (arith, some, le, length-drop (i - 1) points))
  where
    short : (ps : List Point) → length ps ≤ 1 → path_segments number left right (i - 1) ps ≡ []
    short [] h = refl
    short (p ∷ []) h = refl
    short (p ∷ q ∷ ps) h = absurd (omega (arith, h))

-- an arc of a base map has few points
pub few_points : (m : BaseMap) (i : ℕ) (d : BaseArc) → is_base m ≡ true → i < length m.arcs → length (get_or m.arcs i d).points < 2 ^ 32
few_points m i d h lt = let few = (base_facts m h).few_points in let part = get_or-le-sum_by (λ (a : BaseArc). length a.points) m.arcs i d lt in omega (arith, few, part)

-- where nothing is left, all segments were listed
pub all_listed : (segments : List LabelledSegment) (arcs : List BaseArc) (i : ℕ) → length arcs ≤ i → segments ++ arc_segments i (drop i arcs) ≡ arc_segments 0 arcs → segments ≡ arc_segments 0 arcs
all_listed segments arcs i le h = sym (append-nil segments) ∙ ap (λ (rest : List BaseArc). segments ++ arc_segments i rest) (sym (drop_all i arcs le)) ∙ h

-- an arc has fewer segments than points
fewer_than_points : (number left right place : ℕ) (points : List Point) → length (path_segments number left right place points) ≤ length points
fewer_than_points number left right place [] = omega arith
fewer_than_points number left right place (p ∷ []) = omega arith
fewer_than_points number left right place (p ∷ q ∷ points) = let h = fewer_than_points number left right (place + 1) (q ∷ points) in omega (arith, h)

few_of_arcs : (i : ℕ) (arcs : List BaseArc) → length (arc_segments i arcs) ≤ count_points arcs
few_of_arcs i [] = omega arith
few_of_arcs i (a ∷ arcs) =
    let first = fewer_than_points i a.left a.right 0 a.points in
    let rest = few_of_arcs (i + 1) arcs in
    let all = length-append (path_segments i a.left a.right 0 a.points) (arc_segments (i + 1) arcs) in
    let sum = sum_by-cons (λ (b : BaseArc). length b.points) a arcs in
    omega (arith, first, rest, all, sum)

-- a base map has no more segments than points
pub few_segments : (m : BaseMap) → is_base m ≡ true → length (base_segments m) ≤ MAX_POINTS
few_segments m h = let few = (base_facts m h).few_points in let part = few_of_arcs 0 m.arcs in omega (arith, few, part)

proper_path : (number left right place : ℕ) (points : List Point) → list_all in_limits points ≡ true → no_repeat points ≡ true → list_all is_proper (path_segments number left right place points) ≡ true
proper_path number left right place [] h k = refl
proper_path number left right place (p ∷ []) h k = refl
proper_path number left right place (p ∷ q ∷ points) h k =
    let first = and_parts (in_limits p) (list_all in_limits (q ∷ points)) h in
    let second = and_parts (in_limits q) (list_all in_limits points) first.1 in
    let apart = and_parts (not (same_point p q)) (no_repeat (q ∷ points)) k in
    and_from _ _ (and_from _ _ (and_from _ _ first.0 second.0) apart.0) (proper_path number left right (place + 1) (q ∷ points) first.1 apart.1)

proper_arcs : (n i : ℕ) (arcs : List BaseArc) → list_all (is_arc n) arcs ≡ true → list_all is_proper (arc_segments i arcs) ≡ true
proper_arcs n i [] h = refl
proper_arcs n i (a ∷ arcs) h =
    let parts = and_parts (is_arc n a) (list_all (is_arc n) arcs) h in
    let facts = arc_facts n a parts.0 in
    list_all-append is_proper (path_segments i a.left a.right 0 a.points) (arc_segments (i + 1) arcs)
    ∙ and_from _ _ (proper_path i a.left a.right 0 a.points facts.in_limits facts.apart) (proper_arcs n (i + 1) arcs parts.1)

-- each segment of a base map lies between two different points within the limits
pub proper_segments : (m : BaseMap) → is_base m ≡ true → list_all is_proper (base_segments m) ≡ true
proper_segments m h = proper_arcs (length m.classes) 0 m.arcs (base_facts m h).arcs
