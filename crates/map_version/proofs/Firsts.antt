-- The first place in which something is found among all arcs, and what a change there is.
use Rattle.std.proofs.Common.{◌≡◌, ◌∙◌, ℕ, zero, suc, ◌<◌, false, List, [], ◌∷◌, length, get_or, set, Option, Some, None, insert, remove, refl, sym, ap, subst, arith}
use Rattle.std.specs.Prelude.{option_map, ◌||◌}
use Rattle.std.specs.List.{list_any}
use Rattle.std.proofs.lemmas.Bool.{or_from, or_parts}
use Rattle.tgap_model.specs.declared.geometry.Point.{Point}
use Rattle.tgap_model.specs.declared.base.BaseArc.{BaseArc}
use Rattle.tgap_model.specs.Base.{same_point}
use Rattle.tgap_model.specs.Chains.{first_point, last_point, arc_number}
use Rattle.edit_laws.specs.Edits.{has_point, is_node, with_points, put_between, take_out, neighbours, first_found, change_first}
use Rattle.edit_laws.proofs.Cases.{by_option}
use Rattle.edit_laws.proofs.Laws.{change_here, change_there, found_here, found_there}
use Rattle.map_version.specs.Positions.{segment_at, inner_at, first_place, changed_at}
use Rattle.map_version.proofs.Positions.{beside, put_is_insert, take_is_remove, neighbours_are, no_neighbours, no_inner}

-- ---- the first place

pub place_here : (find : List Point → Option ℕ) (a : BaseArc) (arcs : List BaseArc) (k : ℕ) → find a.points ≡ Some k → first_place find (a ∷ arcs) ≡ Some (0, k)
place_here find a arcs k e = rw (e, first_place) refl

pub place_there : (find : List Point → Option ℕ) (a : BaseArc) (arcs : List BaseArc) → find a.points ≡ None
    → first_place find (a ∷ arcs) ≡ option_map (λ s. (suc s.0, s.1)) (first_place find arcs)
place_there find a arcs e = rw (e, first_place) refl

-- the points of an arc
abbrev pub points_at : List BaseArc → ℕ → List Point
points_at arcs i = (arc_number arcs i).points

-- the first arc in which it is found
pub first_at : (find : List Point → Option ℕ) (arcs : List BaseArc) (i k : ℕ) → i < length arcs → find (points_at arcs i) ≡ Some k
    → ((j : ℕ) → j < i → find (points_at arcs j) ≡ None) → first_place find arcs ≡ Some (i, k)
first_at find [] i k lt e before = absurd (omega arith)
first_at find (a ∷ arcs) zero k lt e before = place_here find a arcs k e
first_at find (a ∷ arcs) (suc i) k lt e before =
    place_there find a arcs (before 0 (omega arith))
    ∙ ap (option_map (λ (s : ℕ × ℕ). (suc s.0, s.1))) (first_at find arcs i k (omega arith) e (λ j h. before (suc j) (omega arith)))

pub nowhere : (find : List Point → Option ℕ) (arcs : List BaseArc) → ((j : ℕ) → find (points_at arcs j) ≡ None) → first_place find arcs ≡ None
nowhere find [] all = refl
nowhere find (a ∷ arcs) all =
    place_there find a arcs (all 0) ∙ ap (option_map (λ (s : ℕ × ℕ). (suc s.0, s.1))) (nowhere find arcs (λ j. all (suc j)))

-- what is known of a place
pub record IsPlace (find : List Point → Option ℕ) (arcs : List BaseArc) (i k : ℕ) : Type 0 where
  pub arc : i < length arcs
  pub at : find (points_at arcs i) ≡ Some k

place_next : (find : List Point → Option ℕ) (a : BaseArc) (arcs : List BaseArc) (i k : ℕ) → IsPlace find arcs i k → IsPlace find (a ∷ arcs) (suc i) k
place_next find a arcs i k p = (let lt = p.arc in record { arc = omega arith; at = p.at })

pub first_is_place : (find : List Point → Option ℕ) (arcs : List BaseArc) (s : ℕ × ℕ) → first_place find arcs ≡ Some s → IsPlace find arcs s.0 s.1
first_is_place find [] s e = absurd cc
first_is_place find (a ∷ arcs) s e =
    by_option (find a.points)
    (λ none. by_option (first_place find arcs)
    (λ f. absurd (let g = place_there find a arcs none in cc))
    (λ t f.
    let g = place_there find a arcs none in
    let here : ℕ × ℕ = (suc t.0, t.1) in
    let same : here ≡ s = cc in
    subst (λ (x : ℕ × ℕ). IsPlace find (a ∷ arcs) x.0 x.1) same (place_next find a arcs t.0 t.1 (first_is_place find arcs t f))))
    (λ k some.
    let g = place_here find a arcs k some in
    let here : ℕ × ℕ = (0, k) in
    let same : here ≡ s = cc in
    subst (λ (x : ℕ × ℕ). IsPlace find (a ∷ arcs) x.0 x.1) same (record { arc = omega arith; at = some }))

-- ---- a change in the first arc that can be changed

next_changed : (a : BaseArc) (o : Option (ℕ × ℕ)) (edit : ℕ → List Point → List Point) (arcs : List BaseArc)
    → option_map (λ (rest : List BaseArc). a ∷ rest) (option_map (λ (s : ℕ × ℕ). changed_at s.0 (edit s.1) arcs) o)
    ≡ option_map (λ (s : ℕ × ℕ). changed_at s.0 (edit s.1) (a ∷ arcs)) (option_map (λ (s : ℕ × ℕ). (suc s.0, s.1)) o)
next_changed a None edit arcs = refl
next_changed a (Some s) edit arcs = refl

pub changed_first : (change : List Point → Option (List Point)) (find : List Point → Option ℕ) (edit : ℕ → List Point → List Point)
    → ((points : List Point) → change points ≡ option_map (λ k. edit k points) (find points)) → (arcs : List BaseArc)
    → change_first change arcs ≡ option_map (λ s. changed_at s.0 (edit s.1) arcs) (first_place find arcs)
changed_first change find edit same [] = refl
changed_first change find edit same (a ∷ arcs) =
    by_option (find a.points)
    (λ none.
    let stays : change a.points ≡ None = same a.points ∙ ap (option_map (λ (k : ℕ). edit k a.points)) none in
    change_there change a arcs stays
    ∙ (ap (option_map (λ (rest : List BaseArc). a ∷ rest)) (changed_first change find edit same arcs)
    ∙ (next_changed a (first_place find arcs) edit arcs
    ∙ ap (option_map (λ (s : ℕ × ℕ). changed_at s.0 (edit s.1) (a ∷ arcs))) (sym (place_there find a arcs none)))))
    (λ k some.
    let goes : change a.points ≡ Some (edit k a.points) = same a.points ∙ ap (option_map (λ (n : ℕ). edit n a.points)) some in
    change_here change a arcs (edit k a.points) goes
    ∙ ap (option_map (λ (s : ℕ × ℕ). changed_at s.0 (edit s.1) (a ∷ arcs))) (sym (place_here find a arcs k some)))

-- a point is put into the first segment with these ends
pub put_first : (a b new : Point) (arcs : List BaseArc)
    → change_first (put_between a b new) arcs ≡ option_map (λ s. changed_at s.0 (λ points. insert points s.1 new) arcs) (first_place (segment_at a b) arcs)
put_first a b new arcs = changed_first (put_between a b new) (segment_at a b) (λ k points. insert points k new) (put_is_insert a b new) arcs

-- the first inner point that is this is taken out
pub take_first : (old : Point) (arcs : List BaseArc)
    → change_first (take_out old) arcs ≡ option_map (λ s. changed_at s.0 (λ points. remove points s.1) arcs) (first_place (inner_at old) arcs)
take_first old arcs = changed_first (take_out old) (inner_at old) (λ k points. remove points k) (take_is_remove old) arcs

-- ---- the neighbours of the first inner point

pub neighbours_first : (old : Point) (arcs : List BaseArc) (d : Point) (s : ℕ × ℕ) → first_place (inner_at old) arcs ≡ Some s
    → first_found (neighbours old) arcs ≡ Some (beside (points_at arcs s.0) d s.1)
neighbours_first old [] d s e = absurd cc
neighbours_first old (a ∷ arcs) d s e =
    by_option (inner_at old a.points)
    (λ none. by_option (first_place (inner_at old) arcs)
    (λ f. absurd (let g = place_there (inner_at old) a arcs none in cc))
    (λ t f.
    let g = place_there (inner_at old) a arcs none in
    let here : ℕ × ℕ = (suc t.0, t.1) in
    let same : here ≡ s = cc in
    subst (λ (x : ℕ × ℕ). first_found (neighbours old) (a ∷ arcs) ≡ Some (beside (points_at (a ∷ arcs) x.0) d x.1)) same
    (found_there (neighbours old) a arcs (no_neighbours old a.points none) ∙ neighbours_first old arcs d t f)))
    (λ k some.
    let g = place_here (inner_at old) a arcs k some in
    let here : ℕ × ℕ = (0, k) in
    let same : here ≡ s = cc in
    subst (λ (x : ℕ × ℕ). first_found (neighbours old) (a ∷ arcs) ≡ Some (beside (points_at (a ∷ arcs) x.0) d x.1)) same
    (found_here (neighbours old) a arcs (beside a.points d k) (neighbours_are old a.points d k some)))

-- a point of the arcs that is no node is an inner point of one
pub no_inner_point : (old : Point) (arcs : List BaseArc) → is_node old arcs ≡ false → first_place (inner_at old) arcs ≡ None → has_point old arcs ≡ false
no_inner_point old [] inner e = refl
no_inner_point old (a ∷ arcs) inner e =
    let apart = or_parts (same_point old (first_point a.points) || same_point old (last_point a.points)) (is_node old arcs) inner in
    let ends = or_parts (same_point old (first_point a.points)) (same_point old (last_point a.points)) apart.0 in
    by_option (inner_at old a.points)
    (λ none. by_option (first_place (inner_at old) arcs)
    (λ f. or_from (list_any (same_point old) a.points) (has_point old arcs) (no_inner old a.points ends.0 ends.1 none) (no_inner_point old arcs apart.1 f))
    (λ t f. absurd (let g = place_there (inner_at old) a arcs none in cc)))
    (λ k some. absurd (let g = place_here (inner_at old) a arcs k some in cc))

-- ---- one arc with other points

pub changed_is_set : (i : ℕ) (change : List Point → List Point) (arcs : List BaseArc) (d : BaseArc) → i < length arcs
    → changed_at i change arcs ≡ set arcs i (with_points (get_or arcs i d) (change (get_or arcs i d).points))
changed_is_set i change [] d lt = absurd (omega arith)
changed_is_set zero change (a ∷ arcs) d lt = refl
changed_is_set (suc i) change (a ∷ arcs) d lt = ap (λ (rest : List BaseArc). a ∷ rest) (changed_is_set i change arcs d (omega arith))

pub written_is_changed : (i : ℕ) (change : List Point → List Point) (arcs : List BaseArc) (a b : BaseArc) → i < length arcs → a ≡ get_or arcs i a
    → b ≡ with_points a (change a.points) → set arcs i b ≡ changed_at i change arcs
written_is_changed i change arcs a b lt here same =
    ap (set arcs i) (same ∙ ap (λ (x : BaseArc). with_points x (change x.points)) here) ∙ sym (changed_is_set i change arcs a lt)
