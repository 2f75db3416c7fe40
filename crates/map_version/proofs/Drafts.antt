-- What the tests of an edit let pass.
use Rattle.std.proofs.Common.{◌≡◌, ◌∙◌, ℕ, suc, ◌<◌, length, pos, arith, [], ◌∷◌, Bool, true, false, not, nat_lt, List, insert, remove, Option, Some, None, Result, Ok, Err, refl, sym, ap, subst}
use Rattle.std.specs.Prelude.{option_map}
use Rattle.std.specs.Option.{ok_or}
use Rattle.tgap_model.specs.declared.failure.Or.{Or}
use Rattle.tgap_model.specs.declared.failure.Or.TheVariants.{Fault, Memory}
use Rattle.plain_io.specs.Taking.{GivesWhole, Refuses}
use Rattle.tgap_model.specs.declared.geometry.Point.{Point}
use Rattle.tgap_model.specs.declared.base.BaseArc.{BaseArc}
use Rattle.tgap_model.specs.declared.limits.TheConstants.{MAX_POINTS}
use Rattle.tgap_model.specs.Base.{BaseMap, count_points, is_arc}
use Rattle.tgap_model.specs.Chains.{arc_number}
use Rattle.line_forms.specs.Json.{ensured}
use Rattle.line_forms.specs.Lines.{◌>>=◌}
use Rattle.edit_laws.specs.Edits.{has_point, is_node, put_between, take_out, change_first, turns_back, add_point, drop_point, fuse_named, named}
use Rattle.edit_laws.proofs.Laws.{are_same, turns_back_is}
use Rattle.map_version.specs.declared.arcs.Place.{Place}
use Rattle.map_version.specs.Positions.{segment_at, inner_at, turns_at, first_place, changed_at}
use Rattle.std.specs.List.{list_all}
use Rattle.std.proofs.lemmas.Bool.{and_from, false≢true, le-leb}
use Rattle.tgap_model.proofs.BaseFacts.{arc_facts}
use Rattle.std.proofs.lemmas.List.Elements.{All-weaker}
use Rattle.std.proofs.lemmas.List.Sums.{AllPass-from_list_all}
use Rattle.face_cuts.specs.Outcomes.{has_room}
use Rattle.face_cuts.specs.Nodes.{add_node, passes, place_of, split_at}
use Rattle.arc_places.specs.Borders.{HasFaces, HaveFaces}
use Rattle.tgap_model.specs.Base.{same_point}
use Rattle.std.specs.List.{position}
use Rattle.std.specs.Prelude.{option_and_then, IfSome}
use Rattle.map_version.proofs.InSlots.{next_arc}
use Rattle.map_version.proofs.Points.{no_position, none_has, position_here, position_there, position_within}
use Rattle.face_cuts.proofs.NodesKeep.{node_made}
use Rattle.std.specs.List.{list_any}
use Rattle.std.specs.Prelude.{◌||◌, ◌≤◌, ◌+◌, ◌-◌, nat_le, set, take, slice_index}
use Rattle.std.proofs.lemmas.List.{length-set, length-take-le}
use Rattle.tgap_model.specs.Base.{borders_face}
use Rattle.face_cuts.specs.Fusions.{classes_without, fuse_faces, is_between, is_face, others}
use Rattle.face_cuts.proofs.FusionsKeep.{fused_map}
use Rattle.map_version.specs.Drafts.{drafted}
use Rattle.map_version.specs.Drops.{goes_on}
use Rattle.edit_laws.proofs.Cases.{by_test, by_option}
use Rattle.map_version.proofs.Firsts.{put_first, take_first, neighbours_first, no_inner_point, place_here, place_there}

-- a test that lets pass holds
pub ensured_holds : {F : Type 0} (b : Bool) (fault : F) (x : Unit {0}) → Ok x ≡ ensured b fault → b ≡ true
ensured_holds true fault x e = refl
ensured_holds false fault x e = absurd cc

-- what is found is there
pub found_is : {A F : Type 0} (o : Option A) (fault : F) (x : A) → Ok x ≡ ok_or o fault → o ≡ Some x
found_is (Some y) fault x e = cc
found_is None fault x e = absurd cc

-- what is not found is not there
pub not_found : {A F : Type 0} (o : Option A) (fault cause : F) → Err cause ≡ ok_or o fault → o ≡ None
not_found (Some y) fault cause e = absurd cc
not_found None fault cause e = refl

-- ---- a point that is added, by the place of its segment

pub add_by : (m : BaseMap) (a b new : Point) (pair : Place → ℕ × ℕ) (first : Option Place) → option_map pair first ≡ first_place (segment_at a b) m.arcs
    → add_point m a b new ≡ (ok_or first 5 >>= λ s. ensured (not (has_point new m.arcs)) 4 >>= λ f. ensured (nat_lt (count_points m.arcs) MAX_POINTS) 8
    >>= λ r. Ok (record m { arcs = changed_at (pair s).0 (λ points. insert points (pair s).1 new) m.arcs }))
unfolding add_point
add_by m a b new pair None e = rw (put_first a b new m.arcs ∙ ap (option_map (λ (s : ℕ × ℕ). changed_at s.0 (λ points. insert points s.1 new) m.arcs)) (sym e)) refl
add_by m a b new pair (Some s) e = rw (put_first a b new m.arcs ∙ ap (option_map (λ (s : ℕ × ℕ). changed_at s.0 (λ points. insert points s.1 new) m.arcs)) (sym e)) refl

-- what a segment's place changes
pub added_arcs : (a b new : Point) (arcs : List BaseArc) (s : ℕ × ℕ) → Some s ≡ first_place (segment_at a b) arcs
    → change_first (put_between a b new) arcs ≡ Some (changed_at s.0 (λ points. insert points s.1 new) arcs)
added_arcs a b new arcs s e = put_first a b new arcs ∙ ap (option_map (λ (s : ℕ × ℕ). changed_at s.0 (λ points. insert points s.1 new) arcs)) (sym e)

-- the map with the point
pub add_made : (m : BaseMap) (a b new : Point) (s : ℕ × ℕ) → Some s ≡ first_place (segment_at a b) m.arcs → has_point new m.arcs ≡ false
    → nat_lt (count_points m.arcs) MAX_POINTS ≡ true → add_point m a b new ≡ Ok (record m { arcs = changed_at s.0 (λ points. insert points s.1 new) m.arcs })
unfolding add_point
add_made m a b new s e free room = (let changes = added_arcs a b new m.arcs s e in rw (changes, free, room) refl)

-- ---- a point that is dropped, by its place

pub dropped_arcs : (old : Point) (arcs : List BaseArc) (s : ℕ × ℕ) → Some s ≡ first_place (inner_at old) arcs
    → change_first (take_out old) arcs ≡ Some (changed_at s.0 (λ points. remove points s.1) arcs)
dropped_arcs old arcs s e = take_first old arcs ∙ ap (option_map (λ (s : ℕ × ℕ). changed_at s.0 (λ points. remove points s.1) arcs)) (sym e)

pub dropped_turns : (m : BaseMap) (old : Point) (s : ℕ × ℕ) → Some s ≡ first_place (inner_at old) m.arcs
    → turns_back old m.arcs ≡ turns_at (arc_number m.arcs s.0).points s.1
dropped_turns m old s e =
    turns_back_is old m.arcs ∙ ap are_same (neighbours_first old m.arcs (record { x = pos 0; y = pos 0 }) s (sym e))

-- there is a place
pub drop_found : (old : Point) (arcs : List BaseArc) (pair : Place → ℕ × ℕ) (first : Option Place) → option_map pair first ≡ first_place (inner_at old) arcs → has_point old arcs ≡ true
    → is_node old arcs ≡ false → (first ≡ None → ⊥)
drop_found old arcs pair first e there inner none =
    false≢true (sym (no_inner_point old arcs inner (sym e ∙ ap (option_map pair) none)) ∙ there)

-- the map with what is left of the arcs
pub drop_by : (m : BaseMap) (old : Point) (s : ℕ × ℕ) → Some s ≡ first_place (inner_at old) m.arcs → has_point old m.arcs ≡ true → is_node old m.arcs ≡ false
    → drop_point m old ≡ (goes_on m.arcs s >>= λ apart. Ok (drafted m m.classes (changed_at s.0 (λ points. remove points s.1) m.arcs)))
unfolding drop_point
drop_by m old s e there inner =
    let turns = dropped_turns m old s e in
    let changes = dropped_arcs old m.arcs s e in
    by_test (turns_at (arc_number m.arcs s.0).points s.1)
    (λ t. let back = turns ∙ t in rw (there, inner, back, t) refl)
    (λ f. let apart = turns ∙ f in rw (there, inner, apart, f, changes) refl)

-- what is refused with the arcs is refused with the map
pub refused_then : {A B : Type 0} (cause : Or ℕ) (r : Result A ℕ) (more : A → Result B ℕ) → Refuses cause r → Refuses cause (r >>= more)
refused_then (Fault k) r more h = ap (λ x. x >>= more) h
refused_then Memory r more h = tt

-- the arcs of a base map have faces that it has
pub have_faces : (n : ℕ) (arcs : List BaseArc) → list_all (is_arc n) arcs ≡ true → HaveFaces n arcs
have_faces n arcs all =
    All-weaker (λ a. is_arc n a ≡ true) (HasFaces n) (λ a h. let facts = arc_facts n a h in record { left = facts.left; right = facts.right }) arcs (AllPass-from_list_all (is_arc n) arcs all)

-- ---- a node, by its place

-- a point is where the first arc has it
pub node_first : (v : Point) (arcs : List BaseArc) → first_place (position (same_point v)) arcs ≡ place_of v arcs
node_first v [] = refl
node_first v (a ∷ arcs) =
    by_test (passes v a)
    (λ t. by_option (position (same_point v) a.points)
    (λ none. absurd (false≢true (sym (none_has (same_point v) a.points none) ∙ t)))
    (λ k some.
    place_here (position (same_point v)) a arcs k some
    ∙ sym (ap (λ (o : Option ℕ). option_and_then (λ i. option_map (λ k. (i, k)) (position (same_point v) (arc_number (a ∷ arcs) i).points)) o) (position_here (passes v) a arcs t)
    ∙ ap (option_map (λ k. (0, k))) some)))
    (λ f.
    place_there (position (same_point v)) a arcs (no_position (same_point v) a.points f)
    ∙ (ap (option_map next_arc) (node_first v arcs)
    ∙ (next (position (passes v) arcs)
    ∙ sym (ap (λ (o : Option ℕ). option_and_then (λ i. option_map (λ k. (i, k)) (position (same_point v) (arc_number (a ∷ arcs) i).points)) o) (position_there (passes v) a arcs f)))))
  where
    inside : (i : ℕ) (o : Option ℕ) → option_map next_arc (option_map (λ k. (i, k)) o) ≡ option_map (λ k. (suc i, k)) o
    inside i None = refl
    inside i (Some k) = refl

    next : (o : Option ℕ) → option_map next_arc (option_and_then (λ i. option_map (λ k. (i, k)) (position (same_point v) (arc_number arcs i).points)) o)
        ≡ option_and_then (λ i. option_map (λ k. (i, k)) (position (same_point v) (arc_number (a ∷ arcs) i).points)) (option_map (λ k. suc k) o)
    next None = refl
    next (Some i) = inside i (position (same_point v) (arc_number arcs i).points)

pub node_by : (m : BaseMap) (v : Point) (pair : Place → ℕ × ℕ) (first : Option Place) → option_map pair first ≡ first_place (position (same_point v)) m.arcs
    → add_node m v ≡ (ok_or first 3 >>= λ s. ensured (not (is_node v m.arcs)) 6 >>= λ i. ensured (has_room m 0 1 1) 11
    >>= λ r. Ok (record m { arcs = split_at m.arcs (pair s) }))
unfolding add_node
node_by m v pair None e = rw (sym (node_first v m.arcs) ∙ sym e) refl
node_by m v pair (Some s) e = (let at : place_of v m.arcs ≡ Some (pair s) = sym (node_first v m.arcs) ∙ sym e in by_test (is_node v m.arcs)
    (λ t. rw (at, t) refl)
    (λ f. by_test (has_room m 0 1 1) (λ t. rw (at, f, t) refl) (λ h. rw (at, f, h) refl)))

-- what is found has what is known of it
pub place_found : (find : List Point → Option ℕ) (slots : List BaseArc) (o : Option Place) (s : Place) → o ≡ Some s
    → IfSome o (λ place. find (arc_number slots place.slot).points ≡ Some place.at) → find (arc_number slots s.slot).points ≡ Some s.at
place_found find slots (Some t) s e h = (let same : t ≡ s = cc in subst (λ (place : Place). find (arc_number slots place.slot).points ≡ Some place.at) same h)
place_found find slots None s e h = absurd cc

-- the map with what is left, where a line goes on
pub drop_made : (m : BaseMap) (old : Point) (s : ℕ × ℕ) (u : Unit {0}) → Some s ≡ first_place (inner_at old) m.arcs → has_point old m.arcs ≡ true → is_node old m.arcs ≡ false
    → goes_on m.arcs s ≡ Ok u → drop_point m old ≡ Ok (record m { arcs = changed_at s.0 (λ points. remove points s.1) m.arcs })
drop_made m old s u e there inner goes =
    drop_by m old s e there inner ∙ ap (λ r. r >>= λ apart. Ok (drafted m m.classes (changed_at s.0 (λ points. remove points s.1) m.arcs))) goes

-- a point that is found is one of the points
pub place_at : (v : Point) (slots : List BaseArc) (o : Option Place) (s : Place) → o ≡ Some s
    → IfSome o (λ place. position (same_point v) (arc_number slots place.slot).points ≡ Some place.at) → s.at < length (arc_number slots s.slot).points
place_at v slots o s e h = position_within (same_point v) (arc_number slots s.slot).points s.at (place_found (position (same_point v)) slots o s e h)

pub node_of : (m : BaseMap) (v : Point) (s : ℕ × ℕ) → Some s ≡ first_place (position (same_point v)) m.arcs → is_node v m.arcs ≡ false → has_room m 0 1 1 ≡ true
    → add_node m v ≡ Ok (record m { arcs = split_at m.arcs s })
node_of m v s e inner room = node_made m v s (sym (node_first v m.arcs) ∙ sym e) inner room

-- ---- a fusion, where both are faces

pub fuse_by : (m : BaseMap) (f g : ℕ) → is_face m f ≡ true → is_face m g ≡ true
    → fuse_faces m f g ≡ (ensured (list_any (is_between f g) m.arcs) 13 >>= λ b. ensured (list_any (λ a. borders_face f a || borders_face g a) (others f g m.arcs)) 14 >>= λ l. Ok (fused_map m f g))
unfolding fuse_faces
fuse_by m f g face_f face_g =
    by_test (list_any (is_between f g) m.arcs)
    (λ t. by_test (list_any (λ a. borders_face f a || borders_face g a) (others f g m.arcs))
    (λ u. rw (face_f, face_g, t, u) refl)
    (λ u. rw (face_f, face_g, t, u) refl))
    (λ t. rw (face_f, face_g, t) refl)

-- a number in the range is one of a face
pub in_range : (m : BaseMap) (f : ℕ) → 1 ≤ f → f ≤ length m.classes → is_face m f ≡ true
in_range m f some few = and_from (nat_le 1 f) (nat_le f (length m.classes)) (le-leb 1 f some) (le-leb f (length m.classes) few)

-- what was read, behind the cause
pub read_is : {A F : Type 0} (read : Option A) (cause : F) (x : A) → ok_or read cause ≡ Ok x → read ≡ Some x
read_is (Some y) cause x e = cc
read_is None cause x e = absurd cc

pub fuse_to : (m : BaseMap) (kept gone : List ℕ) (f g : ℕ) → named 1 (length m.classes) kept ≡ Some f → named 1 (length m.classes) gone ≡ Some g → fuse_named m kept gone ≡ fuse_faces m f g
unfolding fuse_named
fuse_to m kept gone f g e h = rw (e, h) refl

-- one class fewer
pub length-without : (g : ℕ) (classes : List ℕ) → 1 ≤ length classes → length (classes_without g classes) + 1 ≡ length classes
length-without g classes some =
    let changed = set classes (g - 1) (slice_index classes (length classes - 1)) in
    let same : length changed ≡ length classes = length-set classes (g - 1) (slice_index classes (length classes - 1)) in
    let long : length (take (length classes - 1) changed) ≡ length classes - 1 = length-take-le (length classes - 1) changed (omega arith) in
    omega arith

-- a test gives what it gives with its cause
pub gives_ensured : (b : Bool) (cause : ℕ) → GivesWhole (ensured b (Fault cause)) (ensured b cause)
gives_ensured true cause = refl
gives_ensured false cause = refl
