-- Where each face of a slice has one part, the base map that is read back has the segments of the slice with other labels, so it is a
-- planar partition.
use Rattle.std.proofs.Common.{◌≡◌, ◌≢◌, inl, inr, ℕ, zero, suc, ◌+◌, ◌<◌, ◌==◌, Bool, if◌then◌else◌, List, [], ◌∷◌, ◌++◌, length, map, get_or, All, AllPairs, refl, sym, ap, ap₂, ◌∙◌, subst, eq-eqb, ne_eqb, arith}
use Rattle.std.specs.List.{range_with_len}
use Rattle.std.proofs.lemmas.Bool.{cases_eq}
use Rattle.std.proofs.lemmas.List.{map-append, get_or-map, get_or_default, length-map}
use Rattle.std.proofs.lemmas.List.FromFn.{length-range_with_len}
use Rattle.std.proofs.lemmas.List.Elements.{All-nil, All-cons, All-head, All-tail, All-contains}
use Rattle.lemmas.proofs.Members.{AllPairs-head, AllPairs-tail, All-flat_map, All-from_members}
use Rattle.tgap_model.specs.declared.geometry.Point.{Point}
use Rattle.tgap_model.specs.declared.base.BaseArc.{BaseArc}
use Rattle.tgap_model.specs.declared.base.Transform.{Transform}
use Rattle.tgap_model.specs.declared.segment.LabelledSegment.{LabelledSegment}
use Rattle.tgap_model.specs.declared.slice.Edge.{Edge}
use Rattle.tgap_model.specs.declared.slice.FaceRow.{FaceRow}
use Rattle.tgap_model.specs.Partition.{is_empty, path_segments, arc_segments, edge_segments, IsPartition}
use Rattle.ring_walk.specs.declared.span.EdgeEnds.{EdgeEnds}
use Rattle.ring_walk.specs.declared.side.Side.{Side}
use Rattle.ring_walk.proofs.Examples.{along, against}
use Rattle.topo_write.specs.Polygons.{spans_of, lines_of, Polygon}
use Rattle.topo_laws.specs.ReadBack.{part_from, part_face, HaveOnePart}
use Rattle.topo_laws.proofs.OtherLabels.{with_labels, IsTold, labelled_partition}
use Rattle.topo_laws.proofs.PartRings.{ArePolygons}
use Rattle.topo_laws.proofs.PartFaces.{part_at, face_of_place}
use Rattle.topo_laws.proofs.ReadBase.{IsDrawn, range_at, read_arc, read_arcs, left_is, right_is}

-- ---- the part of a face, and the place of a key

-- the first part of a face, where the first of these parts has number n; 0 where it has none
abbrev label_from : ℕ → List Polygon → ℕ → ℕ
label_from n [] f = 0
label_from n (p ∷ polygons) f = if p.row.face == f then n else label_from (n + 1) polygons f

label_at : (n : ℕ) (polygons : List Polygon) (i : ℕ) (d : Polygon) → HaveOnePart polygons → i < length polygons → label_from n polygons (get_or polygons i d).row.face ≡ n + i
label_at n [] i d one l = absurd (omega (arith, l))
label_at n (p ∷ polygons) zero d one l =
    let here : n ≡ n + 0 = omega arith in
    ap (λ (b : Bool). if b then n else label_from (n + 1) polygons p.row.face) (eq-eqb p.row.face p.row.face refl) ∙ here
label_at n (p ∷ polygons) (suc i) d one l =
    let short : i < length polygons = omega (arith, l) in
    let next : n + 1 + i ≡ n + suc i = omega arith in
    let f = (get_or polygons i d).row.face in
    ap (λ (b : Bool). if b then n else label_from (n + 1) polygons f) (ne_eqb p.row.face f (AllPairs-head (λ (p q : Polygon). p.row.face ≢ q.row.face) p polygons one i d short))
    ∙ label_at (n + 1) polygons i d (AllPairs-tail (λ (p q : Polygon). p.row.face ≢ q.row.face) p polygons one) short ∙ next

label_none : (n : ℕ) (polygons : List Polygon) (f : ℕ) → All (λ p. p.row.face ≢ f) polygons → label_from n polygons f ≡ 0
label_none n [] f h = refl
label_none n (p ∷ polygons) f h =
    ap (λ (b : Bool). if b then n else label_from (n + 1) polygons f) (ne_eqb p.row.face f (All-head (λ (q : Polygon). q.row.face ≢ f) p polygons h))
    ∙ label_none (n + 1) polygons f (All-tail (λ (q : Polygon). q.row.face ≢ f) p polygons h)

abbrev number_from : ℕ → List Edge → ℕ → ℕ
number_from i [] key = 0
number_from i (e ∷ edges) key = if e.key == key then i else number_from (i + 1) edges key

number_at : (i : ℕ) (edges : List Edge) (j : ℕ) (d : Edge) → AllPairs (λ (e f : Edge). e.key ≢ f.key) edges → j < length edges → number_from i edges (get_or edges j d).key ≡ i + j
number_at i [] j d keys l = absurd (omega (arith, l))
number_at i (e ∷ edges) zero d keys l =
    let here : i ≡ i + 0 = omega arith in
    ap (λ (b : Bool). if b then i else number_from (i + 1) edges e.key) (eq-eqb e.key e.key refl) ∙ here
number_at i (e ∷ edges) (suc j) d keys l =
    let short : j < length edges = omega (arith, l) in
    let next : i + 1 + j ≡ i + suc j = omega arith in
    let key = (get_or edges j d).key in
    ap (λ (b : Bool). if b then i else number_from (i + 1) edges key) (ne_eqb e.key key (AllPairs-head (λ (e f : Edge). e.key ≢ f.key) e edges keys j d short))
    ∙ number_at (i + 1) edges j d (AllPairs-tail (λ (e f : Edge). e.key ≢ f.key) e edges keys) short ∙ next

-- ---- the segments of arcs that are edges with other labels

module _ (number label : ℕ → ℕ) where
  row_labelled : (key left right place : ℕ) (points : List Point)
      → path_segments (number key) (label left) (label right) place points ≡ map (with_labels number label) (path_segments key left right place points)
  row_labelled key left right place [] = refl
  row_labelled key left right place (a ∷ []) = refl
  row_labelled key left right place (a ∷ b ∷ points) =
      ap (λ (ss : List LabelledSegment). record {
        segment = record { a = a; b = b };
        left = label left;
        right = label right;
        arc = number key;
        place = place;
        starts = place == 0;
        ends = is_empty points;
      } ∷ ss) (row_labelled key left right (place + 1) (b ∷ points))

  -- an arc with this number is the edge with other labels
  record IsLabelled (i : ℕ) (e : Edge) (a : BaseArc) : Type 0 where
    key : number e.key ≡ i
    points : a.points ≡ e.points
    left : a.left ≡ label e.left
    right : a.right ≡ label e.right

  arcs_labelled : (i : ℕ) (edges : List Edge) (arcs : List BaseArc) (d : Edge) (a : BaseArc) → length arcs ≡ length edges → ((j : ℕ) → j < length edges → IsLabelled (i + j) (get_or edges j d) (get_or arcs j a))
      → arc_segments i arcs ≡ map (with_labels number label) (edge_segments edges)
  arcs_labelled i [] [] d a same h = refl
  arcs_labelled i [] (x ∷ arcs) d a same h = absurd (omega (arith, same))
  arcs_labelled i (e ∷ edges) [] d a same h = absurd (omega (arith, same))
  arcs_labelled i (e ∷ edges) (x ∷ arcs) d a same h =
      let first = h 0 (omega arith) in
      let here : i + 0 ≡ i = omega arith in
      ap₂ (λ (ss ts : List LabelledSegment). ss ++ ts)
      (ap₂ (λ (n : ℕ) (points : List Point). path_segments n x.left x.right 0 points) (sym (first.key ∙ here)) first.points
      ∙ ap₂ (λ l r. path_segments (number e.key) l r 0 e.points) first.left first.right
      ∙ row_labelled e.key e.left e.right 0 e.points)
      (arcs_labelled (i + 1) edges arcs d a (omega (arith, same)) (λ j l.
      let next : i + suc j ≡ i + 1 + j = omega arith in
      subst (λ n. IsLabelled n (get_or edges j d) (get_or arcs j a)) next (h (suc j) (omega (arith, l)))))
      ∙ sym (map-append (with_labels number label) (path_segments e.key e.left e.right 0 e.points) (edge_segments edges))

  module _ (number_back label_back : ℕ → ℕ) where
    row_told : (key left right place : ℕ) (points : List Point) → number_back (number key) ≡ key → label_back (label left) ≡ left → label_back (label right) ≡ right
        → All (IsTold number label number_back label_back) (path_segments key left right place points)
    row_told key left right place [] e f g = All-nil (IsTold number label number_back label_back)
    row_told key left right place (a ∷ []) e f g = All-nil (IsTold number label number_back label_back)
    row_told key left right place (a ∷ b ∷ points) e f g =
        All-cons (IsTold number label number_back label_back) _ (path_segments key left right (place + 1) (b ∷ points)) (record { arc = e; left = f; right = g })
        (row_told key left right (place + 1) (b ∷ points) e f g)

-- ---- the base map that is read

module _ (edges : List Edge) (ends : List EdgeEnds) (rows : List FaceRow) (polygons : List Polygon) (drawn : IsDrawn edges ends rows)
    (are : ArePolygons (lines_of edges) (spans_of edges ends) rows polygons) (t : Transform) (keys : AllPairs (λ (e f : Edge). e.key ≢ f.key) edges)
    (some : All (λ r. r.face ≢ 0) rows) (one : HaveOnePart polygons) where
  abbrev label : ℕ → ℕ
  label f = label_from 1 polygons f

  abbrev number : ℕ → ℕ
  number key = number_from 0 edges key

  abbrev no_edge : Edge
  no_edge = record { key = 0; left = 0; right = 0; points = [] }

  abbrev key_back : ℕ → ℕ
  key_back i = (get_or edges i no_edge).key

  parts_some : All (λ p. p.row.face ≢ 0) polygons
  parts_some = All-from_members (λ p. p.row.face ≢ 0) polygons (λ p c.
      let part = are.parts p c in
      subst (λ (r : FaceRow). r.face ≢ 0) (sym part.2.row_is) (All-contains (λ r. r.face ≢ 0) rows part.0 some part.1))

  -- the part at a side is that of the face there
  label_is : (s : Side) (f : ℕ) → part_face polygons (part_from 1 polygons s) ≡ f → part_from 1 polygons s ≡ label f
  label_is s f e = elim (cases_eq (part_from 1 polygons s) 0) [
    | inl none ↦ none ∙ sym (ap label (sym e ∙ ap (part_face polygons) none) ∙ label_none 1 polygons 0 parts_some)
    | inr found ↦
        let h = part_at 1 polygons s found in
        let empty : Polygon = record { row = record { face = 0; class = 0 }; rings = [] } in
        h.number ∙ sym (ap label (sym e ∙ ap (part_face polygons) h.number ∙ face_of_place polygons h.place empty h.within) ∙ label_at 1 polygons h.place empty one h.within)
  ]

  arc_is : (i : ℕ) → i < length edges → IsLabelled number label (0 + i) (get_or edges i no_edge) (read_arc edges ends rows polygons drawn are i)
  arc_is i l = record {
    key = number_at 0 edges i no_edge keys l;
    points = get_or-map (λ (e : Edge). e.points) edges i no_edge [] l;
    left = label_is (along i) (get_or edges i no_edge).left (left_is edges ends rows polygons drawn are t i l);
    right = label_is (against i) (get_or edges i no_edge).right (right_is edges ends rows polygons drawn are t i l);
  }

  segments_are : arc_segments 0 (read_arcs edges ends rows polygons drawn are) ≡ map (with_labels number label) (edge_segments edges)
  segments_are =
      arcs_labelled number label 0 edges (read_arcs edges ends rows polygons drawn are) no_edge (read_arc edges ends rows polygons drawn are 0)
      (length-map (range_with_len 0 (length edges)) (read_arc edges ends rows polygons drawn are) ∙ length-range_with_len 0 (length edges))
      (λ j l.
      subst (IsLabelled number label (0 + j) (get_or edges j no_edge)) (sym (arc_at j l)) (arc_is j l))
    where
      arc_at : (j : ℕ) → j < length edges → get_or (read_arcs edges ends rows polygons drawn are) j (read_arc edges ends rows polygons drawn are 0) ≡ read_arc edges ends rows polygons drawn are j
      arc_at j l =
          let long = length-range_with_len 0 (length edges) in
          get_or-map (read_arc edges ends rows polygons drawn are) (range_with_len 0 (length edges)) j 0 (read_arc edges ends rows polygons drawn are 0) (omega (arith, l, long))
          ∙ ap (read_arc edges ends rows polygons drawn are) (range_at (length edges) j 0 l)

  all_told : All (IsTold number label key_back (part_face polygons)) (edge_segments edges)
  all_told = All-flat_map (IsTold number label key_back (part_face polygons)) (λ (e : Edge). path_segments e.key e.left e.right 0 e.points) edges (λ i d l.
      subst (λ (e : Edge). All (IsTold number label key_back (part_face polygons)) (path_segments e.key e.left e.right 0 e.points)) (get_or_default edges i no_edge d l)
      (let arc = arc_is i l in
      let same : 0 + i ≡ i = omega arith in
      let e = get_or edges i no_edge in
      row_told number label key_back (part_face polygons) e.key e.left e.right 0 e.points
      (ap key_back (arc.key ∙ same))
      (ap (part_face polygons) (sym arc.left) ∙ left_is edges ends rows polygons drawn are t i l)
      (ap (part_face polygons) (sym arc.right) ∙ right_is edges ends rows polygons drawn are t i l)))

  pub parts_planar : IsPartition (edge_segments edges) → IsPartition (arc_segments 0 (read_arcs edges ends rows polygons drawn are))
  parts_planar planar =
      subst IsPartition (sym segments_are)
      (labelled_partition number label key_back (part_face polygons) (edge_segments edges) (label_none 1 polygons 0 parts_some) all_told planar)
