-- What a look-up of boxes tells of the segments: those near an area are segments of the edges whose boxes are.
use Rattle.std.proofs.Common.{◌≡◌, inl, inr, ℕ, ◌+◌, ◌<◌, Bool, false, List, [], ◌∷◌, ◌++◌, map, length, All, Option, Some, None, refl, sym, ap, ◌∙◌, subst, true≢false, arith}
use Rattle.std.specs.Prelude.{option_to_list}
use Rattle.std.specs.List.{flat_map, range_with_len}
use Rattle.std.proofs.lemmas.Bool.{cases_lt, false_from_ne_true}
use Rattle.std.proofs.lemmas.Grind.{flat_map-append}
use Rattle.std.proofs.lemmas.Int.{ints, int_min_is, int_max_is}
use Rattle.std.proofs.lemmas.List.{append-nil, get_or_append_left, get_or_push}
use Rattle.std.proofs.lemmas.List.Elements.{All-head, All-tail}
use Rattle.std.proofs.lemmas.List.Folds.{flat_map-map}
use Rattle.std.proofs.lemmas.List.FromFn.{fill_by_all}
use Rattle.tgap_model.specs.declared.geometry.Point.{Point}
use Rattle.tgap_model.specs.declared.geometry.Window.{Window}
use Rattle.tgap_model.specs.declared.slice.Edge.{Edge}
use Rattle.grid_index.specs.declared.live.SegmentPlace.{SegmentPlace}
use Rattle.grid_index.specs.Boxes.{meets, Covers, segment_box}
use Rattle.grid_index.specs.Keyed.{edge_in, edges_in}
use Rattle.grid_index.specs.Live.{segment_boxes, edge_near, near_segments}
use Rattle.grid_index.specs.Near.{cons_if, boxes_near, near_boxes}
use Rattle.grid_index.specs.Picked.{no_box, box_at}
use Rattle.grid_index.specs.Tower.{meets_at}
use Rattle.grid_index.specs.Wider.{meets_wider}
use Rattle.grid_index.proofs.KeyedPlaces.{place_within}
use Rattle.grid_index.proofs.Meeting.{meets_at-within, near_filtered}
use Rattle.grid_index.proofs.Ranges.{flat_map-filter}
use Rattle.point_rope.specs.Held.{IsHeld}
use Rattle.tgap_build.specs.Sought.{IsBoxedAt, AreBoxed, AreSameBut, segments_in}

-- ---- an edge in a box

-- a box that holds both ends of a segment holds its box
held_segment : (b : Window) (p q : Point) → IsHeld b p → IsHeld b q → Covers b (segment_box p q)
held_segment b p q h g = record {
  left = omega (arith, ints, int_min_is p.x q.x, h.left, g.left);
  right = omega (arith, ints, int_max_is p.x q.x, h.right, g.right);
  low = omega (arith, ints, int_min_is p.y q.y, h.low, g.low);
  high = omega (arith, ints, int_max_is p.y q.y, h.high, g.high);
}

module _ (area b : Window) (apart : meets area b ≡ false) where
  none_near : (points : List Point) → All (IsHeld b) points → (i : ℕ) → boxes_near area i (segment_boxes points) ≡ []
  none_near [] h i = refl
  none_near (p ∷ []) h i = refl
  none_near (p ∷ q ∷ points) h i =
      let rest = All-tail (IsHeld b) p (q ∷ points) h in
      let off = false_from_ne_true (meets area (segment_box p q)) (λ t.
      true≢false (sym (meets_wider area b (segment_box p q) (held_segment b p q (All-head (IsHeld b) p (q ∷ points) h) (All-head (IsHeld b) q points rest)) t) ∙ apart)) in
      ap (λ (m : Bool). cons_if m i (boxes_near area (i + 1) (segment_boxes (q ∷ points)))) off ∙ none_near (q ∷ points) rest (i + 1)

  -- no segment of an edge that it holds is near what it does not meet
  edge_apart : (e : Edge) → All (IsHeld b) e.points → edge_near area e ≡ []
  edge_apart e h = ap (map (λ (i : ℕ). record { key = e.key; place = i })) (none_near e.points h 0)

-- ---- all edges

-- the segments by the places of the edges
near_by_place : (area : Window) (places : List (Option Edge)) → near_segments area (edges_in places) ≡ flat_map (λ (o : Option Edge). flat_map (edge_near area) (option_to_list o)) places
near_by_place area [] = refl
near_by_place area (o ∷ places) =
    flat_map-append (edge_near area) (option_to_list o) (edges_in places)
    ∙ ap (λ (ss : List SegmentPlace). flat_map (edge_near area) (option_to_list o) ++ ss) (near_by_place area places)

module _ (area : Window) (places : List (Option Edge)) (boxes : List Window) (boxed : AreBoxed places boxes) where
  none_in : (k : ℕ) → meets_at area boxes k ≡ false → segments_in area places k ≡ []
  none_in k off = by (edge_in places k) refl
    where
      by : (o : Option Edge) → edge_in places k ≡ o → flat_map (edge_near area) (option_to_list o) ≡ []
      by None is = refl
      by (Some e) is =
          let within : k < length boxes = omega (arith, place_within places k e is, boxed.long) in
          append-nil (edge_near area e) ∙ edge_apart area (box_at boxes k) (sym (meets_at-within area boxes k no_box within) ∙ off) e (boxed.each k e is)

  pub near_is : flat_map (segments_in area places) (near_boxes area boxes) ≡ near_segments area (edges_in places)
  near_is =
      let all = range_with_len 0 (length boxes) in
      ap (flat_map (segments_in area places)) (sym (near_filtered area boxes (length boxes) (omega arith)))
      ∙ flat_map-filter (segments_in area places) (meets_at area boxes) none_in all
      ∙ sym (flat_map-map (λ (o : Option Edge). flat_map (edge_near area) (option_to_list o)) (edge_in places) all)
      ∙ ap (flat_map (λ (o : Option Edge). flat_map (edge_near area) (option_to_list o))) (sym (fill_by_all (edge_in places) places (length boxes) None (sym boxed.long) (λ k l. refl)))
      ∙ sym (near_by_place area places)

-- ---- as boxes come and change

-- one place more
pub boxed_more : (places : List (Option Edge)) (boxes : List Window) (i : ℕ) (b : Window) → length boxes ≡ i → ((k : ℕ) → k < i → IsBoxedAt places boxes k)
    → ((e : Edge) → edge_in places i ≡ Some e → All (IsHeld b) e.points) → (k : ℕ) → k < i + 1 → IsBoxedAt places (boxes ++ b ∷ []) k
boxed_more places boxes i b long h new k l e is = elim (cases_lt k i) [
  | inl less ↦ subst (λ (c : Window). All (IsHeld c) e.points) (sym (get_or_append_left boxes (b ∷ []) no_box k (omega (arith, less, long)))) (h k less e is)
  | inr more ↦
      (let same : i ≡ k = omega (arith, l, more) in
      subst (λ (c : Window). All (IsHeld c) e.points) (sym (get_or_push boxes b no_box k (long ∙ same))) (new e (ap (edge_in places) same ∙ is)))
]

-- edges that were exchanged have boxes of their own, and the others those that they had
pub boxed_after : (before places : List (Option Edge)) (old boxes : List Window) (come : List ℕ) → AreBoxed before old → AreSameBut come before places → length boxes ≡ length places
    → ((k : ℕ) → IsBoxedAt places old k → IsBoxedAt places boxes k) → All (IsBoxedAt places boxes) come → AreBoxed places boxes
boxed_after before places old boxes come h same long kept here = record {
  long = long;
  each = λ k e is. elim (same k e is) [
    | inl was ↦ kept k (λ f at. subst (λ (g : Edge). All (IsHeld (box_at old k)) g.points) (one_edge e f (sym is ∙ at)) (h.each k e was)) e is
    | inr m ↦ subst (IsBoxedAt places boxes) m.2 (here m.0 k m.1) e is
  ];
}
  where
    one_edge : (e f : Edge) → Some e ≡ Some f → e ≡ f
    one_edge e f s = ap (λ (o : Option Edge). elim o [ None ↦ e | Some x ↦ x ]) s
