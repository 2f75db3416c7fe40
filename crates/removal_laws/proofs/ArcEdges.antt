-- The arcs of a base map as edges: their inner points stand once.
use Rattle.std.proofs.Common.{◌≡◌, ◌≢◌, inl, inr, ℕ, ◌+◌, ◌<◌, ◌≤◌, true, List, [], ◌∷◌, ◌++◌, flat_map, length, All, AllPairs, refl, sym, ap, subst, arith}
use Rattle.std.specs.Prelude.{count_by, IsTrue}
use Rattle.std.specs.List.{list_all}
use Rattle.std.proofs.lemmas.Bool.{and_parts}
use Rattle.std.proofs.lemmas.List.Elements.{All-nil, All-cons}
use Rattle.std.proofs.lemmas.List.Kept.{AllPairs-cons}
use Rattle.lemmas.proofs.Members.{AllPairs-nil}
use Rattle.tgap_model.specs.declared.geometry.Point.{Point}
use Rattle.tgap_model.specs.declared.base.BaseArc.{BaseArc}
use Rattle.tgap_model.specs.declared.slice.Edge.{Edge}
use Rattle.tgap_model.specs.declared.segment.LabelledSegment.{LabelledSegment}
use Rattle.tgap_model.specs.Base.{BaseMap, is_base, is_arc, same_point, no_repeat}
use Rattle.tgap_model.specs.Partition.{AreApart, path_segments, arc_segments, base_segments, edge_segments}
use Rattle.tgap_model.proofs.BaseFacts.{arc_facts, base_facts}
use Rattle.map_laws.proofs.ChainMembers.{Among}
use Rattle.removal_laws.specs.StandLaws.{live_points, inner_points, AreSound}
use Rattle.removal_laws.proofs.Less.{stands_at}
use Rattle.removal_laws.proofs.Sound.{sound_points_stand_once}

-- the arcs, numbered from i on
abbrev arc_edges : ℕ → List BaseArc → List Edge
arc_edges i [] = []
arc_edges i (a ∷ arcs) = record { key = i; left = a.left; right = a.right; points = a.points } ∷ arc_edges (i + 1) arcs

segments_are : (i : ℕ) (arcs : List BaseArc) → edge_segments (arc_edges i arcs) ≡ arc_segments i arcs
segments_are i [] = refl
segments_are i (a ∷ arcs) = ap (λ (rest : List LabelledSegment). path_segments i a.left a.right 0 a.points ++ rest) (segments_are (i + 1) arcs)

points_are : (i : ℕ) (arcs : List BaseArc) → live_points (arc_edges i arcs) ≡ flat_map (λ a. a.points) arcs
points_are i [] = refl
points_are i (a ∷ arcs) = ap (λ (rest : List Point). a.points ++ rest) (points_are (i + 1) arcs)

keys_from : (i j : ℕ) (arcs : List BaseArc) → i < j → All (λ e. i ≢ e.key) (arc_edges j arcs)
keys_from i j [] l = All-nil (λ (e : Edge). i ≢ e.key)
keys_from i j (a ∷ arcs) l =
    All-cons (λ (e : Edge). i ≢ e.key) (record { key = j; left = a.left; right = a.right; points = a.points }) (arc_edges (j + 1) arcs)
    (λ e. absurd (omega arith)) (keys_from i (j + 1) arcs (omega arith))

keys_differ : (i : ℕ) (arcs : List BaseArc) → AllPairs (λ (e f : Edge). e.key ≢ f.key) (arc_edges i arcs)
keys_differ i [] = AllPairs-nil (λ (e f : Edge). e.key ≢ f.key)
keys_differ i (a ∷ arcs) =
    AllPairs-cons (λ (e f : Edge). e.key ≢ f.key) (record { key = i; left = a.left; right = a.right; points = a.points }) (arc_edges (i + 1) arcs)
    (keys_from i (i + 1) arcs (omega arith)) (keys_differ (i + 1) arcs)

of_arcs : (n i : ℕ) (P : List Point → Type 0) → ((a : BaseArc) → is_arc n a ≡ true → P a.points) → (arcs : List BaseArc) → list_all (is_arc n) arcs ≡ true
    → All (λ (e : Edge). P e.points) (arc_edges i arcs)
of_arcs n i P on [] h = All-nil (λ (e : Edge). P e.points)
of_arcs n i P on (a ∷ arcs) h =
    let parts = and_parts (is_arc n a) (list_all (is_arc n) arcs) h in
    All-cons (λ (e : Edge). P e.points) (record { key = i; left = a.left; right = a.right; points = a.points }) (arc_edges (i + 1) arcs)
    (on a parts.0) (of_arcs n (i + 1) P on arcs parts.1)

among_edges : (i : ℕ) (arcs : List BaseArc) (a : BaseArc) → Among a arcs → (e : Edge) × Among e (arc_edges i arcs) × (e.points ≡ a.points)
among_edges i [] a m = absurd m
among_edges i (c ∷ arcs) a (inl e) = (record { key = i; left = c.left; right = c.right; points = c.points }, inl refl, ap (λ (b : BaseArc). b.points) e)
among_edges i (c ∷ arcs) a (inr m) = let r = among_edges (i + 1) arcs a m in (r.0, inr r.1, r.2)

module _ (m : BaseMap) (base : IsTrue (is_base m)) (apart : AllPairs AreApart (base_segments m)) where
  sound : AreSound (arc_edges 0 m.arcs)
  sound =
      let n = length m.classes in
      let all = (base_facts m base).arcs in
      record {
        keys = keys_differ 0 m.arcs;
        points = of_arcs n 0 (λ ps. 2 ≤ length ps) (λ a h. (arc_facts n a h).two_points) m.arcs all;
        steps = of_arcs n 0 (λ ps. no_repeat ps ≡ true) (λ a h. (arc_facts n a h).apart) m.arcs all;
        apart = subst (AllPairs AreApart) (sym (segments_are 0 m.arcs)) apart;
      }

  -- an inner vertex of an arc stands once among the points of all arcs
  pub vertex_once : (a : BaseArc) → Among a m.arcs → (b : Point) → Among b (inner_points a.points) → count_by (same_point b) (flat_map (λ c. c.points) m.arcs) ≤ 1
  vertex_once a k b n =
      let e = among_edges 0 m.arcs a k in
      subst (λ ps. count_by (same_point b) ps ≤ 1) (points_are 0 m.arcs)
      (stands_at (arc_edges 0 m.arcs) (sound_points_stand_once (arc_edges 0 m.arcs) sound) e.0 e.1 b (subst (λ ps. Among b (inner_points ps)) (sym e.2) n))
