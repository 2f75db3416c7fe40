-- A sweep over edges with labels removes what it removes of the same edges with faces.
use Rattle.std.proofs.Common.{◌≡◌, inl, inr, ℕ, ◌==◌, ℤ, Bool, true, false, cond, List, [], ◌∷◌, ◌++◌, map, refl, sym, ap, ap₂, ◌∙◌}
use Rattle.std.proofs.lemmas.List.{map-append}
use Rattle.tgap_model.specs.declared.geometry.Point.{Point}
use Rattle.tgap_model.specs.declared.geometry.Seg.{Seg}
use Rattle.tgap_model.specs.declared.slice.Edge.{Edge}
use Rattle.tgap_model.specs.Removals.{has_side, live_segments, path, sweep_points, sweep_edges, sweep, Swept}
use Rattle.map_laws.proofs.ChainMembers.{Among}
use Rattle.edge_forest.specs.declared.face_labels.FaceLabels.{FaceLabels}
use Rattle.tgap_build.specs.Table.{faced}

module _ (labels : FaceLabels) (ratio : ℕ) (area : ℤ) (label made : ℕ) where
  segments : (edges : List Edge) → live_segments (map (faced labels) edges) ≡ live_segments edges
  segments [] = refl
  segments (e ∷ edges) = ap (λ (ss : List Seg). path e.points ++ ss) (segments edges)

  swept_same : (before edges : List Edge) → ((e : Edge) → Among e edges → has_side label e ≡ has_side made (faced labels e))
      → sweep_edges ratio area label before edges ≡ sweep_edges ratio area made (map (faced labels) before) (map (faced labels) edges)
  swept_same before [] same = refl
  swept_same before (e ∷ edges) same =
      by (has_side label e) refl
      (λ x. swept_same (before ++ x ∷ []) edges (λ y m. same y (inr m)) ∙ ap (λ (bs : List Edge). sweep_edges ratio area made bs (map (faced labels) edges)) (map-append (faced labels) before (x ∷ [])))
      ∙ ap next (same e (inl refl))
    where
      here : List Seg → Swept
      here others = sweep_points ratio area others e.points

      next : Bool → List Point
      next b = elim b [
        | true ↦
            (let s = here (live_segments (map (faced labels) before) ++ live_segments (map (faced labels) edges)) in
            s.gone ++ sweep_edges ratio area made (map (faced labels) before ++ record (faced labels e) { points = s.kept } ∷ []) (map (faced labels) edges))
        | false ↦ sweep_edges ratio area made (map (faced labels) before ++ faced labels e ∷ []) (map (faced labels) edges)
      ]

      now : Bool → List Point
      now b = elim b [
        | true ↦
            (let s = here (live_segments before ++ live_segments edges) in
            s.gone ++ sweep_edges ratio area label (before ++ record e { points = s.kept } ∷ []) edges)
        | false ↦ sweep_edges ratio area label (before ++ e ∷ []) edges
      ]

      others : live_segments before ++ live_segments edges ≡ live_segments (map (faced labels) before) ++ live_segments (map (faced labels) edges)
      others = ap₂ (λ (xs ys : List Seg). xs ++ ys) (sym (segments before)) (sym (segments edges))

      by : (b : Bool) → has_side label e ≡ b
          → ((x : Edge) → sweep_edges ratio area label (before ++ x ∷ []) edges ≡ sweep_edges ratio area made (map (faced labels) before ++ faced labels x ∷ []) (map (faced labels) edges))
          → now b ≡ next b
      by true t rest =
          ap (λ (ps : List Point). (here (live_segments before ++ live_segments edges)).gone ++ ps)
          (rest (record e { points = (here (live_segments before ++ live_segments edges)).kept }))
          ∙ ap (λ (ss : List Seg). (here ss).gone ++ sweep_edges ratio area made (map (faced labels) before ++ record (faced labels e) { points = (here ss).kept } ∷ []) (map (faced labels) edges)) others
      by false t rest = rest e

pub label_sweep : (labels : FaceLabels) (ratio : ℕ) (area : ℤ) (label made : ℕ) (edges : List Edge) → ((e : Edge) → Among e edges → has_side label e ≡ has_side made (faced labels e))
    → sweep ratio area label edges ≡ sweep ratio area made (map (faced labels) edges)
unfolding sweep
label_sweep labels ratio area label made edges same = by (ratio == 0)
  where
    by : (b : Bool) → cond b [] (sweep_edges ratio area label [] edges) ≡ cond b [] (sweep_edges ratio area made [] (map (faced labels) edges))
    by true = refl
    by false = swept_same labels ratio area label made [] edges same
