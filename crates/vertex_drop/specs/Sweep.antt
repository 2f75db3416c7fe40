-- The sweep of edges, by the segments that were kept so far.
use Rattle.std.specs.Prelude.{◌≡◌, ℕ, ℤ, Bool, true, false, List, [], ◌∷◌, ◌++◌, drop, get_or}
use Rattle.tgap_model.specs.declared.geometry.Point.{Point}
use Rattle.tgap_model.specs.declared.geometry.Seg.{Seg}
use Rattle.tgap_model.specs.declared.slice.Edge.{Edge}
use Rattle.tgap_model.specs.Removals.{path, Swept, sweep_from, sweep_points, live_segments}
use Rattle.vertex_drop.specs.declared.removable.Rule.{Rule}
use Rattle.vertex_drop.specs.declared.near.Stand.{Stand}
use Rattle.vertex_drop.specs.Left.{swept_by, other_segments}

-- the sweep of a row of points, where these segments were kept before
abbrev pub sweep_after : ℕ → ℤ → List Seg → List Seg → List Point → Swept
sweep_after ratio area others kept [] = record { kept = []; gone = [] }
sweep_after ratio area others kept (a ∷ points) = sweep_from ratio area others kept a points

-- what is left and what is removed of edge number i, where the edges that pass the test are swept
abbrev pub swept_edge : Rule → (Edge → Bool) → List Edge → ℕ → Edge → List Seg → Swept
swept_edge rule swept edges i d kept = sweep_after rule.ratio rule.area (other_segments swept i edges) kept (get_or edges i d).points

-- Edge number i is swept: the segments that are left of it follow those kept before, and what is removed of it follows
-- what was removed before.
pub record IsEdgeSwept (rule : Rule) (swept : Edge → Bool) (edges : List Edge) (i : ℕ) (d : Edge) (kept all_kept : List Seg) (gone all_gone : List Point) : Type 0 where
  pub left : all_kept ≡ kept ++ path (swept_edge rule swept edges i d kept).kept
  pub removed : all_gone ≡ gone ++ (swept_edge rule swept edges i d kept).gone

-- where the sweep of a row of points stands: the segments that were kept and the points that were removed so far, the last
-- point that is kept, and the place of the first one that was not looked at
pub record Standing : Type 0 where
  pub kept : List Seg
  pub gone : List Point
  pub last : Point
  pub place : ℕ

-- what the sweep of the points from there on comes to
abbrev pub swept_from : Rule → List Seg → List Point → Standing → Swept
swept_from rule others points s = sweep_from rule.ratio rule.area others s.kept s.last (drop s.place points)

-- A sweep goes on from where it stands to where it stands later: what it keeps and removes in all is the same.
pub record GoesOn (rule : Rule) (others : List Seg) (points : List Point) (s t : Standing) : Type 0 where
  pub left : t.kept ++ path (swept_from rule others points t).kept ≡ s.kept ++ path (swept_from rule others points s).kept
  pub removed : t.gone ++ (swept_from rule others points t).gone ≡ s.gone ++ (swept_from rule others points s).gone

-- The sweep of edge number i goes on from where a sweep stands in it to a place: what was kept and removed, and the last point
-- that is kept, are told before and after.
abbrev pub GoesOnAt : Rule → Stand → List Edge → ℕ → Edge → List Seg → List Point → Point → List Seg → List Point → Point → ℕ → Type 0
GoesOnAt rule at edges i d kept gone a all_kept all_gone b place =
    GoesOn rule (other_segments (swept_by at) i edges) (get_or edges i d).points (record { kept = kept; gone = gone; last = a; place = at.place })
    (record { kept = all_kept; gone = all_gone; last = b; place = place })

-- what is removed of these edges where those that pass the test are swept, and `before` has the segments of the edges
-- before them
abbrev pub sweep_chosen : ℕ → ℤ → (Edge → Bool) → List Seg → List Edge → List Point
sweep_chosen ratio area swept before [] = []
sweep_chosen ratio area swept before (e ∷ edges) =
    elim (swept e) [
      | true ↦
          let s = sweep_points ratio area (before ++ live_segments edges) e.points in
          s.gone ++ sweep_chosen ratio area swept (before ++ path s.kept) edges
      | false ↦ sweep_chosen ratio area swept (before ++ path e.points) edges
    ]
