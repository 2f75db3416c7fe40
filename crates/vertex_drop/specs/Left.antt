-- What a sweep left as it was, of edges in order of key.
use Rattle.std.specs.Prelude.{◌≡◌, ℕ, zero, suc, ◌+◌, ◌<◌, ◌==◌, nat_lt, Bool, true, ◌&&◌, ◌||◌, List, [], ◌∷◌, ◌++◌, take, drop, length, get_or, if◌then◌else◌}
use Rattle.std.specs.List.{flat_map, list_any}
use Rattle.tgap_model.specs.declared.geometry.Point.{Point}
use Rattle.tgap_model.specs.declared.geometry.Seg.{Seg}
use Rattle.tgap_model.specs.declared.slice.Edge.{Edge}
use Rattle.tgap_model.specs.Removals.{path, live_segments, has_side}
use Rattle.grid_index.specs.declared.live.SegmentPlace.{SegmentPlace}
use Rattle.vertex_drop.specs.declared.near.Stand.{Stand}

-- the edge borders the face, and its key is among these
abbrev pub is_swept : ℕ → List ℕ → Edge → Bool
is_swept made keys e = has_side made e && list_any (λ k. k == e.key) keys

-- the edges that a sweep goes over
abbrev pub swept_by : Stand → Edge → Bool
swept_by at = is_swept at.made at.keys.now

-- The place of the first segment of an edge that no sweep has come to: of the edge that is swept the one after the
-- vertex; of an edge before it that is swept too none, and of every other edge the first one.
abbrev pub first_left : Stand → Edge → ℕ
first_left at e = if e.key == at.key then at.place + 1 else (if nat_lt e.key at.key && swept_by at e then length e.points else 0)

-- the segments from there on
abbrev pub left_path : Stand → Edge → List Seg
left_path at e = path (drop (first_left at e) e.points)

abbrev pub left_segments : Stand → List Edge → List Seg
left_segments at edges = flat_map (left_path at) edges

-- the segments of an edge that is not swept, where those that pass the test are
abbrev pub unswept_path : (Edge → Bool) → Edge → List Seg
unswept_path swept e = if swept e then [] else path e.points

-- where edge number i is swept: the segments of the edges before that are not, and of all edges after it
abbrev pub other_segments : (Edge → Bool) → ℕ → List Edge → List Seg
other_segments swept i edges = flat_map (unswept_path swept) (take i edges) ++ live_segments (drop (i + 1) edges)

-- a test of the segment with this place in a row of points
abbrev pub passes_in : (Seg → Bool) → List Point → ℕ → Bool
passes_in test [] i = true
passes_in test (a ∷ []) i = true
passes_in test (a ∷ b ∷ points) zero = test (record { a = a; b = b })
passes_in test (a ∷ b ∷ points) (suc i) = passes_in test (b ∷ points) i

-- the segment of this place of an edge passes the test, if it is left
abbrev pub passes_on : (Seg → Bool) → Stand → Edge → ℕ → Bool
passes_on test at e i = nat_lt i (first_left at e) || passes_in test e.points i

-- so does the segment with this place in the edge with this key
abbrev pub passes_at : (Seg → Bool) → Stand → List Edge → SegmentPlace → Bool
passes_at test at [] p = true
passes_at test at (e ∷ edges) p = if e.key == p.key then passes_on test at e p.place else passes_at test at edges p

-- there is an edge with the key, and it has a segment with the place
abbrev pub IsPlaceIn : List Edge → SegmentPlace → Type 0
IsPlaceIn edges p = (j : ℕ) × (j < length edges) × ((d : Edge) → ((get_or edges j d).key ≡ p.key) × (p.place + 1 < length (get_or edges j d).points))
