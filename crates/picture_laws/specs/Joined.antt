-- What a client holds that has the windows of several areas: each edge once by its key, and each row once by its face.
use Rattle.std.specs.Prelude.{ℕ, Bool, not, List, [], ◌∷◌, ◌++◌, filter}
use Rattle.std.specs.List.{list_any}
use Rattle.lemmas.specs.Sorting.{sort_by}
use Rattle.tgap_model.specs.declared.slice.Edge.{Edge}
use Rattle.tgap_model.specs.declared.slice.Slice.{Slice}
use Rattle.tgap_model.specs.Removals.{has_side}
use Rattle.tgap_model.specs.Records.{edge_before, face_before, has_face}
use Rattle.tgap_model.specs.WindowRecords.{has_key}

-- a window with what another one has beside it: the edges whose key is new, and the rows whose face is
abbrev pub joined_with : Slice → Slice → Slice
joined_with s t = record {
  step = s.step;
  faces = sort_by face_before (s.faces ++ filter (λ f. not (has_face s f.face)) t.faces);
  edges = sort_by edge_before (s.edges ++ filter (λ e. not (has_key s.edges e.key)) t.edges);
}

-- windows of the slice after k steps, one joined with the others; without a window there is nothing
abbrev pub joined : ℕ → List Slice → Slice
joined k [] = record { step = k; faces = []; edges = [] }
joined k (s ∷ windows) = joined_with s (joined k windows)

-- the edges of a slice that pass a test, and the faces that stand beside one of them
abbrev pub part_of : (Edge → Bool) → Slice → Slice
part_of p s =
    let edges = filter p s.edges in
    record { step = s.step; faces = filter (λ r. list_any (has_side r.face) edges) s.faces; edges = edges }
