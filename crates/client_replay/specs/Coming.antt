-- The edges of the finer slice: those that stay, and those that come.
use Rattle.std.specs.Prelude.{ℕ, Bool, ◌&&◌, not, ◌==◌, List, [], ◌++◌, map, flat_map, filter, find, Some, None}
use Rattle.std.specs.List.{list_any}
use Rattle.lemmas.specs.Sorting.{insert_by}
use Rattle.tgap_model.specs.declared.slice.Edge.{Edge}
use Rattle.tgap_model.specs.declared.slice.FaceRow.{FaceRow}
use Rattle.tgap_model.specs.declared.slice.Slice.{Slice}
use Rattle.tgap_model.specs.declared.record.Mend.{Mend}
use Rattle.tgap_model.specs.declared.record.StepRecord.{StepRecord}
use Rattle.tgap_model.specs.Records.{put_in, cut_pieces, in_place_of, face_before}

-- the faces one step back
abbrev pub faces_before : List FaceRow → StepRecord → List FaceRow
faces_before faces r =
    insert_by face_before (record { face = r.loser; class = r.loser_class })
    (insert_by face_before (record { face = r.winner; class = r.winner_class }) (filter (λ f. not (f.face == r.made)) faces))

-- the pieces of an edge that has this mend
abbrev pub pieces_of : StepRecord → Edge → Mend → List Edge
pieces_of r e m = cut_pieces r e (put_in m.puts e.points) 0 m.pieces

-- the pieces of the edge that the mend names, or none where there is no such edge
abbrev pub mended : List Edge → StepRecord → Mend → List Edge
mended edges r m = elim (find (λ e. e.key == m.key) edges) [ None ↦ [] | Some e ↦ pieces_of r e m ]

-- the edges that come: the pieces of the mended ones, and the ended ones
unfoldable pub coming : Slice → StepRecord → List Edge
coming s r = flat_map (mended s.edges r) r.mends ++ r.ended

-- an edge that stays, where the winner takes the new face's place
abbrev pub lowered : StepRecord → Edge → Edge
lowered r e = record e { left = in_place_of r.made r.winner e.left; right = in_place_of r.made r.winner e.right }

-- the edges that stay: those that no mend names
abbrev pub staying : StepRecord → List Edge → List Edge
staying r edges = map (lowered r) (filter (λ e. not (list_any (λ m. m.key == e.key) r.mends)) edges)

-- an edge with this key stays
abbrev pub stays : Slice → StepRecord → ℕ → Bool
stays s r key = list_any (λ e. e.key == key) s.edges && not (list_any (λ m. m.key == key) r.mends)
