-- The text of a slice, part after part, and the slice that its parts are.
use Rattle.std.proofs.Common.{◌≡◌, ◌≤◌, ◌+◌, ℕ, List, [], ◌∷◌, ◌++◌, map, length, codes, refl, sym, ap, subst, ◌∙◌, append_assoc}
use Rattle.std.proofs.lemmas.List.{length-map}
use Rattle.tgap_model.specs.declared.geometry.Point.{Point}
use Rattle.tgap_model.specs.declared.slice.Slice.{Slice}
use Rattle.tgap_model.specs.declared.slice.Edge.{Edge}
use Rattle.tgap_model.specs.Base.{BaseMap}
use Rattle.tgap_model.specs.History.{history_of}
use Rattle.tgap_model.specs.Merged.{merged}
use Rattle.tgap_model.specs.Chains.{chains_at}
use Rattle.tgap_model.specs.Removals.{edge_of, edges_of, removals_to}
use Rattle.tgap_model.specs.Slice.{slice}
use Rattle.line_forms.specs.Texts.{line, lines}
use Rattle.line_forms.specs.Words.{Row}
use Rattle.map_forms.specs.Listing.{count_words}
use Rattle.plain_io.proofs.Fields.{lines_put, line_after}
use Rattle.wire_text.specs.SliceTexts.{face_words, edge_words, slice_text}
use Rattle.face_tree.specs.Tree.{FaceHistory, face_history}
use Rattle.edge_forest.specs.Edges.{chain_of}
use Rattle.edge_forest.specs.Forest.{EdgeForest, last_step}
use Rattle.tgap_build.specs.Built.{AreGone, HasRemoved}
use Rattle.slice_read.specs.Reading.{live_rows}
use Rattle.slice_read.proofs.Slices.{is_slice}

-- its first line, its faces after the line of their number, its edges after theirs, and its last line
pub text_put : (o0 o1 o2 o3 o4 o5 : List ℕ) (s : Slice) (n : ℕ) → o0 ≡ [] → o1 ≡ o0 ++ line (count_words (codes "slice") s.step)
    → o2 ≡ o1 ++ lines (count_words (codes "faces") (length s.faces) ∷ map face_words s.faces)
    → n ≡ length s.edges → o3 ≡ o2 ++ line (count_words (codes "edges") n)
    → o4 ≡ o3 ++ lines (map edge_words s.edges) → o5 ≡ o4 ++ line (codes "end" ∷ []) → o5 ≡ slice_text s
text_put o0 o1 o2 o3 o4 o5 s n e0 e1 e2 many e3 e4 e5 =
    let first : Row = count_words (codes "slice") s.step in
    let faces : List Row = count_words (codes "faces") (length s.faces) ∷ map face_words s.faces in
    let count : Row = count_words (codes "edges") (length s.edges) in
    let edges : List Row = map edge_words s.edges in
    let end : Row = codes "end" ∷ [] in
    let f1 = line_after o0 o1 [] first e0 e1 in
    let f2 = lines_put o1 o2 (first ∷ []) faces f1 e2 in
    let f3 = line_after o2 o3 (first ∷ faces) count f2 (e3 ∙ ap (λ (i : ℕ). o2 ++ line (count_words (codes "edges") i)) many) in
    let f4 = lines_put o3 o4 ((first ∷ faces) ++ count ∷ []) edges f3 e4 in
    let f5 = line_after o4 o5 (((first ∷ faces) ++ count ∷ []) ++ edges) end f4 e5 in
    f5 ∙ ap (λ (rows : List Row). lines (rows ++ end ∷ [])) (append_assoc (first ∷ faces) (count ∷ []) edges)

-- the edges of the forest that are there after k steps
abbrev pub edges_left : EdgeForest → ℕ → List ℕ → List Edge
edges_left f k ids = edges_of (merged f.base) k (removals_to (merged f.base) k) (map (chain_of f.edges) ids)

-- the live faces and these edges are the slice
pub slice_is : (f : EdgeForest) (m : BaseMap) (t : FaceHistory) (k : ℕ) (ids : List ℕ) → f.base ≡ m → t ≡ face_history (merged m)
    → map (chain_of f.edges) ids ≡ chains_at (merged f.base) k
    → record { step = k; faces = live_rows t k (t.faces + k); edges = edges_left f k ids } ≡ slice m k
slice_is f m t k ids same history chains =
    is_slice m t history k (live_rows t k (t.faces + k)) (edges_left f k ids) refl
    (ap (edges_of (merged f.base) k (removals_to (merged f.base) k)) chains
    ∙ ap (λ (b : BaseMap). edges_of (merged b) k (removals_to (merged b) k) (chains_at (merged b) k)) same)

-- there is one for each number
pub count_left : (f : EdgeForest) (k : ℕ) (ids : List ℕ) → length ids ≡ length (edges_left f k ids)
count_left f k ids =
    sym (length-map (map (chain_of f.edges) ids) (edge_of (merged f.base) k (removals_to (merged f.base) k)) ∙ length-map ids (chain_of f.edges))

-- the vertices that are removed by then are those that the forest has left out
pub gone_by : (f : EdgeForest) (m : BaseMap) (k : ℕ) → f.base ≡ m → k ≤ length (history_of m) → HasRemoved f (last_step f)
    → AreGone f k (removals_to (merged f.base) k)
gone_by f m k same within removed = removed.by_then k (subst (λ (b : BaseMap). k ≤ length (history_of b)) (sym same) within)

-- an edge of these parts
pub same_edge : (key left right : ℕ) (points : List Point) (e : Edge) → key ≡ e.key → left ≡ e.left → right ≡ e.right → points ≡ e.points
    → record { key = key; left = left; right = right; points = points } ≡ e
same_edge key left right points e a b c d = rw (a, b, c, d) refl
