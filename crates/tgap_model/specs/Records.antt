-- Refinement records: how a slice is led back to the slice one step before it.
-- From: Meijers (2011), where a coarse slice is sent first and is then refined step by step. The records are this project's.
use Rattle.std.specs.Prelude.{ℕ, zero, suc, ◌+◌, ◌-◌, Bool, true, false, ◌&&◌, ◌||◌, not, nat_le, nat_lt, ◌==◌, List, [], ◌∷◌, ◌++◌, map, flat_map, filter, find, take, drop, reverse, length, insert, slice_index_or, fold, Option, Some, None, if◌then◌else◌}
use Rattle.std.specs.List.{list_all, list_any}
use Rattle.lemmas.specs.Sorting.{insert_by, sort_by, is_sorted_by}
use Rattle.tgap_model.specs.declared.geometry.Point.{Point}
use Rattle.tgap_model.specs.declared.slice.Edge.{Edge}
use Rattle.tgap_model.specs.declared.slice.FaceRow.{FaceRow}
use Rattle.tgap_model.specs.declared.slice.Slice.{Slice}
use Rattle.tgap_model.specs.declared.slice.Removal.{Removal}
use Rattle.tgap_model.specs.declared.record.Put.{Put}
use Rattle.tgap_model.specs.declared.record.Piece.{Piece}
use Rattle.tgap_model.specs.declared.record.Mend.{Mend}
use Rattle.tgap_model.specs.declared.record.StepRecord.{StepRecord}
use Rattle.tgap_model.specs.declared.record.Packet.{Packet}
use Rattle.tgap_model.specs.Base.{same_point}
use Rattle.tgap_model.specs.History.{class_of}
use Rattle.tgap_model.specs.Merged.{MergedMap, step_number, all_classes}
use Rattle.tgap_model.specs.Chains.{Chain, Link, chain_points, key, chains_at}
use Rattle.tgap_model.specs.Slice.{left_of, right_of}
use Rattle.tgap_model.specs.Removals.{edges_of, edge_of, has_side, is_removed, removals_to, without}

-- the edge has one of the two faces on one side, and the other on the other side
abbrev pub is_edge_between : ℕ → ℕ → Edge → Bool
is_edge_between f g e = ((e.left == f) && (e.right == g)) || ((e.left == g) && (e.right == f))

-- ---- the record of a step, from the chains and removals before it and after it

-- the vertices that come back, with their places; i is the place of the first of these points
abbrev pub puts_from : List Removal → ℕ → List Point → List Put
puts_from now i [] = []
puts_from now i (p ∷ points) =
    (if is_removed now p then record { at = i; point = p } ∷ [] else []) ++ puts_from now (i + 1) points

-- the chain of these that holds the arc
abbrev pub chain_of : List Chain → ℕ → Chain
chain_of chains i = elim (find (λ c. list_any (λ d. d.arc == i) c) chains) [ None ↦ [] | Some c ↦ c ]

-- the chain holds this arc in its other direction
abbrev pub holds_turned : ℕ → Chain → Bool
holds_turned i c = list_any (λ d. (d.arc == i) && d.turned) c

-- a run of links in front of other runs: it is one with the first of them where both are of one chain
abbrev pub in_front : List Chain → Link → List Chain → List Chain
in_front finer d [] = (d ∷ []) ∷ []
in_front finer d ([] ∷ runs) = (d ∷ []) ∷ runs
in_front finer d ((e ∷ run) ∷ runs) =
    if key (chain_of finer d.arc) == key (chain_of finer e.arc) then (d ∷ e ∷ run) ∷ runs else (d ∷ []) ∷ (e ∷ run) ∷ runs

-- a chain cut into the runs that are chains of the finer slice
abbrev pub runs : List Chain → Chain → List Chain
runs finer [] = []
runs finer (d ∷ chain) = in_front finer d (runs finer chain)

-- The piece of a run whose first point is at place `first`: the face on the new face's side before the step, and how the finer
-- chain runs.
abbrev pub piece_of : MergedMap → ℕ → Bool → List Chain → List Removal → ℕ → Link → Chain → Piece
piece_of h j at_left finer before first d run = record {
  key = key (chain_of finer d.arc);
  last = first + (length (without before (chain_points h.base.arcs run)) - 1);
  side = if at_left then left_of h (j - 1) d else right_of h (j - 1) d;
  turned = if d.turned then not (holds_turned d.arc (chain_of finer d.arc)) else holds_turned d.arc (chain_of finer d.arc);
}

-- the pieces of these runs, where the first point of the first is at place `first`
abbrev pub pieces_from : MergedMap → ℕ → Bool → List Chain → List Removal → ℕ → List Chain → List Piece
pieces_from h j at_left finer before first [] = []
pieces_from h j at_left finer before first ([] ∷ more) = pieces_from h j at_left finer before first more
pieces_from h j at_left finer before first ((d ∷ run) ∷ more) =
    let p = piece_of h j at_left finer before first d (d ∷ run) in p ∷ pieces_from h j at_left finer before p.last more

-- the mend is needed: it puts a point in, or cuts the edge, or gives a piece to the loser
abbrev pub is_needed : ℕ → Mend → Bool
is_needed loser m =
    nat_lt 0 (length m.puts) || nat_lt 1 (length m.pieces) || list_any (λ p. p.side == loser) m.pieces

-- The mend of an edge of step j, where it borders the new face. The places are those in the edge's points before the step's
-- own removals.
abbrev pub mend_of : MergedMap → ℕ → List Chain → List Removal → List Removal → Chain → List Mend
mend_of h j finer before now c =
    let e = edge_of h j before c in
    let m : Mend = record {
      key = e.key;
      puts = puts_from now 0 e.points;
      pieces = pieces_from h j (e.left == (step_number h j).made) finer before 0 (runs finer c);
    } in
    if has_side (step_number h j).made e && is_needed (step_number h j).loser m then m ∷ [] else []

-- The record by which step j is undone: it makes of the slice at j that of the step before. It is meant for j from 1 to the
-- last step.
abbrev pub step_record : MergedMap → ℕ → StepRecord
step_record h j =
    let s = step_number h j in
    let before = removals_to h (j - 1) in
    let finer = chains_at h (j - 1) in
    let now = filter (λ r. r.step == j) (removals_to h j) in
    record {
      step = j;
      loser = s.loser;
      loser_class = class_of (all_classes h) s.loser;
      winner = s.winner;
      winner_class = class_of (all_classes h) s.winner;
      made = s.made;
      mends = flat_map (mend_of h j finer before now) (chains_at h j);
      ended = filter (is_edge_between s.loser s.winner) (edges_of h (j - 1) before finer);
    }

-- the map has this step
abbrev pub has_step : MergedMap → ℕ → Bool
has_step h j = nat_le 1 j && nat_le j (length h.steps)

-- the records of the n steps from `from` down, of those that the map has
abbrev pub records_down : MergedMap → ℕ → ℕ → List StepRecord
records_down h from zero = []
records_down h from (suc n) =
    if has_step h from then step_record h from ∷ records_down h (from - 1) n else records_down h (from - 1) n

-- the packet from one slice to a finer one
unfoldable pub packet_of : MergedMap → ℕ → ℕ → Packet
packet_of h from to = record { from = from; to = to; steps = records_down h from (from - to) }

-- ---- undoing a step

-- the points after the puts, one after the other
abbrev pub put_in : List Put → List Point → List Point
put_in [] points = points
put_in (p ∷ puts) points = put_in puts (insert points p.at p.point)

-- a face, or what takes the new face's place
abbrev pub in_place_of : ℕ → ℕ → ℕ → ℕ
in_place_of made side f = if f == made then side else f

-- the piece of an edge from place `first` on
abbrev pub cut_piece : StepRecord → Edge → List Point → ℕ → Piece → Edge
cut_piece r e points first p =
    let cut = take (p.last + 1 - first) (drop first points) in
    let left = in_place_of r.made p.side e.left in
    let right = in_place_of r.made p.side e.right in
    if p.turned then record { key = p.key; left = right; right = left; points = reverse cut }
    else record { key = p.key; left = left; right = right; points = cut }

abbrev pub cut_pieces : StepRecord → Edge → List Point → ℕ → List Piece → List Edge
cut_pieces r e points first [] = []
cut_pieces r e points first (p ∷ pieces) = cut_piece r e points first p ∷ cut_pieces r e points p.last pieces

-- the mend of an edge, where it has one
abbrev pub mend_for : StepRecord → Edge → Option Mend
mend_for r e = find (λ m. m.key == e.key) r.mends

-- the edges that an edge becomes
abbrev pub refined : StepRecord → Edge → List Edge
refined r e =
    elim (mend_for r e) [
      | None ↦ record e { left = in_place_of r.made r.winner e.left; right = in_place_of r.made r.winner e.right } ∷ []
      | Some m ↦ cut_pieces r e (put_in m.puts e.points) 0 m.pieces
    ]

abbrev pub edge_before : Edge → Edge → Bool
edge_before e f = nat_lt e.key f.key

abbrev pub face_before : FaceRow → FaceRow → Bool
face_before f g = nat_lt f.face g.face

-- The slice one step back: the new face becomes loser and winner, the mended edges their pieces, and the ended edges come back.
unfoldable pub undo : Slice → StepRecord → Slice
undo s r = record {
  step = s.step - 1;
  faces =
      insert_by face_before (record { face = r.loser; class = r.loser_class })
      (insert_by face_before (record { face = r.winner; class = r.winner_class }) (filter (λ f. not (f.face == r.made)) s.faces));
  edges = sort_by edge_before (flat_map (refined r) s.edges ++ r.ended);
}

-- the slice after record upon record is undone
abbrev pub replayed : Slice → Packet → Slice
replayed s packet = fold undo s packet.steps

-- ---- when a record fits a slice

-- 1. the step is the slice's, and is at least 1
abbrev pub fits_step : Slice → StepRecord → Bool
fits_step s r = (s.step == r.step) && nat_le 1 r.step

abbrev pub has_face : Slice → ℕ → Bool
has_face s f = list_any (λ r. r.face == f) s.faces

-- 2. the slice has the new face, with the winner's class, and neither loser nor winner; the three differ, and none is 0
abbrev pub fits_faces : Slice → StepRecord → Bool
fits_faces s r =
    list_any (λ f. (f.face == r.made) && (f.class == r.winner_class)) s.faces
    && not (has_face s r.loser) && not (has_face s r.winner)
    && not (r.loser == r.winner) && not (r.loser == r.made) && not (r.winner == r.made)
    && not (r.loser == 0) && not (r.winner == 0) && not (r.made == 0)

abbrev pub keys_ascend : List ℕ → Bool
keys_ascend keys = is_sorted_by nat_lt keys

abbrev pub edge_with : Slice → ℕ → Option Edge
edge_with s k = find (λ e. e.key == k) s.edges

-- the edge has the face on exactly one side
abbrev pub has_one_side : ℕ → Edge → Bool
has_one_side f e = ((e.left == f) && not (e.right == f)) || ((e.right == f) && not (e.left == f))

-- 3. the mends stand by ascending key, and each names an edge that has the new face on exactly one side
abbrev pub fits_mends : Slice → StepRecord → Bool
fits_mends s r =
    keys_ascend (map (λ m. m.key) r.mends)
    && list_all (λ m. elim (edge_with s m.key) [ None ↦ false | Some e ↦ has_one_side r.made e ]) r.mends

-- the two points beside a place differ from the point that is put there
abbrev pub differs_there : List Point → Put → Bool
differs_there points p =
    not (same_point (slice_index_or points (p.at - 1) p.point) p.point) && not (same_point (slice_index_or points p.at p.point) p.point)

-- each put, at its turn, is between two points of the edge, and differs from both
abbrev pub puts_fit : List Point → List Put → Bool
puts_fit points [] = true
puts_fit points (p ∷ puts) =
    nat_le 1 p.at && nat_lt p.at (length points) && differs_there points p && puts_fit (insert points p.at p.point) puts

-- 4. the places of a mend's puts ascend, and each put fits
abbrev pub fits_puts : Slice → StepRecord → Bool
fits_puts s r =
    list_all (λ m. is_sorted_by nat_lt (map (λ p. p.at) m.puts)
    && elim (edge_with s m.key) [ None ↦ true | Some e ↦ puts_fit e.points m.puts ]) r.mends

-- the last of these places is this one
abbrev pub ends_with_place : ℕ → List ℕ → Bool
ends_with_place n [] = false
ends_with_place n (k ∷ []) = k == n
ends_with_place n (k ∷ l ∷ places) = ends_with_place n (l ∷ places)

abbrev pub starts_after_zero : List ℕ → Bool
starts_after_zero [] = false
starts_after_zero (k ∷ places) = nat_le 1 k

-- 5. each mend has a piece; their last places ascend, begin at 1 or above, and end where the edge does when its puts are made;
-- no piece has another side than the loser or the winner
abbrev pub fits_pieces : Slice → StepRecord → Bool
fits_pieces s r =
    list_all (λ m. let places = map (λ p. p.last) m.pieces in
    is_sorted_by nat_lt places && starts_after_zero places
    && elim (edge_with s m.key) [ None ↦ true | Some e ↦ ends_with_place (length e.points + length m.puts - 1) places ]
    && list_all (λ p. (p.side == r.loser) || (p.side == r.winner)) m.pieces) r.mends

-- 6. the ended edges stand by ascending key, each between the loser and the winner
abbrev pub fits_ended : Slice → StepRecord → Bool
fits_ended s r = keys_ascend (map (λ e. e.key) r.ended) && list_all (is_edge_between r.loser r.winner) r.ended

-- 7. all keys differ after the change: where they ascend strictly
abbrev pub fits_keys : Slice → StepRecord → Bool
fits_keys s r = keys_ascend (map (λ e. e.key) (undo s r).edges)

-- the number of the first test that fails
abbrev pub first_failure : ℕ → List Bool → Option ℕ
first_failure i [] = None
first_failure i (test ∷ tests) = if test then first_failure (i + 1) tests else Some i

-- The least rule that a record breaks against a slice; it fits where it breaks none.
unfoldable pub broken_rule : Slice → StepRecord → Option ℕ
broken_rule s r =
    first_failure 1
    (fits_step s r ∷ fits_faces s r ∷ fits_mends s r ∷ fits_puts s r ∷ fits_pieces s r ∷ fits_ended s r ∷ fits_keys s r ∷ [])
