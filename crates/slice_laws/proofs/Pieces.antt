-- The segments of a chain, each as a segment of an arc seen in the direction of a link: each piece is followed by the next one of
-- its arc, or at the end of the arc by the first one of the next link.
use Rattle.std.proofs.Common.{◌≡◌, ◌⊎◌, inl, inr, ℕ, ◌+◌, nat_le, Bool, true, false, cond, List, [], ◌∷◌, ◌++◌, map, length, reverse, refl, sym, ap, ap₂, ◌∙◌, subst}
use Rattle.std.specs.Prelude.{flat_map}
use Rattle.std.proofs.lemmas.List.{map-append, append-nil}
use Rattle.std.proofs.lemmas.Simd.{map-map}
use Rattle.tgap_model.specs.declared.geometry.Point.{Point}
use Rattle.tgap_model.specs.declared.geometry.Seg.{Seg}
use Rattle.tgap_model.specs.declared.base.BaseArc.{BaseArc}
use Rattle.tgap_model.specs.declared.segment.LabelledSegment.{LabelledSegment}
use Rattle.tgap_model.specs.Base.{BaseMap}
use Rattle.tgap_model.specs.Partition.{path_segments, follows}
use Rattle.tgap_model.specs.Merged.{merged}
use Rattle.tgap_model.specs.Removals.{path}
use Rattle.tgap_model.specs.Chains.{Link, Chain, arc_number, link_points, link_start, link_end}
use Rattle.map_laws.proofs.ChainMembers.{Among, AreDistinct}
use Rattle.map_laws.proofs.ChainWalks.{IsRow, last_of}
use Rattle.map_laws.proofs.ChainEnds.{IsWayOn}
use Rattle.slice_laws.proofs.Paths.{flip, reverse_cons, path_reversed}
use Rattle.slice_laws.proofs.Places.{IsRowFrom, joined_rows, mapped_row, reversed_from, among_reverse, among_flat_map, distinct_reverse, distinct_map, distinct_flat_map}
use Rattle.slice_laws.proofs.Blocks.{IsNext, block_row, row_distinct}
use Rattle.map_laws.proofs.Lists.{map_among}

-- a segment of an arc as a link shows it
pub record Piece : Type 0 where
  pub link : Link
  pub base : LabelledSegment

abbrev pub piece : Link → LabelledSegment → Piece
piece d s = record { link = d; base = s }

-- as it is shown
abbrev pub shown : Piece → Seg
shown p = cond p.link.turned (flip p.base.segment) p.base.segment

-- it is the first of its link, or the last
abbrev pub IsFront : Piece → Type 0
IsFront p = cond p.link.turned p.base.ends p.base.starts ≡ true

abbrev pub IsBack : Piece → Type 0
IsBack p = cond p.link.turned p.base.starts p.base.ends ≡ true

-- it stands at the front of its link, with its first point at v, or at the back with its last point there
abbrev pub IsAtSide : BaseMap → Piece → Point → Type 0
IsAtSide m p v =
    (IsFront p × ((shown p).a ≡ v) × (link_start m.arcs p.link ≡ v)) ⊎ (IsBack p × ((shown p).b ≡ v) × (link_end m.arcs p.link ≡ v))

-- the segment of the second follows that of the first in the direction of a link
abbrev pub IsNextInLink : Piece → Piece → Type 0
IsNextInLink p q = cond p.link.turned (follows q.base p.base) (follows p.base q.base) ≡ true

-- the segments of an arc
abbrev pub block : BaseMap → ℕ → List LabelledSegment
block m i = path_segments i (arc_number m.arcs i).left (arc_number m.arcs i).right 0 (arc_number m.arcs i).points

-- the segments of a link's arc in the order of the link
abbrev pub link_segments : BaseMap → Link → List LabelledSegment
link_segments m d = cond d.turned (reverse (block m d.arc)) (block m d.arc)

-- the pieces of a link and those of a chain
abbrev pub pieces_of : BaseMap → Link → List Piece
pieces_of m d = map (piece d) (link_segments m d)

abbrev pub pieces : BaseMap → Chain → List Piece
pieces m c = flat_map (pieces_of m) c

-- the next piece: of the same link, or of its way on
abbrev pub IsNextPiece : BaseMap → ℕ → Piece → Piece → Type 0
IsNextPiece m k p q =
    ((p.link ≡ q.link) × IsNextInLink p q)
    ⊎ (IsWayOn (merged m) k p.link q.link × IsBack p × IsFront q)

-- a row of pieces from the front of a link to the back of another one
pub record ArePieces (m : BaseMap) (k : ℕ) (d e : Link) (ps : List Piece) : Type 0 where
  pub first : LabelledSegment
  pub last : LabelledSegment
  pub row : IsRowFrom (IsNextPiece m k) (piece d first) (piece e last) ps
  pub front : IsFront (piece d first)
  pub back : IsBack (piece e last)

module _ (m : BaseMap) (k : ℕ) where
  -- the pieces of one link
  link_pieces : (d : Link) → nat_le 2 (length (arc_number m.arcs d.arc).points) ≡ true → ArePieces m k d d (pieces_of m d)
  link_pieces d h =
      let a : BaseArc = arc_number m.arcs d.arc in
      by d.turned refl (block_row d.arc a.left a.right a.points h)
    where
      by : (t : Bool) → d.turned ≡ t
          → (first : LabelledSegment) × (last : LabelledSegment) × IsRowFrom IsNext first last (block m d.arc) × (first.starts ≡ true) × (last.ends ≡ true)
          → ArePieces m k d d (pieces_of m d)
      by true e (f, l, row, starts, ends) = record {
        first = l;
        last = f;
        row =
            subst
            (λ (b : Bool). IsRowFrom (IsNextPiece m k) (piece d l) (piece d f) (map (piece d) (cond b (reverse (block m d.arc)) (block m d.arc))))
            (sym e)
            (mapped_row (IsNextPiece m k) (piece d) (λ x y n. inl (refl, ap (λ (b : Bool). cond b (follows y x) (follows x y)) e ∙ n)) (reversed_from row));
        front = ap (λ (b : Bool). cond b l.ends l.starts) e ∙ ends;
        back = ap (λ (b : Bool). cond b f.starts f.ends) e ∙ starts;
      }
      by false e (f, l, row, starts, ends) = record {
        first = f;
        last = l;
        row =
            subst
            (λ (b : Bool). IsRowFrom (IsNextPiece m k) (piece d f) (piece d l) (map (piece d) (cond b (reverse (block m d.arc)) (block m d.arc))))
            (sym e)
            (mapped_row (IsNextPiece m k) (piece d) (λ x y n. inl (refl, ap (λ (b : Bool). cond b (follows y x) (follows x y)) e ∙ n)) row);
        front = ap (λ (b : Bool). cond b f.ends f.starts) e ∙ starts;
        back = ap (λ (b : Bool). cond b l.starts l.ends) e ∙ ends;
      }

  -- the pieces of a chain
  pub chain_pieces : (d : Link) (chain : Chain) → IsRow (IsWayOn (merged m) k) (d ∷ chain)
      → ((e : Link) → Among e (d ∷ chain) → nat_le 2 (length (arc_number m.arcs e.arc).points) ≡ true)
      → ArePieces m k d (last_of d chain) (pieces m (d ∷ chain))
  chain_pieces d [] r h = subst (ArePieces m k d d) (sym (append-nil (pieces_of m d))) (link_pieces d (h d (inl refl)))
  chain_pieces d (e ∷ chain) r h =
      let here = link_pieces d (h d (inl refl)) in
      let rest = chain_pieces e chain r.1 (λ x n. h x (inr n)) in
      record {
        first = here.first;
        last = rest.last;
        row = joined_rows here.row rest.row (inr (r.0, here.back, rest.front));
        front = here.front;
        back = rest.back;
      }

  -- a piece is of a link of the chain, and of that link's arc
  pub piece_from : (c : Chain) (p : Piece) → Among p (pieces m c) → Among p.link c × Among p.base (block m p.link.arc)
  piece_from c p n =
      let l = among_flat_map (pieces_of m) c p n in
      let s = map_among (piece l.0) (link_segments m l.0) p l.2 in
      let link : l.0 ≡ p.link = ap (λ (q : Piece). q.link) s.2 in
      let base : s.0 ≡ p.base = ap (λ (q : Piece). q.base) s.2 in (
        subst (λ x. Among x c) link l.1,
        subst (λ x. Among x (block m p.link.arc)) base
            (subst (λ (x : Link). Among s.0 (block m x.arc)) link (by l.0.turned (block m l.0.arc) s.0 s.1)),
      )
    where
      by : (t : Bool) (ss : List LabelledSegment) (s : LabelledSegment) → Among s (cond t (reverse ss) ss) → Among s ss
      by true ss s n = among_reverse ss s n
      by false ss s n = n

  -- no piece stands twice
  pub pieces_distinct : (c : Chain) → AreDistinct c → AreDistinct (pieces m c)
  pieces_distinct c d =
      distinct_flat_map (pieces_of m) (λ p. p.link) own c d
      (λ x n. distinct_map (piece x) (λ s t e. ap (λ (q : Piece). q.base) e) (link_segments m x) (by x x.turned))
    where
      own : (x : Link) (p : Piece) → Among p (pieces_of m x) → p.link ≡ x
      own x p n = let s = map_among (piece x) (link_segments m x) p n in sym (ap (λ (q : Piece). q.link) s.2)

      by : (x : Link) (t : Bool) → AreDistinct (cond t (reverse (block m x.arc)) (block m x.arc))
      by x true =
          distinct_reverse (block m x.arc)
          (row_distinct x.arc (arc_number m.arcs x.arc).left (arc_number m.arcs x.arc).right 0 (arc_number m.arcs x.arc).points)
      by x false = row_distinct x.arc (arc_number m.arcs x.arc).left (arc_number m.arcs x.arc).right 0 (arc_number m.arcs x.arc).points

-- ---- how they are shown

-- the segments of a row without their faces
row_path : (i l r place : ℕ) (points : List Point) → map (λ (s : LabelledSegment). s.segment) (path_segments i l r place points) ≡ path points
row_path i l r place [] = refl
row_path i l r place (a ∷ []) = refl
row_path i l r place (a ∷ b ∷ points) = ap (λ ss. record { a = a; b = b } ∷ ss) (row_path i l r (place + 1) (b ∷ points))

map_reverse : {A B : Type 0} (f : A → B) (xs : List A) → map f (reverse xs) ≡ reverse (map f xs)
map_reverse f [] = refl
map_reverse f (x ∷ xs) =
    ap (map f) (reverse_cons x xs) ∙ map-append f (reverse xs) (x ∷ []) ∙ ap (λ ys. ys ++ f x ∷ []) (map_reverse f xs)
    ∙ sym (reverse_cons (f x) (map f xs))

module _ (m : BaseMap) where
  shown_link : (d : Link) → map shown (pieces_of m d) ≡ path (link_points m.arcs d)
  shown_link d = map-map shown (piece d) (link_segments m d) ∙ by d.turned
    where
      a : BaseArc
      a = arc_number m.arcs d.arc

      forth : map (λ (s : LabelledSegment). s.segment) (block m d.arc) ≡ path (arc_number m.arcs d.arc).points
      forth = row_path d.arc (arc_number m.arcs d.arc).left (arc_number m.arcs d.arc).right 0 (arc_number m.arcs d.arc).points

      by : (t : Bool) → map (λ (s : LabelledSegment). cond t (flip s.segment) s.segment) (cond t (reverse (block m d.arc)) (block m d.arc))
          ≡ path (cond t (reverse (arc_number m.arcs d.arc).points) (arc_number m.arcs d.arc).points)
      by true =
          map_reverse (λ (s : LabelledSegment). flip s.segment) (block m d.arc)
          ∙ ap reverse (sym (map-map flip (λ (s : LabelledSegment). s.segment) (block m d.arc)) ∙ ap (map flip) forth)
          ∙ sym (path_reversed (arc_number m.arcs d.arc).points)
      by false = forth

  pub shown_chain : (c : Chain) → map shown (pieces m c) ≡ flat_map (λ d. path (link_points m.arcs d)) c
  shown_chain [] = refl
  shown_chain (d ∷ chain) = map-append shown (pieces_of m d) (pieces m chain) ∙ ap₂ (λ xs ys. xs ++ ys) (shown_link d) (shown_chain chain)
