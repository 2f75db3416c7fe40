-- The segments of a slice and those of the base map whose labels differ are the same, some of them turned round.
use Rattle.std.proofs.Common.{◌≡◌, ◌≢◌, ◌⊎◌, inl, inr, ℕ, ◌+◌, Bool, true, false, not, cond, List, [], reverse, length, take, refl, sym, ap, ap₂, ◌∙◌, subst, ne_eqb, None, arith}
use Rattle.std.specs.Prelude.{flat_map}
use Rattle.tgap_model.specs.declared.geometry.Point.{Point}
use Rattle.tgap_model.specs.declared.segment.LabelledSegment.{LabelledSegment}
use Rattle.tgap_model.specs.Base.{BaseMap, is_base}
use Rattle.tgap_model.specs.Partition.{base_segments, node_fault}
use Rattle.tgap_model.specs.Merged.{merged, label_at, is_border}
use Rattle.tgap_model.specs.Removals.{edge_of}
use Rattle.tgap_model.specs.Chains.{Link, Chain, arc_number, key, are_chains}
use Rattle.tgap_model.specs.Slice.{left_of, right_of}
use Rattle.map_laws.proofs.ChainMembers.{Among}
use Rattle.slice_laws.proofs.NodeLinks.{numbers_lead_all}
use Rattle.slice_laws.proofs.Coverage.{border_in_chain}
use Rattle.slice_laws.proofs.EvenSides.{border_faces, chains_faces}
use Rattle.slice_laws.proofs.Paths.{flip}
use Rattle.slice_laws.proofs.Places.{At, at_among, at_only, among_at, among_in_reverse}
use Rattle.slice_laws.proofs.Blocks.{of_row, block_among, among_block}
use Rattle.slice_laws.proofs.Pieces.{link_segments, Piece, piece, block, pieces_of, pieces}
use Rattle.slice_laws.proofs.ChainPlaces.{StandsAt, link_of, base_of, known_of}
use Rattle.slice_laws.proofs.SliceSegments.{edge_row, at_rows, rows_at, flat_map_at, slice_segments, IsShownAt}
use Rattle.map_laws.proofs.Lists.{members_all, among_map, among_flat}
use Rattle.slice_laws.proofs.EdgeSums.{all_segments}

-- a segment with other labels, in its direction or turned round
abbrev pub IsMirror : (ℕ → ℕ) → LabelledSegment → LabelledSegment → Type 0
IsMirror g b s =
    ((s.segment ≡ b.segment) × (s.left ≡ g b.left) × (s.right ≡ g b.right))
    ⊎ ((s.segment ≡ flip b.segment) × (s.left ≡ g b.right) × (s.right ≡ g b.left))

module _ (m : BaseMap) (base : is_base m ≡ true) (nodes : (v : Point) → node_fault (base_segments m) v ≡ None) (k : ℕ) (cs : List Chain)
    (t : are_chains (merged m) k cs ≡ true) where
  -- a segment of the slice is the segment of its piece, with the labels, turned round where the link is
  pub shown_labels : (n : ℕ) (s : LabelledSegment) → (x : IsShownAt m base k cs t n s)
      → (s.left ≡ label_at (merged m) k (cond x.p.link.turned x.p.base.right x.p.base.left)) × (s.right ≡ label_at (merged m) k (cond x.p.link.turned x.p.base.left x.p.base.right))
  shown_labels n s x =
      let keeps = chains_faces m base nodes k cs t [] x.c (at_among cs x.i x.c x.at.stands.chain) in
      let link = link_of m base k cs t x.at.stands in
      let row = of_row _ _ _ 0 _ x.p.base (base_of m base k cs t x.at.stands) in (
        x.left ∙ sym (members_all (λ d. left_of (merged m) k d ≡ (edge_of (merged m) k [] x.c).left) x.c x.p.link keeps.left link)
            ∙ ap₂ (λ (l r : ℕ). label_at (merged m) k (cond x.p.link.turned r l)) (sym row.left) (sym row.right),
        x.right ∙ sym (members_all (λ d. right_of (merged m) k d ≡ (edge_of (merged m) k [] x.c).right) x.c x.p.link keeps.right link)
            ∙ ap₂ (λ (l r : ℕ). label_at (merged m) k (cond x.p.link.turned l r)) (sym row.left) (sym row.right),
      )

  pub shown_mirror : (n : ℕ) (s : LabelledSegment) → (x : IsShownAt m base k cs t n s) → IsMirror (label_at (merged m) k) x.p.base s
  shown_mirror n s x = let labels = shown_labels n s x in by x.p.link.turned x.at.shows.segment labels.0 labels.1
    where
      by : (b : Bool) → s.segment ≡ cond b (flip x.p.base.segment) x.p.base.segment
          → s.left ≡ label_at (merged m) k (cond b x.p.base.right x.p.base.left)
          → s.right ≡ label_at (merged m) k (cond b x.p.base.left x.p.base.right) → IsMirror (label_at (merged m) k) x.p.base s
      by true g l r = inr (g, l, r)
      by false g l r = inl (g, l, r)

  -- which is a segment of the base map
  pub piece_among : {i n : ℕ} {c : Chain} {p : Piece} → StandsAt m base k cs t i n c p → Among p.base (base_segments m)
  piece_among {p = p} s =
      let border = (known_of m base k cs t s).border p.link (link_of m base k cs t s) in
      block_among (arc_number m.arcs) 0 m.arcs (numbers_lead_all m.arcs) p.link.arc (omega arith) (omega (arith, border.within)) p.base
      (base_of m base k cs t s)

  -- the faces of an edge differ
  pub faces_differ : (n : ℕ) (s : LabelledSegment) → IsShownAt m base k cs t n s → s.left ≢ s.right
  faces_differ n s x e =
      let keeps = chains_faces m base nodes k cs t [] x.c (at_among cs x.i x.c x.at.stands.chain) in
      let link = link_of m base k cs t x.at.stands in
      border_faces (merged m) k x.p.link ((known_of m base k cs t x.at.stands).border x.p.link link).border
      (members_all (λ d. left_of (merged m) k d ≡ (edge_of (merged m) k [] x.c).left) x.c x.p.link keeps.left link ∙ sym x.left ∙ e ∙ x.right
      ∙ sym (members_all (λ d. right_of (merged m) k d ≡ (edge_of (merged m) k [] x.c).right) x.c x.p.link keeps.right link))

  -- so the labels of the segment that it shows do
  pub labels_differ : (n : ℕ) (s : LabelledSegment) → (x : IsShownAt m base k cs t n s)
      → label_at (merged m) k x.p.base.left ≢ label_at (merged m) k x.p.base.right
  labels_differ n s x e = elim (shown_mirror n s x) [
    | inl (g, l, r) ↦ faces_differ n s x (l ∙ e ∙ sym r)
    | inr (g, l, r) ↦ faces_differ n s x (l ∙ sym e ∙ sym r)
  ]

  -- each piece is shown
  pub piece_shown : (i o : ℕ) (c : Chain) (p : Piece) → StandsAt m base k cs t i o c p
      → (n : ℕ) × (s : LabelledSegment) × At (all_segments m k cs) n s × (x : IsShownAt m base k cs t n s) × (x.p.base ≡ p.base)
  piece_shown i o c p st =
      let s = rows_at (key c) (edge_of (merged m) k [] c).left (edge_of (merged m) k [] c).right 0 (pieces m c) o p st.piece in
      let row = at_rows (key c) (edge_of (merged m) k [] c).left (edge_of (merged m) k [] c).right 0 (pieces m c) o s.0 s.1 in
      let n : ℕ = length (flat_map (edge_row m k) (take i cs)) + o in
      let all : At (flat_map (edge_row m k) cs) n s.0 = flat_map_at (edge_row m k) cs i c o s.0 st.chain s.1 in
      let at : At (all_segments m k cs) n s.0 = subst (λ ss. At ss n s.0) (sym (slice_segments m base k cs t)) all in
      let x : IsShownAt m base k cs t n s.0 = record {
        i = i;
        o = o;
        c = c;
        p = row.0;
        at = record {
          stands = record { chain = st.chain; piece = row.1.at };
          shows =
              record { segment = row.1.segment; arc = row.1.arc; place = omega (arith, row.1.place); starts = row.1.starts; ends = row.1.ends; last = row.1.last };
        };
        left = row.1.left;
        right = row.1.right;
        sum = refl;
      } in
      (n, s.0, at, x, ap (λ (q : Piece). q.base) (at_only (pieces m c) o row.0 p row.1.at st.piece))

  -- each segment of the base map whose labels differ is a piece
  pub base_piece : (b : LabelledSegment) → Among b (base_segments m) → label_at (merged m) k b.left ≢ label_at (merged m) k b.right
      → (i : ℕ) × (o : ℕ) × (c : Chain) × (p : Piece) × StandsAt m base k cs t i o c p × (p.base ≡ b)
  base_piece b member differ =
      let g : ℕ → ℕ = label_at (merged m) k in
      let j = among_block (arc_number m.arcs) 0 m.arcs (numbers_lead_all m.arcs) b member in
      let row = of_row _ _ _ 0 _ b j.3 in
      let border : is_border (merged m) k (arc_number m.arcs j.0) ≡ true
      = ap not (ne_eqb _ _ (λ e. differ (ap g row.left ∙ e ∙ ap g (sym row.right)))) in
      let found = border_in_chain (merged m) k cs t j.0 (omega (arith, j.2)) border in
      by found.0 found.1 found.2 found.3 (subst (λ i. Among b (block m i)) (sym found.4) j.3)
    where
      turned : (x : Bool) (ss : List LabelledSegment) → Among b ss → Among b (cond x (reverse ss) ss)
      turned true ss n = among_in_reverse ss b n
      turned false ss n = n

      by : (c : Chain) → Among c cs → (d : Link) → Among d c → Among b (block m d.arc)
          → (i : ℕ) × (o : ℕ) × (c : Chain) × (p : Piece) × StandsAt m base k cs t i o c p × (p.base ≡ b)
      by c n d l in_block =
          let in_link = among_map (piece d) (link_segments m d) b (turned d.turned (block m d.arc) in_block) in
          let place = among_at (pieces m c) (piece d b) (among_flat (pieces_of m) c d (piece d b) l in_link) in
          let i = among_at cs c n in
          (i.0, place.0, c, piece d b, record { chain = i.1; piece = place.1 }, refl)

  -- so it is shown
  pub base_shown : (b : LabelledSegment) → Among b (base_segments m) → label_at (merged m) k b.left ≢ label_at (merged m) k b.right
      → (n : ℕ) × (s : LabelledSegment) × At (all_segments m k cs) n s × (x : IsShownAt m base k cs t n s) × (x.p.base ≡ b)
  base_shown b member differ =
      let p = base_piece b member differ in
      let s = piece_shown p.0 p.1 p.2 p.3 p.4 in
      (s.0, s.1, s.2, s.3, s.4 ∙ p.5)
