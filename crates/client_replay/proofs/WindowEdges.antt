-- The edges of a window one step back: those that stay, the pieces that meet the window, and those that come beside.
use Rattle.std.proofs.Common.{◌≡◌, ℕ, List, [], ◌∷◌, ◌++◌, filter, flat_map, get_or, Option, Some, None, refl, ap, ◌∙◌}
use Rattle.std.specs.Prelude.{Bool, ◌==◌, find}
use Rattle.std.proofs.lemmas.List.Elements.{filter-append}
use Rattle.lemmas.specs.Sorting.{sort_by}
use Rattle.tgap_model.specs.declared.geometry.Point.{Point}
use Rattle.tgap_model.specs.declared.geometry.Window.{Window}
use Rattle.tgap_model.specs.declared.slice.Edge.{Edge}
use Rattle.tgap_model.specs.declared.slice.Slice.{Slice}
use Rattle.tgap_model.specs.declared.record.Piece.{Piece}
use Rattle.tgap_model.specs.declared.record.Mend.{Mend}
use Rattle.tgap_model.specs.declared.record.StepRecord.{StepRecord}
use Rattle.tgap_model.specs.declared.window_record.WindowStep.{WindowStep}
use Rattle.tgap_model.specs.Slice.{meets_window}
use Rattle.tgap_model.specs.Records.{edge_before, mend_for, put_in, cut_piece, cut_pieces}
use Rattle.tgap_model.specs.WindowRecords.{whole_record, refined_in, edges_back}
use Rattle.client_replay.specs.Coming.{pieces_of, mended, lowered}
use Rattle.client_replay.specs.Windows.{mending_of, coming_in}
use Rattle.client_replay.proofs.Staying.{flat_map_agree, refined_by, mended_by}
use Rattle.client_replay.proofs.Seventh.{all_edges_by, coming_by}

-- the pieces that meet the window
abbrev pub cut_in : Window → StepRecord → Edge → Mend → List Edge
cut_in area r e m = filter (meets_window area) (pieces_of r e m)

-- the edges that come are those that each mend cuts so, and these
filter-flat_map : {A B : Type 0} (p : B → Bool) (f : A → List B) (xs : List A) → filter p (flat_map f xs) ≡ flat_map (λ x. filter p (f x)) xs
filter-flat_map p f [] = refl
filter-flat_map {A} {B} p f (x ∷ xs) = filter-append p (f x) (flat_map f xs) ∙ ap (λ (ys : List B). filter p (f x) ++ ys) (filter-flat_map p f xs)

mended_in : (area : Window) (r : StepRecord) (edges : List Edge) (m : Mend) → filter (meets_window area) (mended edges r m) ≡ mended_by r (cut_in area r) edges m
mended_in area r edges m = by (find (λ e. e.key == m.key) edges)
  where
    by : (o : Option Edge) → filter (meets_window area) (elim o [ None ↦ [] | Some e ↦ pieces_of r e m ]) ≡ elim o [ None ↦ [] | Some e ↦ cut_in area r e m ]
    by None = refl
    by (Some e) = refl

pub coming_is : (area : Window) (s : Slice) (r : StepRecord) (comes : List Edge) → coming_in area s r comes ≡ coming_by r (cut_in area r) s.edges comes
unfolding coming_in
coming_is area s r comes =
    ap (λ (zs : List Edge). zs ++ comes)
    (filter-flat_map (meets_window area) (mended s.edges r) r.mends
    ∙ flat_map_agree (λ m. filter (meets_window area) (mended s.edges r m)) (mended_by r (cut_in area r) s.edges) r.mends (λ k d l. mended_in area r s.edges (get_or r.mends k d)))

module _ (area : Window) (r : WindowStep) where
  -- the edges that come have no part in a cut
  cut_alike : (e : Edge) (points : List Point) (first : ℕ) (pieces : List Piece) → cut_pieces (whole_record r) e points first pieces ≡ cut_pieces (mending_of r) e points first pieces
  cut_alike e points first [] = refl
  cut_alike e points first (p ∷ pieces) = ap (λ (zs : List Edge). cut_piece (whole_record r) e points first p ∷ zs) (cut_alike e points p.last pieces)

  abbrev by_mend : Edge → Option Mend → List Edge
  by_mend e o = elim o [ None ↦ lowered (whole_record r) e ∷ [] | Some m ↦ pieces_of (whole_record r) e m ]

  -- of the edges that an edge becomes by a mend, those that meet the window
  abbrev pub kept_by : Option Mend → List Edge → List Edge
  kept_by o edges = elim o [ None ↦ edges | Some m ↦ filter (meets_window area) edges ]

  abbrev by_cut_in : Edge → Option Mend → List Edge
  by_cut_in e o = elim o [ None ↦ lowered (mending_of r) e ∷ [] | Some m ↦ cut_in area (mending_of r) e m ]

  pub refined_is : (e : Edge) → refined_in area r e ≡ refined_by (mending_of r) (cut_in area (mending_of r)) r.mends e
  refined_is e = by (mend_for (whole_record r) e)
    where
      by : (o : Option Mend) → kept_by o (by_mend e o) ≡ by_cut_in e o
      by None = refl
      by (Some m) = ap (filter (meets_window area)) (cut_alike e (put_in m.puts e.points) 0 m.pieces)

  pub edges_back_are : (s : Slice) → edges_back area s r ≡ sort_by edge_before (all_edges_by (mending_of r) (cut_in area (mending_of r)) s.edges r.comes)
  edges_back_are s =
      ap (λ (zs : List Edge). sort_by edge_before (zs ++ r.comes))
      (flat_map_agree (refined_in area r) (refined_by (mending_of r) (cut_in area (mending_of r)) r.mends) s.edges (λ k d l. refined_is (get_or s.edges k d)))
