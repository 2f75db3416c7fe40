-- A window that goes up from a point tells the face: what is asked of the edges of the slice, it is enough to ask of those in the window.
use Rattle.std.proofs.Common.{◌≡◌, true, false, ◌==◌, ℕ, List, filter, refl, sym, ap, ◌∙◌, true≢false}
use Rattle.std.proofs.lemmas.Bool.{false_from_ne_true}
use Rattle.tgap_model.specs.declared.geometry.Fraction.{Fraction}
use Rattle.tgap_model.specs.declared.geometry.Window.{Window}
use Rattle.tgap_model.specs.declared.segment.LabelledSegment.{LabelledSegment}
use Rattle.tgap_model.specs.declared.slice.Edge.{Edge}
use Rattle.tgap_model.specs.Base.{BaseMap, is_base}
use Rattle.tgap_model.specs.Partition.{edge_segments, path_segments}
use Rattle.tgap_model.specs.Segment.{is_on}
use Rattle.tgap_model.specs.Slice.{slice, meets_window, window_of}
use Rattle.map_laws.proofs.ChainMembers.{Among}
use Rattle.map_laws.proofs.Lists.{all_members, members_all, among_kept, among_flat}
use Rattle.record_laws.proofs.StepRuns.{among_from}
use Rattle.picture_laws.specs.FaceAt.{face_told, IsOff}
use Rattle.picture_laws.specs.PlaceLaws.{LowestEdgeTellsFaceBeside, GoesUpFrom, WindowTellsFace}
use Rattle.picture_laws.proofs.Ends.{slice_point}
use Rattle.picture_laws.proofs.Lowest.{below}
use Rattle.picture_laws.proofs.WindowEdges.{through_meets, window_has_lowest_edge}

-- a point that no edge of the window goes through is on no edge of the slice
off_slice : (m : BaseMap) → is_base m ≡ true → (k : ℕ) (area : Window) (p : Fraction) → GoesUpFrom area p
    → IsOff p (window_of area (slice m k)).edges → IsOff p (slice m k).edges
unfolding window_of
off_slice m base k area p up off = all_members (λ s. is_on p s.segment ≡ false) (edge_segments (slice m k).edges) (λ s n.
    let e = among_from segments (slice m k).edges s n in
    false_from_ne_true (is_on p s.segment) (λ on.
    let there = among_kept (meets_window area) (slice m k).edges e.0 e.1 (through_meets area p up e.0 (slice_point m base k e.0 e.1) s e.2 on) in
    true≢false (sym on ∙ members_all (λ s. is_on p s.segment ≡ false) (edge_segments (filter (meets_window area) (slice m k).edges)) s off
    (among_flat segments (filter (meets_window area) (slice m k).edges) e.0 s there e.2))))
  where
    segments : Edge → List LabelledSegment
    segments e = path_segments e.key e.left e.right 0 e.points

pub window_tells_face_by : LowestEdgeTellsFaceBeside → WindowTellsFace
window_tells_face_by tells m base planar k last area p up off q near f other =
    tells m base planar k last p up.rational (off_slice m base k area p up off) q near f other
    ∙ ap (λ o. below o == f) (sym (window_has_lowest_edge m base k area p up))
