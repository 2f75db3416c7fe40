-- The windows of several areas, one joined with the others, are one part of the slice.
use Rattle.std.proofs.Common.{◌≡◌, inl, inr, ℕ, zero, suc, ◌+◌, ◌≤◌, Bool, true, false, ◌||◌, not, nat_lt, List, [], ◌∷◌, map, filter, length, get_or, All, refl, sym, ap, ap₂, ◌∙◌, arith}
use Rattle.std.specs.Prelude.{⊤}
use Rattle.std.specs.List.{list_any, range_with_len}
use Rattle.std.proofs.lemmas.Bool.{lt-ltb}
use Rattle.std.proofs.lemmas.List.Elements.{All-head, All-tail}
use Rattle.lemmas.specs.Sorting.{sort_by, is_sorted_by}
use Rattle.lemmas.proofs.Orders.{nat_lt_order}
use Rattle.lemmas.proofs.Sorting.{filter-is_sorted, map-is_sorted, sorted_cons}
use Rattle.tgap_model.specs.declared.geometry.Window.{Window}
use Rattle.tgap_model.specs.declared.slice.Edge.{Edge}
use Rattle.tgap_model.specs.declared.slice.FaceRow.{FaceRow}
use Rattle.tgap_model.specs.declared.slice.Slice.{Slice}
use Rattle.tgap_model.specs.Base.{BaseMap, is_base}
use Rattle.tgap_model.specs.Partition.{IsPartition, base_segments}
use Rattle.tgap_model.specs.History.{history_of}
use Rattle.tgap_model.specs.Merged.{MergedMap, merged, is_live, live_faces}
use Rattle.tgap_model.specs.Chains.{Chain, key, chains_at}
use Rattle.tgap_model.specs.Removals.{edge_of, has_side, removals_to}
use Rattle.tgap_model.specs.Slice.{face_row, slice_at, meets_window, window_of}
use Rattle.tgap_model.specs.Records.{edge_before, face_before}
use Rattle.tgap_model.specs.WindowRecords.{window_at}
use Rattle.map_laws.proofs.ChainLinks.{chains_sorted}
use Rattle.map_laws.proofs.ChainsExist.{chains_exist}
use Rattle.map_laws.proofs.Lists.{all_members, among_range}
use Rattle.window_laws.specs.WindowPacketLaws.{WindowPacketsLead}
use Rattle.window_laws.proofs.Filters.{filter_agree, filter_nothing}
use Rattle.picture_laws.specs.Joined.{joined_with, joined, part_of}
use Rattle.picture_laws.specs.JoinLaws.{Sent, refined_to, WindowsJoin, RefinedWindowsJoin}
use Rattle.picture_laws.proofs.JoinedParts.{parts_joined, any_of_either}

-- ---- the rows and the edges of a slice are in order

range_sorted : (a n : ℕ) → is_sorted_by nat_lt (range_with_len a n) ≡ true
range_sorted a zero = refl
range_sorted a (suc n) =
    sorted_cons nat_lt a (range_with_len (a + 1) n)
    (all_members (λ i. nat_lt a i ≡ true) (range_with_len (a + 1) n) (λ i o. let r = among_range (a + 1) n i o in lt-ltb a i (omega (arith, r.0))))
    (range_sorted (a + 1) n)

rows_sorted : (h : MergedMap) (k : ℕ) → is_sorted_by face_before (slice_at h k).faces ≡ true
rows_sorted h k =
    map-is_sorted (λ (f : ℕ). ⊤) nat_lt face_before (face_row h) (λ f g p q. refl) (live_faces h k) (all_members (λ (f : ℕ). ⊤) (live_faces h k) (λ f o. tt))
    ∙ filter-is_sorted nat_lt_order (is_live h k) (range_with_len 1 (length h.base.classes + k))
    (all_members (λ (f : ℕ). ⊤) (range_with_len 1 (length h.base.classes + k)) (λ f o. tt)) (range_sorted 1 (length h.base.classes + k))

edges_sorted : (h : MergedMap) (k : ℕ) → is_sorted_by edge_before (slice_at h k).edges ≡ true
edges_sorted h k =
    map-is_sorted (λ (c : Chain). ⊤) (λ c d. nat_lt (key c) (key d)) edge_before (edge_of h k (removals_to h k)) (λ c d p q. refl) (chains_at h k)
    (all_members (λ (c : Chain). ⊤) (chains_at h k) (λ c o. tt))
    ∙ chains_sorted h k (chains_at h k) (chains_exist h k)

-- ---- two parts, and then many

pub two_parts : (s : Slice) (p q : Edge → Bool) → is_sorted_by face_before s.faces ≡ true → is_sorted_by edge_before s.edges ≡ true
    → joined_with (part_of p s) (part_of q s) ≡ part_of (λ e. p e || q e) s
two_parts s p q rows edges =
    ap₂ (λ (fs : List FaceRow) (es : List Edge). record { step = s.step; faces = fs; edges = es })
    (parts_joined (λ (f : FaceRow). f.face) (beside p) (beside q) s.faces rows
    ∙ filter_agree (λ f. beside p f || beside q f) (beside (λ e. p e || q e)) s.faces (λ f n. any_of_either (has_side f.face) p q s.edges))
    (parts_joined (λ (e : Edge). e.key) p q s.edges edges)
  where
    beside : (Edge → Bool) → FaceRow → Bool
    beside t f = list_any (has_side f.face) (filter t s.edges)

no_part : (s : Slice) → record { step = s.step; faces = []; edges = [] } ≡ part_of (λ e. false) s
no_part s =
    ap₂ (λ (fs : List FaceRow) (es : List Edge). record { step = s.step; faces = fs; edges = es })
    (sym (filter_nothing (λ f. list_any (has_side f.face) (filter (λ e. false) s.edges)) s.faces
    (λ f n. ap (λ (es : List Edge). list_any (has_side f.face) es) (filter_nothing (λ e. false) s.edges (λ e o. refl)))))
    (sym (filter_nothing (λ e. false) s.edges (λ e o. refl)))

-- windows that are given one by one, each with what it shows
pub many_parts : {A : Type 0} (h : MergedMap) (k : ℕ) (window : A → Slice) (shows : A → Edge → Bool) (xs : List A)
    → All (λ x. window x ≡ part_of (shows x) (slice_at h k)) xs → joined k (map window xs) ≡ part_of (λ e. list_any (λ x. shows x e) xs) (slice_at h k)
many_parts h k window shows [] each = no_part (slice_at h k)
many_parts h k window shows (x ∷ xs) each =
    ap₂ joined_with (All-head (λ x. window x ≡ part_of (shows x) (slice_at h k)) x xs each)
    (many_parts h k window shows xs (All-tail (λ x. window x ≡ part_of (shows x) (slice_at h k)) x xs each))
    ∙ two_parts (slice_at h k) (shows x) (λ e. list_any (λ x. shows x e) xs) (rows_sorted h k) (edges_sorted h k)

window_shows : (h : MergedMap) (k : ℕ) (area : Window) → window_at h area k ≡ part_of (meets_window area) (slice_at h k)
unfolding window_of
window_shows h k area = refl

pub windows_join : WindowsJoin
windows_join h k areas =
    many_parts h k (λ area. window_at h area k) meets_window areas
    (all_members (λ area. window_at h area k ≡ part_of (meets_window area) (slice_at h k)) areas (λ area n. window_shows h k area))

pub refined_windows_join_by : WindowPacketsLead → RefinedWindowsJoin
refined_windows_join_by lead m base planar to sent within =
    many_parts (merged m) to (refined_to (merged m) to) (λ w. meets_window w.area) sent
    (λ i d l. lead m base planar (get_or sent i d).from to (within i d l).0 (within i d l).1 (get_or sent i d).area
    ∙ window_shows (merged m) to (get_or sent i d).area)
