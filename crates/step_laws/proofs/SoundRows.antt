-- Sound edges by their rows of segments: keys differ, each row is proper, and two rows meet at their ends alone. Labels, places
-- among all edges and the order of the edges play no part.
use Rattle.std.proofs.Common.{◌≡◌, ◌≢◌, inl, inr, ℕ, zero, suc, ◌+◌, ◌≤◌, ◌==◌, true, not, List, [], ◌∷◌, length, All, AllPairs, refl, sym, ap, ◌∙◌, subst, eq-eqb, arith}
use Rattle.std.proofs.lemmas.Bool.{and_parts, and_from, eqb-true, not-true, not_from_false, false_from_ne_true, true≢false}
use Rattle.std.proofs.lemmas.List.Kept.{AllPairs-cons}
use Rattle.lemmas.proofs.Members.{AllPairs-nil, AllPairs-append, AllPairs-head, AllPairs-tail}
use Rattle.tgap_model.specs.declared.geometry.Point.{Point}
use Rattle.tgap_model.specs.declared.geometry.Seg.{Seg}
use Rattle.tgap_model.specs.declared.slice.Edge.{Edge}
use Rattle.tgap_model.specs.declared.segment.LabelledSegment.{LabelledSegment}
use Rattle.tgap_model.specs.Base.{same_point, no_repeat}
use Rattle.tgap_model.specs.Partition.{AreApart, follows, path_segments, edge_segments}
use Rattle.tgap_model.specs.Removals.{path}
use Rattle.tgap_model.proofs.Points.{same_point-true, same_point-from}
use Rattle.map_laws.proofs.ChainMembers.{Among}
use Rattle.map_laws.proofs.Lists.{all_members, members_all, among_flat}
use Rattle.slice_laws.proofs.Places.{At, at_among, among_at, at_only, pairs_from_places, among_flat_map}
use Rattle.slice_laws.proofs.Meetings.{IsEnd, MayMeet, apart_from_meets, members_meet}
use Rattle.removal_laws.specs.StandLaws.{AreSound}
use Rattle.step_laws.proofs.RowMeetings.{MeetOnly, IsEndAt, IsOwnMeeting, MeetAtEnds, IsProperRow, meet_widened, ends_turned}

-- Keys differ, each edge has a proper row of segments, and those of two edges meet at ends alone.
pub record HaveSoundRows (edges : List Edge) : Type 0 where
  pub keys : AllPairs (λ e f. e.key ≢ f.key) edges
  pub rows : (e : Edge) → Among e edges → IsProperRow (path e.points)
  pub apart : (e f : Edge) → Among e edges → Among f edges → e.key ≢ f.key → MeetAtEnds (path e.points) (path f.points)

-- ---- labelled segments of a row

-- s is the segment of the row at place n, as a segment of the edge with this key whose row begins at the given place
record IsLabelled (key first : ℕ) (gs : List Seg) (n : ℕ) (s : LabelledSegment) : Type 0 where
  at : At gs n s.segment
  arc : s.arc ≡ key
  place : s.place ≡ first + n
  starts : s.starts ≡ (s.place == 0)
  last : s.ends ≡ true → suc n ≡ length gs
  ends : suc n ≡ length gs → s.ends ≡ true

labelled_at : (key l r place : ℕ) (points : List Point) (n : ℕ) (s : LabelledSegment) → At (path_segments key l r place points) n s
    → IsLabelled key place (path points) n s
labelled_at key l r place [] n s a = absurd a
labelled_at key l r place (x ∷ []) n s a = absurd a
labelled_at key l r place (x ∷ y ∷ []) zero s a =
    subst (IsLabelled key place (path (x ∷ y ∷ [])) zero) a
    (record { at = refl; arc = refl; place = omega arith; starts = refl; last = λ e. refl; ends = λ e. refl })
labelled_at key l r place (x ∷ y ∷ []) (suc n) s a = absurd a
labelled_at key l r place (x ∷ y ∷ z ∷ points) zero s a =
    subst (IsLabelled key place (path (x ∷ y ∷ z ∷ points)) zero) a
    (record { at = refl; arc = refl; place = omega arith; starts = refl; last = λ e. absurd (true≢false (sym e)); ends = λ e. absurd (omega (arith, e)) })
labelled_at key l r place (x ∷ y ∷ z ∷ points) (suc n) s a =
    let f = labelled_at key l r (place + 1) (y ∷ z ∷ points) n s a in
    record {
      at = f.at;
      arc = f.arc;
      place = omega (arith, f.place);
      starts = f.starts;
      last = λ e. ap suc (f.last e);
      ends = λ e. f.ends (omega (arith, e));
    }

-- each segment of the row is labelled so
at_labelled : (key l r place : ℕ) (points : List Point) (n : ℕ) (g : Seg) → At (path points) n g
    → (s : LabelledSegment) × At (path_segments key l r place points) n s × (s.segment ≡ g)
at_labelled key l r place [] n g a = absurd a
at_labelled key l r place (x ∷ []) n g a = absurd a
at_labelled key l r place (x ∷ y ∷ points) zero g a = (_, refl, a)
at_labelled key l r place (x ∷ y ∷ points) (suc n) g a = at_labelled key l r (place + 1) (y ∷ points) n g a

-- the end of an edge at a labelled segment is that of the row
row_end : (key : ℕ) (gs : List Seg) (n : ℕ) (s : LabelledSegment) (v : Point) → IsLabelled key 0 gs n s → IsEnd s v → IsEndAt gs n s.segment v
row_end key gs n s v f (inl (e, x)) = inl (omega (arith, f.place, eqb-true s.place 0 (sym f.starts ∙ e)), x)
row_end key gs n s v f (inr (e, x)) = inr (f.last e, x)

edge_end : (key : ℕ) (gs : List Seg) (n : ℕ) (s : LabelledSegment) (v : Point) → IsLabelled key 0 gs n s → IsEndAt gs n s.segment v → IsEnd s v
edge_end key gs n s v f (inl (e, x)) = inl (f.starts ∙ eq-eqb s.place 0 (omega (arith, f.place, e)), x)
edge_end key gs n s v f (inr (e, x)) = inr (f.ends e, x)

module _ {key j : ℕ} {gs hs : List Seg} {n m : ℕ} {s t : LabelledSegment} (f : IsLabelled key 0 gs n s) (g : IsLabelled j 0 hs m t) where
  -- one that follows another is the next one, of an edge with the same key
  follows_next : follows s t ≡ true → (key ≡ j) × (m ≡ suc n)
  follows_next e =
      let parts = and_parts (s.arc == t.arc) (s.place + 1 == t.place) e in
      (sym f.arc ∙ eqb-true s.arc t.arc parts.0 ∙ g.arc, omega (arith, f.place, g.place, eqb-true (s.place + 1) t.place parts.1))

  next_follows : key ≡ j → m ≡ suc n → follows s t ≡ true
  next_follows same next =
      and_from (s.arc == t.arc) (s.place + 1 == t.place) (eq-eqb s.arc t.arc (f.arc ∙ same ∙ sym g.arc))
      (eq-eqb (s.place + 1) t.place (omega (arith, f.place, g.place, next)))

-- where two segments of one edge may meet the row has a meeting of its own, and the other way round
own_from_labels : (key : ℕ) (gs : List Seg) (n m : ℕ) (s t : LabelledSegment) (v : Point) → IsLabelled key 0 gs n s → IsLabelled key 0 gs m t
    → MayMeet s t v → IsOwnMeeting gs n m s.segment t.segment v
own_from_labels key gs n m s t v f g (inl (x, y)) = inl (row_end key gs n s v f x, row_end key gs m t v g y)
own_from_labels key gs n m s t v f g (inr (inl (e, x, y))) = inr (inl ((follows_next f g e).1, x, y))
own_from_labels key gs n m s t v f g (inr (inr (e, x, y))) = inr (inr ((follows_next g f e).1, x, y))

own_to_labels : (key : ℕ) (gs : List Seg) (n m : ℕ) (s t : LabelledSegment) (v : Point) → IsLabelled key 0 gs n s → IsLabelled key 0 gs m t
    → IsOwnMeeting gs n m s.segment t.segment v → MayMeet s t v
own_to_labels key gs n m s t v f g (inl (x, y)) = inl (edge_end key gs n s v f x, edge_end key gs m t v g y)
own_to_labels key gs n m s t v f g (inr (inl (e, x, y))) = inr (inl (next_follows f g refl e, x, y))
own_to_labels key gs n m s t v f g (inr (inr (e, x, y))) = inr (inr (next_follows g f refl e, x, y))

-- segments of two edges may meet at ends of both alone
ends_from_labels : (key j : ℕ) (gs hs : List Seg) (n m : ℕ) (s t : LabelledSegment) (v : Point) → key ≢ j → IsLabelled key 0 gs n s → IsLabelled j 0 hs m t
    → MayMeet s t v → IsEndAt gs n s.segment v × IsEndAt hs m t.segment v
ends_from_labels key j gs hs n m s t v other f g (inl (x, y)) = (row_end key gs n s v f x, row_end j hs m t v g y)
ends_from_labels key j gs hs n m s t v other f g (inr (inl (e, x, y))) = absurd (other (follows_next f g e).0)
ends_from_labels key j gs hs n m s t v other f g (inr (inr (e, x, y))) = absurd (other (sym (follows_next g f e).0))

-- ---- rows of points

-- what a row of points without repetitions says of its segments
steps_differ : (points : List Point) → no_repeat points ≡ true → (n : ℕ) (g : Seg) → At (path points) n g → g.a ≢ g.b
steps_differ [] h n g a e = absurd a
steps_differ (x ∷ []) h n g a e = absurd a
steps_differ (x ∷ y ∷ points) h zero g a e =
    let parts = and_parts (not (same_point x y)) (no_repeat (y ∷ points)) h in
    true≢false (sym (same_point-from x y (ap (λ (s : Seg). s.a) a ∙ e ∙ sym (ap (λ (s : Seg). s.b) a))) ∙ not-true (same_point x y) parts.0)
steps_differ (x ∷ y ∷ points) h (suc n) g a e =
    steps_differ (y ∷ points) (and_parts (not (same_point x y)) (no_repeat (y ∷ points)) h).1 n g a e

-- and the other way round
no_repeat_from : (points : List Point) → ((n : ℕ) (g : Seg) → At (path points) n g → g.a ≢ g.b) → no_repeat points ≡ true
no_repeat_from [] h = refl
no_repeat_from (x ∷ []) h = refl
no_repeat_from (x ∷ y ∷ points) h =
    and_from (not (same_point x y)) (no_repeat (y ∷ points))
    (not_from_false (same_point x y) (false_from_ne_true (same_point x y) (λ e. h zero (record { a = x; b = y }) refl (same_point-true x y e))))
    (no_repeat_from (y ∷ points) (λ n g a. h (suc n) g a))

path_length : (p : Point) (points : List Point) → length (path (p ∷ points)) ≡ length points
path_length p [] = refl
path_length p (q ∷ points) = ap suc (path_length q points)

-- a row of two points has a segment
has_segment : (points : List Point) → 2 ≤ length points → 1 ≤ length (path points)
has_segment [] h = absurd (omega (arith, h))
has_segment (p ∷ points) h = omega (arith, h, path_length p points)

-- and a row with a segment has two points
two_points : (points : List Point) → 1 ≤ length (path points) → 2 ≤ length points
two_points [] h = absurd (omega (arith, h))
two_points (p ∷ points) h = omega (arith, h, path_length p points)

-- ---- from sound edges

-- the segments of an edge
abbrev segments_of : Edge → List LabelledSegment
segments_of e = path_segments e.key e.left e.right 0 e.points

module _ (edges : List Edge) (sound : AreSound edges) where
  -- different segments meet where they may
  segments_meet : (e f : Edge) → Among e edges → Among f edges → (s t : LabelledSegment) → Among s (segments_of e) → Among t (segments_of f) → s ≢ t
      → MeetOnly s.segment t.segment (MayMeet s t)
  segments_meet e f m n s t k l other =
      let i = among_at (edge_segments edges) s (among_flat segments_of edges e s m k) in
      let j = among_at (edge_segments edges) t (among_flat segments_of edges f t n l) in
      members_meet (edge_segments edges) sound.apart s t i.0 j.0 i.1 j.1
      (λ same. other (at_only (edge_segments edges) j.0 s t (subst (λ o. At (edge_segments edges) o s) same i.1) j.1))

  sound_row : (e : Edge) → Among e edges → IsProperRow (path e.points)
  sound_row e m = record {
    long = has_segment e.points (members_all (λ (f : Edge). 2 ≤ length f.points) edges e sound.points m);
    steps = steps_differ e.points (members_all (λ (f : Edge). no_repeat f.points ≡ true) edges e sound.steps m);
    own = λ i j g h a b other.
        let s = at_labelled e.key e.left e.right 0 e.points i g a in
        let t = at_labelled e.key e.left e.right 0 e.points j h b in
        subst (λ w. MeetOnly w h (IsOwnMeeting (path e.points) i j w h)) s.2
        (subst (λ w. MeetOnly s.0.segment w (IsOwnMeeting (path e.points) i j s.0.segment w)) t.2 (by i j s.0 t.0 s.1 t.1 other));
  }
    where
      by : (i j : ℕ) (s t : LabelledSegment) → At (segments_of e) i s → At (segments_of e) j t → i ≢ j
          → MeetOnly s.segment t.segment (IsOwnMeeting (path e.points) i j s.segment t.segment)
      by i j s t a b other =
          let f = labelled_at e.key e.left e.right 0 e.points i s a in
          let g = labelled_at e.key e.left e.right 0 e.points j t b in
          meet_widened s.segment t.segment (MayMeet s t) (IsOwnMeeting (path e.points) i j s.segment t.segment)
          (λ v. own_from_labels e.key (path e.points) i j s t v f g)
          (segments_meet e e m m s t (at_among (segments_of e) i s a) (at_among (segments_of e) j t b)
          (λ same. other (omega (arith, f.place, g.place, ap (λ (w : LabelledSegment). w.place) same))))

  sound_ends : (e f : Edge) → Among e edges → Among f edges → e.key ≢ f.key → MeetAtEnds (path e.points) (path f.points)
  sound_ends e f m n differ i j g h a b =
      let s = at_labelled e.key e.left e.right 0 e.points i g a in
      let t = at_labelled f.key f.left f.right 0 f.points j h b in
      subst (λ w. MeetOnly w h (λ v. IsEndAt (path e.points) i w v × IsEndAt (path f.points) j h v)) s.2
      (subst (λ w. MeetOnly s.0.segment w (λ v. IsEndAt (path e.points) i s.0.segment v × IsEndAt (path f.points) j w v)) t.2 (by s.0 t.0 s.1 t.1))
    where
      by : (s t : LabelledSegment) → At (segments_of e) i s → At (segments_of f) j t
          → MeetOnly s.segment t.segment (λ v. IsEndAt (path e.points) i s.segment v × IsEndAt (path f.points) j t.segment v)
      by s t a b =
          let x = labelled_at e.key e.left e.right 0 e.points i s a in
          let y = labelled_at f.key f.left f.right 0 f.points j t b in
          meet_widened s.segment t.segment (MayMeet s t) (λ v. IsEndAt (path e.points) i s.segment v × IsEndAt (path f.points) j t.segment v)
          (λ v. ends_from_labels e.key f.key (path e.points) (path f.points) i j s t v differ x y)
          (segments_meet e f m n s t (at_among (segments_of e) i s a) (at_among (segments_of f) j t b)
          (λ same. differ (sym x.arc ∙ ap (λ (w : LabelledSegment). w.arc) same ∙ y.arc)))

  -- sound edges have sound rows
  pub sound_rows : HaveSoundRows edges
  sound_rows = record { keys = sound.keys; rows = sound_row; apart = sound_ends }

-- ---- and back

-- the segments of an edge with a proper row are apart
own_apart : (e : Edge) → IsProperRow (path e.points) → AllPairs AreApart (segments_of e)
own_apart e proper = pairs_from_places AreApart (segments_of e) (λ i j s t less a b.
    let f = labelled_at e.key e.left e.right 0 e.points i s a in
    let g = labelled_at e.key e.left e.right 0 e.points j t b in
    apart_from_meets s t
    (meet_widened s.segment t.segment (IsOwnMeeting (path e.points) i j s.segment t.segment) (MayMeet s t)
    (λ v. own_to_labels e.key (path e.points) i j s t v f g)
    (proper.own i j s.segment t.segment f.at g.at (λ same. absurd (omega (arith, same, less))))))

-- so are those of two edges that meet at ends alone
others_apart : (e f : Edge) → MeetAtEnds (path e.points) (path f.points) → (s t : LabelledSegment) → Among s (segments_of e) → Among t (segments_of f)
    → AreApart s t
others_apart e f meet s t k l =
    let i = among_at (segments_of e) s k in
    let j = among_at (segments_of f) t l in
    let x = labelled_at e.key e.left e.right 0 e.points i.0 s i.1 in
    let y = labelled_at f.key f.left f.right 0 f.points j.0 t j.1 in
    apart_from_meets s t
    (meet_widened s.segment t.segment (λ v. IsEndAt (path e.points) i.0 s.segment v × IsEndAt (path f.points) j.0 t.segment v) (MayMeet s t)
    (λ v ends. inl (edge_end e.key (path e.points) i.0 s v x ends.0, edge_end f.key (path f.points) j.0 t v y ends.1))
    (meet i.0 j.0 s.segment t.segment x.at y.at))

-- the first of some edges with sound rows, and the others
pub rest_rows : (e : Edge) (es : List Edge) → HaveSoundRows (e ∷ es) → HaveSoundRows es
rest_rows e es h = record {
  keys = AllPairs-tail (λ (f g : Edge). f.key ≢ g.key) e es h.keys;
  rows = λ f m. h.rows f (inr m);
  apart = λ f g m n. h.apart f g (inr m) (inr n);
}

pub key_differs : (e : Edge) (es : List Edge) → HaveSoundRows (e ∷ es) → (f : Edge) → Among f es → e.key ≢ f.key
key_differs e es h f m =
    members_all (λ (g : Edge). e.key ≢ g.key) es f (AllPairs-head (λ (x y : Edge). x.key ≢ y.key) e es h.keys) m

all_apart : (edges : List Edge) → HaveSoundRows edges → AllPairs AreApart (edge_segments edges)
all_apart [] h = AllPairs-nil AreApart
all_apart (e ∷ es) h =
    AllPairs-append AreApart (segments_of e) (edge_segments es) (own_apart e (h.rows e (inl refl))) (all_apart es (rest_rows e es h))
    (all_members (λ s. All (AreApart s) (edge_segments es)) (segments_of e) (λ s k. all_members (AreApart s) (edge_segments es) (λ t l.
    let f = among_flat_map segments_of es t l in
    others_apart e f.0 (h.apart e f.0 (inl refl) (inr f.1) (key_differs e es h f.0 f.1)) s t k f.2)))

-- edges with sound rows are sound
pub rows_sound : (edges : List Edge) → HaveSoundRows edges → AreSound edges
rows_sound edges h = record {
  keys = h.keys;
  points = all_members (λ (e : Edge). 2 ≤ length e.points) edges (λ e m. two_points e.points (h.rows e m).long);
  steps = all_members (λ (e : Edge). no_repeat e.points ≡ true) edges (λ e m. no_repeat_from e.points (h.rows e m).steps);
  apart = all_apart edges h;
}

-- one more edge
pub more_rows : (e : Edge) (es : List Edge) → HaveSoundRows es → ((f : Edge) → Among f es → e.key ≢ f.key) → IsProperRow (path e.points)
    → ((f : Edge) → Among f es → MeetAtEnds (path e.points) (path f.points)) → HaveSoundRows (e ∷ es)
more_rows e es h differ proper meet = record {
  keys = AllPairs-cons (λ (f g : Edge). f.key ≢ g.key) e es (all_members (λ (f : Edge). e.key ≢ f.key) es differ) h.keys;
  rows = rows;
  apart = apart;
}
  where
    rows : (f : Edge) → Among f (e ∷ es) → IsProperRow (path f.points)
    rows f (inl s) = subst (λ (g : Edge). IsProperRow (path g.points)) s proper
    rows f (inr m) = h.rows f m

    apart : (f g : Edge) → Among f (e ∷ es) → Among g (e ∷ es) → f.key ≢ g.key → MeetAtEnds (path f.points) (path g.points)
    apart f g (inl s) (inl t) other = absurd (other (ap (λ (x : Edge). x.key) (sym s ∙ t)))
    apart f g (inl s) (inr n) other = subst (λ (x : Edge). MeetAtEnds (path x.points) (path g.points)) s (meet g n)
    apart f g (inr m) (inl t) other =
        subst (λ (x : Edge). MeetAtEnds (path f.points) (path x.points)) t (ends_turned (path e.points) (path f.points) (meet f m))
    apart f g (inr m) (inr n) other = h.apart f g m n other
