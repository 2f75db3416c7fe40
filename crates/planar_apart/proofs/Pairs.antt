-- What the search for the least pair tells of the pairs.
use Rattle.std.proofs.Common.{◌≡◌, inl, inr, ℕ, zero, suc, ◌+◌, ◌<◌, true, List, [], ◌∷◌, length, get_or, Option, Some, None, AllPairs, refl, sym, ap, ◌∙◌, subst, arith}
use Rattle.std.specs.List.{list_all, slice_get}
use Rattle.std.proofs.lemmas.Bool.{true≢false}
use Rattle.std.proofs.lemmas.List.Sums.{AllPass-from_list_all}
use Rattle.std.proofs.lemmas.Option.{slice_get_within, slice_get-get_or, get_or_from_slice_get}
use Rattle.tgap_model.specs.declared.geometry.Fraction.{Fraction}
use Rattle.tgap_model.specs.declared.segment.LabelledSegment.{LabelledSegment}
use Rattle.tgap_model.specs.declared.fault.MapFault.{MapFault}
use Rattle.tgap_model.specs.declared.fault.MapFault.TheVariants.{Meets}
use Rattle.tgap_model.specs.Segment.{AreDisjoint}
use Rattle.tgap_model.specs.Partition.{AreApart, is_proper, shared_ends, meeting_point, first_meeting_of, meeting_from}
use Rattle.grid_geo.specs.Evidence.{IsLesserPair, IsFirstMeeting}
use Rattle.tgap_model.proofs.Proper.{proper_parts, no_segment}
use Rattle.grid_geo.proofs.CommonPoint.{common_point_found, common_point_none}
use Rattle.planar_apart.specs.declared.meeting.Meeting.{Meeting}
use Rattle.planar_apart.specs.Meetings.{meets}

-- segments of which no rational point is on both do not meet
pub no_meeting : (s t : LabelledSegment) → is_proper s ≡ true → AreDisjoint s.segment t.segment → meeting_point s t ≡ None
no_meeting s t proper apart = by (meeting_point s t) refl
  where
    by : (o : Option Fraction) → meeting_point s t ≡ o → o ≡ None
    by None e = refl
    by (Some p) e =
        let h = common_point_found s.segment t.segment (proper_parts s proper).apart (shared_ends s t) p e in
        absurd (true≢false (sym h.second ∙ apart p h.rational h.first))

-- a fault, or else what is found later
abbrev pub or_later : Option MapFault → Option MapFault → Option MapFault
or_later found later = elim found [ None ↦ later | Some fault ↦ Some fault ]

-- the meeting of segments i and j where they have a point in common, or else what is found later
abbrev or_meeting : ℕ → ℕ → Option Fraction → Option MapFault → Option MapFault
or_meeting i j common later = elim common [ None ↦ later | Some p ↦ Some (Meets i j p) ]

-- where no meeting is found, no two segments meet
none_after : (i j : ℕ) (s : LabelledSegment) (ts : List LabelledSegment) → first_meeting_of i s j ts ≡ None → (k : ℕ) (d : LabelledSegment) → k < length ts → meeting_point s (get_or ts k d) ≡ None
none_after i j s [] e k d lt = absurd (omega arith)
none_after i j s (t ∷ ts) e k d lt = by (meeting_point s t) refl e (λ f l short. none_after i (j + 1) s ts f l d short) k lt
  where
    by : (o : Option Fraction) → meeting_point s t ≡ o → or_meeting i j o (first_meeting_of i s (j + 1) ts) ≡ None
        → (first_meeting_of i s (j + 1) ts ≡ None → (l : ℕ) → l < length ts → meeting_point s (get_or ts l d) ≡ None)
        → (k : ℕ) → k < length (t ∷ ts) → meeting_point s (get_or (t ∷ ts) k d) ≡ None
    by None m e ih zero lt = m
    by None m e ih (suc k) lt = ih e k (omega arith)
    by (Some p) m e ih k lt = absurd cc

pub none_pairs : (i : ℕ) (ss : List LabelledSegment) → meeting_from i ss ≡ None → (a b : ℕ) (d : LabelledSegment) → a < b → b < length ss → meeting_point (get_or ss a d) (get_or ss b d) ≡ None
none_pairs i [] e a b d lt short = absurd (omega arith)
none_pairs i (s ∷ ss) e a zero d lt short = absurd (omega arith)
none_pairs i (s ∷ ss) e a (suc b) d lt short = by (first_meeting_of i s (i + 1) ss) refl e (λ f k less. none_pairs (i + 1) ss f k b d less (omega arith)) a lt
  where
    by : (o : Option MapFault) → first_meeting_of i s (i + 1) ss ≡ o → or_later o (meeting_from (i + 1) ss) ≡ None
        → (meeting_from (i + 1) ss ≡ None → (k : ℕ) → k < b → meeting_point (get_or ss k d) (get_or ss b d) ≡ None)
        → (a : ℕ) → a < suc b → meeting_point (get_or (s ∷ ss) a d) (get_or ss b d) ≡ None
    by None m e ih zero lt = none_after i (i + 1) s ss m b d (omega arith)
    by None m e ih (suc a) lt = ih e a (omega arith)
    by (Some f) m e ih a lt = absurd cc

-- a meeting of two segments, of which the first is the one at place a
pub record Found (i : ℕ) (ss : List LabelledSegment) (f : MapFault) : Type 0 where
  pub first : ℕ
  pub second : ℕ
  pub at : Fraction
  pub order : first < second
  pub inside : second < length ss
  pub fault : f ≡ Meets (i + first) (i + second) at
  pub meets : (d : LabelledSegment) → meeting_point (get_or ss first d) (get_or ss second d) ≡ Some at
  pub least : (k l : ℕ) (d : LabelledSegment) → k < l → l < length ss → IsLesserPair k l first second → meeting_point (get_or ss k d) (get_or ss l d) ≡ None

-- one more segment in front, which meets none
found_later : (i : ℕ) (s : LabelledSegment) (ss : List LabelledSegment) (f : MapFault) → first_meeting_of i s (i + 1) ss ≡ None → Found (i + 1) ss f → Found i (s ∷ ss) f
found_later i s ss f none h = record {
  first = suc h.first;
  second = suc h.second;
  at = h.at;
  order = omega (arith, h.order);
  inside = omega (arith, h.inside);
  fault = h.fault ∙ ap (λ (k : ℕ). Meets k (i + 1 + h.second) h.at) (omega arith) ∙ ap (λ (k : ℕ). Meets (i + suc h.first) k h.at) (omega arith);
  meets = h.meets;
  least = least;
}
  where
    lesser : (k l : ℕ) → IsLesserPair (suc k) (suc l) (suc h.first) (suc h.second) → IsLesserPair k l h.first h.second
    lesser k l (inl less) = inl (omega (arith, less))
    lesser k l (inr same) = inr (omega (arith, same.0), omega (arith, same.1))

    least : (k l : ℕ) (d : LabelledSegment) → k < l → l < length (s ∷ ss) → IsLesserPair k l (suc h.first) (suc h.second) → meeting_point (get_or (s ∷ ss) k d) (get_or (s ∷ ss) l d) ≡ None
    least k zero d lt short e = absurd (omega (arith, lt))
    least zero (suc l) d lt short e = none_after i (i + 1) s ss none l d (omega (arith, short))
    least (suc k) (suc l) d lt short e = h.least k l d (omega (arith, lt)) (omega (arith, short)) (lesser k l e)

-- the segment that the first one meets
record FoundAfter (i j : ℕ) (s : LabelledSegment) (ts : List LabelledSegment) (f : MapFault) : Type 0 where
  place : ℕ
  at : Fraction
  inside : place < length ts
  fault : f ≡ Meets i (j + place) at
  meets : (d : LabelledSegment) → meeting_point s (get_or ts place d) ≡ Some at
  least : (l : ℕ) (d : LabelledSegment) → l < place → meeting_point s (get_or ts l d) ≡ None

found_after : (i j : ℕ) (s : LabelledSegment) (ts : List LabelledSegment) (f : MapFault) → first_meeting_of i s j ts ≡ Some f → FoundAfter i j s ts f
found_after i j s [] f e = absurd cc
found_after i j s (t ∷ ts) f e = by (meeting_point s t) refl e (found_after i (j + 1) s ts f)
  where
    by : (o : Option Fraction) → meeting_point s t ≡ o → or_meeting i j o (first_meeting_of i s (j + 1) ts) ≡ Some f
        → (first_meeting_of i s (j + 1) ts ≡ Some f → FoundAfter i (j + 1) s ts f) → FoundAfter i j s (t ∷ ts) f
    by None m e ih =
        let h = ih e in
        record {
          place = suc h.place;
          at = h.at;
          inside = omega (arith, h.inside);
          fault = h.fault ∙ ap (λ (k : ℕ). Meets i k h.at) (omega arith);
          meets = h.meets;
          least = least h.place h.least;
        }
      where
        least : (n : ℕ) → ((l : ℕ) (d : LabelledSegment) → l < n → meeting_point s (get_or ts l d) ≡ None)
            → (l : ℕ) (d : LabelledSegment) → l < suc n → meeting_point s (get_or (t ∷ ts) l d) ≡ None
        least n earlier zero d lt = m
        least n earlier (suc l) d lt = earlier l d (omega (arith, lt))
    by (Some p) m e ih =
        let same : Meets i j p ≡ f = cc in
        record {
          place = 0;
          at = p;
          inside = omega arith;
          fault = sym same ∙ ap (λ (k : ℕ). Meets i k p) (omega arith);
          meets = λ d. m;
          least = λ l d lt. absurd (omega (arith, lt));
        }

pub found_pair : (i : ℕ) (ss : List LabelledSegment) (f : MapFault) → meeting_from i ss ≡ Some f → Found i ss f
found_pair i [] f e = absurd cc
found_pair i (s ∷ ss) f e = by (first_meeting_of i s (i + 1) ss) refl e (found_pair (i + 1) ss f)
  where
    by : (o : Option MapFault) → first_meeting_of i s (i + 1) ss ≡ o → or_later o (meeting_from (i + 1) ss) ≡ Some f → (meeting_from (i + 1) ss ≡ Some f → Found (i + 1) ss f) → Found i (s ∷ ss) f
    by None m e ih = found_later i s ss f m (ih e)
    by (Some g) m e ih =
        let same : g ≡ f = cc in
        let h = found_after i (i + 1) s ss f (m ∙ ap Some same) in
        record {
          first = 0;
          second = suc h.place;
          at = h.at;
          order = omega arith;
          inside = omega (arith, h.inside);
          fault = h.fault ∙ ap (λ (k : ℕ). Meets k (i + 1 + h.place) h.at) (omega arith) ∙ ap (λ (k : ℕ). Meets (i + 0) k h.at) (omega arith);
          meets = h.meets;
          least = least h.place h.least;
        }
      where
        least : (n : ℕ) → ((l : ℕ) (d : LabelledSegment) → l < n → meeting_point s (get_or ss l d) ≡ None)
            → (k l : ℕ) (d : LabelledSegment) → k < l → l < length (s ∷ ss) → IsLesserPair k l 0 (suc n) → meeting_point (get_or (s ∷ ss) k d) (get_or (s ∷ ss) l d) ≡ None
        least n earlier k zero d lt short e = absurd (omega (arith, lt))
        least n earlier k (suc l) d lt short (inl less) = absurd (omega (arith, less))
        least n earlier zero (suc l) d lt short (inr same) = earlier l d (omega (arith, same.1))
        least n earlier (suc k) (suc l) d lt short (inr same) = absurd (omega (arith, same.0))

-- where no pair meets, all are apart
pub all_apart : (ss : List LabelledSegment) → list_all is_proper ss ≡ true → meeting_from 0 ss ≡ None → AllPairs AreApart ss
all_apart ss proper e i j d lt short =
    let s = get_or ss i d in
    common_point_none s.segment (get_or ss j d).segment (proper_parts s (AllPass-from_list_all is_proper ss proper i d (omega (arith, lt, short)))).apart (shared_ends s (get_or ss j d)) (none_pairs 0 ss e i j d lt short)

-- and where all are apart, no pair meets
pub none_from_apart : (ss : List LabelledSegment) → list_all is_proper ss ≡ true → AllPairs AreApart ss → meeting_from 0 ss ≡ None
none_from_apart ss proper apart = by (meeting_from 0 ss) refl
  where
    by : (o : Option MapFault) → meeting_from 0 ss ≡ o → o ≡ None
    by None e = refl
    by (Some f) e =
        let h = found_pair 0 ss f e in
        let s = get_or ss h.first no_segment in
        let t = get_or ss h.second no_segment in
        let two_ends = (proper_parts s (AllPass-from_list_all is_proper ss proper h.first no_segment (omega (arith, h.order, h.inside)))).apart in
        absurd (apart h.first h.second no_segment h.order h.inside h.at (common_point_found s.segment t.segment two_ends (shared_ends s t) h.at (h.meets no_segment)))

-- two segments with a common point, of which all lesser pairs have none, are the first meeting
first_at : (ss : List LabelledSegment) (i j : ℕ) (at : Fraction) → list_all is_proper ss ≡ true → i < j → j < length ss
    → ((d : LabelledSegment) → meeting_point (get_or ss i d) (get_or ss j d) ≡ Some at)
    → ((k l : ℕ) (d : LabelledSegment) → k < l → l < length ss → IsLesserPair k l i j → meeting_point (get_or ss k d) (get_or ss l d) ≡ None)
    → IsFirstMeeting ss i j at
first_at ss i j at proper order inside common least = record {
  order = order;
  first = s;
  second = t;
  at_first = slice_get-get_or ss i no_segment (omega (arith, order, inside));
  at_second = slice_get-get_or ss j no_segment inside;
  common = common_point_found s.segment t.segment (proper_parts s (all i no_segment (omega (arith, order, inside)))).apart (shared_ends s t) at (common no_segment);
  least = λ k l u v lt lesser ku lv. apart k l u v lt ku lv (least k l u lt (slice_get_within ss l v lv) lesser);
}
  where
    s : LabelledSegment
    s = get_or ss i no_segment

    t : LabelledSegment
    t = get_or ss j no_segment

    all : (k : ℕ) (d : LabelledSegment) → k < length ss → is_proper (get_or ss k d) ≡ true
    all = AllPass-from_list_all is_proper ss proper

    apart : (k l : ℕ) (u v : LabelledSegment) → k < l → slice_get ss k ≡ Some u → slice_get ss l ≡ Some v → meeting_point (get_or ss k u) (get_or ss l u) ≡ None → AreApart u v
    apart k l u v lt ku lv none =
        let eu = get_or_from_slice_get ss k u u ku in
        let ev = get_or_from_slice_get ss l v u lv in
        let proper_u = subst (λ (w : LabelledSegment). is_proper w ≡ true) eu (all k u (slice_get_within ss k u ku)) in
        common_point_none u.segment v.segment (proper_parts u proper_u).apart (shared_ends u v)
        (subst (λ (w : LabelledSegment). meeting_point u w ≡ None) ev (subst (λ (w : LabelledSegment). meeting_point w (get_or ss l u) ≡ None) eu none))

-- what is found is the first meeting
pub is_first : (ss : List LabelledSegment) (m : Meeting) → list_all is_proper ss ≡ true → meeting_from 0 ss ≡ Some (meets m) → IsFirstMeeting ss m.i m.j m.at
is_first ss m proper e =
    let h = found_pair 0 ss (meets m) e in
    let first : m.i ≡ 0 + h.first = cc in
    let second : m.j ≡ 0 + h.second = cc in
    let i : h.first ≡ m.i = omega (arith, first) in
    let j : h.second ≡ m.j = omega (arith, second) in
    let at : h.at ≡ m.at = cc in
    subst (λ (k : ℕ). IsFirstMeeting ss k m.j m.at) i
    (subst (λ (k : ℕ). IsFirstMeeting ss h.first k m.at) j
    (subst (λ (p : Fraction). IsFirstMeeting ss h.first h.second p) at
    (first_at ss h.first h.second h.at proper h.order h.inside h.meets h.least)))
