-- Edges stay sound where some are left out, the order changes, one is turned round, labels change, or two become one.
use Rattle.std.proofs.Common.{◌≡◌, ◌≢◌, inl, inr, ℕ, zero, suc, ◌≤◌, List, [], ◌∷◌, ◌++◌, map, length, AllPairs, refl, sym, ap, ◌∙◌, subst, arith}
use Rattle.std.specs.Prelude.{min}
use Rattle.std.proofs.lemmas.Bool.{cases_lt, le-leb}
use Rattle.tgap_model.specs.declared.geometry.Point.{Point}
use Rattle.tgap_model.specs.declared.geometry.Seg.{Seg}
use Rattle.tgap_model.specs.declared.slice.Edge.{Edge}
use Rattle.tgap_model.specs.Removals.{path}
use Rattle.tgap_model.specs.Chains.{first_point, last_point}
use Rattle.map_laws.proofs.ChainMembers.{Among}
use Rattle.map_laws.proofs.Lists.{all_members, members_all, map_among}
use Rattle.slice_laws.proofs.Paths.{HasPoint, has_point, path_joined, path_reversed}
use Rattle.slice_laws.proofs.Places.{At}
use Rattle.removal_laws.specs.StandLaws.{AreSound}
use Rattle.removal_laws.proofs.Pairs.{pairs_map}
use Rattle.step_laws.proofs.RowMeetings.{IsEndAt, MeetAtEnds, IsProperRow, AreEndToEnd, turned_proper, turned_meets, joined_proper, joined_meets}
use Rattle.step_laws.proofs.SoundRows.{HaveSoundRows, sound_rows, rows_sound, rest_rows, key_differs, more_rows}
use Rattle.step_laws.proofs.StepEdges.{turned_edge, joined_edge}

-- ---- some of the edges, in any order

-- Keys, points and segments of members alone decide: a list of some of the edges, in any order, is sound.
pub sound_by_members : (edges others : List Edge) → AreSound edges → AllPairs (λ e f. e.key ≢ f.key) others
    → ((e : Edge) → Among e others → Among e edges) → AreSound others
sound_by_members edges others sound keys among =
    let h = sound_rows edges sound in
    rows_sound others (record {
      keys = keys;
      rows = λ e m. h.rows e (among e m);
      apart = λ e f m n. h.apart e f (among e m) (among f n);
    })

-- ---- other labels

-- Labels do not matter.
pub sound_labels : (f : Edge → Edge) (es : List Edge) → ((e : Edge) → ((f e).key ≡ e.key) × ((f e).points ≡ e.points)) → AreSound es
    → AreSound (map f es)
sound_labels f es same sound = rows_sound (map f es) (record {
  keys = pairs_map (λ (x y : Edge). x.key ≢ y.key) f (λ e. Unit {0}) (λ x y p q differ e. differ (sym (same x).0 ∙ e ∙ (same y).0)) es
      (all_members (λ e. Unit {0}) es (λ e m. tt)) sound.keys;
  rows = λ e m.
      let x = map_among f es e m in
      subst (λ (y : Edge). IsProperRow (path y.points)) x.2 (subst (λ ps. IsProperRow (path ps)) (sym (same x.0).1) (h.rows x.0 x.1));
  apart = λ e g m n differ.
      let x = map_among f es e m in
      let y = map_among f es g n in
      subst (λ (z : Edge). MeetAtEnds (path z.points) (path g.points)) x.2
      (subst (λ (z : Edge). MeetAtEnds (path (f x.0).points) (path z.points)) y.2
      (subst (λ ps. MeetAtEnds (path ps) (path (f y.0).points)) (sym (same x.0).1)
      (subst (λ ps. MeetAtEnds (path x.0.points) (path ps)) (sym (same y.0).1)
      (h.apart x.0 y.0 x.1 y.1 (λ e'. differ (key_of x.0 e x.2 ∙ e' ∙ sym (key_of y.0 g y.2)))))));
})
  where
    h : HaveSoundRows es
    h = sound_rows es sound

    key_of : (x e : Edge) → f x ≡ e → e.key ≡ x.key
    key_of x e s = ap (λ (y : Edge). y.key) (sym s) ∙ (same x).0

-- ---- an edge turned round

-- An edge may be turned round.
pub sound_turned : (e : Edge) (es : List Edge) → AreSound (e ∷ es) → AreSound (turned_edge e ∷ es)
sound_turned e es sound =
    let h = sound_rows (e ∷ es) sound in
    rows_sound (turned_edge e ∷ es)
    (more_rows (turned_edge e) es (rest_rows e es h) (key_differs e es h)
    (subst IsProperRow (sym (path_reversed e.points)) (turned_proper (path e.points) (h.rows e (inl refl))))
    (λ f m. subst (λ gs. MeetAtEnds gs (path f.points)) (sym (path_reversed e.points))
    (turned_meets (path e.points) (path f.points) (h.apart e f (inl refl) (inr m) (key_differs e es h f m)))))

-- ---- two edges that become one

-- the first segment of a row of points starts at its first point, and the last one ends at its last point
starts_first : (points : List Point) (n : ℕ) (g : Seg) → At (path points) n g → n ≡ 0 → g.a ≡ first_point points
starts_first [] n g a e = absurd a
starts_first (x ∷ []) n g a e = absurd a
starts_first (x ∷ y ∷ points) zero g a e = ap (λ (s : Seg). s.a) (sym a)
starts_first (x ∷ y ∷ points) (suc n) g a e = absurd (omega (arith, e))

ends_last : (points : List Point) (n : ℕ) (g : Seg) → At (path points) n g → suc n ≡ length (path points) → g.b ≡ last_point points
ends_last [] n g a e = absurd a
ends_last (x ∷ []) n g a e = absurd a
ends_last (x ∷ y ∷ []) zero g a e = ap (λ (s : Seg). s.b) (sym a)
ends_last (x ∷ y ∷ []) (suc n) g a e = absurd a
ends_last (x ∷ y ∷ z ∷ points) zero g a e = absurd (omega (arith, e))
ends_last (x ∷ y ∷ z ∷ points) (suc n) g a e = ends_last (y ∷ z ∷ points) n g a (omega (arith, e))

-- so where neither of these is p, no end of the row is p
ends_away : (p : Point) (points : List Point) → first_point points ≢ p → last_point points ≢ p → (n : ℕ) (g : Seg) (v : Point)
    → At (path points) n g → IsEndAt (path points) n g v → v ≢ p
ends_away p points first last n g v a (inl (e, x)) s = first (sym (starts_first points n g a e) ∙ x ∙ s)
ends_away p points first last n g v a (inr (e, x)) s = last (sym (ends_last points n g a e) ∙ x ∙ s)

-- the lesser of two numbers is one of them
min_differs : (i j k : ℕ) → i ≢ k → j ≢ k → min i j ≢ k
min_differs i j k a b e = elim (cases_lt i j) [ inl l ↦ a (omega (arith, l, e)) | inr l ↦ b (omega (arith, l, e)) ]

module _ (p : Point) (c d : Edge) (es : List Edge) (sound : AreSound (c ∷ d ∷ es)) (c_last : last_point c.points ≡ p) (d_first : first_point d.points ≡ p)
    (c_first : first_point c.points ≢ p) (d_last : last_point d.points ≢ p) where
  -- the rows before
  both : HaveSoundRows (c ∷ d ∷ es)
  both = sound_rows (c ∷ d ∷ es) sound

  end_to_end : AreEndToEnd p (path c.points) (path d.points)
  end_to_end = record {
    ends = λ n g a e. ends_last c.points n g a e ∙ c_last;
    starts = λ n g a e. starts_first d.points n g a e ∙ d_first;
    no_start = λ n g a e s. c_first (sym (starts_first c.points n g a e) ∙ s);
    no_end = λ n g a e s. d_last (sym (ends_last d.points n g a e) ∙ s);
  }

  -- the two rows one after the other, which are a proper row
  joined_path : path (joined_edge c d).points ≡ path c.points ++ path d.points
  joined_path = path_joined c.points d.points (long c (inl refl)) (long d (inr (inl refl))) (c_last ∙ sym d_first)
    where
      long : (e : Edge) → Among e (c ∷ d ∷ es) → HasPoint e.points
      long e m = has_point e.points (le-leb 2 (length e.points) (members_all (λ (f : Edge). 2 ≤ length f.points) (c ∷ d ∷ es) e sound.points m))

  joined_row : IsProperRow (path (joined_edge c d).points)
  joined_row = subst IsProperRow (sym joined_path)
      (joined_proper p (path c.points) (path d.points) end_to_end (both.rows c (inl refl)) (both.rows d (inr (inl refl)))
      (both.apart c d (inl refl) (inr (inl refl)) (key_differs c (d ∷ es) both d (inl refl))))

  module _ (away : (e : Edge) → Among e es → (first_point e.points ≢ p) × (last_point e.points ≢ p)) where
    -- another edge has another key than each of the two
    from_first : (e : Edge) → Among e es → c.key ≢ e.key
    from_first e m = key_differs c (d ∷ es) both e (inr m)

    from_second : (e : Edge) → Among e es → d.key ≢ e.key
    from_second e m = key_differs d es (rest_rows c (d ∷ es) both) e m

    -- and meets their row at ends alone
    joined_ends : (e : Edge) → Among e es → MeetAtEnds (path (joined_edge c d).points) (path e.points)
    joined_ends e m = subst (λ gs. MeetAtEnds gs (path e.points)) (sym joined_path)
        (joined_meets p (path c.points) (path d.points) end_to_end (path e.points) (ends_away p e.points (away e m).0 (away e m).1)
        (both.apart c e (inl refl) (inr (inr m)) (from_first e m)) (both.apart d e (inr (inl refl)) (inr (inr m)) (from_second e m)))

    rows_joined : HaveSoundRows (joined_edge c d ∷ es)
    rows_joined =
        more_rows (joined_edge c d) es (rest_rows d es (rest_rows c (d ∷ es) both))
        (λ e m. min_differs c.key d.key e.key (from_first e m) (from_second e m)) joined_row joined_ends

-- Two edges may become one at a point where no other edge ends, and neither has another end.
pub sound_joined : (p : Point) (c d : Edge) (es : List Edge) → AreSound (c ∷ d ∷ es) → last_point c.points ≡ p → first_point d.points ≡ p
    → first_point c.points ≢ p → last_point d.points ≢ p
    → ((e : Edge) → Among e es → (first_point e.points ≢ p) × (last_point e.points ≢ p))
    → AreSound (joined_edge c d ∷ es)
sound_joined p c d es sound c_last d_first c_first d_last away =
    rows_sound (joined_edge c d ∷ es) (rows_joined p c d es sound c_last d_first c_first d_last away)
