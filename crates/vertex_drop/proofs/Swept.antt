-- The sweep depends on the segments that a triangle is tested against, and not on their order; and one vertex, and one edge, more.
use Rattle.std.proofs.Common.{◌≡◌, ◌<◌, ◌≤◌, ◌+◌, ◌==◌, ℕ, ℤ, pos, ◌*◌, int_le, Bool, true, false, ◌&&◌, ◌||◌, List, [], ◌∷◌, ◌++◌, take, drop, length, get_or, if◌then◌else◌, refl, sym, ap, ◌∙◌, subst}
use Rattle.std.specs.List.{flat_map, list_all}
use Rattle.std.proofs.lemmas.Bool.{eq-eqb, ne_eqb}
use Rattle.std.proofs.lemmas.Grind.{flat_map-append}
use Rattle.std.proofs.lemmas.List.{append-nil, append_assoc, at_drop_more, at_drop_all, take_more}
use Rattle.std.proofs.lemmas.List.Folds.{list_all-append}
use Rattle.tgap_model.specs.declared.geometry.Point.{Point}
use Rattle.tgap_model.specs.declared.geometry.Seg.{Seg}
use Rattle.tgap_model.specs.declared.slice.Edge.{Edge}
use Rattle.tgap_model.specs.Point.{area2}
use Rattle.tgap_model.specs.Clear.{is_clear}
use Rattle.tgap_model.specs.Removals.{path, is_removable, Swept, sweep, sweep_from, sweep_points, sweep_edges, live_segments, has_side}
use Rattle.vertex_drop.specs.declared.removable.Rule.{Rule}
use Rattle.vertex_drop.specs.declared.near.Stand.{Stand}
use Rattle.vertex_drop.specs.Left.{swept_by, left_segments, unswept_path, other_segments}
use Rattle.vertex_drop.specs.Sweep.{sweep_after, swept_edge, sweep_chosen, IsEdgeSwept}
use Rattle.vertex_drop.proofs.Unswept.{Ascend, left_around}

-- ---- lists of segments that every test finds alike

abbrev pub AreAlike : List Seg → List Seg → Type 0
AreAlike xs ys = (p : Seg → Bool) → list_all p xs ≡ list_all p ys

turned : (x y : Bool) → (x && y) ≡ (y && x)
turned true true = refl
turned true false = refl
turned false true = refl
turned false false = refl

second_last : (x y z : Bool) → ((x && y) && z) ≡ ((x && z) && y)
second_last true y z = turned y z
second_last false y z = refl

first_inside : (k u p a : Bool) → (k && (u && (p && a))) ≡ (((u && a) && k) && p)
first_inside true true p a = turned p a ∙ ap (λ (b : Bool). b && p) (turned true a)
first_inside true false p a = refl
first_inside false u p a = ap (λ (b : Bool). b && p) (turned false (u && a))

-- the last two of three lists change places
alike_turned : (xs ys zs : List Seg) → AreAlike ((xs ++ ys) ++ zs) ((xs ++ zs) ++ ys)
alike_turned xs ys zs p =
    apart xs ys zs ∙ second_last (list_all p xs) (list_all p ys) (list_all p zs) ∙ sym (apart xs zs ys)
  where
    apart : (us vs ws : List Seg) → list_all p ((us ++ vs) ++ ws) ≡ ((list_all p us && list_all p vs) && list_all p ws)
    apart us vs ws = list_all-append p (us ++ vs) ws ∙ ap (λ (b : Bool). b && list_all p ws) (list_all-append p us vs)

-- the first of four lists goes before the third one, which goes to the end
alike_inside : (ks us ps zs : List Seg) → AreAlike (ks ++ (us ++ (ps ++ zs))) (((us ++ zs) ++ ks) ++ ps)
alike_inside ks us ps zs p =
    list_all-append p ks (us ++ (ps ++ zs))
    ∙ ap (λ (b : Bool). list_all p ks && b) (list_all-append p us (ps ++ zs) ∙ ap (λ (b : Bool). list_all p us && b) (list_all-append p ps zs))
    ∙ first_inside (list_all p ks) (list_all p us) (list_all p ps) (list_all p zs)
    ∙ sym (list_all-append p ((us ++ zs) ++ ks) ps ∙ ap (λ (b : Bool). b && list_all p ps) (list_all-append p (us ++ zs) ks
    ∙ ap (λ (b : Bool). b && list_all p ks) (list_all-append p us zs)))

-- the same segments come after both
alike_both : (xs ys zs : List Seg) → AreAlike xs ys → AreAlike (xs ++ zs) (ys ++ zs)
alike_both xs ys zs h p = list_all-append p xs zs ∙ ap (λ (b : Bool). b && list_all p zs) (h p) ∙ sym (list_all-append p ys zs)

alike_more : (xs ys us vs zs : List Seg) → AreAlike (xs ++ ys) (us ++ vs) → AreAlike (xs ++ (ys ++ zs)) (us ++ (vs ++ zs))
alike_more xs ys us vs zs h p =
    ap (list_all p) (sym (append_assoc xs ys zs)) ∙ alike_both (xs ++ ys) (us ++ vs) zs h p ∙ ap (list_all p) (append_assoc us vs zs)

module _ (ratio : ℕ) (area : ℤ) where
  pub removable_alike : (xs ys : List Seg) (a b c : Point) → AreAlike xs ys → is_removable ratio area xs a b c ≡ is_removable ratio area ys a b c
  unfolding is_removable
  removable_alike xs ys a b c h = ap (λ (t : Bool). (area2 a b c == 0) || (int_le (pos (ratio * area2 a b c)) area && t)) (h (is_clear a b c))

  pub from_gone : (others done : List Seg) (a b c : Point) (points : List Point) → is_removable ratio area (others ++ done ++ path (c ∷ points)) a b c ≡ true
      → sweep_from ratio area others done a (b ∷ c ∷ points)
      ≡ record { kept = (sweep_from ratio area others done a (c ∷ points)).kept; gone = b ∷ (sweep_from ratio area others done a (c ∷ points)).gone }
  from_gone others done a b c points e = rw (sweep_from, e) refl

  pub from_kept : (others done : List Seg) (a b c : Point) (points : List Point) → is_removable ratio area (others ++ done ++ path (c ∷ points)) a b c ≡ false
      → sweep_from ratio area others done a (b ∷ c ∷ points)
      ≡ record {
        kept = a ∷ (sweep_from ratio area others (done ++ record { a = a; b = b } ∷ []) b (c ∷ points)).kept;
        gone = (sweep_from ratio area others (done ++ record { a = a; b = b } ∷ []) b (c ∷ points)).gone;
      }
  from_kept others done a b c points e = rw (sweep_from, e) refl

  -- a sweep among segments that are alike
  from_alike : (others done others' done' : List Seg) (a : Point) (points : List Point) → AreAlike (others ++ done) (others' ++ done')
      → sweep_from ratio area others done a points ≡ sweep_from ratio area others' done' a points
  from_alike others done others' done' a [] h = refl
  from_alike others done others' done' a (b ∷ []) h = refl
  from_alike others done others' done' a (b ∷ c ∷ points) h =
      by (is_removable ratio area (others ++ done ++ path (c ∷ points)) a b c) refl
      (from_alike others done others' done' a (c ∷ points) h)
      (from_alike others (done ++ s ∷ []) others' (done' ++ s ∷ []) b (c ∷ points) (alike_more others done others' done' (s ∷ []) h))
    where
      s : Seg
      s = record { a = a; b = b }

      same : is_removable ratio area (others ++ done ++ path (c ∷ points)) a b c ≡ is_removable ratio area (others' ++ done' ++ path (c ∷ points)) a b c
      same =
          removable_alike (others ++ done ++ path (c ∷ points)) (others' ++ done' ++ path (c ∷ points)) a b c
          (alike_both (others ++ done) (others' ++ done') (path (c ∷ points)) h)

      by : (r : Bool) → is_removable ratio area (others ++ done ++ path (c ∷ points)) a b c ≡ r
          → sweep_from ratio area others done a (c ∷ points) ≡ sweep_from ratio area others' done' a (c ∷ points)
          → sweep_from ratio area others (done ++ s ∷ []) b (c ∷ points) ≡ sweep_from ratio area others' (done' ++ s ∷ []) b (c ∷ points)
          → sweep_from ratio area others done a (b ∷ c ∷ points) ≡ sweep_from ratio area others' done' a (b ∷ c ∷ points)
      by true e k l =
          from_gone others done a b c points e ∙ ap (λ (t : Swept). record { kept = t.kept; gone = b ∷ t.gone }) k
          ∙ sym (from_gone others' done' a b c points (sym same ∙ e))
      by false e k l =
          from_kept others done a b c points e ∙ ap (λ (t : Swept). record { kept = a ∷ t.kept; gone = t.gone }) l
          ∙ sym (from_kept others' done' a b c points (sym same ∙ e))

  -- what was kept before is one of the others
  after_alike : (others kept others' : List Seg) (points : List Point) → AreAlike (others ++ kept) others'
      → sweep_after ratio area others kept points ≡ sweep_points ratio area others' points
  after_alike others kept others' [] h = refl
  after_alike others kept others' (a ∷ points) h =
      from_alike others kept others' [] a points (λ p. h p ∙ ap (list_all p) (sym (append-nil others')))

  points_alike : (others others' : List Seg) (points : List Point) → AreAlike others others'
      → sweep_points ratio area others points ≡ sweep_points ratio area others' points
  points_alike others others' [] h = refl
  points_alike others others' (a ∷ points) h =
      from_alike others [] others' [] a points (λ p. ap (list_all p) (append-nil others) ∙ h p ∙ ap (list_all p) (sym (append-nil others')))

  -- ---- one vertex

  -- what is left of the points from b on begins with b
  pub begins : (others done : List Seg) (a b : Point) (points : List Point)
      → path (a ∷ (sweep_from ratio area others done b points).kept) ≡ record { a = a; b = b } ∷ path (sweep_from ratio area others done b points).kept
  begins others done a b [] = refl
  begins others done a b (x ∷ []) = refl
  begins others done a b (x ∷ y ∷ points) =
      by (is_removable ratio area (others ++ done ++ path (y ∷ points)) b x y) refl (begins others done a b (y ∷ points))
    where
      by : (r : Bool) → is_removable ratio area (others ++ done ++ path (y ∷ points)) b x y ≡ r
          → path (a ∷ (sweep_from ratio area others done b (y ∷ points)).kept) ≡ record { a = a; b = b } ∷ path (sweep_from ratio area others done b (y ∷ points)).kept
          → path (a ∷ (sweep_from ratio area others done b (x ∷ y ∷ points)).kept) ≡ record { a = a; b = b } ∷ path (sweep_from ratio area others done b (x ∷ y ∷ points)).kept
      by true e h =
          subst (λ (t : Swept). path (a ∷ t.kept) ≡ record { a = a; b = b } ∷ path t.kept) (sym (from_gone others done b x y points e)) h
      by false e h =
          subst (λ (t : Swept). path (a ∷ t.kept) ≡ record { a = a; b = b } ∷ path t.kept) (sym (from_kept others done b x y points e)) refl

  -- what is tested where a sweep stands at a vertex of edge number i is what the sweep of that edge tests
  pub stand_alike : (at : Stand) (edges : List Edge) (i : ℕ) (d : Edge) (kept : List Seg) (a b c : Point) → Ascend edges → i < length edges
      → (get_or edges i d).key ≡ at.key
      → is_removable ratio area (kept ++ left_segments at edges) a b c
      ≡ is_removable ratio area (other_segments (swept_by at) i edges ++ kept ++ path (drop (at.place + 1) (get_or edges i d).points)) a b c
  stand_alike at edges i d kept a b c up short same =
      let before = flat_map (unswept_path (swept_by at)) (take i edges) in
      let rest = path (drop (at.place + 1) (get_or edges i d).points) in
      let later = live_segments (drop (i + 1) edges) in
      ap (λ (l : List Seg). is_removable ratio area (kept ++ l) a b c) (left_around at edges i d up short same)
      ∙ removable_alike (kept ++ (before ++ (rest ++ later))) (((before ++ later) ++ kept) ++ rest) a b c (alike_inside kept before rest later)

-- ---- all edges

-- the segments of one edge more
live_more : (before : List Edge) (e : Edge) → live_segments (before ++ e ∷ []) ≡ live_segments before ++ path e.points
live_more before e =
    flat_map-append (λ (x : Edge). path x.points) before (e ∷ [])
    ∙ ap (λ (rest : List Seg). live_segments before ++ rest) (append-nil (path e.points))

module _ (ratio : ℕ) (area : ℤ) (swept : Edge → Bool) where
  pub rest_swept : (before : List Seg) (e : Edge) (edges : List Edge) → swept e ≡ true
      → sweep_chosen ratio area swept before (e ∷ edges)
      ≡ (sweep_points ratio area (before ++ live_segments edges) e.points).gone
      ++ sweep_chosen ratio area swept (before ++ path (sweep_points ratio area (before ++ live_segments edges) e.points).kept) edges
  rest_swept before e edges h = rw (sweep_chosen, h) refl

  pub rest_passed : (before : List Seg) (e : Edge) (edges : List Edge) → swept e ≡ false
      → sweep_chosen ratio area swept before (e ∷ edges) ≡ sweep_chosen ratio area swept (before ++ path e.points) edges
  rest_passed before e edges h = rw (sweep_chosen, h) refl

  rest_alike : (before before' : List Seg) (edges : List Edge) → AreAlike before before' → sweep_chosen ratio area swept before edges ≡ sweep_chosen ratio area swept before' edges
  rest_alike before before' [] h = refl
  rest_alike before before' (e ∷ edges) h =
      by (swept e) refl (λ ys. rest_alike (before ++ ys) (before' ++ ys) edges (alike_both before before' ys h))
    where
      same : sweep_points ratio area (before ++ live_segments edges) e.points ≡ sweep_points ratio area (before' ++ live_segments edges) e.points
      same =
          points_alike ratio area (before ++ live_segments edges) (before' ++ live_segments edges) e.points
          (alike_both before before' (live_segments edges) h)

      by : (r : Bool) → swept e ≡ r
          → ((ys : List Seg) → sweep_chosen ratio area swept (before ++ ys) edges ≡ sweep_chosen ratio area swept (before' ++ ys) edges)
          → sweep_chosen ratio area swept before (e ∷ edges) ≡ sweep_chosen ratio area swept before' (e ∷ edges)
      by true side rest =
          let t = sweep_points ratio area (before ++ live_segments edges) e.points in
          rest_swept before e edges side
          ∙ ap (λ (l : List Point). t.gone ++ l) (rest (path t.kept))
          ∙ ap (λ (u : Swept). u.gone ++ sweep_chosen ratio area swept (before' ++ path u.kept) edges) same
          ∙ sym (rest_swept before' e edges side)
      by false side rest = rest_passed before e edges side ∙ rest (path e.points) ∙ sym (rest_passed before' e edges side)

module _ (ratio : ℕ) (area : ℤ) (made : ℕ) where
  pub edges_swept : (before : List Edge) (e : Edge) (edges : List Edge) → has_side made e ≡ true
      → sweep_edges ratio area made before (e ∷ edges)
      ≡ (sweep_points ratio area (live_segments before ++ live_segments edges) e.points).gone
      ++ sweep_edges ratio area made (before ++ record e { points = (sweep_points ratio area (live_segments before ++ live_segments edges) e.points).kept } ∷ []) edges
  edges_swept before e edges h = rw (sweep_edges, h) refl

  pub edges_passed : (before : List Edge) (e : Edge) (edges : List Edge) → has_side made e ≡ false
      → sweep_edges ratio area made before (e ∷ edges) ≡ sweep_edges ratio area made (before ++ e ∷ []) edges
  edges_passed before e edges h = rw (sweep_edges, h) refl

  -- what is removed depends on the segments before alone
  edge_step : (before : List Edge) (e : Edge) (edges : List Edge) (r : Bool) → has_side made e ≡ r
      → ((x : Edge) → sweep_edges ratio area made (before ++ x ∷ []) edges ≡ sweep_chosen ratio area (has_side made) (live_segments (before ++ x ∷ [])) edges)
      → sweep_edges ratio area made before (e ∷ edges) ≡ sweep_chosen ratio area (has_side made) (live_segments before) (e ∷ edges)
  edge_step before e edges true h k =
      let s = sweep_points ratio area (live_segments before ++ live_segments edges) e.points in
      let x : Edge = record e { points = s.kept } in
      edges_swept before e edges h
      ∙ ap (λ (rest : List Point). s.gone ++ rest) (k x ∙ ap (λ (l : List Seg). sweep_chosen ratio area (has_side made) l edges) (live_more before x))
      ∙ sym (rest_swept ratio area (has_side made) (live_segments before) e edges h)
  edge_step before e edges false h k =
      edges_passed before e edges h ∙ k e ∙ ap (λ (l : List Seg). sweep_chosen ratio area (has_side made) l edges) (live_more before e)
      ∙ sym (rest_passed ratio area (has_side made) (live_segments before) e edges h)

  pub swept_edges : (before edges : List Edge) → sweep_edges ratio area made before edges ≡ sweep_chosen ratio area (has_side made) (live_segments before) edges
  swept_edges before [] = refl
  swept_edges before (e ∷ edges) = edge_step before e edges _ refl (λ x. swept_edges (before ++ x ∷ []) edges)

-- ---- one edge

module _ (rule : Rule) (swept : Edge → Bool) (edges : List Edge) where
  -- What was removed so far, and what is of the edges from number i on, is what is removed of all.
  abbrev pub IsGoing : List Seg → List Point → ℕ → Type 0
  IsGoing kept gone i =
      gone ++ sweep_chosen rule.ratio rule.area swept (flat_map (unswept_path swept) (take i edges) ++ kept) (drop i edges)
      ≡ sweep_chosen rule.ratio rule.area swept [] edges

  -- the segments of one edge more that is not swept
  unswept_more : (i : ℕ) (d : Edge) → i < length edges
      → flat_map (unswept_path swept) (take (i + 1) edges) ≡ flat_map (unswept_path swept) (take i edges) ++ unswept_path swept (get_or edges i d)
  unswept_more i d lt =
      ap (flat_map (unswept_path swept)) (take_more edges i d lt) ∙ flat_map-append (unswept_path swept) (take i edges) (get_or edges i d ∷ [])
      ∙ ap (λ (l : List Seg). flat_map (unswept_path swept) (take i edges) ++ l) (append-nil (unswept_path swept (get_or edges i d)))

  -- an edge that is not swept
  pub edge_passed : (kept : List Seg) (gone : List Point) (i : ℕ) (d : Edge) → i < length edges → swept (get_or edges i d) ≡ false
      → IsGoing kept gone i → IsGoing kept gone (i + 1)
  edge_passed kept gone i d lt h s =
      let e = get_or edges i d in
      let rest = drop (i + 1) edges in
      let before = flat_map (unswept_path swept) (take i edges) in
      let more : flat_map (unswept_path swept) (take (i + 1) edges) ≡ before ++ path e.points =
      unswept_more i d lt ∙ ap (λ (b : Bool). before ++ (if b then [] else path e.points)) h in
      ap (λ (l : List Seg). gone ++ sweep_chosen rule.ratio rule.area swept (l ++ kept) rest) more
      ∙ ap (λ (l : List Point). gone ++ l)
      (rest_alike rule.ratio rule.area swept ((before ++ path e.points) ++ kept) ((before ++ kept) ++ path e.points) rest (alike_turned before (path e.points) kept)
      ∙ sym (at_drop_more (sweep_chosen rule.ratio rule.area swept (before ++ kept)) edges i d lt ∙ rest_passed rule.ratio rule.area swept (before ++ kept) e rest h))
      ∙ s

  -- an edge that is
  pub edge_swept : (kept all_kept : List Seg) (gone all_gone : List Point) (i : ℕ) (d : Edge) → i < length edges → swept (get_or edges i d) ≡ true
      → IsEdgeSwept rule swept edges i d kept all_kept gone all_gone → IsGoing kept gone i → IsGoing all_kept all_gone (i + 1)
  edge_swept kept all_kept gone all_gone i d lt h w s =
      let e = get_or edges i d in
      let rest = drop (i + 1) edges in
      let before = flat_map (unswept_path swept) (take i edges) in
      let t = swept_edge rule swept edges i d kept in
      let same : t ≡ sweep_points rule.ratio rule.area ((before ++ kept) ++ live_segments rest) e.points =
      after_alike rule.ratio rule.area (before ++ live_segments rest) kept ((before ++ kept) ++ live_segments rest) e.points
      (alike_turned before (live_segments rest) kept) in
      let more : flat_map (unswept_path swept) (take (i + 1) edges) ≡ before =
      unswept_more i d lt ∙ ap (λ (b : Bool). before ++ (if b then [] else path e.points)) h ∙ append-nil before in
      let removed : IsGoing (kept ++ path t.kept) (gone ++ t.gone) (i + 1) =
      ap (λ (l : List Seg). (gone ++ t.gone) ++ sweep_chosen rule.ratio rule.area swept (l ++ (kept ++ path t.kept)) rest) more
      ∙ ap (λ (l : List Seg). (gone ++ t.gone) ++ sweep_chosen rule.ratio rule.area swept l rest) (sym (append_assoc before kept (path t.kept)))
      ∙ append_assoc gone t.gone (sweep_chosen rule.ratio rule.area swept ((before ++ kept) ++ path t.kept) rest)
      ∙ ap (λ (u : Swept). gone ++ (u.gone ++ sweep_chosen rule.ratio rule.area swept ((before ++ kept) ++ path u.kept) rest)) same
      ∙ ap (λ (l : List Point). gone ++ l)
      (sym (at_drop_more (sweep_chosen rule.ratio rule.area swept (before ++ kept)) edges i d lt ∙ rest_swept rule.ratio rule.area swept (before ++ kept) e rest h))
      ∙ s in
      subst (λ (l : List Seg). IsGoing l all_gone (i + 1)) (sym w.left) (subst (λ (l : List Point). IsGoing (kept ++ path t.kept) l (i + 1)) (sym w.removed) removed)

  pub all_swept : (kept : List Seg) (gone : List Point) (i : ℕ) → length edges ≤ i → IsGoing kept gone i → gone ≡ sweep_chosen rule.ratio rule.area swept [] edges
  all_swept kept gone i le s =
      sym (append-nil gone)
      ∙ ap (λ (l : List Point). gone ++ l)
      (sym (at_drop_all (sweep_chosen rule.ratio rule.area swept (flat_map (unswept_path swept) (take i edges) ++ kept)) edges i le))
      ∙ s

-- ---- a step

pub sweep_none : (ratio : ℕ) (area : ℤ) (made : ℕ) (live : List Edge) → ratio ≡ 0 → sweep ratio area made live ≡ []
unfolding sweep
sweep_none ratio area made live e = ap (λ (b : Bool). if b then [] else sweep_edges ratio area made [] live) (eq-eqb ratio 0 e)

pub sweep_all : (ratio : ℕ) (area : ℤ) (made : ℕ) (live : List Edge) → ¬ (ratio ≡ 0) → sweep ratio area made live ≡ sweep_edges ratio area made [] live
unfolding sweep
sweep_all ratio area made live n = ap (λ (b : Bool). if b then [] else sweep_edges ratio area made [] live) (ne_eqb ratio 0 n)
