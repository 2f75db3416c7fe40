-- The pieces of a chain after a step cut its points into those of the chains of its runs.
use Rattle.std.proofs.Common.{◌≡◌, inl, inr, ℕ, zero, suc, ◌+◌, ◌-◌, ◌<◌, ◌≤◌, Bool, true, false, not, nat_lt, cond, List, [], ◌∷◌, ◌++◌, map, take, drop, reverse, length, All, refl, sym, ap, ap₂, ◌∙◌, subst, arith}
use Rattle.std.specs.Prelude.{flat_map}
use Rattle.std.proofs.lemmas.Bool.{lt-ltb, eq-eqb}
use Rattle.std.proofs.lemmas.List.{append-nil, length-append, length-drop, reverse-reverse, take-append-le}
use Rattle.std.proofs.Math.Seq.{take-length}
use Rattle.lemmas.specs.Sorting.{is_sorted_by}
use Rattle.lemmas.proofs.Sorting.{sorted_cons}
use Rattle.map_laws.proofs.Lists.{all_members}
use Rattle.tgap_model.specs.declared.geometry.Point.{Point}
use Rattle.tgap_model.specs.declared.base.BaseArc.{BaseArc}
use Rattle.tgap_model.specs.declared.slice.Removal.{Removal}
use Rattle.tgap_model.specs.declared.record.Piece.{Piece}
use Rattle.tgap_model.specs.History.{AreNumbered}
use Rattle.tgap_model.specs.Merged.{MergedMap}
use Rattle.tgap_model.specs.Chains.{Chain, first_point, last_point, chain_start, chain_end, chain_points, key, has_links, turned_round, degree, chains_at}
use Rattle.tgap_model.specs.Removals.{is_removed, without}
use Rattle.tgap_model.specs.Records.{chain_of, runs, pieces_from, ends_with_place}
use Rattle.map_laws.specs.ChainLaws.{has_base_faces, HasEvenSides}
use Rattle.map_laws.proofs.ChainMembers.{Among, append_among}
use Rattle.map_laws.proofs.ChainWalks.{IsRow}
use Rattle.map_laws.proofs.JoinPaths.{append_start, append_links, turned_start, turned_end, Meets, IsPath, path_named, path_turned}
use Rattle.map_laws.proofs.ChainsExist.{chains_maximal}
use Rattle.removal_laws.specs.EndLaws.{IsChainEnd}
use Rattle.removal_laws.proofs.Less.{without_append}
use Rattle.removal_laws.proofs.ChainEnds.{AreLong, chain_length, chain_first, chain_last, chain_links, chain_arcs, contained}
use Rattle.step_laws.proofs.ChainPoints.{without_first, without_drop, without_last, without_reversed, turned_long, append_points, turned_points}
use Rattle.step_laws.proofs.EdgesAlong.{Anywhere}
use Rattle.record_laws.specs.RunLaws.{chain_of_run, is_turned_run}
use Rattle.record_laws.specs.PieceLaws.{cut_points}
use Rattle.record_laws.proofs.StepRuns.{IsStepPart, part_member, part_links, part_chain, part_turned, run_part, runs_joined}

-- ---- rows

drop_none : {A : Type 0} (n : ℕ) → drop {A = A} n [] ≡ []
drop_none zero = refl
drop_none (suc n) = refl

-- so many left out, and then more
pub drop_more : {A : Type 0} (a b n : ℕ) (xs : List A) → n ≡ a + b → drop n xs ≡ drop b (drop a xs)
drop_more zero b n xs e = ap (λ (i : ℕ). drop i xs) (omega (arith, e))
drop_more (suc a) b zero xs e = absurd (omega arith)
drop_more (suc a) b (suc n) [] e = sym (drop_none b)
drop_more (suc a) b (suc n) (x ∷ xs) e = drop_more a b n xs (omega arith)

-- two rows, of which the second starts where the first ends: all but the last of the first left out
seam_dropped : (xs ys : List Point) (n : ℕ) → length xs ≡ n + 1 → 1 ≤ length ys → last_point xs ≡ first_point ys → drop n (xs ++ drop 1 ys) ≡ ys
seam_dropped [] ys n l m e = absurd (omega arith)
seam_dropped (x ∷ xs) [] n l m e = absurd (omega arith)
seam_dropped (x ∷ []) (y ∷ ys) zero l m e = ap (λ (p : Point). p ∷ ys) e
seam_dropped (x ∷ []) (y ∷ ys) (suc n) l m e = absurd (omega arith)
seam_dropped (x ∷ z ∷ xs) (y ∷ ys) zero l m e = absurd (omega arith)
seam_dropped (x ∷ z ∷ xs) (y ∷ ys) (suc n) l m e = seam_dropped (z ∷ xs) (y ∷ ys) n (omega arith) m e

-- the last of a row whose second row has more points
row_behind : {A : Type 0} (R : A → A → Type 0) (xs ys : List A) → IsRow R (xs ++ ys) → IsRow R ys
row_behind R [] ys r = r
row_behind R (x ∷ []) [] r = tt
row_behind R (x ∷ []) (y ∷ ys) r = r.1
row_behind R (x ∷ z ∷ xs) ys r = row_behind R (z ∷ xs) ys r.1

row_meets : (arcs : List BaseArc) (J : Point → Type 0) (c e : Chain) → IsRow (Meets arcs J) (c ++ e) → has_links c ≡ true → has_links e ≡ true
    → chain_end arcs c ≡ chain_start arcs e
row_meets arcs J [] e r h k = absurd cc
row_meets arcs J (d ∷ []) [] r h k = absurd cc
row_meets arcs J (d ∷ []) (f ∷ e) r h k = r.0.0
row_meets arcs J (d ∷ g ∷ c) e r h k = row_meets arcs J (g ∷ c) e r.1 refl k

-- ---- points less listed ones

module _ (arcs : List BaseArc) (rs : List Removal) where
  -- the points of a chain that are left
  abbrev pub left_points : Chain → List Point
  left_points c = without rs (chain_points arcs c)

  -- A path of arcs with two points at least, whose ends are not listed.
  pub record IsSpan (c : Chain) : Type 0 where
    pub path : IsPath arcs Anywhere c
    pub long : AreLong arcs c
    pub start : is_removed rs (chain_start arcs c) ≡ false
    pub end : is_removed rs (chain_end arcs c) ≡ false

  first_free : (c : Chain) → IsSpan c → is_removed rs (first_point (chain_points arcs c)) ≡ false
  first_free c s = ap (is_removed rs) (chain_first arcs c s.path.links s.long) ∙ s.start

  last_free : (c : Chain) → IsSpan c → is_removed rs (last_point (chain_points arcs c)) ≡ false
  last_free c s = ap (is_removed rs) (chain_last arcs c s.path.links s.long) ∙ s.end

  some_points : (c : Chain) → IsSpan c → 1 ≤ length (chain_points arcs c)
  some_points c s = omega (arith, chain_length arcs c s.path.links s.long)

  pub span_first : (c : Chain) → IsSpan c → first_point (left_points c) ≡ chain_start arcs c
  span_first c s = without_first rs (chain_points arcs c) (some_points c s) (first_free c s) ∙ chain_first arcs c s.path.links s.long

  pub span_last : (c : Chain) → IsSpan c → last_point (left_points c) ≡ chain_end arcs c
  span_last c s = (without_last rs (chain_points arcs c) (some_points c s) (last_free c s)).1 ∙ chain_last arcs c s.path.links s.long

  -- the first and the last point are left
  pub span_length : (c : Chain) → IsSpan c → 2 ≤ length (left_points c)
  span_length c s = by (chain_points arcs c) (chain_length arcs c s.path.links s.long) (first_free c s) (last_free c s)
    where
      by : (ps : List Point) → 2 ≤ length ps → is_removed rs (first_point ps) ≡ false → is_removed rs (last_point ps) ≡ false → 2 ≤ length (without rs ps)
      by [] l e f = absurd (omega arith)
      by (p ∷ []) l e f = absurd (omega arith)
      by (p ∷ q ∷ ps) l e f =
          let rest = (without_last rs (q ∷ ps) (omega arith) f).0 in
          subst (λ (v : Bool). 2 ≤ length (cond (not v) (p ∷ without rs (q ∷ ps)) (without rs (q ∷ ps)))) (sym e) (omega (arith, rest))

  pub span_turned : (c : Chain) → IsSpan c → IsSpan (turned_round c)
  span_turned c s = record {
    path = path_turned arcs Anywhere c s.path;
    long = turned_long arcs c s.long;
    start = ap (is_removed rs) (turned_start arcs c) ∙ s.end;
    end = ap (is_removed rs) (turned_end arcs c) ∙ s.start;
  }

  pub turned_left : (c : Chain) → IsSpan c → left_points (turned_round c) ≡ reverse (left_points c)
  turned_left c s = ap (without rs) (turned_points arcs Anywhere c s.path s.long) ∙ without_reversed rs (chain_points arcs c)

  pub append_left : (c e : Chain) → IsSpan c → has_links e ≡ true → AreLong arcs e → is_removed rs (chain_start arcs e) ≡ false
      → left_points (c ++ e) ≡ left_points c ++ drop 1 (left_points e)
  append_left c e s links long start =
      ap (without rs) (append_points arcs c e s.path.links links s.long)
      ∙ without_append rs (chain_points arcs c) (drop 1 (chain_points arcs e))
      ∙ ap (λ (ps : List Point). left_points c ++ ps) (without_drop rs (chain_points arcs e) (omega (arith, chain_length arcs e links long))
      (ap (is_removed rs) (chain_first arcs e links long) ∙ start))

-- ---- the pieces of the parts of a chain

module _ (h : MergedMap) (k : ℕ) (numbered : AreNumbered (length h.base.classes) h.steps) (small : k < length h.steps)
    (faces : All (λ a. has_base_faces h a ≡ true) h.base.arcs) (even : HasEvenSides h k)
    (arcs_long : All (λ a. 2 ≤ length a.points) h.base.arcs) (rs : List Removal)
    (ends : (p : Point) → IsChainEnd h.base.arcs (chains_at h k) p → is_removed rs p ≡ false) where
  -- the chains before the step
  abbrev finer : List Chain
  finer = chains_at h k

  abbrev IsOnePart : Chain → Type 0
  IsOnePart r = IsStepPart h k numbered small faces even r

  abbrev left : Chain → List Point
  left c = left_points h.base.arcs rs c

  -- a chain before the step
  pub finer_span : (f : Chain) → Among f (chains_at h k) → IsSpan h.base.arcs rs f
  finer_span f m = record {
    path = path_named h.base.arcs (λ q. degree h k q ≡ 2) Anywhere (λ q two. tt) f (chains_maximal h k f m).path;
    long = λ d n. (let l = chain_arcs h k f m d n in arcs_long d.arc (record { left = 0; right = 0; points = [] }) l);
    start = ends (chain_start h.base.arcs f) (f, contained (chains_at h k) f m, inl refl);
    end = ends (chain_end h.base.arcs f) (f, contained (chains_at h k) f m, inr refl);
  }

  pub part_span : (r : Chain) → IsStepPart h k numbered small faces even r → IsSpan h.base.arcs rs r
  part_span r p =
      let f = finer_span p.chain (part_member h k numbered small faces even r p) in
      elim p.same [
        | inl e ↦ subst (IsSpan h.base.arcs rs) (sym e) f
        | inr e ↦ subst (IsSpan h.base.arcs rs) (sym e) (span_turned h.base.arcs rs p.chain f)
      ]

  -- its points, turned where it is turned, are those of its chain
  pub part_points : (r : Chain) → IsStepPart h k numbered small faces even r
      → cond (is_turned_run (chains_at h k) r) (reverse (left_points h.base.arcs rs r)) (left_points h.base.arcs rs r)
      ≡ left_points h.base.arcs rs (chain_of_run (chains_at h k) r)
  part_points r p =
      by (is_turned_run finer r) (part_turned h k numbered small faces even r p)
      ∙ ap left (sym (part_chain h k numbered small faces even r p))
    where
      by : (b : Bool) → r ≡ cond b (turned_round p.chain) p.chain → cond b (reverse (left r)) (left r) ≡ left p.chain
      by true e =
          ap (λ (c : Chain). reverse (left c)) e
          ∙ ap reverse (turned_left h.base.arcs rs p.chain (finer_span p.chain (part_member h k numbered small faces even r p)))
          ∙ reverse-reverse (left p.chain)
      by false e = ap left e

  abbrev AreParts : List Chain → Type 0
  AreParts parts = (r : Chain) → Among r parts → IsOnePart r

  -- some parts in a row
  flat_links : (r : Chain) (parts : List Chain) → AreParts (r ∷ parts) → has_links (flat_map (λ r. r) (r ∷ parts)) ≡ true
  flat_links r parts each = append_links r (flat_map (λ r. r) parts) (part_links h k numbered small faces even r (each r (inl refl)))

  flat_long : (parts : List Chain) → AreParts parts → AreLong h.base.arcs (flat_map (λ r. r) parts)
  flat_long [] each d m = absurd m
  flat_long (r ∷ parts) each d m = elim (append_among r (flat_map (λ r. r) parts) d m) [
    | inl n ↦ (part_span r (each r (inl refl))).long d n
    | inr n ↦ flat_long parts (λ q o. each q (inr o)) d n
  ]

  flat_start : (r : Chain) (parts : List Chain) → AreParts (r ∷ parts) → chain_start h.base.arcs (flat_map (λ r. r) (r ∷ parts)) ≡ chain_start h.base.arcs r
  flat_start r parts each = append_start h.base.arcs r (flat_map (λ r. r) parts) (part_links h k numbered small faces even r (each r (inl refl)))

  flat_free : (r : Chain) (parts : List Chain) → AreParts (r ∷ parts) → is_removed rs (chain_start h.base.arcs (flat_map (λ r. r) (r ∷ parts))) ≡ false
  flat_free r parts each = ap (is_removed rs) (flat_start r parts each) ∙ (part_span r (each r (inl refl))).start

  -- the points of parts in a row
  abbrev row : List Chain → List Point
  row parts = left (flat_map (λ r. r) parts)

  row_one : (r : Chain) → row (r ∷ []) ≡ left r
  row_one r = ap left (append-nil r)

  row_more : (r q : Chain) (parts : List Chain) → AreParts (r ∷ q ∷ parts) → row (r ∷ q ∷ parts) ≡ left r ++ drop 1 (row (q ∷ parts))
  row_more r q parts each =
      let rest : AreParts (q ∷ parts) = λ x o. each x (inr o) in
      append_left h.base.arcs rs r (flat_map (λ r. r) (q ∷ parts)) (part_span r (each r (inl refl)))
      (flat_links q parts rest) (flat_long (q ∷ parts) rest) (flat_free q parts rest)

  row_first : (q : Chain) (parts : List Chain) → AreParts (q ∷ parts) → (1 ≤ length (row (q ∷ parts))) × (first_point (row (q ∷ parts)) ≡ chain_start h.base.arcs q)
  row_first q [] each =
      let s = part_span q (each q (inl refl)) in
      (omega (arith, span_length h.base.arcs rs q s, ap length (row_one q)), ap first_point (row_one q) ∙ span_first h.base.arcs rs q s)
  row_first q (r ∷ parts) each =
      let s = part_span q (each q (inl refl)) in
      let two = span_length h.base.arcs rs q s in (
        omega (arith, two, ap length (row_more q r parts each), length-append (left q) (drop 1 (row (r ∷ parts)))),
        ap first_point (row_more q r parts each) ∙ front (left q) (drop 1 (row (r ∷ parts))) (omega (arith, two)) ∙ span_first h.base.arcs rs q s,
      )
    where
      front : (xs ys : List Point) → 1 ≤ length xs → first_point (xs ++ ys) ≡ first_point xs
      front [] ys l = absurd (omega arith)
      front (x ∷ xs) ys l = refl

  -- what is behind the first part
  row_behind_first : (J : Point → Type 0) (r q : Chain) (parts : List Chain) → AreParts (r ∷ q ∷ parts)
      → IsRow (Meets h.base.arcs J) (flat_map (λ r. r) (r ∷ q ∷ parts))
      → drop (length (left r) - 1) (row (r ∷ q ∷ parts)) ≡ row (q ∷ parts)
  row_behind_first J r q parts each meets =
      let rest : AreParts (q ∷ parts) = λ x o. each x (inr o) in
      let s = part_span r (each r (inl refl)) in
      let first = row_first q parts rest in
      ap (drop (length (left r) - 1)) (row_more r q parts each)
      ∙ seam_dropped (left r) (row (q ∷ parts)) (length (left r) - 1) (omega (arith, span_length h.base.arcs rs r s)) first.0
      (span_last h.base.arcs rs r s
      ∙ row_meets h.base.arcs J r (flat_map (λ r. r) (q ∷ parts)) meets (part_links h k numbered small faces even r (each r (inl refl))) (flat_links q parts rest)
      ∙ flat_start q parts rest ∙ sym first.1)

  -- the first part
  row_front : (r : Chain) (parts : List Chain) → AreParts (r ∷ parts) → take (length (left r)) (row (r ∷ parts)) ≡ left r
  row_front r [] each = ap (take (length (left r))) (row_one r) ∙ take-length (left r)
  row_front r (q ∷ parts) each =
      ap (take (length (left r))) (row_more r q parts each)
      ∙ take-append-le (length (left r)) (left r) (drop 1 (row (q ∷ parts))) (omega arith) ∙ take-length (left r)

  module _ (j : ℕ) (at_left : Bool) where
    abbrev pieces : ℕ → List Chain → List Piece
    pieces first parts = pieces_from h j at_left finer rs first parts

    -- the last place of a part's piece
    abbrev last_place : ℕ → Chain → ℕ
    last_place first r = first + (length (left r) - 1)

    -- cut at the pieces of parts, from the place where they begin
    cut_row : (J : Point → Type 0) (parts : List Chain) (points : List Point) (first : ℕ) → AreParts parts
        → IsRow (Meets h.base.arcs J) (flat_map (λ r. r) parts) → drop first points ≡ row parts
        → cut_points points first (pieces first parts) ≡ map (λ r. left (chain_of_run finer r)) parts
    cut_row J [] points first each meets e = refl
    cut_row J ([] ∷ parts) points first each meets e = let none = part_links h k numbered small faces even [] (each [] (inl refl)) in absurd cc
    cut_row J ((d ∷ r) ∷ parts) points first each meets e =
        ap₂ (λ (x : List Point) (xs : List (List Point)). x ∷ xs)
        (ap (λ (x : List Point). cond (is_turned_run finer (d ∷ r)) (reverse x) x) cut ∙ part_points (d ∷ r) (each (d ∷ r) (inl refl)))
        (more parts each meets e (cut_row J parts points (last_place first (d ∷ r)) (λ q o. each q (inr o)) (row_behind (Meets h.base.arcs J) (d ∷ r) (flat_map (λ r. r) parts) meets)))
      where
        two : 2 ≤ length (left (d ∷ r))
        two = span_length h.base.arcs rs (d ∷ r) (part_span (d ∷ r) (each (d ∷ r) (inl refl)))

        cut : take (last_place first (d ∷ r) + 1 - first) (drop first points) ≡ left (d ∷ r)
        cut =
            ap₂ (λ (n : ℕ) (ps : List Point). take n ps) (omega (arith, two)) e
            ∙ row_front (d ∷ r) parts each

        more : (parts : List Chain) → AreParts ((d ∷ r) ∷ parts) → IsRow (Meets h.base.arcs J) (flat_map (λ r. r) ((d ∷ r) ∷ parts))
            → drop first points ≡ row ((d ∷ r) ∷ parts)
            → (drop (last_place first (d ∷ r)) points ≡ row parts → cut_points points (last_place first (d ∷ r)) (pieces (last_place first (d ∷ r)) parts) ≡ map (λ r. left (chain_of_run finer r)) parts)
            → cut_points points (last_place first (d ∷ r)) (pieces (last_place first (d ∷ r)) parts) ≡ map (λ r. left (chain_of_run finer r)) parts
        more [] each meets e rest = refl
        more (q ∷ parts) each meets e rest = rest (
            drop_more first (length (left (d ∷ r)) - 1) (last_place first (d ∷ r)) points (omega arith)
            ∙ ap (drop (length (left (d ∷ r)) - 1)) e ∙ row_behind_first J (d ∷ r) q parts each meets)

    -- the keys and the directions
    piece_keys : (parts : List Chain) (first : ℕ) → AreParts parts → map (λ p. p.key) (pieces first parts) ≡ map (λ r. key (chain_of_run finer r)) parts
    piece_keys [] first each = refl
    piece_keys ([] ∷ parts) first each = let none = part_links h k numbered small faces even [] (each [] (inl refl)) in absurd cc
    piece_keys ((d ∷ r) ∷ parts) first each =
        ap (λ (ns : List ℕ). key (chain_of finer d.arc) ∷ ns) (piece_keys parts (last_place first (d ∷ r)) (λ q o. each q (inr o)))

    piece_turned : (parts : List Chain) (first : ℕ) → AreParts parts → map (λ p. p.turned) (pieces first parts) ≡ map (is_turned_run finer) parts
    piece_turned [] first each = refl
    piece_turned ([] ∷ parts) first each = let none = part_links h k numbered small faces even [] (each [] (inl refl)) in absurd cc
    piece_turned ((d ∷ r) ∷ parts) first each =
        ap (λ (bs : List Bool). is_turned_run finer (d ∷ r) ∷ bs) (piece_turned parts (last_place first (d ∷ r)) (λ q o. each q (inr o)))

    -- ---- of a whole chain

    module _ (c : Chain) (m : Among c (chains_at h (k + 1))) where
      each_part : (r : Chain) → Among r (runs (chains_at h k) c) → IsStepPart h k numbered small faces even r
      each_part r n = run_part h k numbered small faces even c m r n

      chain_row : IsRow (Meets h.base.arcs (λ q. degree h (k + 1) q ≡ 2)) (flat_map (λ r. r) (runs (chains_at h k) c))
      chain_row =
          subst (IsRow (Meets h.base.arcs (λ q. degree h (k + 1) q ≡ 2))) (sym (runs_joined h k numbered small faces even c m))
          (chains_maximal h (k + 1) c m).path.row

      pub chain_cut : cut_points (left_points h.base.arcs rs c) 0 (pieces_from h j at_left (chains_at h k) rs 0 (runs (chains_at h k) c))
          ≡ map (λ r. left_points h.base.arcs rs (chain_of_run (chains_at h k) r)) (runs (chains_at h k) c)
      chain_cut = cut_row (λ q. degree h (k + 1) q ≡ 2) (runs (chains_at h k) c) (left_points h.base.arcs rs c) 0 each_part chain_row
          (ap left (sym (runs_joined h k numbered small faces even c m)))

      pub chain_keys : map (λ p. p.key) (pieces_from h j at_left (chains_at h k) rs 0 (runs (chains_at h k) c))
          ≡ map (λ r. key (chain_of_run (chains_at h k) r)) (runs (chains_at h k) c)
      chain_keys = piece_keys (runs (chains_at h k) c) 0 each_part

      pub chain_turned : map (λ p. p.turned) (pieces_from h j at_left (chains_at h k) rs 0 (runs (chains_at h k) c))
          ≡ map (is_turned_run (chains_at h k)) (runs (chains_at h k) c)
      chain_turned = piece_turned (runs (chains_at h k) c) 0 each_part

    -- ---- the last places of pieces

    abbrev places : ℕ → List Chain → List ℕ
    places first parts = map (λ p. p.last) (pieces first parts)

    part_two : (r : Chain) (parts : List Chain) → AreParts (r ∷ parts) → 2 ≤ length (left r)
    part_two r parts each = span_length h.base.arcs rs r (part_span r (each r (inl refl)))

    -- they are behind the first place
    places_behind : (parts : List Chain) (first : ℕ) → AreParts parts → (n : ℕ) → Among n (places first parts) → first < n
    places_behind [] first each n o = absurd o
    places_behind ([] ∷ parts) first each n o = let none = part_links h k numbered small faces even [] (each [] (inl refl)) in absurd cc
    places_behind ((d ∷ r) ∷ parts) first each n (inl e) = omega (arith, e, part_two (d ∷ r) parts each)
    places_behind ((d ∷ r) ∷ parts) first each n (inr o) =
        omega (arith, part_two (d ∷ r) parts each, places_behind parts (last_place first (d ∷ r)) (λ q p. each q (inr p)) n o)

    -- they ascend
    places_ascend : (parts : List Chain) (first : ℕ) → AreParts parts → is_sorted_by nat_lt (places first parts) ≡ true
    places_ascend [] first each = refl
    places_ascend ([] ∷ parts) first each = let none = part_links h k numbered small faces even [] (each [] (inl refl)) in absurd cc
    places_ascend ((d ∷ r) ∷ parts) first each =
        let rest : AreParts parts = λ q o. each q (inr o) in
        let place : ℕ = last_place first (d ∷ r) in
        sorted_cons nat_lt place (places place parts)
        (all_members (λ n. nat_lt place n ≡ true) (places place parts) (λ n o. lt-ltb place n (places_behind parts place rest n o)))
        (places_ascend parts place rest)

    -- and the last one is that of the last point
    row_length : (r q : Chain) (parts : List Chain) → AreParts (r ∷ q ∷ parts) → length (row (r ∷ q ∷ parts)) ≡ length (left r) + (length (row (q ∷ parts)) - 1)
    row_length r q parts each =
        ap length (row_more r q parts each) ∙ length-append (left r) (drop 1 (row (q ∷ parts)))
        ∙ ap (λ (n : ℕ). length (left r) + n) (length-drop 1 (row (q ∷ parts)))

    places_end : (r : Chain) (parts : List Chain) (first : ℕ) → AreParts (r ∷ parts)
        → ends_with_place (first + (length (row (r ∷ parts)) - 1)) (places first (r ∷ parts)) ≡ true
    places_end [] parts first each = let none = part_links h k numbered small faces even [] (each [] (inl refl)) in absurd cc
    places_end (d ∷ r) [] first each = eq-eqb _ _ (ap (λ (n : ℕ). first + (n - 1)) (sym (ap length (row_one (d ∷ r)))))
    places_end (d ∷ r) ([] ∷ parts) first each = let none = part_links h k numbered small faces even [] (each [] (inr (inl refl))) in absurd cc
    places_end (d ∷ r) ((e ∷ q) ∷ parts) first each =
        let rest : AreParts ((e ∷ q) ∷ parts) = λ x o. each x (inr o) in
        let place : ℕ = last_place first (d ∷ r) in
        let same : place + (length (row ((e ∷ q) ∷ parts)) - 1) ≡ first + (length (row ((d ∷ r) ∷ (e ∷ q) ∷ parts)) - 1)
        = omega (arith, row_length (d ∷ r) (e ∷ q) parts each, part_two (d ∷ r) ((e ∷ q) ∷ parts) each) in
        subst (λ (n : ℕ). ends_with_place n (places place ((e ∷ q) ∷ parts)) ≡ true) same (places_end (e ∷ q) parts place rest)

    module _ (c : Chain) (m : Among c (chains_at h (k + 1))) where
      pub chain_places_ascend : is_sorted_by nat_lt (map (λ p. p.last) (pieces_from h j at_left (chains_at h k) rs 0 (runs (chains_at h k) c))) ≡ true
      chain_places_ascend = places_ascend (runs (chains_at h k) c) 0 (each_part c m)

      pub chain_places_some : (n : ℕ) → Among n (map (λ p. p.last) (pieces_from h j at_left (chains_at h k) rs 0 (runs (chains_at h k) c))) → 0 < n
      chain_places_some n o = places_behind (runs (chains_at h k) c) 0 (each_part c m) n o

      pub chain_places_end : ends_with_place (length (left_points h.base.arcs rs c) - 1)
          (map (λ p. p.last) (pieces_from h j at_left (chains_at h k) rs 0 (runs (chains_at h k) c))) ≡ true
      chain_places_end = by (runs (chains_at h k) c) (runs_joined h k numbered small faces even c m) (each_part c m)
        where
          by : (parts : List Chain) → flat_map (λ r. r) parts ≡ c → AreParts parts → ends_with_place (length (left c) - 1) (places 0 parts) ≡ true
          by [] joined each = let some = ap has_links joined ∙ chain_links h (k + 1) c m in absurd cc
          by (r ∷ parts) joined each =
              let none : 0 + (length (row (r ∷ parts)) - 1) ≡ length (row (r ∷ parts)) - 1 = omega arith in
              subst (λ (x : Chain). ends_with_place (length (left x) - 1) (places 0 (r ∷ parts)) ≡ true) joined
              (subst (λ (n : ℕ). ends_with_place n (places 0 (r ∷ parts)) ≡ true) none (places_end r parts 0 each))
