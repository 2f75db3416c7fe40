-- The segments of one arc: each is the next one of the one before, the first one starts the arc and the last one ends it.
use Rattle.std.proofs.Common.{◌≡◌, inl, inr, ℕ, ◌+◌, ◌≤◌, ◌<◌, nat_le, true, false, ◌&&◌, ◌==◌, List, [], ◌∷◌, length, refl, sym, ap, ◌∙◌, subst, eq-eqb, ne_eqb, arith}
use Rattle.std.proofs.lemmas.Bool.{and_from, true≢false, cases_eq}
use Rattle.tgap_model.specs.declared.geometry.Point.{Point}
use Rattle.tgap_model.specs.declared.base.BaseArc.{BaseArc}
use Rattle.tgap_model.specs.declared.segment.LabelledSegment.{LabelledSegment}
use Rattle.tgap_model.specs.Partition.{is_empty, path_segments, arc_segments, follows}
use Rattle.tgap_model.specs.Chains.{first_point, last_point}
use Rattle.map_laws.proofs.ChainMembers.{Among, AreDistinct, among_left, among_right, append_among}
use Rattle.slice_laws.proofs.NodeLinks.{AreNumbers}
use Rattle.slice_laws.proofs.EdgeSums.{row_of}
use Rattle.slice_laws.proofs.Places.{IsRowFrom, joined_rows}

-- the second segment is the next one of the arc
abbrev pub IsNext : LabelledSegment → LabelledSegment → Type 0
IsNext s t = follows s t ≡ true

next_places : (arc p q : ℕ) → q ≡ p + 1 → ((arc == arc) && (p + 1 == q)) ≡ true
next_places arc p q e = and_from _ _ (eq-eqb arc arc refl) (eq-eqb (p + 1) q (sym e))

-- the segments of a row of points are a row from the first one to the last one
row_block : (i l r place : ℕ) (a b : Point) (points : List Point)
    → (last : LabelledSegment) × IsRowFrom IsNext (row_of i l r place (record { a = a; b = b }) (is_empty points)) last (path_segments i l r place (a ∷ b ∷ points)) × (last.ends ≡ true)
row_block i l r place a b [] =
    let s : LabelledSegment = row_of i l r place (record { a = a; b = b }) true in
    (s, record { head = s; tail = []; is = refl; begins = refl; ends = refl; row = tt }, refl)
row_block i l r place a b (c ∷ points) =
    let s : LabelledSegment = row_of i l r place (record { a = a; b = b }) false in
    let rest = row_block i l r (place + 1) b c points in
    let first : IsRowFrom IsNext s s (s ∷ []) = record { head = s; tail = []; is = refl; begins = refl; ends = refl; row = tt } in
    (rest.0, joined_rows first rest.1 (next_places i place (place + 1) refl), rest.2)

-- what is known of each of them
pub record IsOfRow (i l r place : ℕ) (s : LabelledSegment) : Type 0 where
  pub arc : s.arc ≡ i
  pub left : s.left ≡ l
  pub right : s.right ≡ r
  pub later : place ≤ s.place
  pub starts : s.starts ≡ (s.place == 0)

pub of_row : (i l r place : ℕ) (points : List Point) (s : LabelledSegment) → Among s (path_segments i l r place points) → IsOfRow i l r place s
of_row i l r place [] s m = absurd m
of_row i l r place (a ∷ []) s m = absurd m
of_row i l r place (a ∷ b ∷ points) s (inl e) =
    subst (IsOfRow i l r place) e (record { arc = refl; left = refl; right = refl; later = omega arith; starts = refl })
of_row i l r place (a ∷ b ∷ points) s (inr m) =
    let f = of_row i l r (place + 1) (b ∷ points) s m in
    record { arc = f.arc; left = f.left; right = f.right; later = omega (arith, f.later); starts = f.starts }

-- no later one starts the arc
later_starts : (i l r place : ℕ) (points : List Point) (s : LabelledSegment) → Among s (path_segments i l r (place + 1) points) → s.starts ≡ true → ⊥
later_starts i l r place points s m e =
    let f = of_row i l r (place + 1) points s m in
    true≢false (sym e ∙ f.starts ∙ ne_eqb s.place 0 (λ z. absurd (omega (arith, f.later, z))))

-- the one that starts the arc begins at the first point, and that which ends it ends at the last point
pub starts_at : (i l r : ℕ) (points : List Point) (s : LabelledSegment) → Among s (path_segments i l r 0 points) → s.starts ≡ true
    → s.segment.a ≡ first_point points
starts_at i l r [] s m e = absurd m
starts_at i l r (a ∷ []) s m e = absurd m
starts_at i l r (a ∷ b ∷ points) s (inl f) e = sym (ap (λ (x : LabelledSegment). x.segment.a) f)
starts_at i l r (a ∷ b ∷ points) s (inr m) e = absurd (later_starts i l r 0 (b ∷ points) s m e)

pub ends_at_last : (i l r place : ℕ) (points : List Point) (s : LabelledSegment) → Among s (path_segments i l r place points) → s.ends ≡ true
    → s.segment.b ≡ last_point points
ends_at_last i l r place [] s m e = absurd m
ends_at_last i l r place (a ∷ []) s m e = absurd m
ends_at_last i l r place (a ∷ b ∷ []) s (inl f) e = sym (ap (λ (x : LabelledSegment). x.segment.b) f)
ends_at_last i l r place (a ∷ b ∷ []) s (inr m) e = absurd m
ends_at_last i l r place (a ∷ b ∷ c ∷ points) s (inl f) e = absurd (true≢false (sym e ∙ sym (ap (λ (x : LabelledSegment). x.ends) f)))
ends_at_last i l r place (a ∷ b ∷ c ∷ points) s (inr m) e = ends_at_last i l r (place + 1) (b ∷ c ∷ points) s m e

-- there is one of each
pub one_start : (i l r : ℕ) (points : List Point) (s t : LabelledSegment) → Among s (path_segments i l r 0 points)
    → Among t (path_segments i l r 0 points)
    → s.starts ≡ true → t.starts ≡ true → s ≡ t
one_start i l r [] s t m n e f = absurd m
one_start i l r (a ∷ []) s t m n e f = absurd m
one_start i l r (a ∷ b ∷ points) s t (inl u) (inl v) e f = sym u ∙ v
one_start i l r (a ∷ b ∷ points) s t (inr m) n e f = absurd (later_starts i l r 0 (b ∷ points) s m e)
one_start i l r (a ∷ b ∷ points) s t (inl u) (inr n) e f = absurd (later_starts i l r 0 (b ∷ points) t n f)

pub one_end : (i l r place : ℕ) (points : List Point) (s t : LabelledSegment) → Among s (path_segments i l r place points)
    → Among t (path_segments i l r place points)
    → s.ends ≡ true → t.ends ≡ true → s ≡ t
one_end i l r place [] s t m n e f = absurd m
one_end i l r place (a ∷ []) s t m n e f = absurd m
one_end i l r place (a ∷ b ∷ []) s t (inl u) (inl v) e f = sym u ∙ v
one_end i l r place (a ∷ b ∷ []) s t (inr m) n e f = absurd m
one_end i l r place (a ∷ b ∷ []) s t (inl u) (inr n) e f = absurd n
one_end i l r place (a ∷ b ∷ c ∷ points) s t (inl u) n e f = absurd (true≢false (sym e ∙ sym (ap (λ (x : LabelledSegment). x.ends) u)))
one_end i l r place (a ∷ b ∷ c ∷ points) s t (inr m) (inl v) e f = absurd (true≢false (sym f ∙ sym (ap (λ (x : LabelledSegment). x.ends) v)))
one_end i l r place (a ∷ b ∷ c ∷ points) s t (inr m) (inr n) e f = one_end i l r (place + 1) (b ∷ c ∷ points) s t m n e f

-- none stands twice
pub row_distinct : (i l r place : ℕ) (points : List Point) → AreDistinct (path_segments i l r place points)
row_distinct i l r place [] = tt
row_distinct i l r place (a ∷ []) = tt
row_distinct i l r place (a ∷ b ∷ points) = (
  (λ m. let f = of_row i l r (place + 1) (b ∷ points) _ m in absurd (omega (arith, f.later))),
  row_distinct i l r (place + 1) (b ∷ points),
)

-- the segments of an arc are segments of the map
pub block_among : (number : ℕ → BaseArc) (i : ℕ) (arcs : List BaseArc) → AreNumbers number i arcs → (j : ℕ) → i ≤ j → j < i + length arcs
    → (s : LabelledSegment) → Among s (path_segments j (number j).left (number j).right 0 (number j).points) → Among s (arc_segments i arcs)
block_among number i [] at j low high s m = absurd (omega arith)
block_among number i (a ∷ arcs) at j low high s m =
    elim (cases_eq i j) [
      | inl e ↦ among_left (path_segments i a.left a.right 0 a.points) (arc_segments (i + 1) arcs) s
          (subst (λ (x : BaseArc). Among s (path_segments i x.left x.right 0 x.points)) at.0 (subst (λ n. Among s (path_segments n (number n).left (number n).right 0 (number n).points)) (sym e) m))
      | inr apart ↦
          among_right (path_segments i a.left a.right 0 a.points) (arc_segments (i + 1) arcs) s (block_among number (i + 1) arcs at.1 j (omega arith) (omega arith) s m)
    ]

-- the segments of an arc, in its direction
pub block_row : (i l r : ℕ) (points : List Point) → nat_le 2 (length points) ≡ true
    → (first : LabelledSegment) × (last : LabelledSegment) × IsRowFrom IsNext first last (path_segments i l r 0 points) × (first.starts ≡ true) × (last.ends ≡ true)
block_row i l r [] h = absurd cc
block_row i l r (a ∷ []) h = absurd cc
block_row i l r (a ∷ b ∷ points) h =
    let row = row_block i l r 0 a b points in (row_of i l r 0 (record { a = a; b = b }) (is_empty points), row.0, row.1, refl, row.2)

-- none is later than the one that ends the arc
pub end_greatest : (i l r place : ℕ) (points : List Point) (s t : LabelledSegment) → Among s (path_segments i l r place points)
    → Among t (path_segments i l r place points)
    → s.ends ≡ true → t.place ≤ s.place
end_greatest i l r place [] s t m n e = absurd m
end_greatest i l r place (a ∷ []) s t m n e = absurd m
end_greatest i l r place (a ∷ b ∷ []) s t (inl u) (inl v) e =
    omega (arith, ap (λ (x : LabelledSegment). x.place) u, ap (λ (x : LabelledSegment). x.place) v)
end_greatest i l r place (a ∷ b ∷ []) s t (inr m) n e = absurd m
end_greatest i l r place (a ∷ b ∷ []) s t (inl u) (inr n) e = absurd n
end_greatest i l r place (a ∷ b ∷ c ∷ points) s t (inl u) n e = absurd (true≢false (sym e ∙ sym (ap (λ (x : LabelledSegment). x.ends) u)))
end_greatest i l r place (a ∷ b ∷ c ∷ points) s t (inr m) (inl v) e =
    let f = of_row i l r (place + 1) (b ∷ c ∷ points) s m in
    omega (arith, f.later, ap (λ (x : LabelledSegment). x.place) v)
end_greatest i l r place (a ∷ b ∷ c ∷ points) s t (inr m) (inr n) e = end_greatest i l r (place + 1) (b ∷ c ∷ points) s t m n e

-- each place has one
pub place_once : (i l r place : ℕ) (points : List Point) (s t : LabelledSegment) → Among s (path_segments i l r place points)
    → Among t (path_segments i l r place points)
    → s.place ≡ t.place → s ≡ t
place_once i l r place [] s t m n e = absurd m
place_once i l r place (a ∷ []) s t m n e = absurd m
place_once i l r place (a ∷ b ∷ points) s t (inl u) (inl v) e = sym u ∙ v
place_once i l r place (a ∷ b ∷ points) s t (inl u) (inr n) e =
    let f = of_row i l r (place + 1) (b ∷ points) t n in
    absurd (omega (arith, f.later, ap (λ (x : LabelledSegment). x.place) u, e))
place_once i l r place (a ∷ b ∷ points) s t (inr m) (inl v) e =
    let f = of_row i l r (place + 1) (b ∷ points) s m in
    absurd (omega (arith, f.later, ap (λ (x : LabelledSegment). x.place) v, e))
place_once i l r place (a ∷ b ∷ points) s t (inr m) (inr n) e = place_once i l r (place + 1) (b ∷ points) s t m n e

-- and each segment of the map is one of an arc
pub among_block : (number : ℕ → BaseArc) (i : ℕ) (arcs : List BaseArc) → AreNumbers number i arcs → (s : LabelledSegment)
    → Among s (arc_segments i arcs)
    → (j : ℕ) × (i ≤ j) × (j < i + length arcs) × Among s (path_segments j (number j).left (number j).right 0 (number j).points)
among_block number i [] at s m = absurd m
among_block number i (a ∷ arcs) at s m =
    elim (append_among (path_segments i a.left a.right 0 a.points) (arc_segments (i + 1) arcs) s m) [
      | inl n ↦ (i, omega arith, omega arith, subst (λ (x : BaseArc). Among s (path_segments i x.left x.right 0 x.points)) (sym at.0) n)
      | inr n ↦ (let r = among_block number (i + 1) arcs at.1 s n in (r.0, omega (arith, r.1), omega (arith, r.2), r.3))
    ]
