-- What a removed vertex moves from face to face, for any set of faces at once.
use Rattle.std.proofs.Common.{◌≡◌, ℕ, ◌==◌, Bool, true, false, cond, ℤ, pos, ◌+ℤ◌, ◌-ℤ◌, List, [], ◌∷◌, ◌++◌, map, All, refl, sym, ap, ap₂, ◌∙◌, arith}
use Rattle.std.proofs.lemmas.Int.{ints}
use Rattle.std.proofs.lemmas.List.Elements.{All-head, All-tail}
use Rattle.lemmas.proofs.Polynomials.{same_value, var, ◌⊕◌, ◌⊖◌, ◌⊗◌}
use Rattle.tgap_model.specs.declared.geometry.Point.{Point}
use Rattle.tgap_model.specs.declared.slice.Edge.{Edge}
use Rattle.tgap_model.specs.Point.{cross, shoelace, shoelace_term}
use Rattle.tgap_model.specs.History.{area_part}
use Rattle.tgap_model.specs.Merged.{MergedMap, step_number}
use Rattle.removal_laws.specs.Trace.{Taken, edges_without, edges_before_sweep, edges_after_sweep, step_area, trace_at}
use Rattle.removal_laws.specs.TraceLaws.{IsTakenByRule, LeadTo}
use Rattle.removal_laws.proofs.Tracing.{at_step}
use Rattle.picture_laws.specs.Areas.{edge_arc, area_in, triangle_part, RemovalMovesTriangle, SweepMovesTriangles}
use Rattle.picture_laws.proofs.Sums.{int_sum, fold_is_sum, int_sum-append, int_sum-map}

-- what a row between two faces gives to a set of faces
abbrev pub between : (ℕ → Bool) → ℕ → ℕ → ℤ → ℤ
between face left right z = cond (face left) z (pos 0) -ℤ cond (face right) z (pos 0)

-- it is nothing where both are one face
pub between_one : (face : ℕ → Bool) (l r : ℕ) (z : ℤ) → l ≡ r → between face l r z ≡ pos 0
between_one face l r z e = by (face l) (face r) (ap face e)
  where
    by : (b c : Bool) → b ≡ c → cond b z (pos 0) -ℤ cond c z (pos 0) ≡ pos 0
    by true true e = omega (arith, ints)
    by true false e = cc
    by false true e = cc
    by false false e = omega (arith, ints)

-- and it adds
pub between_sum : (face : ℕ → Bool) (l r : ℕ) (y z : ℤ) → between face l r (y +ℤ z) ≡ between face l r y +ℤ between face l r z
between_sum face l r y z = by (face l) (face r)
  where
    by : (b c : Bool) → cond b (y +ℤ z) (pos 0) -ℤ cond c (y +ℤ z) (pos 0) ≡ (cond b y (pos 0) -ℤ cond c y (pos 0)) +ℤ (cond b z (pos 0) -ℤ cond c z (pos 0))
    by true true = omega (arith, ints)
    by true false = omega (arith, ints)
    by false true = omega (arith, ints)
    by false false = omega (arith, ints)

between_less : (face : ℕ → Bool) (l r : ℕ) (x y z : ℤ) → x ≡ y -ℤ z → between face l r x ≡ between face l r y -ℤ between face l r z
between_less face l r x y z e = by (face l) (face r)
  where
    by : (b c : Bool) → cond b x (pos 0) -ℤ cond c x (pos 0) ≡ (cond b y (pos 0) -ℤ cond c y (pos 0)) -ℤ (cond b z (pos 0) -ℤ cond c z (pos 0))
    by true true = omega (arith, ints, e)
    by true false = omega (arith, ints, e)
    by false true = omega (arith, ints, e)
    by false false = omega (arith, ints, e)

-- what an edge gives
abbrev pub edge_part : (ℕ → Bool) → Edge → ℤ
edge_part face e = between face e.left e.right (shoelace e.points)

-- the area of a face is a sum over its edges
pub area_is_sum : (edges : List Edge) (f : ℕ) → area_in edges f ≡ int_sum (edge_part (λ g. g == f)) edges
area_is_sum edges f = fold_is_sum (area_part f) (map edge_arc edges) ∙ int_sum-map (area_part f) edge_arc edges

-- ---- one vertex

-- the shoelace terms of two segments in a row are those of the segment in their place and the triangle
triangle_terms : (a b c : Point) → shoelace_term a c ≡ (shoelace_term a b +ℤ shoelace_term b c) -ℤ cross a b c
triangle_terms a b c =
    same_value (a.x ∷ a.y ∷ b.x ∷ b.y ∷ c.x ∷ c.y ∷ [])
    (var 0 ⊗ var 5 ⊖ var 4 ⊗ var 1)
    (((var 0 ⊗ var 3 ⊖ var 2 ⊗ var 1) ⊕ (var 2 ⊗ var 5 ⊖ var 4 ⊗ var 3))
    ⊖ ((var 2 ⊖ var 0) ⊗ (var 5 ⊖ var 1) ⊖ (var 3 ⊖ var 1) ⊗ (var 4 ⊖ var 0))) refl

-- a row without b
row_without : (front rest : List Point) (a b c : Point) → shoelace (front ++ a ∷ c ∷ rest) ≡ shoelace (front ++ a ∷ b ∷ c ∷ rest) -ℤ cross a b c
row_without [] rest a b c = let e = triangle_terms a b c in omega (arith, ints, e)
row_without (p ∷ []) rest a b c = let e = row_without [] rest a b c in omega (arith, ints, e)
row_without (p ∷ q ∷ front) rest a b c = let e = row_without (q ∷ front) rest a b c in omega (arith, ints, e)

module _ (face : ℕ → Bool) where
  -- what the removal of a vertex takes from the faces
  abbrev pub taken_part : Taken → ℤ
  taken_part t = between face t.edge.left t.edge.right (cross t.a t.b t.c)

  pub removal_moves : (before after : List Edge) (e : Edge) (front rest : List Point) (a b c : Point)
      → int_sum (edge_part face) (before ++ record e { points = front ++ a ∷ c ∷ rest } ∷ after)
      ≡ int_sum (edge_part face) (before ++ record e { points = front ++ a ∷ b ∷ c ∷ rest } ∷ after) -ℤ between face e.left e.right (cross a b c)
  removal_moves before after e front rest a b c =
      let x = int_sum-append (edge_part face) before (record e { points = front ++ a ∷ c ∷ rest } ∷ after) in
      let y = int_sum-append (edge_part face) before (record e { points = front ++ a ∷ b ∷ c ∷ rest } ∷ after) in
      let z = between_less face e.left e.right (shoelace (front ++ a ∷ c ∷ rest)) (shoelace (front ++ a ∷ b ∷ c ∷ rest)) (cross a b c) (row_without front rest a b c) in
      taken_out _ _ (int_sum (edge_part face) before) _ _ (int_sum (edge_part face) after) _ x y z
    where
      taken_out : (whole old front new was rest t : ℤ) → whole ≡ front +ℤ (new +ℤ rest) → old ≡ front +ℤ (was +ℤ rest) → new ≡ was -ℤ t → whole ≡ old -ℤ t
      taken_out whole old front new was rest t x y z = omega (arith, ints, x, y, z)

  -- what leads from edges to others by the rule takes its triangles from them
  lead_moves : (ratio : ℕ) (area : ℤ) (made : ℕ) (edges : List Edge) (ts : List Taken) (last : List Edge) → LeadTo edges ts last
      → All (IsTakenByRule ratio area made) ts → int_sum (edge_part face) last ≡ int_sum (edge_part face) edges -ℤ int_sum taken_part ts
  lead_moves ratio area made edges [] last leads rule =
      let e = ap (int_sum (edge_part face)) leads in omega (arith, ints, e)
  lead_moves ratio area made edges (t ∷ ts) last leads rule =
      let rest = lead_moves ratio area made (edges_without t) ts last leads.1 (All-tail (IsTakenByRule ratio area made) t ts rule) in
      let here = removal_moves t.before t.after t.edge t.front t.rest t.a t.b t.c in
      let whole =
      ap (λ ps. int_sum (edge_part face) (t.before ++ record t.edge { points = ps } ∷ t.after)) (sym (All-head (IsTakenByRule ratio area made) t ts rule).points)
      ∙ ap (int_sum (edge_part face)) leads.0 in
      then_less _ _ _ _ _ _ rest here whole
    where
      then_less : (last without full whole one more : ℤ) → last ≡ without -ℤ more → without ≡ full -ℤ one → full ≡ whole → last ≡ whole -ℤ (one +ℤ more)
      then_less last without full whole one more e f g = omega (arith, ints, e, f, g)

  pub sweep_moves : (h : MergedMap) (j : ℕ)
      → int_sum (edge_part face) (edges_after_sweep h j) ≡ int_sum (edge_part face) (edges_before_sweep h j) -ℤ int_sum taken_part (trace_at h j)
  sweep_moves h j =
      lead_moves h.base.rules.ratio (step_area h j) (step_number h j).made (edges_before_sweep h j) (trace_at h j) (edges_after_sweep h j)
      (at_step h j).leads (at_step h j).rule

-- ---- the laws

pub removal_moves_triangle : RemovalMovesTriangle
removal_moves_triangle before after e front rest a b c f =
    area_is_sum (before ++ record e { points = front ++ a ∷ c ∷ rest } ∷ after) f
    ∙ removal_moves (λ g. g == f) before after e front rest a b c
    ∙ ap (λ s. s -ℤ triangle_part f e.left e.right a b c) (sym (area_is_sum (before ++ record e { points = front ++ a ∷ b ∷ c ∷ rest } ∷ after) f))

pub sweep_moves_triangles : SweepMovesTriangles
sweep_moves_triangles h j f =
    area_is_sum (edges_after_sweep h j) f
    ∙ sweep_moves (λ g. g == f) h j
    ∙ ap₂ (λ s t. s -ℤ t) (sym (area_is_sum (edges_before_sweep h j) f))
    (sym (fold_is_sum (λ (t : Taken). triangle_part f t.edge.left t.edge.right t.a t.b t.c) (trace_at h j)))
