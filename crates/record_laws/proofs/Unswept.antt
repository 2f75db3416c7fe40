-- An edge that does not border the new face is not swept.
use Rattle.std.proofs.Common.{◌≡◌, inl, inr, ℕ, ◌-◌, ◌==◌, ℤ, Bool, true, false, cond, List, [], ◌∷◌, ◌++◌, map, append_assoc, refl, sym, ap, ◌∙◌}
use Rattle.std.proofs.lemmas.List.{append-nil}
use Rattle.tgap_model.specs.declared.slice.Edge.{Edge}
use Rattle.tgap_model.specs.Merged.{MergedMap, step_number}
use Rattle.tgap_model.specs.Chains.{Chain, chains_at}
use Rattle.tgap_model.specs.Removals.{edge_of, edges_of, has_side, removals_to}
use Rattle.map_laws.proofs.ChainMembers.{Among}
use Rattle.removal_laws.specs.Trace.{swept_edge, swept_edges, step_area, edges_before_sweep, edges_after_sweep}

-- ---- lists

pub cons_head : {A : Type 0} (x y : A) (xs ys : List A) → x ∷ xs ≡ y ∷ ys → x ≡ y
cons_head x y xs ys e = cc

pub cons_tail : {A : Type 0} (x y : A) (xs ys : List A) → x ∷ xs ≡ y ∷ ys → xs ≡ ys
cons_tail x y xs ys e = cc

front_cancels : {A : Type 0} (xs ys zs : List A) → xs ++ ys ≡ xs ++ zs → ys ≡ zs
front_cancels [] ys zs e = e
front_cancels (x ∷ xs) ys zs e = front_cancels xs ys zs (cons_tail x x (xs ++ ys) (xs ++ zs) e)

module _ (ratio : ℕ) (area : ℤ) (made : ℕ) where
  -- what comes of the first edge
  abbrev next_edge : List Edge → Edge → List Edge → Edge
  next_edge before e edges = cond (has_side made e) (swept_edge ratio area before e edges) e

  swept_next : (before : List Edge) (e : Edge) (edges : List Edge)
      → swept_edges ratio area made before (e ∷ edges) ≡ swept_edges ratio area made (before ++ next_edge before e edges ∷ []) edges
  swept_next before e edges = by (has_side made e)
    where
      by : (v : Bool) → ◌≡◌ {A = List Edge} (elim v [
        | true ↦ swept_edges ratio area made (before ++ swept_edge ratio area before e edges ∷ []) edges
        | false ↦ swept_edges ratio area made (before ++ e ∷ []) edges
      ]) (swept_edges ratio area made (before ++ cond v (swept_edge ratio area before e edges) e ∷ []) edges)
      by true = refl
      by false = refl

  -- the edges before stay in front
  swept_front : (before edges : List Edge) → (rest : List Edge) × (swept_edges ratio area made before edges ≡ before ++ rest)
  swept_front before [] = ([], sym (append-nil before))
  swept_front before (e ∷ edges) =
      let r = swept_front (before ++ next_edge before e edges ∷ []) edges in
      (next_edge before e edges ∷ r.0, swept_next before e edges ∙ r.1 ∙ append_assoc before (next_edge before e edges ∷ []) r.0)

  -- so where it is known what the sweep makes of edges, one that does not have the face stays
  pub swept_same : {A : Type 0} (f g : A → Edge) (xs : List A) (before : List Edge)
      → swept_edges ratio area made before (map f xs) ≡ before ++ map g xs → (x : A) → Among x xs → has_side made (f x) ≡ false → g x ≡ f x
  swept_same f g [] before e x m s = absurd m
  swept_same {A} f g (y ∷ ys) before e x m s =
      let new : Edge = next_edge before (f y) (map f ys) in
      let r = swept_front (before ++ new ∷ []) (map f ys) in
      let whole : before ++ new ∷ r.0 ≡ before ++ g y ∷ map g ys
      = sym (append_assoc before (new ∷ []) r.0) ∙ sym r.1 ∙ sym (swept_next before (f y) (map f ys)) ∙ e in
      let same : new ∷ r.0 ≡ g y ∷ map g ys = front_cancels before (new ∷ r.0) (g y ∷ map g ys) whole in
      let later : r.0 ≡ map g ys = cons_tail new (g y) r.0 (map g ys) same in
      elim m [
        | inl a ↦
            sym (ap g a) ∙ sym (cons_head new (g y) r.0 (map g ys) same)
            ∙ ap (λ (v : Bool). cond v (swept_edge ratio area before (f y) (map f ys)) (f y)) (ap (λ (z : A). has_side made (f z)) a ∙ s) ∙ ap f a
        | inr n ↦ swept_same f g ys (before ++ new ∷ []) (r.1 ∙ ap (λ (es : List Edge). (before ++ new ∷ []) ++ es) later) x n s
      ]

-- where the sweep of a step leaves the edges of its slice, one that does not border the new face is as before the sweep
pub unswept : (h : MergedMap) (j : ℕ) → edges_after_sweep h j ≡ edges_of h j (removals_to h j) (chains_at h j)
    → (c : Chain) → Among c (chains_at h j) → has_side (step_number h j).made (edge_of h j (removals_to h (j - 1)) c) ≡ false
    → edge_of h j (removals_to h j) c ≡ edge_of h j (removals_to h (j - 1)) c
unswept h j left c m s = by (h.base.rules.ratio == 0) left
  where
    f : Chain → Edge
    f c = edge_of h j (removals_to h (j - 1)) c

    g : Chain → Edge
    g c = edge_of h j (removals_to h j) c

    one : (xs : List Chain) → map f xs ≡ map g xs → Among c xs → g c ≡ f c
    one [] e n = absurd n
    one (x ∷ xs) e (inl a) = sym (ap g a) ∙ sym (cons_head (f x) (g x) (map f xs) (map g xs) e) ∙ ap f a
    one (x ∷ xs) e (inr n) = one xs (cons_tail (f x) (g x) (map f xs) (map g xs) e) n

    by : (v : Bool) → cond v (edges_before_sweep h j) (swept_edges h.base.rules.ratio (step_area h j) (step_number h j).made [] (edges_before_sweep h j))
        ≡ edges_of h j (removals_to h j) (chains_at h j) → g c ≡ f c
    by true e = one (chains_at h j) e m
    by false e = swept_same h.base.rules.ratio (step_area h j) (step_number h j).made f g (chains_at h j) [] e c m s
