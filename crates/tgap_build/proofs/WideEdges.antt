-- A sweep leaves an edge as it is that does not border the new face, or has no corner which is small enough.
use Rattle.std.proofs.Common.{◌≡◌, ◌∙◌, inl, inr, ℕ, zero, suc, ◌+◌, ◌<◌, ◌≤◌, ℤ, ◌==◌, ◌&&◌, ◌||◌, not, Bool, true, false, cond, List, [], ◌∷◌, ◌++◌, length, length-append, get_or, filter, All, refl, sym, ap, ap₂, arith}
use Rattle.std.specs.List.{list_any}
use Rattle.std.proofs.lemmas.List.{get_or-map}
use Rattle.std.proofs.Math.Seq.{get_or-append_seam}
use Rattle.tgap_model.specs.declared.geometry.Point.{Point}
use Rattle.tgap_model.specs.declared.slice.Edge.{Edge}
use Rattle.tgap_model.specs.declared.slice.Removal.{Removal}
use Rattle.tgap_model.specs.Base.{BaseMap, is_base}
use Rattle.tgap_model.specs.Partition.{IsPartition, base_segments}
use Rattle.tgap_model.specs.History.{history_of}
use Rattle.tgap_model.specs.Merged.{merged, step_number}
use Rattle.tgap_model.specs.Removals.{Swept, sweep, sweep_points, sweep_edges, live_segments, has_side, without}
use Rattle.map_laws.proofs.ChainMembers.{Among}
use Rattle.removal_laws.specs.Trace.{swept_edge, swept_edges, step_area, edges_before_sweep}
use Rattle.removal_laws.proofs.StandOnce.{partition_has_removals}
use Rattle.step_laws.proofs.StepRemovals.{step_list}
use Rattle.vertex_drop.specs.Corners.{has_small_corner}
use Rattle.vertex_drop.proofs.Chosen.{all_stay}
use Rattle.tgap_build.proofs.Taken.{taken_is, swept_before}

abbrev behind_first : {A : Type 0} → List A → List A
behind_first [] = []
behind_first (x ∷ xs) = xs

-- where all points stay, none is one of those that go
pub none_of_all : {A : Type 0} (p : A → Bool) (xs : List A) → filter (λ x. not (p x)) xs ≡ xs → list_any p xs ≡ false
none_of_all {A} p [] h = refl
none_of_all {A} p (x ∷ xs) h = by (p x) refl (none_of_all p xs)
  where
    shorter : (ys : List A) → length (filter (λ y. not (p y)) ys) ≤ length ys
    shorter [] = omega arith
    shorter (y ∷ ys) = one (p y) (shorter ys)
      where
        one : (b : Bool) → length (filter (λ y. not (p y)) ys) ≤ length ys → length (cond (not b) (y ∷ filter (λ y. not (p y)) ys) (filter (λ y. not (p y)) ys)) ≤ length (y ∷ ys)
        one true le = omega (arith, le)
        one false le = omega (arith, le)

    by : (b : Bool) → p x ≡ b → (filter (λ y. not (p y)) xs ≡ xs → list_any p xs ≡ false) → list_any p (x ∷ xs) ≡ false
    by true t rest =
        let is : filter (λ y. not (p y)) xs ≡ x ∷ xs = sym (ap (λ (b : Bool). cond (not b) (x ∷ filter (λ y. not (p y)) xs) (filter (λ y. not (p y)) xs)) t) ∙ h in
        let le = shorter xs in
        absurd (omega (arith, le, ap length is))
    by false t rest =
        let is : x ∷ filter (λ y. not (p y)) xs ≡ x ∷ xs = sym (ap (λ (b : Bool). cond (not b) (x ∷ filter (λ y. not (p y)) xs) (filter (λ y. not (p y)) xs)) t) ∙ h in
        ap (λ (b : Bool). b || list_any p xs) t ∙ rest (ap behind_first is)

module _ (ratio : ℕ) (area : ℤ) (made : ℕ) where
  wide_edge : (before : List Edge) (e : Edge) (edges : List Edge) → has_small_corner ratio area e.points ≡ false → swept_edge ratio area before e edges ≡ e
  wide_edge before e edges wide =
      ap (λ (s : Swept). record { key = e.key; left = e.left; right = e.right; points = s.kept }) (all_stay ratio area (live_segments before ++ live_segments edges) e.points wide)

  -- one more edge is swept, or passed by
  abbrev swept_on : List Edge → Edge → List Edge → Bool → List Edge
  swept_on before e edges b = elim b [
    | true ↦ swept_edges ratio area made (before ++ swept_edge ratio area before e edges ∷ []) edges
    | false ↦ swept_edges ratio area made (before ++ e ∷ []) edges
  ]

  -- an edge that may lose no vertex stays as it is
  stays_at : (before edges : List Edge) (i j : ℕ) (d : Edge) → j ≡ length before + i → i < length edges
      → (has_side made (get_or edges i d) && has_small_corner ratio area (get_or edges i d).points) ≡ false
      → get_or (swept_edges ratio area made before edges) j d ≡ get_or edges i d
  stays_at before [] i j d at l off = absurd (omega arith)
  stays_at before (e ∷ edges) zero j d at l off =
      by (has_side made e) refl
    where
      here : (x : Edge) → x ≡ e → get_or (swept_edges ratio area made (before ++ x ∷ []) edges) j d ≡ e
      here x is =
          let j_is : j ≡ length before = omega (arith, at) in
          swept_before ratio area made (before ++ x ∷ []) edges j d (omega (arith, length-append before (x ∷ []), at))
          ∙ ap (λ (n : ℕ). get_or (before ++ x ∷ []) n d) j_is
          ∙ get_or-append_seam before x [] d ∙ is

      by : (b : Bool) → has_side made e ≡ b → get_or (swept_on before e edges (has_side made e)) j d ≡ e
      by true t =
          let wide : has_small_corner ratio area e.points ≡ false = sym (ap (λ (b : Bool). b && has_small_corner ratio area e.points) t) ∙ off in
          ap (λ (b : Bool). get_or (swept_on before e edges b) j d) t
          ∙ here (swept_edge ratio area before e edges) (wide_edge before e edges wide)
      by false t = ap (λ (b : Bool). get_or (swept_on before e edges b) j d) t ∙ here e refl
  stays_at before (e ∷ edges) (suc i) j d at l off =
      by (has_side made e) (λ x. stays_at (before ++ x ∷ []) edges i j d (omega (arith, at, length-append before (x ∷ []))) (omega arith) off)
    where
      by : (b : Bool) → ((x : Edge) → get_or (swept_edges ratio area made (before ++ x ∷ []) edges) j d ≡ get_or edges i d) → get_or (swept_on before e edges b) j d ≡ get_or edges i d
      by true next = next (swept_edge ratio area before e edges)
      by false next = next e

  -- where no edge may lose a vertex, none goes
  none_edges : (before edges : List Edge) → ((e : Edge) → Among e edges → (has_side made e && has_small_corner ratio area e.points) ≡ false) → sweep_edges ratio area made before edges ≡ []
  none_edges before [] off = refl
  none_edges before (e ∷ edges) off =
      by (has_side made e) refl (λ x. none_edges (before ++ x ∷ []) edges (λ f m. off f (inr m)))
    where
      next : Bool → List Point
      next b = elim b [
        | true ↦
            (let s = sweep_points ratio area (live_segments before ++ live_segments edges) e.points in
            s.gone ++ sweep_edges ratio area made (before ++ record e { points = s.kept } ∷ []) edges)
        | false ↦ sweep_edges ratio area made (before ++ e ∷ []) edges
      ]

      by : (b : Bool) → has_side made e ≡ b → ((x : Edge) → sweep_edges ratio area made (before ++ x ∷ []) edges ≡ []) → next (has_side made e) ≡ []
      by true t rest =
          let wide : has_small_corner ratio area e.points ≡ false = sym (ap (λ (b : Bool). b && has_small_corner ratio area e.points) t) ∙ off e (inl refl) in
          let s = sweep_points ratio area (live_segments before ++ live_segments edges) e.points in
          ap next t
          ∙ ap₂ (λ (xs ys : List Point). xs ++ ys) (ap (λ (s : Swept). s.gone) (all_stay ratio area (live_segments before ++ live_segments edges) e.points wide))
          (rest (record e { points = s.kept }))
      by false t rest = ap next t ∙ rest e

  pub none_swept : (edges : List Edge) → ((e : Edge) → Among e edges → (has_side made e && has_small_corner ratio area e.points) ≡ false) → sweep ratio area made edges ≡ []
  unfolding sweep
  none_swept edges off = by (ratio == 0)
    where
      by : (b : Bool) → cond b [] (sweep_edges ratio area made [] edges) ≡ []
      by true = refl
      by false = none_edges [] edges off

-- ---- a step

module _ (m : BaseMap) (base : is_base m ≡ true) (planar : IsPartition (base_segments m)) (k : ℕ) (some : 0 < k) (within : k ≤ length (history_of m))
    (removals : List Removal) (is : removals ≡ step_list m base planar k some within) where
  abbrev edges : List Edge
  edges = edges_before_sweep (merged m) k

  -- the edges that may lose no vertex keep their points
  pub wide_stay : All
      (λ (e : Edge). (has_side (step_number (merged m) k).made e && has_small_corner m.rules.ratio (step_area (merged m) k) e.points) ≡ false → without removals e.points ≡ e.points)
      (edges_before_sweep (merged m) k)
  wide_stay i d l off =
      ap (λ (e : Edge). e.points) (
      sym (get_or-map (λ (e : Edge). record e { points = without removals e.points }) edges i d d l)
      ∙ ap (λ (es : List Edge). get_or es i d) (taken_is m base planar k some within removals is ∙ sym ((partition_has_removals m base planar k).left some within))
      ∙ by (m.rules.ratio == 0)
      )
    where
      by : (b : Bool) → get_or (cond b edges (swept_edges m.rules.ratio (step_area (merged m) k) (step_number (merged m) k).made [] edges)) i d ≡ get_or edges i d
      by true = refl
      by false = stays_at m.rules.ratio (step_area (merged m) k) (step_number (merged m) k).made [] edges i i d (omega arith) l off

  -- so do those that do not border the face
  pub others_stay : All (λ (e : Edge). has_side (step_number (merged m) k).made e ≡ false → without removals e.points ≡ e.points) (edges_before_sweep (merged m) k)
  others_stay i d l off =
      wide_stay i d l (ap (λ (b : Bool). b && has_small_corner m.rules.ratio (step_area (merged m) k) (get_or (edges_before_sweep (merged m) k) i d).points) off)
