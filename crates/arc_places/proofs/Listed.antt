-- The arcs that are listed for a point, as they come to be listed.
use Rattle.std.proofs.Common.{◌≡◌, ◌∙◌, ℕ, zero, suc, ◌≤◌, ◌<◌, eqb, nat_lt, ◌+◌, if◌then◌else◌, Bool, true, false, ◌&&◌, ◌||◌, List, [], ◌∷◌, ◌++◌, length, get_or, take, refl, sym, ap, subst, arith}
use Rattle.std.specs.List.{list_any}
use Rattle.std.proofs.lemmas.Bool.{false≢true, and_from, eqb-true, eqb-false, ltb-true, ltb-false, cond-true, cond-false}
use Rattle.std.proofs.lemmas.List.Folds.{list_any-append, list_any_more}
use Rattle.tgap_model.specs.declared.geometry.Point.{Point}
use Rattle.tgap_model.specs.declared.base.BaseArc.{BaseArc}
use Rattle.tgap_model.specs.Base.{same_point}
use Rattle.tgap_model.specs.Chains.{arc_number}
use Rattle.tgap_model.proofs.Points.{same_point-true}
use Rattle.face_cuts.specs.Nodes.{passes}
use Rattle.face_cuts.proofs.Cases.{by_test, or_left, or_right}
use Rattle.arc_places.specs.Places.{arc_passes, is_among, Covers}

-- a number that is listed and passes
pub listed_passes : (passes : ℕ → Bool) (numbers : List ℕ) (i : ℕ) → is_among i numbers ≡ true → passes i ≡ true → list_any passes numbers ≡ true
listed_passes passes [] i among passed = absurd (false≢true among)
listed_passes passes (j ∷ numbers) i among passed =
    by_test (eqb j i)
    (λ t. or_left (passes j) (list_any passes numbers) (let same = eqb-true j i t in subst (λ (n : ℕ). passes n ≡ true) (sym same) passed))
    (λ f. or_right (passes j) (list_any passes numbers) (listed_passes passes numbers i (rw f at among) passed))

pub some_listed : {P : Type 0} (passes : ℕ → Bool) (numbers : List ℕ) → list_any passes numbers ≡ true → ((i : ℕ) → passes i ≡ true → P) → P
some_listed passes [] e use_it = absurd (false≢true e)
some_listed passes (j ∷ numbers) e use_it =
    by_test (passes j)
    (λ t. use_it j t)
    (λ f. some_listed passes numbers (rw f at e) use_it)

-- the arc of a number, by its points
pub passes_at : (test : BaseArc → Bool) (arcs : List BaseArc) (i : ℕ) → i < length arcs → arc_passes test arcs i ≡ test (arc_number arcs i)
passes_at test [] i lt = absurd (omega arith)
passes_at test (a ∷ arcs) zero lt = refl
passes_at test (a ∷ arcs) (suc i) lt = passes_at test arcs i (omega arith)

pub passes_past : (test : BaseArc → Bool) (arcs : List BaseArc) (i : ℕ) → length arcs ≤ i → arc_passes test arcs i ≡ false
passes_past test [] i le = refl
passes_past test (a ∷ arcs) zero le = absurd (omega arith)
passes_past test (a ∷ arcs) (suc i) le = passes_past test arcs i (omega arith)

-- an arc without points has none, so one past the last has none
pub passes_here : (p : Point) (arcs : List BaseArc) (i : ℕ) → arc_passes (passes p) arcs i ≡ list_any (same_point p) (arc_number arcs i).points
passes_here p [] i = refl
passes_here p (a ∷ arcs) zero = refl
passes_here p (a ∷ arcs) (suc i) = passes_here p arcs i

-- ---- how the arcs are listed

-- the arcs before this number are listed
abbrev pub CoversBelow : ℕ → (Point → List ℕ) → List BaseArc → Type 0
CoversBelow n lists arcs = (p : Point) (i : ℕ) → i < n → arc_passes (passes p) arcs i ≡ true → is_among i (lists p) ≡ true

-- one more is
pub covers_more : (before after : Point → List ℕ) (arcs : List BaseArc) (n : ℕ) (points : List Point) → points ≡ (arc_number arcs n).points
    → ((p : Point) (i : ℕ) → is_among i (after p) ≡ (is_among i (before p) || (eqb n i && list_any (same_point p) points)))
    → CoversBelow n before arcs → CoversBelow (n + 1) after arcs
covers_more before after arcs n points same listed covers p i lt here =
    listed p i
    ∙ by_test (eqb n i)
    (λ t. or_right (is_among i (before p)) (eqb n i && list_any (same_point p) points)
    (and_from (eqb n i) (list_any (same_point p) points) t
    (ap (list_any (same_point p)) same ∙ (sym (passes_here p arcs n) ∙ subst (λ (m : ℕ). arc_passes (passes p) arcs m ≡ true) (sym (eqb-true n i t)) here))))
    (λ f. or_left (is_among i (before p)) (eqb n i && list_any (same_point p) points) (let apart = eqb-false n i f in covers p i (by_apart n i lt apart) here))
  where
    by_apart : (m j : ℕ) → j < m + 1 → (m ≡ j → ⊥) → j < m
    by_apart m j h apart = omega (arith, apart)

pub covers_all : (lists : Point → List ℕ) (arcs : List BaseArc) (n : ℕ) → length arcs ≤ n → CoversBelow n lists arcs → Covers lists arcs
covers_all lists arcs n le covers p i e =
    by_test (nat_lt i n)
    (λ t. covers p i (ltb-true i n t) e)
    (λ f. absurd (false≢true (sym (passes_past (passes p) arcs i (let past = ltb-false i n f in omega arith)) ∙ e)))

-- a test and one more, put together before or after
regrouped : (a e b : Bool) → ((a || (e && b)) || (e || false)) ≡ (a || (e && (b || true)))
regrouped true e b = refl
regrouped false true true = refl
regrouped false true false = refl
regrouped false false b = refl

without_more : (a e b : Bool) → (a || (e && b)) ≡ (a || (e && (b || false)))
without_more a e true = refl
without_more a e false = refl

-- an arc is listed for one point more
pub listed_more : (i arc : ℕ) (p point : Point) (points : List Point) (k : ℕ) (first : Bool) (before : Point → List ℕ) (after : List ℕ)
    → k < length points → point ≡ get_or points k point → after ≡ (if same_point p point then before point ++ arc ∷ [] else before p)
    → is_among i (before p) ≡ (first || (eqb arc i && list_any (same_point p) (take k points)))
    → is_among i after ≡ (first || (eqb arc i && list_any (same_point p) (take (k + 1) points)))
listed_more i arc p point points k first before after lt here lists so_far =
    let b = list_any (same_point p) (take k points) in
    let e = eqb arc i in
    let more : list_any (same_point p) (take (k + 1) points) ≡ (b || same_point p point) =
    list_any_more (same_point p) points k point lt ∙ ap (λ (q : Point). b || same_point p q) (sym here) in
    by_test (same_point p point)
    (λ t.
    let all : list_any (same_point p) (take (k + 1) points) ≡ (b || true) = more ∙ ap (λ (s : Bool). b || s) t in
    let list : after ≡ before point ++ arc ∷ [] = lists ∙ cond-true (same_point p point) (before point ++ arc ∷ []) (before p) t in
    let same : before point ≡ before p = ap before (sym (same_point-true p point t)) in
    ap (is_among i) (list ∙ ap (λ (xs : List ℕ). xs ++ arc ∷ []) same)
    ∙ (list_any-append (λ j. eqb j i) (before p) (arc ∷ [])
    ∙ (ap (λ (s : Bool). s || (e || false)) so_far
    ∙ (regrouped first e b ∙ ap (λ (s : Bool). first || (e && s)) (sym all)))))
    (λ f.
    let all : list_any (same_point p) (take (k + 1) points) ≡ (b || false) = more ∙ ap (λ (s : Bool). b || s) f in
    let list : after ≡ before p = lists ∙ cond-false (same_point p point) (before point ++ arc ∷ []) (before p) f in
    ap (is_among i) list ∙ (so_far ∙ (without_more first e b ∙ ap (λ (s : Bool). first || (e && s)) (sym all))))
