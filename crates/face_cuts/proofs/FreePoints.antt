-- Whether points are free: the points of a row that are different, and tests of one row against another.
use Rattle.std.proofs.Common.{◌≡◌, ℕ, zero, suc, ◌+◌, ◌<◌, Bool, true, false, not, ◌&&◌, ◌||◌, List, [], ◌∷◌, length, drop, get_or, refl, sym, ap, ap₂, ◌∙◌, subst}
use Rattle.std.specs.List.{list_any}
use Rattle.std.proofs.lemmas.Bool.{and_parts, false≢true}
use Rattle.std.proofs.lemmas.List.{drop_more}
use Rattle.tgap_model.specs.declared.geometry.Point.{Point}
use Rattle.tgap_model.specs.declared.base.BaseArc.{BaseArc}
use Rattle.tgap_model.specs.Base.{same_point}
use Rattle.grid_geo.proofs.PointOrder.{points}
use Rattle.face_cuts.specs.Nodes.{passes}
use Rattle.face_cuts.specs.Cuts.{all_different, are_free, has_point, inner_points}
use Rattle.face_cuts.proofs.Cases.{by_test, not_held}

-- ---- one point more, from the end

module _ (ps : List Point) (k : ℕ) (d : Point) (l : k < length ps) where
  pub all_different_more : all_different (drop k ps) ≡ (not (list_any (same_point (get_or ps k d)) (drop (k + 1) ps)) && all_different (drop (k + 1) ps))
  all_different_more = ap all_different (drop_more ps k d l)

  pub any_more : (p : Point) → list_any (same_point p) (drop k ps) ≡ (same_point p (get_or ps k d) || list_any (same_point p) (drop (k + 1) ps))
  any_more p = ap (list_any (same_point p)) (drop_more ps k d l)

-- points of which the later ones are not different are not different
pub different_later : (ps : List Point) (k : ℕ) → all_different ps ≡ true → all_different (drop k ps) ≡ true
different_later ps zero h = h
different_later [] (suc k) h = refl
different_later (p ∷ ps) (suc k) h = different_later ps k (and_parts (not (list_any (same_point p) ps)) (all_different ps) h).1

pub not_different : (ps : List Point) (k : ℕ) → all_different (drop k ps) ≡ false → all_different ps ≡ false
not_different ps k h = not_held (all_different ps) (λ e. false≢true (sym h ∙ different_later ps k e))

-- ---- tests of one row against another

pub any_agree : {A : Type 0} (p q : A → Bool) (xs : List A) → ((x : A) → p x ≡ q x) → list_any p xs ≡ list_any q xs
any_agree p q [] h = refl
any_agree p q (x ∷ xs) h = ap₂ (λ (a b : Bool). a || b) (h x) (any_agree p q xs h)

any_none : {A : Type 0} (xs : List A) → list_any (λ x. false) xs ≡ false
any_none [] = refl
any_none (x ∷ xs) = any_none xs

any_or : {A : Type 0} (p q : A → Bool) (xs : List A) → list_any (λ x. p x || q x) xs ≡ (list_any p xs || list_any q xs)
any_or p q [] = refl
any_or p q (x ∷ xs) = ap (λ b. (p x || q x) || b) (any_or p q xs) ∙ by (p x) (q x) (list_any p xs) (list_any q xs)
  where
    by : (a b c d : Bool) → ((a || b) || (c || d)) ≡ ((a || c) || (b || d))
    by true b c d = refl
    by false true true d = refl
    by false true false d = refl
    by false false c d = refl

pub any_swapped : {A B : Type 0} (r : A → B → Bool) (xs : List A) (ys : List B) → list_any (λ x. list_any (r x) ys) xs ≡ list_any (λ y. list_any (λ x. r x y) xs) ys
any_swapped r [] ys = sym (any_none ys)
any_swapped r (x ∷ xs) ys = ap (λ b. list_any (r x) ys || b) (any_swapped r xs ys) ∙ sym (any_or (r x) (λ y. list_any (λ x. r x y) xs) ys)

same_back : (p q : Point) → same_point p q ≡ same_point q p
same_back p q = by_test (same_point p q)
    (λ e. e ∙ sym (subst (λ (v : Point). same_point v p ≡ true) (points.same p q e) (points.itself p)))
    (λ e. e ∙ sym (not_held (same_point q p) (λ f. false≢true (sym e ∙ subst (λ (v : Point). same_point v q ≡ true) (points.same q p f) (points.itself q)))))

-- a point of a row is one of the points of the arcs, and the other way round
pub passed : (arcs : List BaseArc) (ps : List Point) → list_any (λ a. list_any (λ p. list_any (same_point p) ps) a.points) arcs ≡ list_any (has_point arcs) ps
passed arcs ps =
    any_agree (λ a. list_any (λ p. list_any (same_point p) ps) a.points) (λ (a : BaseArc). list_any (λ q. passes q a) ps) arcs
    (λ a. any_swapped same_point a.points ps ∙ any_agree (λ q. list_any (λ p. same_point p q) a.points) (λ q. passes q a) ps
    (λ q. any_agree (λ p. same_point p q) (same_point q) a.points (λ p. same_back p q)))
    ∙ any_swapped (λ (a : BaseArc) (q : Point). passes q a) arcs ps

pub free_is : (arcs : List BaseArc) (ps inner : List Point) (has : Point → Bool) (any : Bool) → all_different ps ≡ true → inner ≡ inner_points ps → ((p : Point) → has p ≡ list_any (same_point p) inner)
    → any ≡ list_any (λ a. list_any has a.points) arcs → not any ≡ are_free arcs ps
free_is arcs ps inner has any different is each told =
    let any_is : any ≡ list_any (has_point arcs) (inner_points ps) =
    told ∙ any_agree (λ (a : BaseArc). list_any has a.points) (λ (a : BaseArc). list_any (λ p. list_any (same_point p) inner) a.points) arcs
    (λ a. any_agree has (λ p. list_any (same_point p) inner) a.points each)
    ∙ passed arcs inner ∙ ap (list_any (has_point arcs)) is in
    ap not any_is ∙ ap (λ b. b && not (list_any (has_point arcs) (inner_points ps))) (sym different)
