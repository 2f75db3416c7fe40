-- The two parts of a face that was cut, fused, are the face again.
use Rattle.std.proofs.Common.{◌≡◌, ◌≢◌, ◌∙◌, ◌⊎◌, inl, inr, ℕ, ◌+◌, ◌-◌, ◌≤◌, ◌==◌, ◌&&◌, ◌||◌, Bool, true, false, not, cond, Ok, List, [], ◌∷◌, ◌++◌, length, map, take, set, refl, sym, ap, ap₂, subst, eqb-true, length-append, arith}
use Rattle.std.specs.Prelude.{slice_index}
use Rattle.std.specs.List.{list_all, list_any}
use Rattle.std.proofs.lemmas.Bool.{and_parts, and_from, le-leb, false≢true}
use Rattle.std.proofs.Math.Seq.{take-append_seam, set-append_seam}
use Rattle.std.proofs.lemmas.List.{append-nil}
use Rattle.std.proofs.lemmas.List.Elements.{filter-append}
use Rattle.std.proofs.lemmas.List.Folds.{list_any-append}
use Rattle.tgap_model.specs.declared.base.BaseArc.{BaseArc}
use Rattle.tgap_model.specs.Base.{is_arc, borders_face}
use Rattle.tgap_model.proofs.BaseFacts.{base_facts, arc_facts}
use Rattle.ring_walk.specs.declared.side.Side.{Side}
use Rattle.face_cuts.specs.Fusions.{is_between, others, joined, renumbered, relabelled, classes_without, fuse_faces}
use Rattle.face_cuts.specs.Cuts.{face_after, with_faces}
use Rattle.face_cuts.specs.EditLaws.{CutsFuseAgain}
use Rattle.face_cuts.proofs.Cases.{by_test, not_held, or_left, or_right}
use Rattle.face_cuts.proofs.FusionsKeep.{same, other, face_range, beside, beside_left, beside_right, fused_copy}
use Rattle.face_cuts.proofs.Maps.{border_of}
use Rattle.face_cuts.proofs.CutsKeep.{along, against, IsCutFace, kept, over, TellsFaces, tells_rest, tells_left, tells_right, cut_tells, cut_map, cut_cases}

module _ (n f : ℕ) (some : 1 ≤ f) (low : f ≤ n) where
  abbrev new : ℕ
  new = n + 1

  -- ---- one arc

  -- its two sides were different, and are not f and the new face
  not_between : (l r l' r' : ℕ) → l ≤ n → r ≤ n → l ≢ r → IsCutFace f new l l' → IsCutFace f new r r' → l' ≡ f → r' ≡ new → ⊥
  not_between l r l' r' ll lr ne kept kept e d = omega (arith, lr, d)
  not_between l r l' r' ll lr ne kept (over q) e d = ne (e ∙ sym q)
  not_between l r l' r' ll lr ne (over p) b e d = omega (arith, e, low)

  apart : (a : BaseArc) (l' r' : ℕ) → is_arc n a ≡ true → IsCutFace f new a.left l' → IsCutFace f new a.right r' → is_between f new (record a { left = l'; right = r' }) ≡ false
  apart a l' r' h left right =
      let facts = arc_facts n a h in
      let ne : a.left ≢ a.right = λ e. false≢true (sym facts.differ ∙ same a.left a.right e) in
      not_held (is_between f new (record a { left = l'; right = r' })) (λ e. by_test ((l' == f) && (r' == new))
      (λ t. let p = and_parts (l' == f) (r' == new) t in
      not_between a.left a.right l' r' facts.left facts.right ne left right (eqb-true l' f p.0) (eqb-true r' new p.1))
      (λ t. let p = and_parts (l' == new) (r' == f) (sym (ap (λ b. b || ((l' == new) && (r' == f))) t) ∙ e) in
      not_between a.right a.left r' l' facts.right facts.left (λ q. ne (sym q)) right left (eqb-true r' f p.1) (eqb-true l' new p.0)))

  -- a face comes back
  back : (h h' : ℕ) → h ≤ n → IsCutFace f new h h' → renumbered new f new h' ≡ h
  back h h' l kept =
      let is : joined f new h ≡ h = ap (λ b. cond b f h) (other h new (λ e. omega (arith, e, l))) in
      ap (λ b. cond b new (joined f new h)) (ap (λ j. j == new) is ∙ other h new (λ e. omega (arith, e, l))) ∙ is
  back h h' l (over e) =
      let is : joined f new new ≡ f = ap (λ b. cond b f new) (same new new refl) in
      ap (λ b. cond b new (joined f new new)) (ap (λ j. j == new) is ∙ other f new (λ q. omega (arith, q, low))) ∙ is ∙ sym e

  -- ---- all arcs

  module _ (face : Side → ℕ) where
    kept_arcs : (i : ℕ) (arcs : List BaseArc) → TellsFaces f new face i arcs → list_all (is_arc n) arcs ≡ true → others f new (with_faces face i arcs) ≡ with_faces face i arcs
    kept_arcs i [] t h = refl
    kept_arcs i (a ∷ arcs) t h =
        let parts = and_parts (is_arc n a) (list_all (is_arc n) arcs) h in
        let now = record a { left = face (along i); right = face (against i) } in
        let rest = with_faces face (i + 1) arcs in
        ap (λ b. cond (not b) (now ∷ others f new rest) (others f new rest))
        (apart a (face (along i)) (face (against i)) parts.0 (tells_left f new face i a arcs t) (tells_right f new face i a arcs t))
        ∙ ap (λ (xs : List BaseArc). now ∷ xs) (kept_arcs (i + 1) arcs (tells_rest f new face i a arcs t) parts.1)

    back_arcs : (i : ℕ) (arcs : List BaseArc) → TellsFaces f new face i arcs → list_all (is_arc n) arcs ≡ true → map (relabelled (renumbered new f new)) (with_faces face i arcs) ≡ arcs
    back_arcs i [] t h = refl
    back_arcs i (a ∷ arcs) t h =
        let parts = and_parts (is_arc n a) (list_all (is_arc n) arcs) h in
        let facts = arc_facts n a parts.0 in
        ap₂ (λ (x : BaseArc) (xs : List BaseArc). x ∷ xs)
        (ap₂ (λ (l r : ℕ). record a { left = l; right = r }) (back a.left (face (along i)) facts.left (tells_left f new face i a arcs t)) (back a.right (face (against i)) facts.right (tells_right f new face i a arcs t)))
        (back_arcs (i + 1) arcs (tells_rest f new face i a arcs t) parts.1)

    border_kept : (i : ℕ) (arcs : List BaseArc) → TellsFaces f new face i arcs → list_any (borders_face f) arcs ≡ true
        → list_any (λ a. borders_face f a || borders_face new a) (with_faces face i arcs) ≡ true
    border_kept i [] t e = absurd (false≢true e)
    border_kept i (a ∷ arcs) t e =
        let now : BaseArc = record a { left = face (along i); right = face (against i) } in
        let p = λ (b : BaseArc). borders_face f b || borders_face new b in
        by_test (borders_face f a)
        (λ q. or_left (p now) (list_any p (with_faces face (i + 1) arcs)) (here now refl refl (tells_left f new face i a arcs t) (tells_right f new face i a arcs t) (beside f a q)))
        (λ q. or_right (p now) (list_any p (with_faces face (i + 1) arcs))
        (border_kept (i + 1) arcs (tells_rest f new face i a arcs t) (sym (ap (λ b. b || list_any (borders_face f) arcs) q) ∙ e)))
      where
        of_f : (h h' : ℕ) → h ≡ f → IsCutFace f new h h' → (h' ≡ f) ⊎ (h' ≡ new)
        of_f h h' e kept = inl e
        of_f h h' e (over q) = inr refl

        left_is : (b : BaseArc) → (b.left ≡ f) ⊎ (b.left ≡ new) → (borders_face f b || borders_face new b) ≡ true
        left_is b (inl q) = or_left (borders_face f b) (borders_face new b) (beside_left f b q)
        left_is b (inr q) = or_right (borders_face f b) (borders_face new b) (beside_left new b q)

        right_is : (b : BaseArc) → (b.right ≡ f) ⊎ (b.right ≡ new) → (borders_face f b || borders_face new b) ≡ true
        right_is b (inl q) = or_left (borders_face f b) (borders_face new b) (beside_right f b q)
        right_is b (inr q) = or_right (borders_face f b) (borders_face new b) (beside_right new b q)

        here : (b : BaseArc) → b.left ≡ face (along i) → b.right ≡ face (against i) → IsCutFace f new a.left (face (along i)) → IsCutFace f new a.right (face (against i)) → (a.left ≡ f) ⊎ (a.right ≡ f)
            → (borders_face f b || borders_face new b) ≡ true
        here b l r left right (inl q) = left_is b (subst (λ x. (x ≡ f) ⊎ (x ≡ new)) (sym l) (of_f a.left (face (along i)) q left))
        here b l r left right (inr q) = right_is b (subst (λ x. (x ≡ f) ⊎ (x ≡ new)) (sym r) (of_f a.right (face (against i)) q right))

-- the new last class is taken off
class_back : (classes : List ℕ) (k : ℕ) → classes ≡ classes_without (length classes + 1) (classes ++ k ∷ [])
class_back classes k =
    let all = classes ++ k ∷ [] in
    let long = length-append classes (k ∷ []) in
    let last : length all - 1 ≡ length classes = omega (arith, long) in
    let at : length classes + 1 - 1 ≡ length classes = omega arith in
    let x = slice_index all (length all - 1) in
    sym (
    ap₂ (λ (i j : ℕ). take i (set all j x)) last at
    ∙ ap (take (length classes)) (set-append_seam classes k [] x)
    ∙ take-append_seam classes (x ∷ [])
    )

pub fuse_again : CutsFuseAgain
fuse_again m e f k points base made =
    cut_cases m e f k points (λ x. fuse_faces x f (length m.classes + 1) ≡ Ok m) (λ walk face_f class room free.
    let n = length m.classes in
    let b = base_facts m base in
    let range = face_range m f face_f in
    let cut = cut_map m f k points walk in
    let face = face_after m.arcs f (n + 1) points walk in
    let old = with_faces face 0 m.arcs in
    let arc : BaseArc = record { left = n + 1; right = f; points = points } in
    let t = cut_tells m.arcs f (n + 1) points walk in
    let g = n + 1 in
    let p = λ (a : BaseArc). borders_face f a || borders_face g a in
    let count = length-append m.classes (k ∷ []) in
    let many : g ≡ length (m.classes ++ k ∷ []) = omega (arith, count) in
    let between : is_between f g arc ≡ true = or_right ((g == f) && (f == g)) ((g == g) && (f == f)) (and_from _ _ (same g g refl) (same f f refl)) in
    let kept_all : others f g (old ++ arc ∷ []) ≡ old =
    filter-append (λ a. not (is_between f g a)) old (arc ∷ [])
    ∙ ap₂ (λ (xs : List BaseArc) (c : Bool). xs ++ cond (not c) (arc ∷ []) []) (kept_arcs n f range.0 range.1 face 0 m.arcs t b.arcs) between
    ∙ append-nil old in
    fused_copy cut f g m.classes (m.classes ++ k ∷ []) m.arcs (old ++ arc ∷ []) g m many refl refl (class_back m.classes k)
    (sym (ap (map (relabelled (renumbered g f g))) kept_all ∙ back_arcs n f range.0 range.1 face 0 m.arcs t b.arcs))
    (and_from _ _ (le-leb 1 f range.0) (le-leb f (length (m.classes ++ k ∷ [])) (let low = range.1 in omega (arith, low, count))))
    (and_from _ _ (le-leb 1 g (omega arith)) (le-leb g (length (m.classes ++ k ∷ [])) (omega (arith, count))))
    (list_any-append (is_between f g) old (arc ∷ []) ∙ or_right (list_any (is_between f g) old) (list_any (is_between f g) (arc ∷ [])) (or_left (is_between f g arc) false between))
    (ap (list_any p) kept_all ∙ border_kept n f range.0 range.1 face 0 m.arcs t (border_of n m.arcs b.bordered f range.0 range.1))
    refl) made
