-- What a point is inside, before and after a fusion.
use Rattle.std.proofs.Common.{◌≡◌, ◌≢◌, ◌∙◌, ◌⊎◌, inl, inr, ℕ, ◌≤◌, ◌==◌, ◌&&◌, ◌||◌, Bool, true, false, not, Result, Ok, length, map, All, refl, sym, ap, ap₂, subst}
use Rattle.std.specs.List.{list_any}
use Rattle.std.proofs.lemmas.Bool.{cases_eq}
use Rattle.std.proofs.lemmas.List.Sums.{AllPass-from_list_all}
use Rattle.lemmas.specs.Parity.{either_alone}
use Rattle.tgap_model.specs.declared.geometry.Fraction.{Fraction}
use Rattle.tgap_model.specs.declared.base.BaseArc.{BaseArc}
use Rattle.tgap_model.specs.Base.{BaseMap, is_arc, is_base, borders_face}
use Rattle.tgap_model.proofs.BaseFacts.{base_facts, arc_facts}
use Rattle.map_laws.specs.Inside.{borders}
use Rattle.face_cuts.specs.Outcomes.{◌>>=◌, ensured}
use Rattle.face_cuts.specs.Fusions.{is_face, is_between, others, renumbered, relabelled, fuse_faces}
use Rattle.face_cuts.specs.EditLaws.{IsFusedInside, FusionsKeepInside}
use Rattle.face_cuts.proofs.FusionsKeep.{same, other, new_one, new_gone, between_is, AreTwoFaces, two_faces, fused_map}
use Rattle.face_cuts.proofs.Parities.{alone_four, alone_and, alone_itself, borders_alone, parity_alone, parity_agree, parity_kept, is_odd_over, counts, inside_arcs}

module _ (n f g : ℕ) (some_f : 1 ≤ f) (low_f : f ≤ n) (some_g : 1 ≤ g) (low_g : g ≤ n) (differ : f ≢ g) where
  abbrev new : ℕ → ℕ
  new = renumbered n f g

  -- a number becomes that of the fused face where it was one of the two
  joined_test : (l : ℕ) → l ≤ n → (new l == new f) ≡ either_alone (l == f) (l == g)
  joined_test l low = by (cases_eq l f) (cases_eq l g)
    where
      by : (l ≡ f) ⊎ (l ≡ f → ⊥) → (l ≡ g) ⊎ (l ≡ g → ⊥) → (new l == new f) ≡ either_alone (l == f) (l == g)
      by (inl a) (inl b) = absurd (differ (sym a ∙ b))
      by (inl a) (inr b) = same (new l) (new f) (ap new a) ∙ sym (ap₂ either_alone (same l f a) (other l g b))
      by (inr a) (inl b) = same (new l) (new f) (ap new b ∙ new_gone n f g some_f low_f some_g low_g differ) ∙ sym (ap₂ either_alone (other l f a) (same l g b))
      by (inr a) (inr b) =
          other (new l) (new f) (λ e. inner (new_one n f g some_f low_f some_g low_g differ l f low low_f e)) ∙ sym (ap₂ either_alone (other l f a) (other l g b))
        where
          inner : (l ≡ f) ⊎ (((l ≡ f) × (f ≡ g)) ⊎ ((l ≡ g) × (f ≡ f))) → ⊥
          inner (inl q) = a q
          inner (inr (inl q)) = a q.0
          inner (inr (inr q)) = b q.0

  -- and that of another face where it was that face
  other_test : (h l : ℕ) → h ≤ n → h ≢ f → h ≢ g → l ≤ n → (new l == new h) ≡ (l == h)
  other_test h l low_h nf ng low = by (cases_eq l h)
    where
      by : (l ≡ h) ⊎ (l ≡ h → ⊥) → (new l == new h) ≡ (l == h)
      by (inl e) = same (new l) (new h) (ap new e) ∙ sym (same l h e)
      by (inr e) = other (new l) (new h) (λ q. inner (new_one n f g some_f low_f some_g low_g differ l h low low_h q)) ∙ sym (other l h e)
        where
          inner : (l ≡ h) ⊎ (((l ≡ f) × (h ≡ g)) ⊎ ((l ≡ g) × (h ≡ f))) → ⊥
          inner (inl q) = e q
          inner (inr (inl q)) = ng q.1
          inner (inr (inr q)) = nf q.1

  -- an arc between the two borders both
  between_test : (a : BaseArc) (c : Bool) → is_between f g a ≡ true → either_alone (borders f a.left a.right && c) (borders g a.left a.right && c) ≡ false
  between_test a c t = by (between_is f g a t)
    where
      both : (l r : ℕ) → ((l ≡ f) × (r ≡ g)) ⊎ ((l ≡ g) × (r ≡ f)) → borders f l r ≡ borders g l r
      both l r (inl e) =
          borders_alone f l r ∙ ap₂ either_alone (same l f e.0) (other r f (λ q. differ (sym q ∙ e.1)))
          ∙ sym (borders_alone g l r ∙ ap₂ either_alone (other l g (λ q. differ (sym e.0 ∙ q))) (same r g e.1))
      both l r (inr e) =
          borders_alone f l r ∙ ap₂ either_alone (other l f (λ q. differ (sym q ∙ e.0))) (same r f e.1)
          ∙ sym (borders_alone g l r ∙ ap₂ either_alone (same l g e.0) (other r g (λ q. differ (sym e.1 ∙ q))))

      by : ((a.left ≡ f) × (a.right ≡ g)) ⊎ ((a.left ≡ g) × (a.right ≡ f)) → either_alone (borders f a.left a.right && c) (borders g a.left a.right && c) ≡ false
      by e = ap (λ (t : Bool). either_alone (t && c) (borders g a.left a.right && c)) (both a.left a.right e) ∙ alone_itself (borders g a.left a.right && c)

  between_other : (h : ℕ) (a : BaseArc) (c : Bool) → h ≢ f → h ≢ g → is_between f g a ≡ true → (borders h a.left a.right && c) ≡ false
  between_other h a c nf ng t = ap (λ (t : Bool). t && c) (borders_alone h a.left a.right ∙ by (between_is f g a t))
    where
      by : ((a.left ≡ f) × (a.right ≡ g)) ⊎ ((a.left ≡ g) × (a.right ≡ f)) → either_alone (a.left == h) (a.right == h) ≡ false
      by (inl e) = ap₂ either_alone (other a.left h (λ q. nf (sym q ∙ e.0))) (other a.right h (λ q. ng (sym q ∙ e.1)))
      by (inr e) = ap₂ either_alone (other a.left h (λ q. ng (sym q ∙ e.0))) (other a.right h (λ q. nf (sym q ∙ e.1)))

  -- what is taken out would not count
  kept_out : (t x : Bool) → (t ≡ true → x ≡ false) → (not t && x) ≡ x
  kept_out true x h = sym (h refl)
  kept_out false x h = refl

  module _ (p : Fraction) where
    whole_arc : (a : BaseArc) → is_arc n a ≡ true
        → (not (is_between f g a) && counts p (new f) (relabelled new a)) ≡ either_alone (counts p f a) (counts p g a)
    whole_arc a h =
        let facts = arc_facts n a h in
        let c = is_odd_over p a.points in
        ap (λ (t : Bool). not (is_between f g a) && (t && c))
        (borders_alone (new f) (new a.left) (new a.right) ∙ ap₂ either_alone (joined_test a.left facts.left) (joined_test a.right facts.right)
        ∙ alone_four (a.left == f) (a.left == g) (a.right == f) (a.right == g)
        ∙ sym (ap₂ either_alone (borders_alone f a.left a.right) (borders_alone g a.left a.right)))
        ∙ ap (λ (t : Bool). not (is_between f g a) && t) (alone_and (borders f a.left a.right) (borders g a.left a.right) c)
        ∙ kept_out (is_between f g a) (either_alone (counts p f a) (counts p g a)) (between_test a c)

    other_arc : (h : ℕ) → h ≤ n → h ≢ f → h ≢ g → (a : BaseArc) → is_arc n a ≡ true → (not (is_between f g a) && counts p (new h) (relabelled new a)) ≡ counts p h a
    other_arc h low nf ng a is =
        let facts = arc_facts n a is in
        let c = is_odd_over p a.points in
        ap (λ (t : Bool). not (is_between f g a) && (t && c))
        (borders_alone (new h) (new a.left) (new a.right) ∙ ap₂ either_alone (other_test h a.left low nf ng facts.left) (other_test h a.right low nf ng facts.right)
        ∙ sym (borders_alone h a.left a.right))
        ∙ kept_out (is_between f g a) (counts p h a) (between_other h a c nf ng)

module _ (m : BaseMap) (f g : ℕ) (base : is_base m ≡ true) (t : AreTwoFaces m f g) (p : Fraction) where
  abbrev n : ℕ
  n = length m.classes

  arcs_are : All (λ a. is_arc n a ≡ true) m.arcs
  arcs_are = AllPass-from_list_all (is_arc n) m.arcs (base_facts m base).arcs

  pub fused_inside : IsFusedInside m (fused_map m f g) f g p
  fused_inside = record {
    whole =
        inside_arcs p (renumbered n f g f) 0 (map (relabelled (renumbered n f g)) (others f g m.arcs))
        ∙ parity_kept (counts p (renumbered n f g f)) (relabelled (renumbered n f g)) (λ (a : BaseArc). not (is_between f g a)) m.arcs
        ∙ parity_agree (λ (a : BaseArc). not (is_between f g a) && counts p (renumbered n f g f) (relabelled (renumbered n f g) a)) (λ a. either_alone (counts p f a) (counts p g a)) m.arcs
        (λ k d l. whole_arc n f g t.some_f t.low_f t.some_g t.low_g t.differ p _ (arcs_are k d l))
        ∙ parity_alone (counts p f) (counts p g) m.arcs
        ∙ sym (ap₂ either_alone (inside_arcs p f 0 m.arcs) (inside_arcs p g 0 m.arcs));
    others = λ h low nf ng.
        inside_arcs p (renumbered n f g h) 0 (map (relabelled (renumbered n f g)) (others f g m.arcs))
        ∙ parity_kept (counts p (renumbered n f g h)) (relabelled (renumbered n f g)) (λ (a : BaseArc). not (is_between f g a)) m.arcs
        ∙ parity_agree (λ (a : BaseArc). not (is_between f g a) && counts p (renumbered n f g h) (relabelled (renumbered n f g) a)) (counts p h) m.arcs
        (λ k d l. other_arc n f g t.some_f t.low_f t.some_g t.low_g t.differ p h low nf ng _ (arcs_are k d l))
        ∙ sym (inside_arcs p h 0 m.arcs);
  }

pub fusions_inside : FusionsKeepInside
unfolding fuse_faces
fusions_inside m e f g p base made =
    by (is_face m f) (is_face m g) (list_any (is_between f g) m.arcs) (list_any (λ a. borders_face f a || borders_face g a) (others f g m.arcs)) refl refl refl made
  where
    by : (face_f face_g between left : Bool) → is_face m f ≡ face_f → is_face m g ≡ face_g → list_any (is_between f g) m.arcs ≡ between
        → (let result : Result BaseMap ℕ = ensured (face_f && face_g) 2 >>= λ x. ensured between 13 >>= λ y. ensured left 14 >>= λ z. Ok (fused_map m f g) in
        let wanted : Result BaseMap ℕ = Ok e in result ≡ wanted)
        → IsFusedInside m e f g p
    by false face_g between left e1 e2 e3 made = absurd cc
    by true false between left e1 e2 e3 made = absurd cc
    by true true false left e1 e2 e3 made = absurd cc
    by true true true false e1 e2 e3 made = absurd cc
    by true true true true e1 e2 e3 made =
        (let same_map : fused_map m f g ≡ e = cc in
        subst (λ (x : BaseMap). IsFusedInside m x f g p) same_map (fused_inside m f g base (two_faces m f g base e1 e2 e3) p))
