-- What a point is inside, before and after a cut.
use Rattle.std.proofs.Common.{◌≡◌, ◌≢◌, ◌∙◌, ℕ, ◌+◌, ◌≤◌, ◌==◌, ◌&&◌, Bool, true, false, List, [], ◌∷◌, ◌++◌, length, refl, sym, ap, ap₂, arith}
use Rattle.std.specs.List.{list_all}
use Rattle.std.proofs.lemmas.Bool.{and_parts}
use Rattle.lemmas.specs.Parity.{either_alone}
use Rattle.tgap_model.specs.declared.geometry.Fraction.{Fraction}
use Rattle.tgap_model.specs.declared.geometry.Point.{Point}
use Rattle.tgap_model.specs.declared.base.BaseArc.{BaseArc}
use Rattle.tgap_model.specs.Base.{BaseMap, is_arc, is_base}
use Rattle.tgap_model.proofs.BaseFacts.{base_facts, arc_facts}
use Rattle.map_laws.specs.Inside.{borders}
use Rattle.ring_walk.specs.declared.side.Side.{Side}
use Rattle.face_cuts.specs.Fusions.{is_face}
use Rattle.face_cuts.specs.Cuts.{face_after, with_faces}
use Rattle.face_cuts.specs.EditLaws.{IsCutInside, CutsKeepInside}
use Rattle.face_cuts.proofs.FusionsKeep.{same, other, face_range}
use Rattle.face_cuts.proofs.Parities.{alone_none, alone_four, alone_and, alone_itself, borders_alone, parity, is_odd_over, counts, inside_arcs}
use Rattle.face_cuts.proofs.CutsKeep.{IsCutFace, kept, over, TellsFaces, along, against, tells_left, tells_right, tells_rest, cut_tells, cut_map, cut_cases}

-- it was f where it is one of f and the new face
parts_test : (f new old now : ℕ) → f ≢ new → old ≢ new → IsCutFace f new old now → (old == f) ≡ either_alone (now == f) (now == new)
parts_test f new old now nf ne kept = sym (ap (either_alone (old == f)) (other old new ne) ∙ alone_none (old == f))
parts_test f new old now nf ne (over e) = same old f e ∙ sym (ap₂ either_alone (other new f (λ q. nf (sym q))) (same new new refl))

others_test : (f new h old now : ℕ) → h ≢ f → h ≢ new → IsCutFace f new old now → (now == h) ≡ (old == h)
others_test f new h old now nf nn kept = refl
others_test f new h old now nf nn (over e) = other new h (λ q. nn (sym q)) ∙ sym (other old h (λ q. nf (sym q ∙ e)))

module _ (n f : ℕ) (low_f : f ≤ n) (p : Fraction) (face : Side → ℕ) where
  abbrev new : ℕ
  new = n + 1

  differ : f ≢ new
  differ = λ q. absurd (omega (arith, q, low_f))

  parts_arc : (a : BaseArc) (l r : ℕ) → is_arc n a ≡ true → IsCutFace f new a.left l → IsCutFace f new a.right r
      → counts p f a ≡ either_alone (borders f l r && is_odd_over p a.points) (borders new l r && is_odd_over p a.points)
  parts_arc a l r is left right =
      let facts = arc_facts n a is in
      let fl = facts.left in
      let fr = facts.right in
      let nl : a.left ≢ new = λ q. absurd (omega (arith, q, fl)) in
      let nr : a.right ≢ new = λ q. absurd (omega (arith, q, fr)) in
      ap (λ (t : Bool). t && is_odd_over p a.points)
      (borders_alone f a.left a.right ∙ ap₂ either_alone (parts_test f new a.left l differ nl left) (parts_test f new a.right r differ nr right)
      ∙ alone_four (l == f) (l == new) (r == f) (r == new) ∙ sym (ap₂ either_alone (borders_alone f l r) (borders_alone new l r)))
      ∙ alone_and (borders f l r) (borders new l r) (is_odd_over p a.points)

  parts_arcs : (i : ℕ) (arcs : List BaseArc) → list_all (is_arc n) arcs ≡ true → TellsFaces f new face i arcs
      → parity (counts p f) arcs ≡ either_alone (parity (counts p f) (with_faces face i arcs)) (parity (counts p new) (with_faces face i arcs))
  parts_arcs i [] h t = refl
  parts_arcs i (a ∷ arcs) h t =
      let parts = and_parts (is_arc n a) (list_all (is_arc n) arcs) h in
      let now : BaseArc = record a { left = face (along i); right = face (against i) } in
      ap₂ either_alone (parts_arc a (face (along i)) (face (against i)) parts.0 (tells_left f new face i a arcs t) (tells_right f new face i a arcs t))
      (parts_arcs (i + 1) arcs parts.1 (tells_rest f new face i a arcs t))
      ∙ alone_four (counts p f now) (counts p new now) (parity (counts p f) (with_faces face (i + 1) arcs)) (parity (counts p new) (with_faces face (i + 1) arcs))

  others_arcs : (h i : ℕ) (arcs : List BaseArc) → h ≢ f → h ≢ new → TellsFaces f new face i arcs → parity (counts p h) (with_faces face i arcs) ≡ parity (counts p h) arcs
  others_arcs h i [] nf nn t = refl
  others_arcs h i (a ∷ arcs) nf nn t =
      ap₂ either_alone
      (ap (λ (t : Bool). t && is_odd_over p a.points)
      (borders_alone h (face (along i)) (face (against i))
      ∙ ap₂ either_alone (others_test f new h a.left (face (along i)) nf nn (tells_left f new face i a arcs t)) (others_test f new h a.right (face (against i)) nf nn (tells_right f new face i a arcs t))
      ∙ sym (borders_alone h a.left a.right)))
      (others_arcs h (i + 1) arcs nf nn (tells_rest f new face i a arcs t))

  -- the new arc borders both parts, and no other face
  new_both : (points : List Point) → counts p f (record { left = new; right = f; points = points }) ≡ counts p new (record { left = new; right = f; points = points })
  new_both points = ap (λ (t : Bool). t && is_odd_over p points)
      (borders_alone f new f ∙ ap₂ either_alone (other new f (λ q. differ (sym q))) (same f f refl)
      ∙ sym (borders_alone new new f ∙ ap₂ either_alone (same new new refl) (other f new differ)))

  new_no_other : (h : ℕ) (points : List Point) → h ≢ f → h ≢ new → counts p h (record { left = new; right = f; points = points }) ≡ false
  new_no_other h points nf nn = ap (λ (t : Bool). t && is_odd_over p points)
      (borders_alone h new f ∙ ap₂ either_alone (other new h (λ q. nn (sym q))) (other f h (λ q. nf (sym q))))

parity_more : (q : BaseArc → Bool) (arcs : List BaseArc) (a : BaseArc) → parity q (arcs ++ a ∷ []) ≡ either_alone (parity q arcs) (q a)
parity_more q [] a = alone_none (q a)
parity_more q (b ∷ arcs) a = ap (either_alone (q b)) (parity_more q arcs a) ∙ assoc (q b) (parity q arcs) (q a)
  where
    assoc : (x y z : Bool) → either_alone x (either_alone y z) ≡ either_alone (either_alone x y) z
    assoc true true true = refl
    assoc true true false = refl
    assoc true false z = refl
    assoc false y z = refl

module _ (m : BaseMap) (f k : ℕ) (points : List Point) (walk : List Side) (base : is_base m ≡ true) (face_f : is_face m f ≡ true) (p : Fraction) where
  abbrev n : ℕ
  n = length m.classes

  abbrev face : Side → ℕ
  face = face_after m.arcs f (n + 1) points walk

  abbrev arcs_now : List BaseArc
  arcs_now = with_faces face 0 m.arcs

  abbrev new_arc : BaseArc
  new_arc = record { left = n + 1; right = f; points = points }

  low : f ≤ n
  low = (face_range m f face_f).1

  tells : TellsFaces f (n + 1) face 0 m.arcs
  tells = cut_tells m.arcs f (n + 1) points walk

  pub cut_inside : IsCutInside m (cut_map m f k points walk) f (n + 1) p
  cut_inside = record {
    parts =
        inside_arcs p f 0 m.arcs
        ∙ parts_arcs n f low p face 0 m.arcs (base_facts m base).arcs tells
        ∙ sym (
        ap₂ either_alone (inside_arcs p f 0 (arcs_now ++ new_arc ∷ []) ∙ parity_more (counts p f) arcs_now new_arc)
        (inside_arcs p (n + 1) 0 (arcs_now ++ new_arc ∷ []) ∙ parity_more (counts p (n + 1)) arcs_now new_arc)
        ∙ alone_four (parity (counts p f) arcs_now) (counts p f new_arc) (parity (counts p (n + 1)) arcs_now) (counts p (n + 1) new_arc)
        ∙ ap (either_alone (either_alone (parity (counts p f) arcs_now) (parity (counts p (n + 1)) arcs_now)))
        (ap (λ (t : Bool). either_alone t (counts p (n + 1) new_arc)) (new_both n f low p face points) ∙ alone_itself (counts p (n + 1) new_arc))
        ∙ alone_none (either_alone (parity (counts p f) arcs_now) (parity (counts p (n + 1)) arcs_now)));
    others = λ h nf nn.
        inside_arcs p h 0 (arcs_now ++ new_arc ∷ [])
        ∙ parity_more (counts p h) arcs_now new_arc
        ∙ ap (either_alone (parity (counts p h) arcs_now)) (new_no_other n f low p face h points nf nn)
        ∙ alone_none (parity (counts p h) arcs_now)
        ∙ others_arcs n f low p face h 0 m.arcs nf nn tells
        ∙ sym (inside_arcs p h 0 m.arcs);
  }

pub cuts_inside : CutsKeepInside
cuts_inside m e f k points p base made =
    cut_cases m e f k points (λ x. IsCutInside m x f (length m.classes + 1) p) (λ walk face_f class room free. cut_inside m f k points walk base face_f p) made
