-- A base map of which a face was cut in two is a base map.
use Rattle.std.proofs.Common.{◌≡◌, ◌≢◌, ◌∙◌, ◌⊎◌, inl, inr, ℕ, zero, suc, ◌+◌, ◌≤◌, ◌<◌, ◌==◌, ◌&&◌, ◌||◌, nat_lt, Bool, true, false, not, cond, Option, Some, None, Result, Ok, List, [], ◌∷◌, ◌++◌, length, get_or, IsTrue, refl, sym, ap, subst, eqb-true, length-append, arith}
use Rattle.std.specs.List.{list_all, list_any}
use Rattle.std.specs.Option.{ok_or}
use Rattle.std.proofs.lemmas.Bool.{and_parts, and_from, or_parts, lt-ltb, ltb-true, not-true, false≢true, cases_eq}
use Rattle.std.proofs.lemmas.List.Folds.{list_any-append, list_all-append}
use Rattle.std.proofs.lemmas.List.Sums.{sum_by-append, sum_by-cons}
use Rattle.tgap_model.specs.declared.geometry.Point.{Point}
use Rattle.tgap_model.specs.declared.base.BaseArc.{BaseArc}
use Rattle.tgap_model.specs.Base.{BaseMap, same_point, in_limits, no_repeat, is_arc, is_base, all_faces_bordered, borders_face, count_points}
use Rattle.tgap_model.proofs.BaseFacts.{BaseFacts, base_facts, arc_facts}
use Rattle.ring_walk.specs.declared.side.Side.{Side}
use Rattle.ring_walk.specs.declared.side.Way.TheVariants.{Along, Against}
use Rattle.ring_walk.specs.Sides.{face_of}
use Rattle.face_cuts.specs.Outcomes.{◌>>=◌, ensured, has_room}
use Rattle.face_cuts.specs.Fusions.{is_face}
use Rattle.face_cuts.specs.Sectors.{spans_of}
use Rattle.face_cuts.specs.Walks.{walk_between}
use Rattle.face_cuts.specs.Cuts.{all_different, are_free, sectors_of, face_after, with_faces, cut_face}
use Rattle.face_cuts.specs.EditLaws.{CutsKeepMaps}
use Rattle.face_cuts.proofs.Cases.{by_test, or_left, or_right}
use Rattle.face_cuts.proofs.FusionsKeep.{same, other, face_range, beside, beside_left, beside_right}
use Rattle.face_cuts.proofs.Maps.{base_from, arc_from, border_of, borders_from, room_facts}

abbrev pub along : ℕ → Side
along i = record { span = i; way = Along }

abbrev pub against : ℕ → Side
against i = record { span = i; way = Against }

-- ---- faces told of sides

-- A face after the cut: it is as before, or it was f and is the new one.
pub data IsCutFace (f new old : ℕ) : ℕ → Type 0 where
  kept : IsCutFace f new old old
  over : old ≡ f → IsCutFace f new old new

-- the faces of the sides of the arcs, numbered from i on
pub record TellsFaces (f new : ℕ) (face : Side → ℕ) (i : ℕ) (arcs : List BaseArc) : Type 0 where
  pub left : (k : ℕ) (d : BaseArc) → k < length arcs → IsCutFace f new (get_or arcs k d).left (face (along (i + k)))
  pub right : (k : ℕ) (d : BaseArc) → k < length arcs → IsCutFace f new (get_or arcs k d).right (face (against (i + k)))

pub tells_rest : (f new : ℕ) (face : Side → ℕ) (i : ℕ) (a : BaseArc) (arcs : List BaseArc) → TellsFaces f new face i (a ∷ arcs) → TellsFaces f new face (i + 1) arcs
tells_rest f new face i a arcs t = record {
  left = λ k d l. let e : i + suc k ≡ i + 1 + k = omega arith in subst (λ n. IsCutFace f new (get_or arcs k d).left (face (along n))) e (t.left (suc k) d (omega (arith, l)));
  right = λ k d l. let e : i + suc k ≡ i + 1 + k = omega arith in subst (λ n. IsCutFace f new (get_or arcs k d).right (face (against n))) e (t.right (suc k) d (omega (arith, l)));
}

pub tells_left : (f new : ℕ) (face : Side → ℕ) (i : ℕ) (a : BaseArc) (arcs : List BaseArc) → TellsFaces f new face i (a ∷ arcs) → IsCutFace f new a.left (face (along i))
tells_left f new face i a arcs t = let e : i + 0 ≡ i = omega arith in subst (λ n. IsCutFace f new a.left (face (along n))) e (t.left 0 a (omega arith))

pub tells_right : (f new : ℕ) (face : Side → ℕ) (i : ℕ) (a : BaseArc) (arcs : List BaseArc) → TellsFaces f new face i (a ∷ arcs) → IsCutFace f new a.right (face (against i))
tells_right f new face i a arcs t = let e : i + 0 ≡ i = omega arith in subst (λ n. IsCutFace f new a.right (face (against n))) e (t.right 0 a (omega arith))

-- the sides of a map after a cut are told so
cut_face_is : (f new old : ℕ) (x : Bool) → IsCutFace f new old (cond ((old == f) && x) new old)
cut_face_is f new old x = by ((old == f) && x) refl
  where
    by : (b : Bool) → ((old == f) && x) ≡ b → IsCutFace f new old (cond b new old)
    by true e = over (eqb-true old f (and_parts (old == f) x e).0)
    by false e = kept

pub number_of : (arcs : List BaseArc) (k : ℕ) (d : BaseArc) → k < length arcs → (face_of (spans_of arcs) (along k) ≡ (get_or arcs k d).left) × (face_of (spans_of arcs) (against k) ≡ (get_or arcs k d).right)
number_of [] k d l = absurd (omega arith)
number_of (a ∷ arcs) zero d l = (refl, refl)
number_of (a ∷ arcs) (suc k) d l = number_of arcs k d (omega (arith, l))

pub cut_tells : (arcs : List BaseArc) (f new : ℕ) (points : List Point) (walk : List Side) → TellsFaces f new (face_after arcs f new points walk) 0 arcs
cut_tells arcs f new points walk = record {
  left = λ k d l. let e : k ≡ 0 + k = omega arith in
      subst (λ n. IsCutFace f new (get_or arcs k d).left (face_after arcs f new points walk (along n))) e
      (subst (λ old. IsCutFace f new old (face_after arcs f new points walk (along k))) (number_of arcs k d l).0 (cut_face_is f new (face_of (spans_of arcs) (along k)) _));
  right = λ k d l. let e : k ≡ 0 + k = omega arith in
      subst (λ n. IsCutFace f new (get_or arcs k d).right (face_after arcs f new points walk (against n))) e
      (subst (λ old. IsCutFace f new old (face_after arcs f new points walk (against k))) (number_of arcs k d l).1 (cut_face_is f new (face_of (spans_of arcs) (against k)) _));
}

-- ---- the arcs with such faces

one_cut : (n f l' r' : ℕ) (a : BaseArc) → is_arc n a ≡ true → IsCutFace f (n + 1) a.left l' → IsCutFace f (n + 1) a.right r' → is_arc (n + 1) (record a { left = l'; right = r' }) ≡ true
one_cut n f l' r' a h left right =
    let facts = arc_facts n a h in
    arc_from (n + 1) (record a { left = l'; right = r' }) (record {
      left = low a.left l' facts.left left;
      right = low a.right r' facts.right right;
      differ = other l' r' (apart a.left a.right l' r' facts.left facts.right (λ e. false≢true (sym facts.differ ∙ same a.left a.right e)) left right);
      two_points = facts.two_points;
      in_limits = facts.in_limits;
      apart = facts.apart;
    })
  where
    low : (old new : ℕ) → old ≤ n → IsCutFace f (n + 1) old new → new ≤ n + 1
    low old new l kept = omega (arith, l)
    low old new l (over e) = omega arith

    apart : (l r l' r' : ℕ) → l ≤ n → r ≤ n → l ≢ r → IsCutFace f (n + 1) l l' → IsCutFace f (n + 1) r r' → l' ≢ r'
    apart l r l' r' low_l low_r ne kept kept = ne
    apart l r l' r' low_l low_r ne kept (over e) = λ q. absurd (omega (arith, q, low_l))
    apart l r l' r' low_l low_r ne (over e) kept = λ q. absurd (omega (arith, q, low_r))
    apart l r l' r' low_l low_r ne (over e) (over d) = λ q. ne (e ∙ sym d)

cut_arcs : (n f : ℕ) (face : Side → ℕ) (i : ℕ) (arcs : List BaseArc) → TellsFaces f (n + 1) face i arcs → list_all (is_arc n) arcs ≡ true → list_all (is_arc (n + 1)) (with_faces face i arcs) ≡ true
cut_arcs n f face i [] t h = refl
cut_arcs n f face i (a ∷ arcs) t h =
    let parts = and_parts (is_arc n a) (list_all (is_arc n) arcs) h in
    and_from _ _ (one_cut n f (face (along i)) (face (against i)) a parts.0 (tells_left f (n + 1) face i a arcs t) (tells_right f (n + 1) face i a arcs t))
    (cut_arcs n f face (i + 1) arcs (tells_rest f (n + 1) face i a arcs t) parts.1)

cut_count : (face : Side → ℕ) (i : ℕ) (arcs : List BaseArc) → count_points (with_faces face i arcs) ≡ count_points arcs
cut_count face i [] = refl
cut_count face i (a ∷ arcs) =
    let size = λ (b : BaseArc). length b.points in
    let before = sum_by-cons size a arcs in
    let after = sum_by-cons size (record a { left = face (along i); right = face (against i) }) (with_faces face (i + 1) arcs) in
    let rest = cut_count face (i + 1) arcs in
    omega (arith, before, after, rest)

pub cut_length : (face : Side → ℕ) (i : ℕ) (arcs : List BaseArc) → length (with_faces face i arcs) ≡ length arcs
cut_length face i [] = refl
cut_length face i (a ∷ arcs) = ap suc (cut_length face (i + 1) arcs)

-- an arc beside a face other than f stays beside it
cut_border : (n f h : ℕ) (face : Side → ℕ) (i : ℕ) (arcs : List BaseArc) → h ≢ f → TellsFaces f (n + 1) face i arcs → list_any (borders_face h) arcs ≡ true
    → list_any (borders_face h) (with_faces face i arcs) ≡ true
cut_border n f h face i [] ne t e = absurd (false≢true e)
cut_border n f h face i (a ∷ arcs) ne t e =
    let new = record a { left = face (along i); right = face (against i) } in
    by_test (borders_face h a)
    (λ q. or_left (borders_face h new) (list_any (borders_face h) (with_faces face (i + 1) arcs)) (by new refl refl (beside h a q)))
    (λ q. or_right (borders_face h new) (list_any (borders_face h) (with_faces face (i + 1) arcs))
    (cut_border n f h face (i + 1) arcs ne (tells_rest f (n + 1) face i a arcs t) (sym (ap (λ b. b || list_any (borders_face h) arcs) q) ∙ e)))
  where
    is : (old now : ℕ) → IsCutFace f (n + 1) old now → old ≡ h → now ≡ h
    is old now kept e = e
    is old now (over q) e = absurd (ne (sym e ∙ q))

    by : (b : BaseArc) → face (along i) ≡ b.left → face (against i) ≡ b.right → (a.left ≡ h) ⊎ (a.right ≡ h) → borders_face h b ≡ true
    by b l r (inl q) = beside_left h b (sym l ∙ is a.left (face (along i)) (tells_left f (n + 1) face i a arcs t) q)
    by b l r (inr q) = beside_right h b (sym r ∙ is a.right (face (against i)) (tells_right f (n + 1) face i a arcs t) q)

-- points that are all different have no two in a row equal
different_apart : (points : List Point) → all_different points ≡ true → no_repeat points ≡ true
different_apart [] h = refl
different_apart (p ∷ []) h = refl
different_apart (p ∷ q ∷ points) h =
    let parts = and_parts (not (list_any (same_point p) (q ∷ points))) (all_different (q ∷ points)) h in
    and_from _ _ (ap not (or_parts (same_point p q) (list_any (same_point p) points) (not-true (list_any (same_point p) (q ∷ points)) parts.0)).0) (different_apart (q ∷ points) parts.1)

-- ---- the map

abbrev pub cut_map : BaseMap → ℕ → ℕ → List Point → List Side → BaseMap
cut_map m f k points walk = record m {
  classes = m.classes ++ k ∷ [];
  arcs = with_faces (face_after m.arcs f (length m.classes + 1) points walk) 0 m.arcs ++ record { left = length m.classes + 1; right = f; points = points } ∷ [];
}

module _ (m : BaseMap) (b : BaseFacts m) (f k : ℕ) (points : List Point) (walk : List Side) (face_f : is_face m f ≡ true) (class : k < length m.rules.weights)
    (room : has_room m 1 1 (length points) ≡ true) (free : all_different points ≡ true) (long : 2 ≤ length points) (limits : list_all in_limits points ≡ true) where
  abbrev n : ℕ
  n = length m.classes

  abbrev face : Side → ℕ
  face = face_after m.arcs f (n + 1) points walk

  abbrev old_arcs : List BaseArc
  old_arcs = with_faces face 0 m.arcs

  abbrev new_arc : BaseArc
  new_arc = record { left = n + 1; right = f; points = points }

  tells : TellsFaces f (n + 1) face 0 m.arcs
  tells = cut_tells m.arcs f (n + 1) points walk

  new_is_arc : is_arc (n + 1) new_arc ≡ true
  new_is_arc =
      let low = (face_range m f face_f).1 in
      arc_from (n + 1) new_arc (record {
        left = omega arith;
        right = omega (arith, low);
        differ = other (n + 1) f (λ q. absurd (omega (arith, q, low)));
        two_points = long;
        in_limits = limits;
        apart = different_apart points free;
      })

  all_arcs : list_all (is_arc (n + 1)) (old_arcs ++ new_arc ∷ []) ≡ true
  all_arcs = list_all-append (is_arc (n + 1)) old_arcs (new_arc ∷ []) ∙ and_from _ _ (cut_arcs n f face 0 m.arcs tells b.arcs) (and_from _ _ new_is_arc refl)

  all_points : count_points (old_arcs ++ new_arc ∷ []) ≡ count_points m.arcs + length points
  all_points =
      let size = λ (b : BaseArc). length b.points in
      let e1 = sum_by-append size old_arcs (new_arc ∷ []) in
      let e2 = sum_by-cons size new_arc [] in
      let e3 = cut_count face 0 m.arcs in
      omega (arith, e1, e2, e3)

  all_borders : (h : ℕ) → 1 ≤ h → h ≤ n + 1 → list_any (borders_face h) (old_arcs ++ new_arc ∷ []) ≡ true
  all_borders h some low = list_any-append (borders_face h) old_arcs (new_arc ∷ []) ∙ by (cases_eq h (n + 1)) (cases_eq h f)
    where
      by : (h ≡ n + 1) ⊎ (h ≡ n + 1 → ⊥) → (h ≡ f) ⊎ (h ≡ f → ⊥) → (list_any (borders_face h) old_arcs || list_any (borders_face h) (new_arc ∷ [])) ≡ true
      by (inl e) o = or_right (list_any (borders_face h) old_arcs) (list_any (borders_face h) (new_arc ∷ [])) (or_left (borders_face h new_arc) false (beside_left h new_arc (sym e)))
      by (inr ne) (inl e) = or_right (list_any (borders_face h) old_arcs) (list_any (borders_face h) (new_arc ∷ [])) (or_left (borders_face h new_arc) false (beside_right h new_arc (sym e)))
      by (inr ne) (inr nf) =
          or_left (list_any (borders_face h) old_arcs) (list_any (borders_face h) (new_arc ∷ []))
          (cut_border n f h face 0 m.arcs nf tells (border_of n m.arcs b.bordered h some (omega (arith, low, ne))))

  pub cut_is_base_of : is_base (cut_map m f k points walk) ≡ true
  cut_is_base_of =
      let r = room_facts m 1 1 (length points) room in
      let r1 = r.faces in
      let r2 = r.arcs in
      let r3 = r.points in
      let c1 = length-append m.classes (k ∷ []) in
      let c : length (m.classes ++ k ∷ []) ≡ n + 1 = omega (arith, c1) in
      let a1 = length-append old_arcs (new_arc ∷ []) in
      let a2 = cut_length face 0 m.arcs in
      base_from (cut_map m f k points walk) (record {
        transform = b.transform;
        rules = b.rules;
        few_faces = omega (arith, c, r1);
        classes = list_all-append (λ j. nat_lt j (length m.rules.weights)) m.classes (k ∷ []) ∙ and_from _ _ b.classes (and_from _ _ (lt-ltb k (length m.rules.weights) class) refl);
        few_arcs = omega (arith, a1, a2, r2);
        few_points = omega (arith, all_points, r3);
        arcs = subst (λ j. list_all (is_arc j) (old_arcs ++ new_arc ∷ []) ≡ true) (sym c) all_arcs;
        bordered = subst (λ j. all_faces_bordered j (old_arcs ++ new_arc ∷ []) ≡ true) (sym c) (borders_from (n + 1) (old_arcs ++ new_arc ∷ []) all_borders);
      })

-- where each test is passed
pub cut_is_base : (m : BaseMap) (f k : ℕ) (points : List Point) (walk : List Side) → is_base m ≡ true → 2 ≤ length points → list_all in_limits points ≡ true
    → is_face m f ≡ true → nat_lt k (length m.rules.weights) ≡ true → has_room m 1 1 (length points) ≡ true → are_free m.arcs points ≡ true → is_base (cut_map m f k points walk) ≡ true
cut_is_base m f k points walk h long limits face_f class room free =
    cut_is_base_of m (base_facts m h) f k points walk face_f (ltb-true k (length m.rules.weights) class) room (and_parts (all_different points) _ free).0 long limits

-- the law, of what each test says
pub cut_cases : (m e : BaseMap) (f k : ℕ) (points : List Point) (P : BaseMap → Type 0)
    → ((walk : List Side) → is_face m f ≡ true → nat_lt k (length m.rules.weights) ≡ true → has_room m 1 1 (length points) ≡ true → are_free m.arcs points ≡ true → P (cut_map m f k points walk))
    → cut_face m f k points ≡ Ok e → P e
unfolding cut_face
cut_cases m e f k points P use_it made =
    by (is_face m f) (nat_lt k (length m.rules.weights)) (has_room m 1 1 (length points)) (are_free m.arcs points) (sectors_of (spans_of m.arcs) f points) refl refl refl refl made
  where
    after : Option (Side × Side) → Result BaseMap ℕ
    after o = ok_or o 9 >>= λ sectors. ok_or (walk_between (spans_of m.arcs) f sectors.0 sectors.1) 12 >>= λ walk. Ok (cut_map m f k points walk)

    inner : (o : Option (List Side)) → (let result : Result BaseMap ℕ = ok_or o 12 >>= λ walk. Ok (cut_map m f k points walk) in let wanted : Result BaseMap ℕ = Ok e in result ≡ wanted)
        → is_face m f ≡ true → nat_lt k (length m.rules.weights) ≡ true → has_room m 1 1 (length points) ≡ true → are_free m.arcs points ≡ true → P e
    inner None made e1 e2 e3 e4 = absurd cc
    inner (Some walk) made e1 e2 e3 e4 = (let same_map : cut_map m f k points walk ≡ e = cc in subst P same_map (use_it walk e1 e2 e3 e4))

    by : (face_f class room free : Bool) (o : Option (Side × Side)) → is_face m f ≡ face_f → nat_lt k (length m.rules.weights) ≡ class → has_room m 1 1 (length points) ≡ room → are_free m.arcs points ≡ free
        → (let result : Result BaseMap ℕ = ensured (face_f && class) 2 >>= λ x. ensured room 11 >>= λ y. ensured free 10 >>= λ z. after o in let wanted : Result BaseMap ℕ = Ok e in result ≡ wanted)
        → P e
    by false class room free o e1 e2 e3 e4 made = absurd cc
    by true false room free o e1 e2 e3 e4 made = absurd cc
    by true true false free o e1 e2 e3 e4 made = absurd cc
    by true true true false o e1 e2 e3 e4 made = absurd cc
    by true true true true None e1 e2 e3 e4 made = absurd cc
    by true true true true (Some sectors) e1 e2 e3 e4 made = inner (walk_between (spans_of m.arcs) f sectors.0 sectors.1) made e1 e2 e3 e4

pub cuts_keep : CutsKeepMaps
cuts_keep m e f k points base long limits made =
    cut_cases m e f k points (λ x. IsTrue (is_base x)) (λ walk face_f class room free. cut_is_base m f k points walk base long limits face_f class room free) made
