-- A base map in which two faces became one is a base map.
use Rattle.std.proofs.Common.{◌≡◌, ◌≢◌, ◌∙◌, ◌⊎◌, inl, inr, ℕ, ◌+◌, ◌-◌, ◌≤◌, ◌==◌, ◌&&◌, ◌||◌, nat_lt, nat_le, Bool, true, false, not, cond, Result, Ok, List, [], ◌∷◌, length, map, filter, get_or, set, IsTrue, refl, sym, ap, subst, subst₂, eq-eqb, eqb-true, arith}
use Rattle.std.specs.List.{list_all, list_any}
use Rattle.std.proofs.lemmas.Bool.{and_parts, and_from, leb-true, not-true, false≢true, cases_eq}
use Rattle.std.proofs.lemmas.List.{length-set, length-map, length-take-le}
use Rattle.std.proofs.lemmas.List.Elements.{All-set, All-take}
use Rattle.std.proofs.lemmas.List.Sums.{AllPass-from_list_all, list_all-from_AllPass, sum_by-cons}
use Rattle.tgap_model.specs.declared.base.BaseArc.{BaseArc}
use Rattle.tgap_model.specs.Base.{BaseMap, is_arc, is_base, all_faces_bordered, borders_face, count_points}
use Rattle.tgap_model.proofs.BaseFacts.{BaseFacts, base_facts, arc_facts}
use Rattle.face_cuts.specs.Outcomes.{◌>>=◌, ensured}
use Rattle.face_cuts.specs.Fusions.{is_face, is_between, others, renumbered, relabelled, classes_without, fuse_faces}
use Rattle.face_cuts.specs.EditLaws.{FusionsKeepMaps}
use Rattle.face_cuts.proofs.Cases.{by_test, any_kept, or_left, or_right, not_held}
use Rattle.face_cuts.proofs.Maps.{base_from, arc_from, border_of, borders_from}

-- ---- numbers of faces

pub same : (a b : ℕ) → a ≡ b → (a == b) ≡ true
same a b e = eq-eqb a b e

pub other : (a b : ℕ) → a ≢ b → (a == b) ≡ false
other a b n = not_held (a == b) (λ t. n (eqb-true a b t))

module _ (n f g : ℕ) (some_f : 1 ≤ f) (low_f : f ≤ n) (some_g : 1 ≤ g) (low_g : g ≤ n) (differ : f ≢ g) where
  abbrev new : ℕ → ℕ
  new = renumbered n f g

  -- a face that is none of the two
  new_last : (h : ℕ) → h ≢ g → h ≡ n → new h ≡ g
  new_last h ne e = ap (λ b. cond (cond b f h == n) g (cond b f h)) (other h g ne) ∙ ap (λ b. cond b g h) (same h n e)

  new_same : (h : ℕ) → h ≢ g → h ≢ n → new h ≡ h
  new_same h ne last = ap (λ b. cond (cond b f h == n) g (cond b f h)) (other h g ne) ∙ ap (λ b. cond b g h) (other h n last)

  pub new_gone : new g ≡ new f
  new_gone = ap (λ b. cond (cond b f g == n) g (cond b f g)) (same g g refl) ∙ sym (ap (λ b. cond (cond b f f == n) g (cond b f f)) (other f g differ))

  -- what a number becomes: a face that was not g, and is the last one or not
  pub data Became (h : ℕ) : ℕ → Type 0 where
    gone : h ≡ g → Became h (new f)
    last : h ≢ g → h ≡ n → Became h g
    kept : h ≢ g → h ≢ n → Became h h

  became : (h : ℕ) → Became h (new h)
  became h = by (cases_eq h g) (cases_eq h n)
    where
      by : (h ≡ g) ⊎ (h ≡ g → ⊥) → (h ≡ n) ⊎ (h ≡ n → ⊥) → Became h (new h)
      by (inl e) o = subst (Became h) (sym (ap new e ∙ new_gone)) (gone e)
      by (inr ne) (inl e) = subst (Became h) (sym (new_last h ne e)) (last ne e)
      by (inr ne) (inr l) = subst (Became h) (sym (new_same h ne l)) (kept ne l)

  pub new_low : (h : ℕ) → h ≤ n → new h ≤ n - 1
  new_low h low = by (cases_eq h g) (cases_eq h n) (cases_eq f n)
    where
      by : (h ≡ g) ⊎ (h ≡ g → ⊥) → (h ≡ n) ⊎ (h ≡ n → ⊥) → (f ≡ n) ⊎ (f ≡ n → ⊥) → new h ≤ n - 1
      by (inl e) o (inl fn) = let r : new h ≡ g = ap new e ∙ new_gone ∙ new_last f differ fn in omega (arith, r, differ, fn, low_g)
      by (inl e) o (inr fn) = let r : new h ≡ f = ap new e ∙ new_gone ∙ new_same f differ fn in omega (arith, r, fn, low_f)
      by (inr ne) (inl hn) o = let r : new h ≡ g = new_last h ne hn in omega (arith, r, ne, hn, low_g)
      by (inr ne) (inr hn) o = let r : new h ≡ h = new_same h ne hn in omega (arith, r, hn, low)

  -- faces that become one are one, or they are the two
  pub new_one : (h k : ℕ) → h ≤ n → k ≤ n → new h ≡ new k → (h ≡ k) ⊎ (((h ≡ f) × (k ≡ g)) ⊎ ((h ≡ g) × (k ≡ f)))
  new_one h k lh lk e = by (cases_eq h g) (cases_eq k g)
    where
      plain : (x : ℕ) → x ≢ g → x ≤ n → (y : ℕ) → y ≢ g → y ≤ n → new x ≡ new y → x ≡ y
      plain x nx lx y ny ly e = inner (cases_eq x n) (cases_eq y n)
        where
          inner : (x ≡ n) ⊎ (x ≡ n → ⊥) → (y ≡ n) ⊎ (y ≡ n → ⊥) → x ≡ y
          inner (inl a) (inl b) = a ∙ sym b
          inner (inl a) (inr b) = absurd (ny (sym (sym (new_last x nx a) ∙ e ∙ new_same y ny b)))
          inner (inr a) (inl b) = absurd (nx (sym (new_same x nx a) ∙ e ∙ new_last y ny b))
          inner (inr a) (inr b) = sym (new_same x nx a) ∙ e ∙ new_same y ny b

      by : (h ≡ g) ⊎ (h ≡ g → ⊥) → (k ≡ g) ⊎ (k ≡ g → ⊥) → (h ≡ k) ⊎ (((h ≡ f) × (k ≡ g)) ⊎ ((h ≡ g) × (k ≡ f)))
      by (inl a) (inl b) = inl (a ∙ sym b)
      by (inl a) (inr b) = inr (inr (a, sym (plain f differ low_f k b lk (sym new_gone ∙ sym (ap new a) ∙ e))))
      by (inr a) (inl b) = inr (inl (plain h a lh f differ low_f (e ∙ ap new b ∙ new_gone), b))
      by (inr a) (inr b) = inl (plain h a lh k b lk e)

  -- each face from 1 on that is left comes of one
  pub record ComesOf (h : ℕ) : Type 0 where
    pub old : ℕ
    pub some : 1 ≤ old
    pub low : old ≤ n
    pub is : new old ≡ h

  pub comes_of : (h : ℕ) → 1 ≤ h → h ≤ n - 1 → ComesOf h
  comes_of h some low = by (cases_eq h g)
    where
      by : (h ≡ g) ⊎ (h ≡ g → ⊥) → ComesOf h
      by (inl e) =
          let ne : n ≢ g = omega (arith, e, low, some) in
          record { old = n; some = omega (arith, low_f, some_f); low = omega arith; is = new_last n ne refl ∙ sym e }
      by (inr ne) = record { old = h; some = some; low = omega (arith, low); is = new_same h ne (omega (arith, low, some)) }

-- ---- the fused map

-- a face that an arc has at a side
pub beside : (f : ℕ) (a : BaseArc) → borders_face f a ≡ true → (a.left ≡ f) ⊎ (a.right ≡ f)
beside f a h = by (a.left == f) refl
  where
    by : (b : Bool) → (a.left == f) ≡ b → (a.left ≡ f) ⊎ (a.right ≡ f)
    by true e = inl (eqb-true a.left f e)
    by false e = inr (eqb-true a.right f (sym (ap (λ b. b || (a.right == f)) e) ∙ h))

pub beside_left : (f : ℕ) (a : BaseArc) → a.left ≡ f → borders_face f a ≡ true
beside_left f a e = or_left (a.left == f) (a.right == f) (same a.left f e)

pub beside_right : (f : ℕ) (a : BaseArc) → a.right ≡ f → borders_face f a ≡ true
beside_right f a e = or_right (a.left == f) (a.right == f) (same a.right f e)

between_from : (f g : ℕ) (a : BaseArc) → ((a.left ≡ f) × (a.right ≡ g)) ⊎ ((a.left ≡ g) × (a.right ≡ f)) → is_between f g a ≡ true
between_from f g a (inl e) = or_left ((a.left == f) && (a.right == g)) ((a.left == g) && (a.right == f)) (and_from _ _ (same a.left f e.0) (same a.right g e.1))
between_from f g a (inr e) = or_right ((a.left == f) && (a.right == g)) ((a.left == g) && (a.right == f)) (and_from _ _ (same a.left g e.0) (same a.right f e.1))

pub between_is : (f g : ℕ) (a : BaseArc) → is_between f g a ≡ true → ((a.left ≡ f) × (a.right ≡ g)) ⊎ ((a.left ≡ g) × (a.right ≡ f))
between_is f g a h = by ((a.left == f) && (a.right == g)) refl
  where
    by : (b : Bool) → ((a.left == f) && (a.right == g)) ≡ b → ((a.left ≡ f) × (a.right ≡ g)) ⊎ ((a.left ≡ g) × (a.right ≡ f))
    by true e = let p = and_parts (a.left == f) (a.right == g) e in inl (eqb-true a.left f p.0, eqb-true a.right g p.1)
    by false e =
        let p = and_parts (a.left == g) (a.right == f) (sym (ap (λ b. b || ((a.left == g) && (a.right == f))) e) ∙ h) in
        inr (eqb-true a.left g p.0, eqb-true a.right f p.1)

filter_short : {A : Type 0} (p : A → Bool) (xs : List A) → length (filter p xs) ≤ length xs
filter_short p [] = omega arith
filter_short p (x ∷ xs) = by (p x) (filter_short p xs)
  where
    by : (b : Bool) → length (filter p xs) ≤ length xs → length (cond b (x ∷ filter p xs) (filter p xs)) ≤ length (x ∷ xs)
    by true l = omega (arith, l)
    by false l = omega (arith, l)

-- no more points than before
count_less : (label : ℕ → ℕ) (p : BaseArc → Bool) (arcs : List BaseArc) → count_points (map (relabelled label) (filter p arcs)) ≤ count_points arcs
count_less label p [] = omega arith
count_less label p (a ∷ arcs) = by (p a) (count_less label p arcs) (sum_by-cons (λ (b : BaseArc). length b.points) a arcs)
  where
    by : (b : Bool) → count_points (map (relabelled label) (filter p arcs)) ≤ count_points arcs → count_points (a ∷ arcs) ≡ length a.points + count_points arcs
        → count_points (map (relabelled label) (cond b (a ∷ filter p arcs) (filter p arcs))) ≤ count_points (a ∷ arcs)
    by true l e = let f = sum_by-cons (λ (b : BaseArc). length b.points) (relabelled label a) (map (relabelled label) (filter p arcs)) in omega (arith, l, e, f)
    by false l e = omega (arith, l, e)

module _ (m : BaseMap) (b : BaseFacts m) (f g : ℕ) (some_f : 1 ≤ f) (low_f : f ≤ length m.classes) (some_g : 1 ≤ g) (low_g : g ≤ length m.classes) (differ : f ≢ g)
    (left : list_any (λ a. borders_face f a || borders_face g a) (others f g m.arcs) ≡ true) where
  abbrev n : ℕ
  n = length m.classes

  abbrev label : ℕ → ℕ
  label = renumbered n f g

  abbrev made : List BaseArc
  made = map (relabelled label) (others f g m.arcs)

  one_arc : (a : BaseArc) → is_arc n a ≡ true → not (is_between f g a) ≡ true → is_arc (n - 1) (relabelled label a) ≡ true
  one_arc a h apart =
      let facts = arc_facts n a h in
      let never : (((a.left ≡ f) × (a.right ≡ g)) ⊎ ((a.left ≡ g) × (a.right ≡ f))) → ⊥ = λ e. false≢true (sym (not-true (is_between f g a) apart) ∙ between_from f g a e) in
      arc_from (n - 1) (relabelled label a) (record {
        left = new_low n f g some_f low_f some_g low_g differ a.left facts.left;
        right = new_low n f g some_f low_f some_g low_g differ a.right facts.right;
        differ = other (label a.left) (label a.right) (λ e. by never (λ q. false≢true (sym facts.differ ∙ same a.left a.right q))
            (new_one n f g some_f low_f some_g low_g differ a.left a.right facts.left facts.right e));
        two_points = facts.two_points;
        in_limits = facts.in_limits;
        apart = facts.apart;
      })
    where
      by : ((((a.left ≡ f) × (a.right ≡ g)) ⊎ ((a.left ≡ g) × (a.right ≡ f))) → ⊥) → (a.left ≡ a.right → ⊥)
          → (a.left ≡ a.right) ⊎ (((a.left ≡ f) × (a.right ≡ g)) ⊎ ((a.left ≡ g) × (a.right ≡ f))) → ⊥
      by never ne (inl q) = ne q
      by never ne (inr q) = never q

  made_arcs : (arcs : List BaseArc) → list_all (is_arc n) arcs ≡ true → list_all (is_arc (n - 1)) (map (relabelled label) (others f g arcs)) ≡ true
  made_arcs [] h = refl
  made_arcs (a ∷ arcs) h =
      let parts = and_parts (is_arc n a) (list_all (is_arc n) arcs) h in
      by (is_between f g a) refl parts.0 (made_arcs arcs parts.1)
    where
      by : (t : Bool) → is_between f g a ≡ t → is_arc n a ≡ true → list_all (is_arc (n - 1)) (map (relabelled label) (others f g arcs)) ≡ true
          → list_all (is_arc (n - 1)) (map (relabelled label) (cond (not t) (a ∷ others f g arcs) (others f g arcs))) ≡ true
      by true e one rest = rest
      by false e one rest = and_from _ _ (one_arc a one (ap not e)) rest

  -- an arc beside a face that is none of the two is beside its new number
  other_border : (old : ℕ) → old ≢ f → old ≢ g → (a : BaseArc) → borders_face old a ≡ true → (not (is_between f g a) && borders_face (label old) (relabelled label a)) ≡ true
  other_border old nf ng a h = by (beside old a h)
    where
      never : (a.left ≡ old) ⊎ (a.right ≡ old) → is_between f g a ≡ false
      never at = not_held (is_between f g a) (λ t. inner at (between_is f g a t))
        where
          inner : (a.left ≡ old) ⊎ (a.right ≡ old) → ((a.left ≡ f) × (a.right ≡ g)) ⊎ ((a.left ≡ g) × (a.right ≡ f)) → ⊥
          inner (inl e) (inl q) = nf (sym e ∙ q.0)
          inner (inl e) (inr q) = ng (sym e ∙ q.0)
          inner (inr e) (inl q) = ng (sym e ∙ q.1)
          inner (inr e) (inr q) = nf (sym e ∙ q.1)

      by : (a.left ≡ old) ⊎ (a.right ≡ old) → (not (is_between f g a) && borders_face (label old) (relabelled label a)) ≡ true
      by (inl e) = and_from _ _ (ap not (never (inl e))) (beside_left (label old) (relabelled label a) (ap label e))
      by (inr e) = and_from _ _ (ap not (never (inr e))) (beside_right (label old) (relabelled label a) (ap label e))

  -- the arcs that are left beside one of the two are beside the fused face
  fused_border : (a : BaseArc) → (borders_face f a || borders_face g a) ≡ true → borders_face (label f) (relabelled label a) ≡ true
  fused_border a h = by (borders_face f a) refl
    where
      gone : label g ≡ label f
      gone = new_gone n f g some_f low_f some_g low_g differ

      at_f : (a.left ≡ f) ⊎ (a.right ≡ f) → borders_face (label f) (relabelled label a) ≡ true
      at_f (inl e) = beside_left (label f) (relabelled label a) (ap label e)
      at_f (inr e) = beside_right (label f) (relabelled label a) (ap label e)

      at_g : (a.left ≡ g) ⊎ (a.right ≡ g) → borders_face (label f) (relabelled label a) ≡ true
      at_g (inl e) = beside_left (label f) (relabelled label a) (ap label e ∙ gone)
      at_g (inr e) = beside_right (label f) (relabelled label a) (ap label e ∙ gone)

      by : (t : Bool) → borders_face f a ≡ t → borders_face (label f) (relabelled label a) ≡ true
      by true e = at_f (beside f a e)
      by false e = at_g (beside g a (sym (ap (λ t. t || borders_face g a) e) ∙ h))

  any_mapped : (arcs : List BaseArc) → list_any (λ a. borders_face f a || borders_face g a) arcs ≡ true → list_any (borders_face (label f)) (map (relabelled label) arcs) ≡ true
  any_mapped [] h = absurd (false≢true h)
  any_mapped (a ∷ arcs) h = by_test (borders_face f a || borders_face g a)
      (λ e. or_left (borders_face (label f) (relabelled label a)) (list_any (borders_face (label f)) (map (relabelled label) arcs)) (fused_border a e))
      (λ e. or_right (borders_face (label f) (relabelled label a)) (list_any (borders_face (label f)) (map (relabelled label) arcs))
      (any_mapped arcs (sym (ap (λ t. t || list_any (λ a. borders_face f a || borders_face g a) arcs) e) ∙ h)))

  made_borders : (h : ℕ) → 1 ≤ h → h ≤ n - 1 → list_any (borders_face h) made ≡ true
  made_borders h some low =
      let o = comes_of n f g some_f low_f some_g low_g differ h some low in
      subst (λ k. list_any (borders_face k) made ≡ true) o.is (by o.old o.some o.low (cases_eq o.old f) (cases_eq o.old g))
    where
      by : (old : ℕ) → 1 ≤ old → old ≤ n → (old ≡ f) ⊎ (old ≡ f → ⊥) → (old ≡ g) ⊎ (old ≡ g → ⊥) → list_any (borders_face (label old)) made ≡ true
      by old s l (inl e) o = subst (λ k. list_any (borders_face (label k)) made ≡ true) (sym e) (any_mapped (others f g m.arcs) left)
      by old s l (inr nf) (inl e) =
          subst (λ k. list_any (borders_face k) made ≡ true) (sym (ap label e ∙ new_gone n f g some_f low_f some_g low_g differ)) (any_mapped (others f g m.arcs) left)
      by old s l (inr nf) (inr ng) =
          any_kept (λ a. not (is_between f g a)) (relabelled label) (borders_face (label old)) (borders_face old) m.arcs (other_border old nf ng) (border_of n m.arcs b.bordered old s l)

  made_classes : List ℕ
  made_classes = classes_without g m.classes

  classes_long : length (classes_without g m.classes) ≡ n - 1
  classes_long =
      let last = get_or m.classes (n - 1) 0 in
      let e = length-set m.classes (g - 1) last in
      length-take-le (n - 1) (set m.classes (g - 1) last) (omega (arith, e))

  classes_below : list_all (λ k. nat_lt k (length m.rules.weights)) (classes_without g m.classes) ≡ true
  classes_below =
      let P = λ (k : ℕ). nat_lt k (length m.rules.weights) ≡ true in
      let all = AllPass-from_list_all (λ k. nat_lt k (length m.rules.weights)) m.classes b.classes in
      let last = get_or m.classes (n - 1) 0 in
      list_all-from_AllPass (λ k. nat_lt k (length m.rules.weights)) (classes_without g m.classes)
      (All-take P (n - 1) (set m.classes (g - 1) last) (All-set P m.classes (g - 1) last (all (n - 1) 0 (omega (arith, some_g, low_g))) all))

  pub fused_is_base : is_base (record m { classes = classes_without g m.classes; arcs = made }) ≡ true
  fused_is_base =
      let few_faces = b.few_faces in
      let few_arcs = b.few_arcs in
      let few_points = b.few_points in
      let l1 = length-map (others f g m.arcs) (relabelled label) in
      let l2 = filter_short (λ (a : BaseArc). not (is_between f g a)) m.arcs in
      let l3 = count_less label (λ (a : BaseArc). not (is_between f g a)) m.arcs in
      base_from (record m { classes = classes_without g m.classes; arcs = made }) (record {
        transform = b.transform;
        rules = b.rules;
        few_faces = omega (arith, classes_long, few_faces);
        classes = classes_below;
        few_arcs = omega (arith, l1, l2, few_arcs);
        few_points = omega (arith, l3, few_points);
        arcs = subst (λ k. list_all (is_arc k) made ≡ true) (sym classes_long) (made_arcs m.arcs b.arcs);
        bordered = subst (λ k. all_faces_bordered k made ≡ true) (sym classes_long) (borders_from (n - 1) made made_borders);
      })

-- ---- the law

-- what the tests say of the two faces
pub record AreTwoFaces (m : BaseMap) (f g : ℕ) : Type 0 where
  pub some_f : 1 ≤ f
  pub low_f : f ≤ length m.classes
  pub some_g : 1 ≤ g
  pub low_g : g ≤ length m.classes
  pub differ : f ≢ g

pub face_range : (m : BaseMap) (f : ℕ) → is_face m f ≡ true → (1 ≤ f) × (f ≤ length m.classes)
face_range m f h = let p = and_parts (nat_le 1 f) (nat_le f (length m.classes)) h in (leb-true 1 f p.0, leb-true f (length m.classes) p.1)

-- no arc of a map is between a face and itself
differ_here : (k f g : ℕ) (a : BaseArc) → is_arc k a ≡ true → ((a.left ≡ f) × (a.right ≡ g)) ⊎ ((a.left ≡ g) × (a.right ≡ f)) → f ≢ g
differ_here k f g a h (inl q) = λ s. false≢true (sym (arc_facts k a h).differ ∙ same a.left a.right (q.0 ∙ s ∙ sym q.1))
differ_here k f g a h (inr q) = λ s. false≢true (sym (arc_facts k a h).differ ∙ same a.left a.right (q.0 ∙ sym s ∙ sym q.1))

differ_of : (k f g : ℕ) (arcs : List BaseArc) → list_all (is_arc k) arcs ≡ true → list_any (is_between f g) arcs ≡ true → f ≢ g
differ_of k f g [] h e = absurd (false≢true e)
differ_of k f g (a ∷ arcs) h e =
    let parts = and_parts (is_arc k a) (list_all (is_arc k) arcs) h in
    by_test (is_between f g a)
    (λ t. differ_here k f g a parts.0 (between_is f g a t))
    (λ t. differ_of k f g arcs parts.1 (sym (ap (λ b. b || list_any (is_between f g) arcs) t) ∙ e))

pub two_faces : (m : BaseMap) (f g : ℕ) → is_base m ≡ true → is_face m f ≡ true → is_face m g ≡ true → list_any (is_between f g) m.arcs ≡ true → AreTwoFaces m f g
two_faces m f g h face_f face_g between =
    let rf = face_range m f face_f in
    let rg = face_range m g face_g in
    record {
      some_f = rf.0;
      low_f = rf.1;
      some_g = rg.0;
      low_g = rg.1;
      differ = differ_of (length m.classes) f g m.arcs (base_facts m h).arcs between;
    }

abbrev pub fused_map : BaseMap → ℕ → ℕ → BaseMap
fused_map m f g = record m { classes = classes_without g m.classes; arcs = map (relabelled (renumbered (length m.classes) f g)) (others f g m.arcs) }

pub fusion_is_base : (m : BaseMap) (f g : ℕ) → is_base m ≡ true → is_face m f ≡ true → is_face m g ≡ true → list_any (is_between f g) m.arcs ≡ true
    → list_any (λ a. borders_face f a || borders_face g a) (others f g m.arcs) ≡ true → is_base (fused_map m f g) ≡ true
fusion_is_base m f g h face_f face_g between left =
    let t = two_faces m f g h face_f face_g between in
    fused_is_base m (base_facts m h) f g t.some_f t.low_f t.some_g t.low_g t.differ left

pub fusion_made : (m : BaseMap) (f g : ℕ) → is_face m f ≡ true → is_face m g ≡ true → list_any (is_between f g) m.arcs ≡ true
    → list_any (λ a. borders_face f a || borders_face g a) (others f g m.arcs) ≡ true → fuse_faces m f g ≡ Ok (fused_map m f g)
unfolding fuse_faces
fusion_made m f g face_f face_g between left =
    ap (λ t. ensured (t && is_face m g) 2 >>= λ x. ensured (list_any (is_between f g) m.arcs) 13 >>= λ y. ensured (list_any (λ a. borders_face f a || borders_face g a) (others f g m.arcs)) 14 >>= λ z. Ok (fused_map m f g)) face_f
    ∙ ap (λ t. ensured t 2 >>= λ x. ensured (list_any (is_between f g) m.arcs) 13 >>= λ y. ensured (list_any (λ a. borders_face f a || borders_face g a) (others f g m.arcs)) 14 >>= λ z. Ok (fused_map m f g)) face_g
    ∙ ap (λ t. ensured t 13 >>= λ y. ensured (list_any (λ a. borders_face f a || borders_face g a) (others f g m.arcs)) 14 >>= λ z. Ok (fused_map m f g)) between
    ∙ ap (λ t. ensured t 14 >>= λ z. Ok (fused_map m f g)) left

pub fusions_keep : FusionsKeepMaps
unfolding fuse_faces
fusions_keep m e f g base made =
    by (is_face m f) (is_face m g) (list_any (is_between f g) m.arcs) (list_any (λ a. borders_face f a || borders_face g a) (others f g m.arcs)) refl refl refl refl made
  where
    by : (face_f face_g between left : Bool) → is_face m f ≡ face_f → is_face m g ≡ face_g → list_any (is_between f g) m.arcs ≡ between
        → list_any (λ a. borders_face f a || borders_face g a) (others f g m.arcs) ≡ left
        → (let result : Result BaseMap ℕ = ensured (face_f && face_g) 2 >>= λ x. ensured between 13 >>= λ y. ensured left 14 >>= λ z. Ok (fused_map m f g) in
        let wanted : Result BaseMap ℕ = Ok e in result ≡ wanted)
        → IsTrue (is_base e)
    by false face_g between left e1 e2 e3 e4 made = absurd cc
    by true false between left e1 e2 e3 e4 made = absurd cc
    by true true false left e1 e2 e3 e4 made = absurd cc
    by true true true false e1 e2 e3 e4 made = absurd cc
    by true true true true e1 e2 e3 e4 made =
        (let same_map : fused_map m f g ≡ e = cc in
        subst (λ (x : BaseMap). IsTrue (is_base x)) same_map (fusion_is_base m f g base e1 e2 e3 e4))

-- the map that is made is a base map, of copies of the parts
pub fused_copy_is_base : (m : BaseMap) (f g : ℕ) (classes old_classes : List ℕ) (copy arcs : List BaseArc) (n : ℕ) → is_base m ≡ true → n ≡ length m.classes → old_classes ≡ m.classes → arcs ≡ m.arcs
    → classes ≡ classes_without g old_classes → copy ≡ map (relabelled (renumbered n f g)) (others f g arcs)
    → is_face m f ≡ true → is_face m g ≡ true → list_any (is_between f g) arcs ≡ true → list_any (λ a. borders_face f a || borders_face g a) (others f g arcs) ≡ true
    → is_base (record m { classes = classes; arcs = copy }) ≡ true
fused_copy_is_base m f g classes old_classes copy arcs n h count same_classes same_arcs new_classes new_arcs face_f face_g between left =
    subst₂ (λ (cs : List ℕ) (bs : List BaseArc). is_base (record m { classes = cs; arcs = bs }) ≡ true)
    (sym (new_classes ∙ ap (classes_without g) same_classes))
    (sym (new_arcs ∙ ap (λ (k : ℕ). map (relabelled (renumbered k f g)) (others f g arcs)) count ∙ ap (λ (bs : List BaseArc). map (relabelled (renumbered (length m.classes) f g)) (others f g bs)) same_arcs))
    (fusion_is_base m f g h face_f face_g (sym (ap (list_any (is_between f g)) same_arcs) ∙ between)
    (sym (ap (λ (bs : List BaseArc). list_any (λ a. borders_face f a || borders_face g a) (others f g bs)) same_arcs) ∙ left))

pub fused_copy : (m : BaseMap) (f g : ℕ) (classes old_classes : List ℕ) (copy arcs : List BaseArc) (n : ℕ) (e : BaseMap) → n ≡ length m.classes → old_classes ≡ m.classes → arcs ≡ m.arcs
    → classes ≡ classes_without g old_classes → copy ≡ map (relabelled (renumbered n f g)) (others f g arcs)
    → is_face m f ≡ true → is_face m g ≡ true → list_any (is_between f g) arcs ≡ true → list_any (λ a. borders_face f a || borders_face g a) (others f g arcs) ≡ true
    → e ≡ record m { classes = classes; arcs = copy } → fuse_faces m f g ≡ Ok e
fused_copy m f g classes old_classes copy arcs n e count same_classes same_arcs new_classes new_arcs face_f face_g between left is =
    fusion_made m f g face_f face_g (sym (ap (list_any (is_between f g)) same_arcs) ∙ between)
    (sym (ap (λ (bs : List BaseArc). list_any (λ a. borders_face f a || borders_face g a) (others f g bs)) same_arcs) ∙ left)
    ∙ ap Ok (sym (is
    ∙ ap (λ (cs : List ℕ). record m { classes = cs; arcs = copy }) (new_classes ∙ ap (classes_without g) same_classes)
    ∙ ap (λ (bs : List BaseArc). record m { classes = classes_without g m.classes; arcs = bs })
    (new_arcs ∙ ap (λ (k : ℕ). map (relabelled (renumbered k f g)) (others f g arcs)) count ∙ ap (λ (bs : List BaseArc). map (relabelled (renumbered (length m.classes) f g)) (others f g bs)) same_arcs)))
