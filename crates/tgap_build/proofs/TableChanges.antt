-- An edge comes into a table, one takes the place of those of which it is made, and one loses points.
use Rattle.std.proofs.Common.{◌≡◌, ◌≢◌, inl, inr, ℕ, zero, suc, ◌<◌, ◌==◌, ◌||◌, not, Bool, true, false, cond, List, [], ◌∷◌, ◌++◌, map, length, get_or, set, replicate, All, AllPairs, Contains, IsPermutation, Option, Some, None, refl, sym, ap, ap₂, ◌∙◌, subst, eq-eqb, true≢false, arith}
use Rattle.std.specs.Prelude.{option_map}
use Rattle.std.specs.List.{list_any}
use Rattle.std.proofs.lemmas.Bool.{cases_eq, cases_lt, ne_eqb}
use Rattle.std.proofs.lemmas.List.{ext_get_or, get_or-set_same, get_or-set_other, get_or_past, get_or_default, get_or-replicate, length-replicate, length-set, length-map}
use Rattle.std.proofs.lemmas.List.Sorted.{IsPermutation-refl}
use Rattle.lemmas.proofs.Members.{in_none}
use Rattle.tgap_model.specs.declared.geometry.Point.{Point}
use Rattle.tgap_model.specs.declared.slice.Edge.{Edge}
use Rattle.map_laws.proofs.ChainMembers.{Among, filter_among}
use Rattle.map_laws.proofs.Lists.{all_members, members_all, any_from, kept_among, map_among}
use Rattle.removal_laws.proofs.ChainEnds.{among_contained}
use Rattle.grid_index.specs.Keyed.{edge_in, edges_in, AreAtKeys}
use Rattle.grid_index.specs.Live.{without_keys}
use Rattle.edge_forest.specs.declared.face_labels.FaceLabels.{FaceLabels}
use Rattle.edge_forest.specs.FaceLabels.{face_of, label_of, HasLabel, IsCurrent}
use Rattle.tgap_build.specs.Table.{faced, listed_at, IsHeld, IsTableOf}
use Rattle.tgap_build.specs.Running.{less}
use Rattle.tgap_build.specs.Changes.{less_at}
use Rattle.tgap_build.proofs.EdgeTables.{stays, keyed_put, put_there, IsPutting}
use Rattle.tgap_build.proofs.Filters.{filter_all}
use Rattle.tgap_build.proofs.Tables.{all_placed, placed_all, place_within}
use Rattle.tgap_build.proofs.Visits.{push_keeps, push_there, push_from}

some_same : {A : Type 0} (x y : A) → Some x ≡ Some y → x ≡ y
some_same x y s = ap (λ o. elim o [ None ↦ x | Some z ↦ z ]) s

-- what was read of a place
pub place_read : (places : List (Option Edge)) (k : ℕ) → k < length places → (now taken o : Option Edge) → now ≡ get_or places k now → taken ≡ now → taken ≡ o → edge_in places k ≡ o
place_read places k l now taken o read same is = sym (read ∙ get_or_default places k now None l) ∙ sym same ∙ is

-- two edges with the same key, sides and points
pub same_edge : {key key' left left' right right' : ℕ} {points points' : List Point} → key ≡ key' → left ≡ left' → right ≡ right' → points ≡ points'
    → ◌≡◌ {A = Edge} (record { key = key; left = left; right = right; points = points }) (record { key = key'; left = left'; right = right'; points = points' })
same_edge k l r ps = rw (k, l, r, ps) refl

-- a place is written twice
pub set_again : {A : Type 0} (xs : List A) (k : ℕ) (a b : A) → set (set xs k a) k b ≡ set xs k b
set_again [] k a b = refl
set_again (x ∷ xs) zero a b = refl
set_again (x ∷ xs) (suc k) a b = ap (λ ys. x ∷ ys) (set_again xs k a b)

pub keyed_set : (places : List (Option Edge)) (k : ℕ) (o : Option Edge) → k < length places → ((e : Edge) → o ≡ Some e → e.key ≡ k) → AreAtKeys places → AreAtKeys (set places k o)
keyed_set places k o l here h i e is = elim (cases_eq i k) [
  | inl s ↦ here e (sym (ap (edge_in (set places k o)) s ∙ get_or-set_same places k o None l) ∙ is) ∙ sym s
  | inr ne ↦ h i e (sym (get_or-set_other places k i o None ne) ∙ is)
]

pub keyed_emptied : (places : List (Option Edge)) (k : ℕ) → k < length places → AreAtKeys places → AreAtKeys (set places k None)
keyed_emptied places k l h = keyed_set places k None l (λ e is. absurd cc) h

-- ---- an edge comes

module _ (t : FaceLabels) (lists : List (List ℕ)) (places : List (Option Edge)) (w : IsTableOf t lists places) (e : Edge) (within : e.key < length places)
    (left : (e.left < length lists) × IsCurrent t e.left) (right : (e.right < length lists) × IsCurrent t e.right) where
  abbrev once : List (List ℕ)
  once = set lists e.left (listed_at lists e.left ++ e.key ∷ [])

  abbrev twice : List (List ℕ)
  twice = set once e.right (listed_at once e.right ++ e.key ∷ [])

  abbrev put : List (Option Edge)
  put = set places e.key (Some e)

  once_count : length once ≡ length lists
  once_count = length-set lists e.left (listed_at lists e.left ++ e.key ∷ [])

  twice_count : length twice ≡ length lists
  twice_count = length-set once e.right (listed_at once e.right ++ e.key ∷ []) ∙ once_count

  keeps : (l n : ℕ) → Contains (listed_at lists l) n → Contains (listed_at twice l) n
  keeps l n c = push_keeps once e.right e.key l n (push_keeps lists e.left e.key l n c)

  new_held : IsHeld t twice e
  new_held = record {
    left = left.1;
    right = right.1;
    at_left = push_keeps once e.right e.key e.left e.key (push_there lists e.left e.key left.0);
    at_right = push_there once e.right e.key (omega (arith, right.0, once_count));
  }

  from_twice : (l k : ℕ) → Contains (listed_at twice l) k → k < length places
  from_twice l k c = elim (push_from once e.right e.key l k c) [
    | inl d ↦ elim (push_from lists e.left e.key l k d) [
      | inl old ↦ w.listed l k old
      | inr s ↦ omega (arith, s, within)
    ]
    | inr s ↦ omega (arith, s, within)
  ]

  pub put_table : IsTableOf t
      (set (set lists e.left (listed_at lists e.left ++ e.key ∷ [])) e.right (listed_at (set lists e.left (listed_at lists e.left ++ e.key ∷ [])) e.right ++ e.key ∷ []))
      (set places e.key (Some e))
  put_table = record {
    keyed = keyed_put places e within w.keyed;
    each = all_placed (IsHeld t twice) put (λ i f is. elim (cases_eq i e.key) [
      | inl s ↦ subst (IsHeld t twice) (some_same e f (sym (ap (edge_in put) s ∙ get_or-set_same places e.key (Some e) None within) ∙ is)) new_held
      | inr ne ↦
          let h = placed_all (IsHeld t lists) places w.each i f (sym (get_or-set_other places e.key i (Some e) None ne) ∙ is) in
          record { left = h.left; right = h.right; at_left = keeps f.left f.key h.at_left; at_right = keeps f.right f.key h.at_right }
    ]);
    listed = λ l k c. let q = from_twice l k c in let n = length-set places e.key (Some e) in omega (arith, q, n);
    face_room = λ f l. w.face_room f (omega (arith, l, twice_count));
    label_room = λ f l. let q = w.label_room f (omega (arith, l, twice_count)) in omega (arith, q, twice_count);
  }

-- ---- the table without an edge

no_edges : (n : ℕ) → edges_in (replicate n None) ≡ []
no_edges zero = refl
no_edges (suc n) = no_edges n

-- all edges are left
pub empty_putting : (n : ℕ) (edges : List Edge) → AllPairs (λ (e f : Edge). e.key < f.key) edges → IsPutting edges (edges_in (replicate n None)) edges
empty_putting n edges up =
    subst (λ (es : List Edge). IsPutting edges es edges) (sym (no_edges n))
    (record { moved = IsPermutation-refl edges; apart = λ i j d l s e. let less = up i j d l s in absurd (omega (arith, less, e)) })

module _ (t : FaceLabels) (keys faces : ℕ) (labels : (f : ℕ) → f < faces → HasLabel t f) (same : (f : ℕ) → f < faces → label_of t f ≡ f) where
  none_listed : (n l k : ℕ) → Contains (listed_at (replicate n []) l) k → ⊥
  none_listed n l k c = elim (cases_lt l n) [
    | inl s ↦ in_none k (subst (λ (ks : List ℕ). Contains ks k) (get_or-replicate n l [] [] s) c)
    | inr z ↦ in_none k (subst (λ (ks : List ℕ). Contains ks k) (get_or_past (replicate n []) l [] (omega (arith, z, length-replicate n (none_of ℕ)))) c)
  ]
    where
      none_of : (A : Type 0) → List A
      none_of A = []

  none_placed : (n i : ℕ) (e : Edge) → edge_in (replicate n None) i ≡ Some e → ⊥
  none_placed n i e is = elim (cases_lt i n) [
    | inl s ↦ let q = sym (get_or-replicate n i None None s) ∙ is in cc
    | inr z ↦ let q = sym (get_or_past (replicate n None) i None (omega (arith, z, length-replicate n (no_edge)))) ∙ is in cc
  ]
    where
      no_edge : Option Edge
      no_edge = None

  pub empty_table : IsTableOf t (replicate faces []) (replicate keys None)
  empty_table = record {
    keyed = λ i e is. absurd (none_placed keys i e is);
    each = all_placed (IsHeld t (replicate faces [])) (replicate keys None) (λ i e is. absurd (none_placed keys i e is));
    listed = λ l k c. absurd (none_listed faces l k c);
    face_room = λ f l. (labels f (omega (arith, l, count))).face;
    label_room = λ f l. let q = same f (omega (arith, l, count)) in omega (arith, q, l);
  }
    where
      none_of : List ℕ
      none_of = []

      count : length (replicate faces none_of) ≡ faces
      count = length-replicate faces none_of

  face_is : (f : ℕ) → f < faces → face_of t f ≡ f
  face_is f l = ap (face_of t) (sym (same f l)) ∙ (labels f l).exact

  -- before the first step a face is its own label
  pub first_current : (f : ℕ) → f < faces → IsCurrent t f
  first_current f l =
      let h = labels f l in
      let s = same f l in
      let d = face_is f l in
      record {
        label = let q = h.label in omega (arith, q, s);
        face = let q = h.face in omega (arith, q, d);
        exact = ap (label_of t) d ∙ s;
      }

  pub first_faced : (edges : List Edge) → All (λ e. (e.left < faces) × (e.right < faces)) edges → map (faced t) edges ≡ edges
  first_faced edges h = by edges (λ e m. members_all (λ (e : Edge). (e.left < faces) × (e.right < faces)) edges e h m)
    where
      by : (es : List Edge) → ((e : Edge) → Among e es → (e.left < faces) × (e.right < faces)) → map (faced t) es ≡ es
      by [] each = refl
      by (e ∷ es) each =
          let l = each e (inl refl) in
          ap₂ (λ (f : Edge) (fs : List Edge). f ∷ fs)
          (ap₂ (λ (a b : ℕ). record { key = e.key; left = a; right = b; points = e.points }) (face_is e.left l.0) (face_is e.right l.1))
          (by es (λ f m. each f (inr m)))

-- ---- one takes the place of others

module _ (t : FaceLabels) (lists : List (List ℕ)) (places : List (Option Edge)) (w : IsTableOf t lists places) (gone : List ℕ) (emptied : List (Option Edge))
    (keyed : AreAtKeys emptied) (left : edges_in emptied ≡ without_keys gone (edges_in places)) (room : length emptied ≡ length places)
    (e old : Edge) (there : edge_in places e.key ≡ Some old) (out : Contains gone e.key) (same_left : e.left ≡ old.left) (same_right : e.right ≡ old.right) where
  abbrev joined : List (Option Edge)
  joined = set emptied e.key (Some e)

  within : e.key < length emptied
  within = let l = place_within places e.key old there in omega (arith, l, room)

  old_held : IsHeld t lists old
  old_held = placed_all (IsHeld t lists) places w.each e.key old there

  old_key : old.key ≡ e.key
  old_key = w.keyed e.key old there

  joined_held : IsHeld t lists e
  joined_held = record {
    left = subst (IsCurrent t) (sym same_left) old_held.left;
    right = subst (IsCurrent t) (sym same_right) old_held.right;
    at_left = subst (λ (l : ℕ). Contains (listed_at lists l) e.key) (sym same_left) (subst (Contains (listed_at lists old.left)) old_key old_held.at_left);
    at_right = subst (λ (l : ℕ). Contains (listed_at lists l) e.key) (sym same_right) (subst (Contains (listed_at lists old.right)) old_key old_held.at_right);
  }

  pub joined_table : IsTableOf t lists (set emptied e.key (Some e))
  joined_table = record {
    keyed = keyed_put emptied e within keyed;
    each = all_placed (IsHeld t lists) joined (λ i f is. elim (cases_eq i e.key) [
      | inl s ↦ subst (IsHeld t lists) (some_same e f (sym (ap (edge_in joined) s ∙ get_or-set_same emptied e.key (Some e) None within) ∙ is)) joined_held
      | inr ne ↦
          placed_all (IsHeld t lists) emptied (subst (All (IsHeld t lists)) (sym left)
          (all_members (IsHeld t lists) (without_keys gone (edges_in places)) (λ g m.
          members_all (IsHeld t lists) (edges_in places) g w.each (kept_among (λ (g : Edge). not (list_any (λ k. k == g.key) gone)) (edges_in places) g m))))
          i f (sym (get_or-set_other emptied e.key i (Some e) None ne) ∙ is)
    ]);
    listed = λ l k c. let q = w.listed l k c in let n = length-set emptied e.key (Some e) in omega (arith, q, n, room);
    face_room = w.face_room;
    label_room = w.label_room;
  }

  without_it : without_keys (e.key ∷ []) (without_keys gone (edges_in places)) ≡ without_keys gone (edges_in places)
  without_it = filter_all (λ (g : Edge). not (list_any (λ k. k == g.key) (e.key ∷ []))) (without_keys gone (edges_in places)) (λ g m.
      stays e.key g (λ s. by g m (subst (Contains gone) (sym s) out)))
    where
      by : (g : Edge) → Among g (without_keys gone (edges_in places)) → Contains gone g.key → ⊥
      by g m c =
          let any = any_from (λ k. k == g.key) gone g.key (among_contained gone g.key c) (eq-eqb g.key g.key refl) in
          let none = filter_among (λ (g : Edge). not (list_any (λ k. k == g.key) gone)) (edges_in places) g m in
          true≢false (sym none ∙ ap not any)

  pub joined_moved : IsPermutation (without_keys gone (edges_in places) ++ e ∷ []) (edges_in (set emptied e.key (Some e)))
  joined_moved =
      subst (λ (es : List Edge). IsPermutation (es ++ e ∷ []) (edges_in joined)) (ap (without_keys (e.key ∷ [])) left ∙ without_it) (put_there emptied e within keyed)

-- ---- one loses points

edges_mapped : (f : Edge → Edge) (places : List (Option Edge)) → edges_in (map (option_map f) places) ≡ map f (edges_in places)
edges_mapped f [] = refl
edges_mapped f (None ∷ xs) = edges_mapped f xs
edges_mapped f (Some e ∷ xs) = ap (λ (es : List Edge). f e ∷ es) (edges_mapped f xs)

mapped_at : (f : Edge → Edge) (places : List (Option Edge)) (i : ℕ) → edge_in (map (option_map f) places) i ≡ option_map f (edge_in places i)
mapped_at f [] i = refl
mapped_at f (x ∷ xs) zero = refl
mapped_at f (x ∷ xs) (suc i) = mapped_at f xs i

module _ (places : List (Option Edge)) (keyed : AreAtKeys places) (k : ℕ) (within : k < length places) (gone : List Point) where
  abbrev lesser : Option Edge → Option Edge
  lesser o = option_map (less gone) o

  abbrev there : Edge → Edge
  there e = less_at gone (k ∷ []) e

  at_other : (i : ℕ) → i ≢ k → option_map there (edge_in places i) ≡ edge_in places i
  at_other i ne = by (edge_in places i) refl
    where
      by : (o : Option Edge) → edge_in places i ≡ o → option_map there o ≡ o
      by None is = refl
      by (Some e) is = ap (λ (b : Bool). Some (cond (b || false) (less gone e) e)) (ne_eqb k e.key (λ s. ne (sym (s ∙ keyed i e is))))

  at_it : option_map there (edge_in places k) ≡ lesser (edge_in places k)
  at_it = by (edge_in places k) refl
    where
      by : (o : Option Edge) → edge_in places k ≡ o → option_map there o ≡ lesser o
      by None is = refl
      by (Some e) is = ap (λ (b : Bool). Some (cond (b || false) (less gone e) e)) (eq-eqb k e.key (sym (keyed k e is)))

  less_places : set places k (lesser (edge_in places k)) ≡ map (option_map there) places
  less_places =
      ext_get_or None (set places k (lesser (edge_in places k))) (map (option_map there) places)
      (length-set places k (lesser (edge_in places k)) ∙ sym (length-map places (option_map there)))
      (λ i l. elim (cases_eq i k) [
        | inl s ↦
            ap (edge_in (set places k (lesser (edge_in places k)))) s ∙ get_or-set_same places k (lesser (edge_in places k)) None within
            ∙ sym at_it ∙ ap (λ (n : ℕ). option_map there (edge_in places n)) (sym s) ∙ sym (mapped_at there places i)
        | inr ne ↦
            get_or-set_other places k i (lesser (edge_in places k)) None ne ∙ sym (at_other i ne) ∙ sym (mapped_at there places i)
      ])

  pub less_edges : edges_in (set places k (option_map (less gone) (edge_in places k))) ≡ map (less_at gone (k ∷ [])) (edges_in places)
  less_edges = ap edges_in less_places ∙ edges_mapped there places

  module _ (t : FaceLabels) (lists : List (List ℕ)) (w : IsTableOf t lists places) where
    less_held : (e : Edge) → IsHeld t lists e → IsHeld t lists (less_at gone (k ∷ []) e)
    less_held e h = by ((k == e.key) || false)
      where
        by : (b : Bool) → IsHeld t lists (cond b (less gone e) e)
        by true = record { left = h.left; right = h.right; at_left = h.at_left; at_right = h.at_right }
        by false = h

    pub less_table : IsTableOf t lists (set places k (option_map (less gone) (edge_in places k)))
    less_table = record {
      keyed = keyed_set places k (lesser (edge_in places k)) within (λ e is. here (edge_in places k) e refl is) keyed;
      each = subst (All (IsHeld t lists)) (sym less_edges) (all_members (IsHeld t lists) (map there (edges_in places)) (λ e m.
          let f = map_among there (edges_in places) e m in
          subst (IsHeld t lists) f.2 (less_held f.0 (members_all (IsHeld t lists) (edges_in places) f.0 w.each f.1))));
      listed = λ l n c. let q = w.listed l n c in let m = length-set places k (lesser (edge_in places k)) in omega (arith, q, m);
      face_room = w.face_room;
      label_room = w.label_room;
    }
      where
        here : (o : Option Edge) (e : Edge) → edge_in places k ≡ o → lesser o ≡ Some e → e.key ≡ k
        here None e at is = absurd cc
        here (Some f) e at is = ap (λ (g : Edge). g.key) (sym (some_same (less gone f) e is)) ∙ keyed k f at
