-- Tables of edges by their keys.
use Rattle.std.proofs.Common.{◌≡◌, ◌≢◌, inl, inr, ℕ, zero, suc, ◌<◌, ◌==◌, ◌||◌, ◌&&◌, not, Bool, true, false, cond, List, [], ◌∷◌, ◌++◌, map, filter, length, set, All, AllPairs, Contains, Option, Some, None, refl, sym, ap, ap₂, ◌∙◌, subst, eq-eqb, true≢false, arith}
use Rattle.std.specs.Prelude.{option_to_list}
use Rattle.std.specs.List.{flat_map}
use Rattle.std.proofs.lemmas.Bool.{cases_eq, ne_eqb, and_parts, false_from_ne_true}
use Rattle.std.proofs.lemmas.List.{map-append, get_or-set_same, get_or-set_other, length-set}
use Rattle.lemmas.proofs.Members.{filter_agree_on, in_none}
use Rattle.tgap_model.specs.declared.merge.MergeStep.{MergeStep}
use Rattle.tgap_model.specs.declared.slice.Edge.{Edge}
use Rattle.tgap_model.specs.History.{relabel}
use Rattle.tgap_model.specs.Removals.{has_side}
use Rattle.tgap_model.specs.Records.{is_edge_between}
use Rattle.map_laws.proofs.ChainMembers.{Among, filter_among}
use Rattle.map_laws.proofs.Lists.{all_members, members_all, kept_among, among_map, map_among}
use Rattle.grid_index.specs.Keyed.{edge_in, edges_in, AreAtKeys}
use Rattle.grid_index.specs.Live.{keys}
use Rattle.edge_forest.specs.declared.face_labels.FaceLabels.{FaceLabels}
use Rattle.edge_forest.specs.FaceLabels.{face_of, label_of, HasLabel, IsCurrent, moved}
use Rattle.tgap_build.specs.Running.{relabelled}
use Rattle.tgap_build.specs.Table.{faced, listed_at, IsHeld, IsTableOf, left_by, moved_label, moved_edge, has_both, has_first, place_after}
use Rattle.tgap_build.proofs.Covered.{covered}
use Rattle.tgap_build.proofs.EdgeTables.{at_among}
use Rattle.tgap_build.proofs.Filters.{filter_map, filter_both}
use Rattle.tgap_build.proofs.Sided.{IsSided, labels_differ, between_test, first_test}
use Rattle.tgap_build.proofs.Visits.{visited, visited_length, visited_all, edges_after, keyed_after, listing, listing_length, listing_keeps, listing_there, listing_from, listed_within}

-- ---- lists

map_twice : {A B C D : Type 0} (f : A → B) (g : B → D) (f' : A → C) (g' : C → D) (xs : List A) → ((x : A) → Among x xs → g (f x) ≡ g' (f' x))
    → map g (map f xs) ≡ map g' (map f' xs)
map_twice f g f' g' [] h = refl
map_twice f g f' g' (x ∷ xs) h = ap₂ (λ y ys. y ∷ ys) (h x (inl refl)) (map_twice f g f' g' xs (λ y m. h y (inr m)))

pub map_flat : {A B C : Type 0} (f : B → C) (g : A → List B) (xs : List A) → map f (flat_map g xs) ≡ flat_map (λ x. map f (g x)) xs
map_flat f g [] = refl
map_flat f g (x ∷ xs) = map-append f (g x) (flat_map g xs) ∙ ap (λ ys. map f (g x) ++ ys) (map_flat f g xs)

flat_agree : {A B : Type 0} (f g : A → List B) (xs : List A) → ((x : A) → f x ≡ g x) → flat_map f xs ≡ flat_map g xs
flat_agree f g [] h = refl
flat_agree f g (x ∷ xs) h = ap₂ (λ ys zs. ys ++ zs) (h x) (flat_agree f g xs h)

keys_faced : (t : FaceLabels) (edges : List Edge) → keys (map (faced t) edges) ≡ keys edges
keys_faced t [] = refl
keys_faced t (e ∷ edges) = ap (λ (ks : List ℕ). e.key ∷ ks) (keys_faced t edges)

-- ---- places and members

-- each edge of the places stands at one
among_at : (places : List (Option Edge)) (e : Edge) → Among e (edges_in places) → (i : ℕ) × (edge_in places i ≡ Some e)
among_at [] e m = absurd m
among_at (None ∷ xs) e m = let i = among_at xs e m in (suc i.0, i.1)
among_at (Some x ∷ xs) e (inl s) = (0, ap Some s)
among_at (Some x ∷ xs) e (inr m) = let i = among_at xs e m in (suc i.0, i.1)

-- that of its key
pub place_among : (places : List (Option Edge)) → AreAtKeys places → (e : Edge) → Among e (edges_in places) → edge_in places e.key ≡ Some e
place_among places keyed e m = let i = among_at places e m in ap (edge_in places) (keyed i.0 e i.1) ∙ i.1

pub place_within : (places : List (Option Edge)) (i : ℕ) (e : Edge) → edge_in places i ≡ Some e → i < length places
place_within [] i e is = absurd cc
place_within (x ∷ xs) zero e is = omega arith
place_within (x ∷ xs) (suc i) e is = let l = place_within xs i e is in omega (arith, l)

-- a key of the edges has a place
pub key_placed : (places : List (Option Edge)) → AreAtKeys places → (e : Edge) → Among e (edges_in places) → e.key < length places
key_placed places keyed e m = place_within places e.key e (place_among places keyed e m)

-- what holds of the edge at each place holds of all
pub all_placed : (P : Edge → Type 0) (places : List (Option Edge)) → ((i : ℕ) (e : Edge) → edge_in places i ≡ Some e → P e) → All P (edges_in places)
all_placed P places h = all_members P (edges_in places) (λ e m. let i = among_at places e m in h i.0 e i.1)

pub placed_all : (P : Edge → Type 0) (places : List (Option Edge)) → All P (edges_in places) → (i : ℕ) (e : Edge) → edge_in places i ≡ Some e → P e
placed_all P places h i e is = members_all P (edges_in places) e h (at_among places i e is)

-- ---- a table

module _ (t : FaceLabels) (lists : List (List ℕ)) (places : List (Option Edge)) (w : IsTableOf t lists places) where
  held : (e : Edge) → Among e (edges_in places) → IsHeld t lists e
  held e m = members_all (IsHeld t lists) (edges_in places) e w.each m

  pub sided : (e : Edge) → Among e (edges_in places) → IsSided t e
  sided e m = let h = held e m in record { left = h.left; right = h.right }

  -- the key of an edge is listed at each label that it has
  pub listed_side : (l : ℕ) (e : Edge) → Among e (edges_in places) → has_side l e ≡ true → Contains (listed_at lists l) e.key
  listed_side l e m h = elim (cases_eq e.left l) [
    | inl s ↦ subst (λ (n : ℕ). Contains (listed_at lists n) e.key) s (held e m).at_left
    | inr ne ↦ elim (cases_eq e.right l) [
      | inl s ↦ subst (λ (n : ℕ). Contains (listed_at lists n) e.key) s (held e m).at_right
      | inr other ↦ absurd (true≢false (sym h ∙ ap₂ (λ (a b : Bool). a || b) (ne_eqb e.left l ne) (ne_eqb e.right l other)))
    ]
  ]

  -- ---- a step

  module _ (s : MergeStep) (h : HasLabel t s.loser) (g : HasLabel t s.winner) (apart : s.loser ≢ s.winner)
      (ks : List ℕ) (up : AllPairs (λ (j k : ℕ). j < k) ks) (same : (k : ℕ) → Contains (listed_at lists (label_of t s.loser)) k → Contains ks k)
      (within : (k : ℕ) → Contains ks k → k < length places) where
    abbrev from : ℕ
    from = label_of t s.loser

    abbrev to : ℕ
    to = label_of t s.winner

    abbrev edges : List Edge
    edges = edges_in places

    abbrev after : List (Option Edge)
    after = visited from to places ks

    differ : from ≢ to
    differ = labels_differ t s.loser s.winner h g apart

    key_there : (e : Edge) → Among e edges → has_side from e ≡ true → Contains ks e.key
    key_there e m side = same e.key (listed_side from e m side)

    others : (j : ℕ) (e : Edge) → edge_in places j ≡ Some e → (Contains ks j → ⊥) → has_side from e ≡ false
    others j e is out = false_from_ne_true (has_side from e) (λ side. out (subst (Contains ks) (w.keyed j e is) (key_there e (at_among places j e is) side)))

    places_are : visited (label_of t s.loser) (label_of t s.winner) places ks ≡ map (place_after (label_of t s.loser) (label_of t s.winner)) places
    places_are = visited_all from to differ places ks within others

    between : (e : Edge) → Among e edges → has_both from to e ≡ is_edge_between s.loser s.winner (faced t e)
    between e m = between_test t s.loser s.winner e h g apart (sided e m)

    -- the edges after the step, by labels
    pub merged_labelled : edges_in (visited (label_of t s.loser) (label_of t s.winner) places ks)
        ≡ map (moved_edge (label_of t s.loser) (label_of t s.winner)) (filter (λ e. not (is_edge_between s.loser s.winner (faced t e))) (edges_in places))
    merged_labelled =
        ap edges_in places_are
        ∙ edges_after from to places
        ∙ ap (map (moved_edge from to))
        (filter_agree_on (λ (e : Edge). not (has_both from to e)) (λ (e : Edge). not (is_edge_between s.loser s.winner (faced t e))) edges
        (all_members (λ (e : Edge). not (has_both from to e) ≡ not (is_edge_between s.loser s.winner (faced t e))) edges (λ e m. ap not (between e m))))

    -- those that ended
    pub merged_ended : map (faced t) (flat_map (λ k. filter (has_both (label_of t s.loser) (label_of t s.winner)) (option_to_list (edge_in places k))) ks)
        ≡ filter (is_edge_between s.loser s.winner) (map (faced t) (edges_in places))
    merged_ended =
        ap (map (faced t))
        (covered (has_both from to) places w.keyed ks up
        (all_members (λ (e : Edge). has_both from to e ≡ true → Contains ks e.key) edges (λ e m both. key_there e m (and_parts (has_side from e) (has_side to e) both).0))
        ∙ filter_agree_on (has_both from to) (λ (e : Edge). is_edge_between s.loser s.winner (faced t e)) edges
        (all_members (λ (e : Edge). has_both from to e ≡ is_edge_between s.loser s.winner (faced t e)) edges between))
        ∙ sym (filter_map (is_edge_between s.loser s.winner) (faced t) edges)

    at_key : (p : Edge → Bool) (k : ℕ) → map (λ (e : Edge). k) (filter p (option_to_list (edge_in places k))) ≡ keys (filter p (option_to_list (edge_in places k)))
    at_key p k = by (edge_in places k) refl
      where
        by : (o : Option Edge) → edge_in places k ≡ o → map (λ (e : Edge). k) (filter p (option_to_list o)) ≡ keys (filter p (option_to_list o))
        by None is = refl
        by (Some e) is = one (p e)
          where
            one : (b : Bool) → map (λ (e : Edge). k) (cond b (e ∷ []) []) ≡ keys (cond b (e ∷ []) [])
            one true = ap (λ (n : ℕ). n ∷ []) (sym (w.keyed k e is))
            one false = refl

    -- the keys of those that had the loser and stay
    pub merged_losing : flat_map (λ k. map (λ (e : Edge). k) (filter (has_first (label_of t s.loser) (label_of t s.winner)) (option_to_list (edge_in places k)))) ks
        ≡ keys (filter (has_side s.loser) (left_by s (map (faced t) (edges_in places))))
    merged_losing =
        flat_agree (λ k. map (λ (e : Edge). k) (filter (has_first from to) (option_to_list (edge_in places k)))) (λ k. keys (filter (has_first from to) (option_to_list (edge_in places k)))) ks
        (at_key (has_first from to))
        ∙ sym (map_flat (λ (e : Edge). e.key) (λ k. filter (has_first from to) (option_to_list (edge_in places k))) ks)
        ∙ ap keys
        (covered (has_first from to) places w.keyed ks up
        (all_members (λ (e : Edge). has_first from to e ≡ true → Contains ks e.key) edges (λ e m first. key_there e m (and_parts (has_side from e) (not (has_side to e)) first).0))
        ∙ filter_agree_on (has_first from to) (λ (e : Edge). has_side s.loser (faced t e) && not (is_edge_between s.loser s.winner (faced t e))) edges
        (all_members (λ (e : Edge). has_first from to e ≡ (has_side s.loser (faced t e) && not (is_edge_between s.loser s.winner (faced t e)))) edges
        (λ e m. first_test t s.loser s.winner e h g apart (sided e m))))
        ∙ sym (keys_faced t (filter (λ (e : Edge). has_side s.loser (faced t e) && not (is_edge_between s.loser s.winner (faced t e))) edges))
        ∙ ap keys
        (sym (filter_map (λ (e : Edge). has_side s.loser e && not (is_edge_between s.loser s.winner e)) (faced t) edges)
        ∙ sym (filter_both (has_side s.loser) (λ (e : Edge). not (is_edge_between s.loser s.winner e)) (map (faced t) edges)))

    -- ---- the labels after the step

    module _ (t' : FaceLabels) (follow : (l : ℕ) → IsCurrent t l → face_of t l ≢ s.made → IsCurrent t' (moved t s l) × (face_of t' (moved t s l) ≡ relabel s (face_of t l)))
        (fresh : All (λ (e : Edge). (e.left ≢ s.made) × (e.right ≢ s.made)) (map (faced t) (edges_in places))) where
      not_made : (e : Edge) → Among e edges → (face_of t e.left ≢ s.made) × (face_of t e.right ≢ s.made)
      not_made e m = members_all (λ (e : Edge). (e.left ≢ s.made) × (e.right ≢ s.made)) (map (faced t) edges) (faced t e) fresh (among_map (faced t) edges e m)

      -- the edges after the step, by faces
      pub merged_faced : map (faced t') (edges_in (visited (label_of t s.loser) (label_of t s.winner) places ks)) ≡ map (relabelled s) (left_by s (map (faced t) (edges_in places)))
      merged_faced =
          ap (map (faced t')) merged_labelled
          ∙ map_twice (moved_edge from to) (faced t') (faced t) (relabelled s) stay same_faces
          ∙ ap (map (relabelled s)) (sym (filter_map (λ (e : Edge). not (is_edge_between s.loser s.winner e)) (faced t) edges))
        where
          stay : List Edge
          stay = filter (λ e. not (is_edge_between s.loser s.winner (faced t e))) edges

          same_faces : (e : Edge) → Among e (filter (λ e. not (is_edge_between s.loser s.winner (faced t e))) edges) → faced t' (moved_edge from to e) ≡ relabelled s (faced t e)
          same_faces e m =
              let n = kept_among (λ (e : Edge). not (is_edge_between s.loser s.winner (faced t e))) edges e m in
              let new = not_made e n in
              ap₂ (λ (l r : ℕ). record { key = e.key; left = l; right = r; points = e.points })
              (follow e.left (sided e n).left new.0).1 (follow e.right (sided e n).right new.1).1

      -- ---- and the table

      module _ (room : length t'.labels.items ≡ length t.labels.items) (labels : (f : ℕ) → f < length lists → label_of t' f < length lists) (to_there : label_of t s.winner < length lists) where
        abbrev emptied : List (List ℕ)
        emptied = set lists from []

        abbrev lists' : List (List ℕ)
        lists' = listing from to places emptied ks

        count : length lists' ≡ length lists
        count = listing_length from to places emptied ks ∙ length-set lists from []

        from_emptied : (l k : ℕ) → Contains (listed_at emptied l) k → Contains (listed_at lists l) k
        from_emptied l k c = elim (cases_eq l from) [
          | inl e ↦
              let at_from = subst (λ (m : ℕ). Contains (listed_at emptied m) k) e c in
              let l = listed_within emptied from k at_from in
              absurd (in_none k (subst (λ (xs : List ℕ). Contains xs k) (get_or-set_same lists from [] [] (omega (arith, l, length-set lists from []))) at_from))
          | inr ne ↦ subst (λ (xs : List ℕ). Contains xs k) (get_or-set_other lists from l [] [] ne) c
        ]

        -- the key of an edge that stays is listed at its label
        side_listed : (e : Edge) → Among e edges → has_both from to e ≡ false → (l : ℕ) → has_side l e ≡ true → Contains (listed_at lists' (moved_label from to l)) e.key
        side_listed e m stays l side = elim (cases_eq l from) [
          | inl is ↦
              let first : has_side from e ≡ true = subst (λ (n : ℕ). has_side n e ≡ true) is side in
              let not_to : has_side to e ≡ false = ap (λ (b : Bool). b && has_side to e) (sym first) ∙ stays in
              let alone : has_first from to e ≡ true = ap₂ (λ (a b : Bool). a && not b) first not_to in
              subst (λ (n : ℕ). Contains (listed_at lists' n) e.key) (sym (ap (λ (b : Bool). cond b to l) (eq-eqb l from is)))
              (listing_there from to places emptied ks e.key e (key_there e m first) (place_among places w.keyed e m) alone (omega (arith, to_there, length-set lists from [])))
          | inr ne ↦
              subst (λ (n : ℕ). Contains (listed_at lists' n) e.key) (sym (ap (λ (b : Bool). cond b to l) (ne_eqb l from ne)))
              (listing_keeps from to places emptied ks l e.key
              (subst (λ (xs : List ℕ). Contains xs e.key) (sym (get_or-set_other lists from l [] [] ne)) (listed_side l e m side)))
        ]

        left_side : (e : Edge) → has_side e.left e ≡ true
        left_side e = ap (λ (b : Bool). b || (e.right == e.left)) (eq-eqb e.left e.left refl)

        right_side : (e : Edge) → has_side e.right e ≡ true
        right_side e = by (e.left == e.right) (eq-eqb e.right e.right refl)
          where
            by : (a : Bool) → (e.right == e.right) ≡ true → (a || (e.right == e.right)) ≡ true
            by true h = refl
            by false h = h

        moved_held : (e : Edge) → Among e edges → has_both from to e ≡ false → IsHeld t' lists' (moved_edge from to e)
        moved_held e m stays = let new = not_made e m in record {
          left = (follow e.left (sided e m).left new.0).0;
          right = (follow e.right (sided e m).right new.1).0;
          at_left = side_listed e m stays e.left (left_side e);
          at_right = side_listed e m stays e.right (right_side e);
        }

        pub merged_table : IsTableOf t' (listing (label_of t s.loser) (label_of t s.winner) places (set lists (label_of t s.loser) []) ks) (visited (label_of t s.loser) (label_of t s.winner) places ks)
        merged_table = record {
          keyed = subst AreAtKeys (sym places_are) (keyed_after from to places w.keyed);
          each = subst (λ (ps : List (Option Edge)). All (IsHeld t' lists') (edges_in ps)) (sym places_are)
              (subst (All (IsHeld t' lists')) (sym (edges_after from to places))
              (all_members (IsHeld t' lists') (map (moved_edge from to) (filter (λ e. not (has_both from to e)) edges)) (λ e m.
              let f = map_among (moved_edge from to) (filter (λ e. not (has_both from to e)) edges) e m in
              subst (IsHeld t' lists') f.2
              (moved_held f.0 (kept_among (λ (e : Edge). not (has_both from to e)) edges f.0 f.1)
              (false_from_not (has_both from to f.0) (filter_among (λ (e : Edge). not (has_both from to e)) edges f.0 f.1))))));
          listed = λ l k c. let q : k < length places = elim (listing_from from to places emptied ks l k c) [
            | inl old ↦ w.listed l k (from_emptied l k old)
            | inr new ↦ within k new
          ] in
              let n = visited_length from to places ks in
              omega (arith, q, n);
          face_room = λ f l. let q = w.face_room f (omega (arith, l, count)) in omega (arith, q, room);
          label_room = λ f l. let q = labels f (omega (arith, l, count)) in omega (arith, q, count);
        }
          where
            false_from_not : (b : Bool) → not b ≡ true → b ≡ false
            false_from_not true h = absurd cc
            false_from_not false h = refl
