-- What the merge of a table reads and what it leaves.
use Rattle.std.proofs.Common.{◌≡◌, ◌≢◌, ◌↔◌, inl, inr, ℕ, ◌<◌, List, [], length, get_or, set, All, Contains, Option, Some, None, refl, sym, ap, ◌∙◌, subst, arith}
use Rattle.std.specs.Prelude.{option_to_list}
use Rattle.std.proofs.lemmas.Bool.{cases_eq}
use Rattle.std.proofs.lemmas.List.{get_or_default, get_or-set_same, get_or-set_other, length-set}
use Rattle.std.proofs.lemmas.List.Elements.{All-cons, All-nil}
use Rattle.tgap_model.specs.declared.merge.MergeStep.{MergeStep}
use Rattle.tgap_model.specs.declared.slice.Edge.{Edge}
use Rattle.grid_index.specs.Keyed.{edge_in, edges_in, AreAtKeys}
use Rattle.edge_forest.specs.declared.face_labels.FaceLabels.{FaceLabels}
use Rattle.edge_forest.specs.FaceLabels.{face_of, label_of, HasLabel}
use Rattle.map_laws.proofs.Lists.{map_among}
use Rattle.removal_laws.proofs.ChainEnds.{among_contained}
use Rattle.grid_index.specs.Live.{keys}
use Rattle.tgap_build.specs.Table.{listed_at, IsHeld, IsTableOf}
use Rattle.tgap_build.proofs.Sided.{labels_differ}
use Rattle.tgap_build.proofs.Tables.{place_among, placed_all}

-- the keys that are read of a list, sorted
module _ (lists : List (List ℕ)) (l from : ℕ) (is : from ≡ l) (inside : l < length lists) (now listed : List ℕ) (read : now ≡ get_or lists from now) (out : listed ≡ now)
    (sorted items : List ℕ) (same : (k : ℕ) → Contains sorted k ↔ Contains listed k) (all : items ≡ sorted) where
  listed_is : listed ≡ listed_at lists l
  listed_is = out ∙ read ∙ get_or_default lists from now [] (omega (arith, is, inside)) ∙ ap (listed_at lists) is

  pub to_visit : (k : ℕ) → Contains (listed_at lists l) k → Contains items k
  to_visit k c = subst (λ (ks : List ℕ). Contains ks k) (sym all) ((same k).1 (subst (λ (ks : List ℕ). Contains ks k) (sym listed_is) c))

  pub visits_listed : (k : ℕ) → Contains items k → Contains (listed_at lists l) k
  visits_listed k c = subst (λ (ks : List ℕ). Contains ks k) listed_is ((same k).0 (subst (λ (ks : List ℕ). Contains ks k) all c))

-- the labels of an edge can be read
pub held_sides : (t : FaceLabels) (lists : List (List ℕ)) (places : List (Option Edge)) → IsTableOf t lists places → (k : ℕ)
    → All (λ e. (e.left < length t.faces.items) × (e.right < length t.faces.items)) (option_to_list (edge_in places k))
held_sides t lists places w k = by (edge_in places k) refl
  where
    by : (o : Option Edge) → edge_in places k ≡ o → All (λ (e : Edge). (e.left < length t.faces.items) × (e.right < length t.faces.items)) (option_to_list o)
    by None is = All-nil (λ (e : Edge). (e.left < length t.faces.items) × (e.right < length t.faces.items))
    by (Some e) is =
        let h = placed_all (IsHeld t lists) places w.each k e is in
        All-cons (λ (e : Edge). (e.left < length t.faces.items) × (e.right < length t.faces.items)) e [] (h.left.label, h.right.label)
        (All-nil (λ (e : Edge). (e.left < length t.faces.items) × (e.right < length t.faces.items)))

-- the edge with a key that is there
pub key_there : (places : List (Option Edge)) → AreAtKeys places → (k : ℕ) → Contains (keys (edges_in places)) k → (e : Edge) × (edge_in places k ≡ Some e)
key_there places keyed k c =
    let e = map_among (λ (e : Edge). e.key) (edges_in places) k (among_contained (keys (edges_in places)) k c) in
    (e.0, ap (edge_in places) (sym e.2) ∙ place_among places keyed e.0 e.1)

-- the labels after a step
module _ (t t' : FaceLabels) (s : MergeStep) (winner : HasLabel t s.winner) (made : s.made < length t.labels.items)
    (faces : t'.faces.items ≡ set t.faces.items (label_of t s.winner) s.made) (labels : t'.labels.items ≡ set t.labels.items s.made (label_of t s.winner)) where
  pub label_made : label_of t' s.made ≡ label_of t s.winner
  label_made = ap (λ (xs : List ℕ). get_or xs s.made 0) labels ∙ get_or-set_same t.labels.items s.made (label_of t s.winner) 0 made

  label_other : (f : ℕ) → f ≢ s.made → label_of t' f ≡ label_of t f
  label_other f ne = ap (λ (xs : List ℕ). get_or xs f 0) labels ∙ get_or-set_other t.labels.items s.made f (label_of t s.winner) 0 ne

  pub labels_room : length t'.labels.items ≡ length t.labels.items
  labels_room = ap length labels ∙ length-set t.labels.items s.made (label_of t s.winner)

  faces_room : length t'.faces.items ≡ length t.faces.items
  faces_room = ap length faces ∙ length-set t.faces.items (label_of t s.winner) s.made

  pub has_made : HasLabel t' s.made
  has_made = record {
    face = omega (arith, made, labels_room);
    label = let l = winner.label in omega (arith, l, label_made, faces_room);
    exact = ap (face_of t') label_made ∙ ap (λ (xs : List ℕ). get_or xs (label_of t s.winner) 0) faces ∙ get_or-set_same t.faces.items (label_of t s.winner) s.made 0 winner.label;
  }

  pub has_other : (f : ℕ) → f ≢ s.winner → f ≢ s.made → HasLabel t f → HasLabel t' f
  has_other f other new h =
      let same = label_other f new in
      record {
        face = let l = h.face in omega (arith, l, labels_room);
        label = let l = h.label in omega (arith, l, same, faces_room);
        exact = ap (face_of t') same
            ∙ ap (λ (xs : List ℕ). get_or xs (label_of t f) 0) faces
            ∙ get_or-set_other t.faces.items (label_of t s.winner) (label_of t f) s.made 0 (labels_differ t f s.winner h winner other)
            ∙ h.exact;
      }

  pub labels_within : (n : ℕ) → ((f : ℕ) → f < n → label_of t f < n) → s.winner < n → (f : ℕ) → f < n → label_of t' f < n
  labels_within n before inside f l = elim (cases_eq f s.made) [
    | inl e ↦ let q = before s.winner inside in let here = ap (label_of t') e in omega (arith, q, here, label_made)
    | inr ne ↦ let q = before f l in let same = label_other f ne in omega (arith, q, same)
  ]
