-- Edges less the points that go: those with some keys, and all less the removals of a step.
use Rattle.std.proofs.Common.{◌≡◌, inl, inr, ℕ, ◌==◌, ◌&&◌, ◌||◌, Bool, true, false, cond, not, List, [], ◌∷◌, ◌++◌, map, filter, All, refl, sym, ap, ap₂, ◌∙◌}
use Rattle.std.specs.List.{list_any}
use Rattle.std.proofs.lemmas.Bool.{and_cases, or_parts}
use Rattle.std.proofs.lemmas.List.Folds.{list_any-append}
use Rattle.lemmas.proofs.Members.{filter_agree_on}
use Rattle.tgap_model.specs.declared.geometry.Point.{Point}
use Rattle.tgap_model.specs.declared.slice.Edge.{Edge}
use Rattle.tgap_model.specs.declared.slice.Removal.{Removal}
use Rattle.tgap_model.specs.Removals.{without, has_side, is_removed}
use Rattle.removal_laws.specs.StandLaws.{edges_less}
use Rattle.map_laws.proofs.ChainMembers.{Among, filter_among}
use Rattle.map_laws.proofs.Lists.{all_members, members_all}
use Rattle.grid_index.specs.Live.{keys}
use Rattle.edge_forest.specs.declared.face_labels.FaceLabels.{FaceLabels}
use Rattle.tgap_build.specs.Table.{faced}
use Rattle.tgap_build.specs.Running.{has_point, has_any, less}
use Rattle.tgap_build.specs.Changes.{less_where, less_at}
use Rattle.tgap_build.proofs.Filters.{map_agree, filter_all}
use Rattle.tgap_build.proofs.KeyedEdges.{Ascend, listed}

-- ---- some edges lose points

-- where no key is told none does
pub less_none : (gone : List Point) (edges : List Edge) → map (less_at gone []) edges ≡ edges
less_none gone [] = refl
less_none gone (e ∷ edges) = ap (λ (es : List Edge). e ∷ es) (less_none gone edges)

-- to take points out twice is to take them out once
less_twice : (gone : List Point) (e : Edge) → less gone (less gone e) ≡ less gone e
less_twice gone e =
    let stays = λ (p : Point). not (has_point gone p) in
    ap (λ (ps : List Point). record { key = e.key; left = e.left; right = e.right; points = ps })
    (filter_all stays (filter stays e.points) (λ p m. filter_among stays e.points p m))

-- one key more
pub less_more : (gone : List Point) (ks : List ℕ) (k : ℕ) (edges : List Edge) → map (less_at gone (k ∷ [])) (map (less_at gone ks) edges) ≡ map (less_at gone (ks ++ k ∷ [])) edges
less_more gone ks k [] = refl
less_more gone ks k (e ∷ edges) =
    ap₂ (λ (x : Edge) (xs : List Edge). x ∷ xs)
    (by (list_any (λ j. j == e.key) ks)
    ∙ ap (λ (b : Bool). cond b (less gone e) e) (sym (list_any-append (λ j. j == e.key) ks (k ∷ []))))
    (less_more gone ks k edges)
  where
    by : (b : Bool) → cond ((k == (cond b (less gone e) e).key) || false) (less gone (cond b (less gone e) e)) (cond b (less gone e) e)
        ≡ cond (b || ((k == e.key) || false)) (less gone e) e
    by true = both ((k == e.key) || false)
      where
        both : (c : Bool) → cond c (less gone (less gone e)) (less gone e) ≡ less gone e
        both true = less_twice gone e
        both false = refl
    by false = refl

-- where the keys are those of the edges that a test tells, these lose points
pub less_at_is : (gone : List Point) (edges : List Edge) → Ascend edges → (p : Edge → Bool) → map (less_at gone (keys (filter p edges))) edges ≡ map (less_where gone p) edges
less_at_is gone edges ascend p =
    map_agree (less_at gone (keys (filter p edges))) (less_where gone p) edges (λ e m. ap (λ (b : Bool). cond b (less gone e) e) (listed edges ascend p e m))

-- ---- the removals of a step

-- where none of the points is in the set, all are left
none_there : (p : Point → Bool) (points : List Point) → list_any p points ≡ false → filter (λ q. not (p q)) points ≡ points
none_there p [] h = refl
none_there p (x ∷ points) h =
    let both = or_parts (p x) (list_any p points) h in
    ap (λ (b : Bool). cond (not b) (x ∷ filter (λ q. not (p q)) points) (filter (λ q. not (p q)) points)) both.0 ∙ ap (λ (qs : List Point). x ∷ qs) (none_there p points both.1)

-- points less those of the set are those that are not listed
pub less_points : (gone : List Point) (removals : List Removal) → ((p : Point) → has_point gone p ≡ is_removed removals p) → (points : List Point)
    → filter (λ p. not (has_point gone p)) points ≡ without removals points
less_points gone removals same points =
    filter_agree_on (λ p. not (has_point gone p)) (λ p. not (is_removed removals p)) points
    (all_members (λ p. not (has_point gone p) ≡ not (is_removed removals p)) points (λ p m. ap not (same p)))

module _ (gone : List Point) (removals : List Removal) (same : (p : Point) → has_point gone p ≡ is_removed removals p) (made : ℕ) (edges : List Edge)
    (others : All (λ (e : Edge). has_side made e ≡ false → without removals e.points ≡ e.points) edges) where
  -- the edges with the face that have one of the points are less those, and the others have none of them
  pub less_removals : map (less_where gone (λ (e : Edge). has_any gone e && has_side made e)) edges ≡ edges_less removals edges
  less_removals = by edges (λ e m. m)
    where
      one : (e : Edge) → Among e edges → (b : Bool) → (has_any gone e && has_side made e) ≡ b → cond b (less gone e) e ≡ record e { points = without removals e.points }
      one e m true t = ap (λ (ps : List Point). record { key = e.key; left = e.left; right = e.right; points = ps }) (less_points gone removals same e.points)
      one e m false t = ap (λ (ps : List Point). record { key = e.key; left = e.left; right = e.right; points = ps }) (elim (and_cases (has_any gone e) (has_side made e) t) [
        | inl none ↦ sym (none_there (has_point gone) e.points none) ∙ less_points gone removals same e.points
        | inr off ↦ sym (members_all (λ (e : Edge). has_side made e ≡ false → without removals e.points ≡ e.points) edges e others m off)
      ])

      by : (es : List Edge) → ((e : Edge) → Among e es → Among e edges) → map (less_where gone (λ (e : Edge). has_any gone e && has_side made e)) es ≡ edges_less removals es
      by [] sub = refl
      by (e ∷ es) sub = ap₂ (λ (x : Edge) (xs : List Edge). x ∷ xs) (one e (sub e (inl refl)) (has_any gone e && has_side made e) refl) (by es (λ x o. sub x (inr o)))

-- faces in place of labels
pub faced_less : (labels : FaceLabels) (gone : List Point) (p q : Edge → Bool) (edges : List Edge) → ((e : Edge) → Among e edges → p e ≡ q (faced labels e))
    → map (faced labels) (map (less_where gone p) edges) ≡ map (less_where gone q) (map (faced labels) edges)
faced_less labels gone p q [] same = refl
faced_less labels gone p q (e ∷ edges) same =
    ap₂ (λ (x : Edge) (xs : List Edge). x ∷ xs) (one (p e) ∙ ap (λ (b : Bool). cond b (less gone (faced labels e)) (faced labels e)) (same e (inl refl)))
    (faced_less labels gone p q edges (λ x m. same x (inr m)))
  where
    one : (b : Bool) → faced labels (cond b (less gone e) e) ≡ cond b (less gone (faced labels e)) (faced labels e)
    one true = refl
    one false = refl
