-- One more key is visited.
use Rattle.std.proofs.Common.{◌≡◌, ℕ, ◌+◌, ◌<◌, List, [], ◌∷◌, ◌++◌, map, filter, length, get_or, set, take, AllPairs, Option, refl, sym, ap, ap₂, ◌∙◌, arith}
use Rattle.std.specs.Prelude.{option_to_list}
use Rattle.std.specs.List.{flat_map}
use Rattle.std.proofs.lemmas.Grind.{flat_map-append}
use Rattle.std.proofs.lemmas.List.{append-nil, map-append, take_more}
use Rattle.std.proofs.lemmas.List.Sums.{fold_more}
use Rattle.lemmas.proofs.Members.{related_to_next}
use Rattle.tgap_model.specs.declared.slice.Edge.{Edge}
use Rattle.grid_index.specs.Keyed.{edge_in}
use Rattle.edge_forest.specs.declared.face_labels.FaceLabels.{FaceLabels}
use Rattle.tgap_build.specs.Table.{faced, has_both, has_first, place_after, lists_after}
use Rattle.tgap_build.proofs.Visits.{visit, visited, unvisited, listing}

module _ (keys : List ℕ) (i : ℕ) (within : i < length keys) where
  -- what each key adds
  pub flat_more : {A : Type 0} (g : ℕ → List A) (ys ys' : List A) → ys ≡ flat_map g (take i keys) → ys' ≡ ys ++ g (get_or keys i 0) → ys' ≡ flat_map g (take (i + 1) keys)
  flat_more g ys ys' before more =
      more
      ∙ ap (λ zs. zs ++ g (get_or keys i 0)) before
      ∙ ap (λ zs. flat_map g (take i keys) ++ zs) (sym (append-nil (g (get_or keys i 0))))
      ∙ sym (ap (flat_map g) (take_more keys i 0 within) ∙ flat_map-append g (take i keys) (get_or keys i 0 ∷ []))

  module _ (up : AllPairs (λ (j k : ℕ). j < k) keys) (from to : ℕ) (places now : List (Option Edge)) (so_far : now ≡ visited from to places (take i keys)) where
    abbrev k : ℕ
    k = get_or keys i 0

    -- the place of the next key is as it was
    pub at_next : edge_in now (get_or keys i 0) ≡ edge_in places (get_or keys i 0)
    at_next =
        ap (λ (ps : List (Option Edge)). edge_in ps k) so_far
        ∙ unvisited from to places (take i keys) k (λ c. absurd (let less = related_to_next (λ (j k : ℕ). j < k) keys i 0 k up within c in omega (arith, less)))

    pub visited_more : (next : List (Option Edge)) → next ≡ set now (get_or keys i 0) (place_after from to (edge_in now (get_or keys i 0))) → next ≡ visited from to places (take (i + 1) keys)
    visited_more next more =
        more ∙ ap (λ (ps : List (Option Edge)). visit from to ps k) so_far ∙ sym (fold_more (visit from to) places keys i 0 within)

    pub listing_more : (start lists lists' : List (List ℕ)) → lists ≡ listing from to places start (take i keys) → lists' ≡ lists_after from to (get_or keys i 0) (edge_in now (get_or keys i 0)) lists
        → lists' ≡ listing from to places start (take (i + 1) keys)
    listing_more start lists lists' before more =
        more
        ∙ ap₂ (λ (o : Option Edge) (ls : List (List ℕ)). lists_after from to k o ls) at_next before
        ∙ sym (fold_more (λ (ls : List (List ℕ)) (k : ℕ). lists_after from to k (edge_in places k) ls) start keys i 0 within)

    pub ended_more : (t : FaceLabels) (ended ended' : List Edge)
        → ended ≡ map (faced t) (flat_map (λ k. filter (has_both from to) (option_to_list (edge_in places k))) (take i keys))
        → ended' ≡ ended ++ map (faced t) (filter (has_both from to) (option_to_list (edge_in now (get_or keys i 0))))
        → ended' ≡ map (faced t) (flat_map (λ k. filter (has_both from to) (option_to_list (edge_in places k))) (take (i + 1) keys))
    ended_more t ended ended' before more =
        let g = λ (k : ℕ). filter (has_both from to) (option_to_list (edge_in places k)) in
        more
        ∙ ap₂ (λ (es : List Edge) (o : Option Edge). es ++ map (faced t) (filter (has_both from to) (option_to_list o))) before at_next
        ∙ sym (map-append (faced t) (flat_map g (take i keys)) (g k))
        ∙ ap (map (faced t)) (flat_more g (flat_map g (take i keys)) (flat_map g (take i keys) ++ g k) refl refl)

    pub losing_more : (losing losing' : List ℕ)
        → losing ≡ flat_map (λ k. map (λ (e : Edge). k) (filter (has_first from to) (option_to_list (edge_in places k)))) (take i keys)
        → losing' ≡ losing ++ map (λ (e : Edge). get_or keys i 0) (filter (has_first from to) (option_to_list (edge_in now (get_or keys i 0))))
        → losing' ≡ flat_map (λ k. map (λ (e : Edge). k) (filter (has_first from to) (option_to_list (edge_in places k)))) (take (i + 1) keys)
    losing_more losing losing' before more =
        flat_more (λ k. map (λ (e : Edge). k) (filter (has_first from to) (option_to_list (edge_in places k)))) losing losing' before
        (more ∙ ap (λ (o : Option Edge). losing ++ map (λ (e : Edge). k) (filter (has_first from to) (option_to_list o))) at_next)
