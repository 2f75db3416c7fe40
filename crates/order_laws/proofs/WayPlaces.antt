-- The ends round a node keep their cyclic order where the way of one of them is replaced by one that has its place among the others.
use Rattle.std.proofs.Common.{append-nil, ◌≡◌, ◌≢◌, inl, inr, ◌||◌, Bool, true, false, cond, List, [], ◌∷◌, ◌++◌, map, All, AllPairs, refl, sym, ap, ◌∙◌, subst₂}
use Rattle.std.proofs.lemmas.List.Elements.{All-head, All-tail, All-weaker}
use Rattle.std.proofs.lemmas.List.Sorted.{IsPermutation-middle, IsPermutation-trans}
use Rattle.lemmas.specs.Sorting.{insert_by, sort_by, IsStrictOrderOn}
use Rattle.lemmas.proofs.Sorting.{before_first_from_all, insert_by-first, insert_by-between, sort_by-permutation, sort_by-is_sorted, AllPairs-permutation, sort_by-permuted, All-sort_by}
use Rattle.lemmas.proofs.Orders.{order_by_key}
use Rattle.tgap_model.specs.declared.geometry.Point.{Point}
use Rattle.grid_geo.proofs.Turns.{turns_strict, turns_one_way}
use Rattle.removal_laws.specs.WedgeLaws.{HaveOnePlace}
use Rattle.order_laws.specs.NodeOrder.{End, Way, way_before, IsRotation}
use Rattle.order_laws.proofs.Rotations.{rotation_same, rotation_first, rotation_last}

abbrev pub way : End → Point → Way
way e p = record { end = e; toward = p }

abbrev pub end_of : Way → End
end_of w = w.end

-- the way leaves the node
abbrev pub Leaves : Point → Way → Type 0
Leaves v w = v ≢ w.toward

-- the two ways stand in one order or the other
abbrev pub AreDecided : Point → Way → Way → Type 0
AreDecided v p q = (way_before v p q || way_before v q p) ≡ true

pub order_of_ways : (v : Point) → IsStrictOrderOn (Leaves v) (way_before v)
order_of_ways v = order_by_key (λ (w : Way). w.toward) (turns_strict v)

-- ---- one way more

module _ (v p q : Point) (e : End) where
  insert_alike : (ws : List Way) → All (λ w. way_before v (way e q) w ≡ way_before v (way e p) w) ws
      → map end_of (insert_by (way_before v) (way e p) ws) ≡ map end_of (insert_by (way_before v) (way e q) ws)
  insert_alike [] same = refl
  insert_alike (w ∷ ws) same =
      by (way_before v (way e q) w) (way_before v (way e p) w) (All-head (λ u. way_before v (way e q) u ≡ way_before v (way e p) u) w ws same)
      (insert_alike ws (All-tail (λ u. way_before v (way e q) u ≡ way_before v (way e p) u) w ws same))
    where
      by : (b c : Bool) → b ≡ c → map end_of (insert_by (way_before v) (way e p) ws) ≡ map end_of (insert_by (way_before v) (way e q) ws)
          → map end_of (cond c (way e p ∷ w ∷ ws) (w ∷ insert_by (way_before v) (way e p) ws))
          ≡ map end_of (cond b (way e q ∷ w ∷ ws) (w ∷ insert_by (way_before v) (way e q) ws))
      by true true f k = refl
      by true false f k = absurd cc
      by false true f k = absurd cc
      by false false f k = ap (λ (us : List End). w.end ∷ us) k

  -- where the first comes before all others and the second behind them
  insert_first : (u : Point) (ws : List Way) → All (λ w. way_before v (way e u) w ≡ true) ws
      → map end_of (insert_by (way_before v) (way e u) ws) ≡ e ∷ map end_of ws
  insert_first u ws h = ap (map end_of) (insert_by-first (way_before v) (way e u) ws (before_first_from_all (way_before v) (way e u) ws h))

  insert_last : (u : Point) (ws : List Way) → All (λ w. way_before v w (way e u) ≡ true) ws
      → map end_of (insert_by (way_before v) (way e u) ws) ≡ map end_of ws ++ e ∷ []
  insert_last u ws h =
      ap (λ us. map end_of (insert_by (way_before v) (way e u) us)) (sym (append-nil ws))
      ∙ ap (map end_of) (insert_by-between (way_before v) (way e u) ws []
      (All-weaker (λ w. way_before v w (way e u) ≡ true) (λ w. way_before v (way e u) w ≡ false) (λ w f. turns_one_way v w.toward u f) ws h) refl)
      ∙ behind ws
    where
      behind : (us : List Way) → map end_of (us ++ way e u ∷ []) ≡ map end_of us ++ e ∷ []
      behind [] = refl
      behind (w ∷ us) = ap (λ (es : List End). w.end ∷ es) (behind us)

  insert_turned : (Other : Point → Type 0) → HaveOnePlace v p q Other → (ws : List Way) → All (λ w. Other w.toward) ws
      → IsRotation (map end_of (insert_by (way_before v) (way e p) ws)) (map end_of (insert_by (way_before v) (way e q) ws))
  insert_turned Other (inl alike) ws others =
      rotation_same _ _ (insert_alike ws
      (All-weaker (λ w. Other w.toward) (λ w. way_before v (way e q) w ≡ way_before v (way e p) w) (λ w o. (alike w.toward o).0) ws others))
  insert_turned Other (inr (inl between)) ws others =
      let first = insert_first p ws (All-weaker (λ w. Other w.toward) (λ w. way_before v (way e p) w ≡ true) (λ w o. (between w.toward o).0) ws others) in
      let last = insert_last q ws (All-weaker (λ w. Other w.toward) (λ w. way_before v w (way e q) ≡ true) (λ w o. (between w.toward o).1) ws others) in
      subst₂ IsRotation (sym first) (sym last) (rotation_first e (map end_of ws))
  insert_turned Other (inr (inr between)) ws others =
      let first = insert_first q ws (All-weaker (λ w. Other w.toward) (λ w. way_before v (way e q) w ≡ true) (λ w o. (between w.toward o).0) ws others) in
      let last = insert_last p ws (All-weaker (λ w. Other w.toward) (λ w. way_before v w (way e p) ≡ true) (λ w o. (between w.toward o).1) ws others) in
      subst₂ IsRotation (sym last) (sym first) (rotation_last e (map end_of ws))

-- ---- a way among others

-- sorting puts it in its place among the others
sorted_middle : (v : Point) (w : Way) (us ws : List Way) → All (Leaves v) (us ++ w ∷ ws) → AllPairs (AreDecided v) (us ++ w ∷ ws)
    → sort_by (way_before v) (us ++ w ∷ ws) ≡ insert_by (way_before v) w (sort_by (way_before v) (us ++ ws))
sorted_middle v w us ws leaves decided =
    sort_by-permuted (order_of_ways v) (us ++ w ∷ ws) (sort_by (way_before v) (w ∷ (us ++ ws))) leaves
    (sort_by-is_sorted (way_before v) (w ∷ (us ++ ws))
    (AllPairs-permutation (AreDecided v) (λ x y. either (way_before v x y) (way_before v y x)) (us ++ w ∷ ws) (w ∷ (us ++ ws)) (IsPermutation-middle us w ws) decided))
    (IsPermutation-trans (us ++ w ∷ ws) (w ∷ (us ++ ws)) (sort_by (way_before v) (w ∷ (us ++ ws))) (IsPermutation-middle us w ws)
    (sort_by-permutation (way_before v) (w ∷ (us ++ ws))))
  where
    either : (b c : Bool) → (b || c) ≡ true → (c || b) ≡ true
    either b true h = refl
    either true false h = refl
    either false false h = h

module _ (v p q : Point) (e : End) (us ws : List Way) (Other : Point → Type 0) (place : HaveOnePlace v p q Other) (others : All (λ w. Other w.toward) (us ++ ws)) where
  pub replaced_turned : All (Leaves v) (us ++ way e p ∷ ws) → AllPairs (AreDecided v) (us ++ way e p ∷ ws)
      → All (Leaves v) (us ++ way e q ∷ ws) → AllPairs (AreDecided v) (us ++ way e q ∷ ws)
      → IsRotation (map end_of (sort_by (way_before v) (us ++ way e p ∷ ws))) (map end_of (sort_by (way_before v) (us ++ way e q ∷ ws)))
  replaced_turned leaves decided new_leaves new_decided =
      subst₂ (λ xs ys. IsRotation (map end_of xs) (map end_of ys))
      (sym (sorted_middle v (way e p) us ws leaves decided)) (sym (sorted_middle v (way e q) us ws new_leaves new_decided))
      (insert_turned v p q e Other place (sort_by (way_before v) (us ++ ws)) (All-sort_by (way_before v) (λ w. Other w.toward) (us ++ ws) others))
