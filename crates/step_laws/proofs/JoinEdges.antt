-- The edges of chains before and after joins: they stay sound and keep their segments.
use Rattle.std.proofs.Common.{◌≡◌, ◌≢◌, ◌⊎◌, inl, inr, ℕ, ◌+◌, ◌≤◌, Bool, true, false, not, cond, List, [], ◌∷◌, ◌++◌, map, filter, length, sum_by, refl, sym, ap, ◌∙◌, subst, arith}
use Rattle.std.specs.Prelude.{fold}
use Rattle.std.proofs.lemmas.Bool.{or_cases, or_parts, not-true, true≢false}
use Rattle.std.proofs.lemmas.List.Sums.{sum_by-cons}
use Rattle.std.proofs.lemmas.List.Filters.{sum_by-filter_both}
use Rattle.tgap_model.specs.declared.geometry.Point.{Point}
use Rattle.tgap_model.specs.declared.slice.Edge.{Edge}
use Rattle.tgap_model.specs.declared.slice.Removal.{Removal}
use Rattle.tgap_model.specs.Base.{same_point}
use Rattle.tgap_model.specs.Merged.{MergedMap}
use Rattle.tgap_model.specs.Chains.{Chain, first_point, last_point, degree, chain_start, chain_end, turned_round, touches, toward, join_at}
use Rattle.tgap_model.proofs.Points.{same_point-true, same_point-from}
use Rattle.map_laws.proofs.ChainMembers.{Among, filter_among, among_left, among_right}
use Rattle.map_laws.proofs.Lists.{members_all, kept_among, among_kept, map_among, sum_nothing}
use Rattle.map_laws.proofs.JoinPaths.{turned_start, turned_end}
use Rattle.map_laws.proofs.JoinEnds.{chain_ends, touching_ends, other_ends}
use Rattle.map_laws.proofs.JoinSteps.{AreJoined, joined_with, one_end, ends_degree, join_step}
use Rattle.map_laws.proofs.JoinAll.{AreNext, rest_next, comes_later}
use Rattle.step_laws.proofs.StepEdges.{joined_edge}
use Rattle.step_laws.proofs.SoundEdges.{sound_joined}
use Rattle.step_laws.proofs.SameEdges.{same_joined}
use Rattle.step_laws.proofs.Reordered.{AreReordered, reordered_split, reordered_map}
use Rattle.step_laws.proofs.Become.{Become, become_self, become_then, become_reordered, Replaces, replaces_self, replaces_then, replaces_turned, replaces_second}
use Rattle.step_laws.proofs.EdgesAlong.{KeepsSides, sides_keep, sides_turned, first_left, first_right, edge_along, IsPlain, along_first, along_last, plain_turned, along_turned, plain_append, append_faces, along_append}

module _ (h : MergedMap) (k : ℕ) where
  -- ---- where the faces stay the same along what is joined, they did before

  sides_left : (c e : Chain) → KeepsSides h k (c ++ e) → KeepsSides h k c
  sides_left c e s = sides_keep h k (first_left h k (c ++ e)) (first_right h k (c ++ e)) c (λ d m. s d (among_left c e d m))

  sides_right : (c e : Chain) → KeepsSides h k (c ++ e) → KeepsSides h k e
  sides_right c e s = sides_keep h k (first_left h k (c ++ e)) (first_right h k (c ++ e)) e (λ d m. s d (among_right c e d m))

  pub sides_round : (c : Chain) → KeepsSides h k (turned_round c) → KeepsSides h k c
  sides_round c s =
      sides_keep h k (first_right h k (turned_round c)) (first_left h k (turned_round c)) c
      (sides_turned h k (first_left h k (turned_round c)) (first_right h k (turned_round c)) c s)

  sides_toward : (p : Point) (c : Chain) → KeepsSides h k (toward h.base.arcs p c) → KeepsSides h k c
  sides_toward p c = by (same_point (chain_end h.base.arcs c) p)
    where
      by : (v : Bool) → KeepsSides h k (cond v c (turned_round c)) → KeepsSides h k c
      by true s = s
      by false s = sides_round c s

  sides_before : (cs : List Chain) (p : Point) → ((c : Chain) → Among c (join_at h.base.arcs cs p) → KeepsSides h k c)
      → (c : Chain) → Among c cs → KeepsSides h k c
  sides_before cs p after e m = by (filter (touches h.base.arcs p) cs) refl after
    where
      by : (found : List Chain) → filter (touches h.base.arcs p) cs ≡ found
          → ((c : Chain) → Among c (joined_with h.base.arcs cs p found) → KeepsSides h k c) → KeepsSides h k e
      by [] is all = all e m
      by (c ∷ []) is all = all e m
      by (c ∷ d ∷ more) is all = at (touches h.base.arcs p e) refl
        where
          new : KeepsSides h k (toward h.base.arcs p c ++ turned_round (toward h.base.arcs p d))
          new = all (toward h.base.arcs p c ++ turned_round (toward h.base.arcs p d)) (inl refl)

          in_found : Among e (c ∷ d ∷ more) → KeepsSides h k e
          in_found (inl s) = subst (KeepsSides h k) s (sides_toward p c (sides_left (toward h.base.arcs p c) (turned_round (toward h.base.arcs p d)) new))
          in_found (inr (inl s)) =
              subst (KeepsSides h k) s (sides_toward p d (sides_round (toward h.base.arcs p d)
              (sides_right (toward h.base.arcs p c) (turned_round (toward h.base.arcs p d)) new)))
          in_found (inr (inr n)) = all e (inr (among_left more (filter (λ e. not (touches h.base.arcs p e)) cs) e n))

          at : (v : Bool) → touches h.base.arcs p e ≡ v → KeepsSides h k e
          at true t = in_found (subst (Among e) is (among_kept (touches h.base.arcs p) cs e m t))
          at false t = all e (inr (among_right more (filter (λ e. not (touches h.base.arcs p e)) cs) e
              (among_kept (λ e. not (touches h.base.arcs p e)) cs e m (ap not t))))

  pub sides_all : (ps : List Point) (cs : List Chain) → ((c : Chain) → Among c (fold (join_at h.base.arcs) cs ps) → KeepsSides h k c)
      → (c : Chain) → Among c cs → KeepsSides h k c
  sides_all [] cs after = after
  sides_all (p ∷ ps) cs after = sides_before cs p (sides_all ps (join_at h.base.arcs cs p) after)

module _ (h : MergedMap) (k : ℕ) (rs : List Removal) where
  -- ---- a chain with one end at a point

  -- t is c or c turned round; it ends at the point, and does not start there
  record IsLed (p : Point) (c t : Chain) : Type 0 where
    plain : IsPlain h k rs t
    ends : chain_end h.base.arcs t ≡ p
    apart : chain_start h.base.arcs t ≢ p
    replaces : Replaces (edge_along h k rs c) (edge_along h k rs t)

  pub replaces_round : (c : Chain) → IsPlain h k rs c → Replaces (edge_along h k rs c) (edge_along h k rs (turned_round c))
  replaces_round c plain = subst (Replaces (edge_along h k rs c)) (sym (along_turned h k rs c plain)) (replaces_turned (edge_along h k rs c))

  led : (p : Point) (c : Chain) → IsPlain h k rs c → touches h.base.arcs p c ≡ true → chain_ends h.base.arcs p c ≡ 1
      → IsLed p c (toward h.base.arcs p c)
  led p c plain t one = by (same_point (chain_end h.base.arcs c) p) refl
    where
      by : (v : Bool) → same_point (chain_end h.base.arcs c) p ≡ v → IsLed p c (cond v c (turned_round c))
      by true e = record {
        plain = plain;
        ends = same_point-true _ _ e;
        apart = λ s. one_end (same_point (chain_start h.base.arcs c) p) (same_point (chain_end h.base.arcs c) p) one (same_point-from _ _ s) e;
        replaces = replaces_self (edge_along h k rs c);
      }
      by false e =
          let here : chain_start h.base.arcs c ≡ p
          = elim (or_cases (same_point (chain_start h.base.arcs c) p) (same_point (chain_end h.base.arcs c) p) t) [
            | inl s ↦ same_point-true _ _ s
            | inr s ↦ absurd (true≢false (sym s ∙ e))
          ] in
          record {
            plain = plain_turned h k rs c plain;
            ends = turned_end h.base.arcs c ∙ here;
            apart = λ s. true≢false (sym (same_point-from _ _ (sym (turned_start h.base.arcs c) ∙ s)) ∙ e);
            replaces = replaces_round c plain;
          }

  -- ---- one join

  module _ (J : Point → Type 0) (cs : List Chain) (a : AreJoined h k J cs) (p : Point) (two : degree h k p ≡ 2) (fresh : J p → ⊥)
      (plain : (c : Chain) → Among c cs → IsPlain h k rs c) (after : (c : Chain) → Among c (join_at h.base.arcs cs p) → KeepsSides h k c) where
    abbrev others : List Chain
    others = filter (λ e. not (touches h.base.arcs p e)) cs

    -- two ends are at the node
    touching_two : sum_by (chain_ends h.base.arcs p) (filter (touches h.base.arcs p) cs) ≡ 2
    touching_two =
        let split : sum_by (chain_ends h.base.arcs p) (filter (touches h.base.arcs p) cs) + sum_by (chain_ends h.base.arcs p) others
        ≡ sum_by (chain_ends h.base.arcs p) cs
        = sum_by-filter_both (touches h.base.arcs p) (λ e. not (touches h.base.arcs p e)) (λ e. refl) (chain_ends h.base.arcs p) cs in
        let rest : sum_by (chain_ends h.base.arcs p) others ≡ 0
        = sum_nothing (chain_ends h.base.arcs p) others
        (λ e m. other_ends h.base.arcs p e (not-true _ (filter_among (λ e. not (touches h.base.arcs p e)) cs e m))) in
        omega (arith, split, rest, ends_degree h k J cs a p fresh, two)

    old : (e : Chain) → Among e others → Among e cs
    old e n = kept_among (λ e. not (touches h.base.arcs p e)) cs e n

    -- the others have no end at the node
    away : (e : Edge) → Among e (map (edge_along h k rs) others) → (first_point e.points ≢ p) × (last_point e.points ≢ p)
    away e m =
        let from = map_among (edge_along h k rs) others e m in
        let c = from.0 in
        let q = plain c (old c from.1) in
        let test = or_parts (same_point (chain_start h.base.arcs c) p) (same_point (chain_end h.base.arcs c) p)
        (not-true _ (filter_among (λ e. not (touches h.base.arcs p e)) cs c from.1)) in
        subst (λ (f : Edge). (first_point f.points ≢ p) × (last_point f.points ≢ p)) from.2 (
          (λ s. true≢false (sym (same_point-from _ _ (sym (along_first h k rs c q) ∙ s)) ∙ test.0)),
          (λ s. true≢false (sym (same_point-from _ _ (sym (along_last h k rs c q) ∙ s)) ∙ test.1)),
        )

    -- two chains touch the node, with one end each
    module _ (c d : Chain) (is : filter (touches h.base.arcs p) cs ≡ c ∷ d ∷ []) where
      counts : chain_ends h.base.arcs p c + chain_ends h.base.arcs p d ≡ 2
      counts =
          omega (
            arith,
            ap (sum_by (chain_ends h.base.arcs p)) is,
            touching_two,
            sum_by-cons (chain_ends h.base.arcs p) c (d ∷ []),
            sum_by-cons (chain_ends h.base.arcs p) d [],
          )

      passes : (e : Chain) → Among e (c ∷ d ∷ []) → touches h.base.arcs p e ≡ true
      passes e m = filter_among (touches h.base.arcs p) cs e (subst (Among e) (sym is) m)

      member : (e : Chain) → Among e (c ∷ d ∷ []) → Among e cs
      member e m = kept_among (touches h.base.arcs p) cs e (subst (Among e) (sym is) m)

      first : IsLed p c (toward h.base.arcs p c)
      first = led p c (plain c (member c (inl refl))) (passes c (inl refl))
          (omega (arith, counts, touching_ends h.base.arcs p c (passes c (inl refl)), touching_ends h.base.arcs p d (passes d (inr (inl refl)))))

      second : IsLed p d (toward h.base.arcs p d)
      second = led p d (plain d (member d (inr (inl refl)))) (passes d (inr (inl refl)))
          (omega (arith, counts, touching_ends h.base.arcs p c (passes c (inl refl)), touching_ends h.base.arcs p d (passes d (inr (inl refl)))))

      -- the first one up to the node, and the second one from it on
      abbrev x : Chain
      x = toward h.base.arcs p c

      abbrev y : Chain
      y = turned_round (toward h.base.arcs p d)

      y_plain : IsPlain h k rs y
      y_plain = plain_turned h k rs (toward h.base.arcs p d) second.plain

      y_start : chain_start h.base.arcs y ≡ p
      y_start = turned_start h.base.arcs (toward h.base.arcs p d) ∙ second.ends

      y_apart : chain_end h.base.arcs y ≢ p
      y_apart s = second.apart (sym (turned_end h.base.arcs (toward h.base.arcs p d)) ∙ s)

      module _ (sides : KeepsSides h k (x ++ y)) where
        new_plain : IsPlain h k rs (x ++ y)
        new_plain = plain_append h k rs x y first.plain y_plain (first.ends ∙ sym y_start) sides

        joined : Become (edge_along h k rs x ∷ edge_along h k rs y ∷ map (edge_along h k rs) others)
            (joined_edge (edge_along h k rs x) (edge_along h k rs y) ∷ map (edge_along h k rs) others)
        joined s =
            let es = map (edge_along h k rs) others in
            let all = edge_along h k rs x ∷ edge_along h k rs y ∷ es in
            let x_last : last_point (edge_along h k rs x).points ≡ p = along_last h k rs x first.plain ∙ first.ends in
            let y_first : first_point (edge_along h k rs y).points ≡ p = along_first h k rs y y_plain ∙ y_start in
            let x_first : first_point (edge_along h k rs x).points ≢ p = λ t. first.apart (sym (along_first h k rs x first.plain) ∙ t) in
            let y_last : last_point (edge_along h k rs y).points ≢ p = λ t. y_apart (sym (along_last h k rs y y_plain) ∙ t) in
            let faces = append_faces h k rs x y first.plain.path.links y_plain.path.links sides in (
              sound_joined p (edge_along h k rs x) (edge_along h k rs y) es s x_last y_first x_first y_last away,
              same_joined (edge_along h k rs x) (edge_along h k rs y) es faces.0 faces.1 (x_last ∙ sym y_first)
                  (members_all (λ (e : Edge). 2 ≤ length e.points) all (edge_along h k rs x) s.points (inl refl))
                  (members_all (λ (e : Edge). 2 ≤ length e.points) all (edge_along h k rs y) s.points (inr (inl refl)))
                  (λ t. x_first (t ∙ x_last)) (λ t. y_last (t ∙ x_last))
                  (λ o m. ((λ t. (away o m).0 (t ∙ x_last)), (λ t. (away o m).1 (t ∙ x_last)))),
            )

        two_become : Become (map (edge_along h k rs) cs) (map (edge_along h k rs) ((x ++ y) ∷ others))
        two_become =
            let es = map (edge_along h k rs) others in
            let g = edge_along h k rs in
            become_then (map g cs) (g c ∷ g d ∷ es) (g (x ++ y) ∷ es)
            (become_reordered (map g cs) (g c ∷ g d ∷ es)
            (reordered_map g cs (c ∷ d ∷ others) (subst (λ us. AreReordered cs (us ++ others)) is (reordered_split (touches h.base.arcs p) cs))))
            (become_then (g c ∷ g d ∷ es) (g x ∷ g d ∷ es) (g (x ++ y) ∷ es) (first.replaces (g d ∷ es))
            (become_then (g x ∷ g d ∷ es) (g x ∷ g y ∷ es) (g (x ++ y) ∷ es)
            (replaces_second (g x) (g d) (g y) es
            (replaces_then (g d) (g (toward h.base.arcs p d)) (g y) second.replaces (replaces_round (toward h.base.arcs p d) second.plain)))
            (subst (λ e. Become (g x ∷ g y ∷ es) (e ∷ es)) (sym (along_append h k rs x y first.plain y_plain)) joined)))

    -- the chains after the join
    abbrev Joins : List Chain → Type 0
    Joins ds = Become (map (edge_along h k rs) cs) (map (edge_along h k rs) ds) × ((c : Chain) → Among c ds → IsPlain h k rs c)

    pub join_become : Joins (join_at h.base.arcs cs p)
    join_become = by (filter (touches h.base.arcs p) cs) refl after
      where
        by : (found : List Chain) → filter (touches h.base.arcs p) cs ≡ found
            → ((c : Chain) → Among c (joined_with h.base.arcs cs p found) → KeepsSides h k c) → Joins (joined_with h.base.arcs cs p found)
        by [] is all = (become_self (map (edge_along h k rs) cs), plain)
        by (c ∷ []) is all = (become_self (map (edge_along h k rs) cs), plain)
        by (c ∷ d ∷ []) is all =
            let sides = all (toward h.base.arcs p c ++ turned_round (toward h.base.arcs p d)) (inl refl) in (
              two_become c d is sides,
              λ e m. elim m [ inl s ↦ subst (IsPlain h k rs) s (new_plain c d is sides) | inr n ↦ plain e (old e n) ],
            )
        by (c ∷ d ∷ e ∷ more) is all =
            let at : (x : Chain) → Among x (c ∷ d ∷ e ∷ more) → touches h.base.arcs p x ≡ true
            = λ x m. filter_among (touches h.base.arcs p) cs x (subst (Among x) (sym is) m) in
            absurd (omega (
              arith,
              ap (sum_by (chain_ends h.base.arcs p)) is,
              touching_two,
              sum_by-cons (chain_ends h.base.arcs p) c (d ∷ e ∷ more),
              sum_by-cons (chain_ends h.base.arcs p) d (e ∷ more),
              sum_by-cons (chain_ends h.base.arcs p) e more,
              touching_ends h.base.arcs p c (at c (inl refl)),
              touching_ends h.base.arcs p d (at d (inr (inl refl))),
              touching_ends h.base.arcs p e (at e (inr (inr (inl refl)))),
            ))

  -- ---- all joins

  pub joins_become : (ps : List Point) (J : Point → Type 0) (cs : List Chain) → AreJoined h k J cs → AreNext h k J ps
      → ((c : Chain) → Among c cs → IsPlain h k rs c) → ((c : Chain) → Among c (fold (join_at h.base.arcs) cs ps) → KeepsSides h k c)
      → Become (map (edge_along h k rs) cs) (map (edge_along h k rs) (fold (join_at h.base.arcs) cs ps))
      × ((c : Chain) → Among c (fold (join_at h.base.arcs) cs ps) → IsPlain h k rs c)
  joins_become [] J cs a n plain after = (become_self (map (edge_along h k rs) cs), plain)
  joins_become (p ∷ ps) J cs a n plain after =
      let one = join_become J cs a p (n.two p (inl refl)) (n.apart p (inl refl)) plain (sides_all h k ps (join_at h.base.arcs cs p) after) in
      let rest = joins_become ps (λ q. J q ⊎ (q ≡ p)) (join_at h.base.arcs cs p)
      (join_step h k J cs a p (n.two p (inl refl)) (n.apart p (inl refl)) (comes_later h k J p ps n))
      (rest_next h k J p ps n) one.1 after in
      (become_then _ _ _ one.0 rest.0, rest.1)
