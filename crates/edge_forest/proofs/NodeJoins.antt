-- A join at a node of degree two, by what is stored.
use Rattle.std.proofs.Common.{◌≡◌, ◌≢◌, ◌⊎◌, inl, inr, ℕ, suc, ◌+◌, ◌<◌, Bool, true, false, List, [], ◌∷◌, ◌++◌, sum_by, length, get_or, set, Option, Some, None, refl, sym, ap, ◌∙◌, subst, arith}
use Rattle.std.specs.Prelude.{Contains}
use Rattle.std.proofs.lemmas.Bool.{or_cases}
use Rattle.std.proofs.lemmas.List.{get_or-set_same, get_or-set_other, get_or_append_left, length-set}
use Rattle.std.proofs.Math.Seq.{get_or-append_seam}
use Rattle.std.proofs.lemmas.List.Sums.{sum_by-cons}
use Rattle.tgap_model.specs.declared.geometry.Point.{Point}
use Rattle.tgap_model.specs.declared.base.BaseArc.{BaseArc}
use Rattle.tgap_model.specs.Base.{same_point}
use Rattle.tgap_model.specs.Merged.{merged}
use Rattle.tgap_model.specs.Chains.{Link, Chain, degree, joins_before, chain_start, chain_end, touches}
use Rattle.tgap_model.proofs.Points.{same_point-true}
use Rattle.map_laws.proofs.ChainMembers.{Among}
use Rattle.map_laws.proofs.Lists.{members_all}
use Rattle.map_laws.proofs.JoinSteps.{arc_sum, AreJoined}
use Rattle.edge_forest.specs.declared.net.Current.{Current}
use Rattle.edge_forest.specs.declared.net.Meeting.{Meeting}
use Rattle.edge_forest.specs.declared.growth.Growth.{Growth}
use Rattle.edge_forest.specs.Edges.{chains_of}
use Rattle.edge_forest.specs.Nodes.{node_at, places_at}
use Rattle.edge_forest.specs.Net.{row_at, key_at, IsAlone, tip_end}
use Rattle.edge_forest.specs.Rows.{end_points, tip, attached, joined_row}
use Rattle.edge_forest.specs.Family.{family}
use Rattle.edge_forest.specs.Growth.{rows_of, IsStored, IsJoinOf, IsUnchanged, IsJoinedAt}
use Rattle.edge_forest.specs.Growth as stored
use Rattle.edge_forest.proofs.Alike.{AreAlike, alike_joined}
use Rattle.edge_forest.proofs.Family.{IsOf, row_sum, family_of, of_family, family_set}
use Rattle.edge_forest.proofs.Joining.{closed_there, attached_joined}
use Rattle.edge_forest.proofs.Attached.{first_point_of, last_point_of}
use Rattle.edge_forest.proofs.Nets.{some_same, none_some, read_within, set_reads}
use Rattle.edge_forest.proofs.WalkedArcs.{chain_arcs_below}
use Rattle.edge_forest.proofs.Chains.{chains_count}

-- ---- the family with one chain more

module _ (chains : List Chain) (c : Chain) (rows : List (Option Current)) (i : ℕ) (new : Current) (l : i < length rows)
    (free : row_at rows i ≡ None) (number : new.id ≡ length chains)
    (small : (j : ℕ) (r : Current) → row_at rows j ≡ Some r → r.id < length chains) where
  longer : List Chain
  longer = chains ++ c ∷ []

  new_is : get_or (chains ++ c ∷ []) new.id [] ≡ c
  new_is = ap (λ (n : ℕ). get_or (chains ++ c ∷ []) n []) number ∙ get_or-append_seam chains c [] []

  old_is : (j : ℕ) (r : Current) → row_at rows j ≡ Some r → get_or (chains ++ c ∷ []) r.id [] ≡ get_or chains r.id []
  old_is j r e = get_or_append_left chains (c ∷ []) [] r.id (small j r e)

  family_longer : family (chains ++ c ∷ []) rows ≡ family chains rows
  family_longer = by rows (λ j r e. old_is j r e)
    where
      by : (rows : List (Option Current)) → ((j : ℕ) (r : Current) → row_at rows j ≡ Some r → get_or (chains ++ c ∷ []) r.id [] ≡ get_or chains r.id [])
          → family (chains ++ c ∷ []) rows ≡ family chains rows
      by [] same = refl
      by (None ∷ rows) same = by rows (λ j r e. same (suc j) r e)
      by (Some r ∷ rows) same = rw (same 0 r refl, by rows (λ j r e. same (suc j) r e)) refl

  pub put_alike : AreAlike (family (chains ++ c ∷ []) (set rows i (Some new))) (c ∷ family chains rows)
  put_alike = record {
    sums = λ f.
        omega (
          arith,
          family_set (chains ++ c ∷ []) (arc_sum f) rows i (Some new) l,
          ap (row_sum (chains ++ c ∷ []) (arc_sum f)) free,
          ap (sum_by (arc_sum f)) family_longer,
          ap (arc_sum f) new_is,
          sum_by-cons (arc_sum f) c (family chains rows),
        );
    members = λ d m. inl (by d (family_of (chains ++ c ∷ []) (set rows i (Some new)) d m));
  }
    where
      by : (d : Chain) → IsOf (chains ++ c ∷ []) (set rows i (Some new)) d → Among d (c ∷ family chains rows)
      by d o = elim (set_reads rows i o.0 (Some new) None l) [
        | inl u ↦
            let same : new ≡ o.1 = some_same (sym u.1 ∙ o.3) in
            inl (sym new_is ∙ ap (λ (r : Current). get_or (chains ++ c ∷ []) r.id []) same ∙ o.4)
        | inr u ↦
            let there : row_at rows o.0 ≡ Some o.1 = sym u.1 ∙ o.3 in
            inr (subst (λ (x : Chain). Among x (family chains rows)) (sym (old_is o.0 o.1 there) ∙ o.4) (of_family chains rows o.0 o.1 there))
      ]

-- ---- the join

module _ (k : ℕ) (g g' : Growth) (w : IsStored k g) (J : Point → Type 0) (a : AreJoined (merged g.base) k J (stored.family_of g))
    (n x : ℕ) (inside : x < length (end_points g.base.arcs)) (at : node_at g.nodes x ≡ n)
    (p : Point) (is : get_or (end_points g.base.arcs) x p ≡ p)
    (two : degree (merged g.base) k p ≡ 2) (fresh : J p → ⊥)
    (last : (q j : Point) → degree (merged g.base) k q ≡ 2 → (J q → ⊥) → (q ≡ p → ⊥) → J j ⊎ (j ≡ p) → joins_before (merged g.base) k q j ≡ false) where
  abbrev arcs : List BaseArc
  arcs = g.base.arcs

  abbrev chains : List Chain
  chains = chains_of g.edges.items

  abbrev rows : List (Option Current)
  rows = rows_of g

  -- the arcs of a chain are arcs of the map
  within : (i : ℕ) (r : Current) → row_at rows i ≡ Some r → (d : Link) → Among d (get_or chains r.id []) → d.arc < length arcs
  within i r e d m =
      members_all (λ (d : Link). d.arc < length arcs) (get_or chains r.id []) d
      (chain_arcs_below (length arcs) g.edges.items (λ i l. (w.edges i l).parts) (r.id + 1) r.id (omega arith) (w.of_edges i r e).id) m

  first_point : (i : ℕ) (r : Current) → row_at rows i ≡ Some r → (d : Point) → get_or (end_points arcs) r.first d ≡ chain_start arcs (get_or chains r.id [])
  first_point i r e d =
      ap (λ (n : ℕ). get_or (end_points arcs) n d) (w.rows i r e).first ∙ first_point_of arcs (get_or chains r.id []) d (w.rows i r e).links (within i r e)

  last_point : (i : ℕ) (r : Current) → row_at rows i ≡ Some r → (d : Point) → get_or (end_points arcs) r.last d ≡ chain_end arcs (get_or chains r.id [])
  last_point i r e d =
      ap (λ (n : ℕ). get_or (end_points arcs) n d) (w.rows i r e).last ∙ last_point_of arcs (get_or chains r.id []) d (w.rows i r e).links (within i r e)

  ends_length : length g.net.ends.items ≡ length (end_points arcs)
  ends_length = omega (arith, w.net.nodes_count, w.nodes.count)

  -- an arc end at the point is listed at the node
  listed_there : (y : ℕ) → y < length (end_points arcs) → get_or (end_points arcs) y p ≡ p → Contains (places_at g.nodes n) y
  listed_there y l e =
      subst (λ (m : ℕ). Contains (places_at g.nodes m) y) ((w.nodes.same y x p l inside).1 (e ∙ sym is) ∙ at) (w.nodes.listed y l)

  -- and one that is listed is at the point
  there_point : (y : ℕ) → Contains (places_at g.nodes n) y → get_or (end_points arcs) y p ≡ p
  there_point y c =
      let t = w.nodes.there n y (omega (arith, w.nodes.below x inside, at)) c in
      (w.nodes.same y x p t.0 inside).0 (t.1 ∙ sym at) ∙ is

  -- where all that end at the node are one edge, it is closed there
  alone_joined : IsAlone g.net (places_at g.nodes n) → AreJoined (merged g.base) k (λ q. J q ⊎ (q ≡ p)) (stored.family_of g)
  alone_joined alone = closed_there (merged g.base) k J chains rows a p two fresh last
      (λ i j r s ei ej ti tj.
      let x = some_end i r ei ti in
      let y = some_end j s ej tj in
      alone x.0 y.0 i j x.1 y.1 x.2 y.2)
    where
      some_end : (i : ℕ) (r : Current) → row_at rows i ≡ Some r → touches arcs p (get_or chains r.id []) ≡ true
          → (y : ℕ) × Contains (places_at g.nodes n) y × (key_at g.net.ends.items y ≡ Some i)
      some_end i r e t =
          elim (or_cases (same_point (chain_start arcs (get_or chains r.id [])) p) (same_point (chain_end arcs (get_or chains r.id [])) p) t) [
            | inl s ↦
                let f = w.net.first i r e in
                (r.first, listed_there r.first (omega (arith, f.0, ends_length)) (first_point i r e p ∙ same_point-true _ _ s), f.1)
            | inr s ↦
                let f = w.net.last i r e in
                (r.last, listed_there r.last (omega (arith, f.0, ends_length)) (last_point i r e p ∙ same_point-true _ _ s), f.1)
          ]

  -- the end of a chain that is listed is at the point
  tip_there : (i : ℕ) (r : Current) → row_at rows i ≡ Some r → (e : Bool) → Contains (places_at g.nodes n) (tip_end e r) → tip arcs e (get_or chains r.id []) ≡ p
  tip_there i r e true c = sym (last_point i r e p) ∙ there_point r.last c
  tip_there i r e false c = sym (first_point i r e p) ∙ there_point r.first c

  meeting_joined : (m : Meeting) → IsJoinOf g g' (places_at g.nodes n) m → AreJoined (merged g.base) k (λ q. J q ⊎ (q ≡ p)) (stored.family_of g')
  meeting_joined m o =
      let t = o.meeting in
      let li : m.key < length rows = read_within rows m.key m.one t.one in
      let lj : m.other_key < length rows = read_within rows m.other_key m.other t.other in
      let ne : m.key ≢ m.other_key = λ e. absurd (omega (arith, e, t.less)) in
      let joined = attached_joined (merged g.base) k J chains rows a p two fresh last m.key m.other_key m.one m.other t.one t.other li lj ne
      m.one_ends m.other_ends (tip_there m.key m.one t.one m.one_ends t.one_there) (tip_there m.other_key m.other t.other m.other_ends t.other_there) in
      rw (o.rows, o.chains) (alike_joined (merged g.base) k (λ q. J q ⊎ (q ≡ p)) _ _
      (put_alike chains (attached m.one_ends m.other_ends (get_or chains m.one.id []) (get_or chains m.other.id [])) (gone m) m.key
      (joined_row m.one_ends m.other_ends (length g.edges.items) m.one m.other) (gone_length m li) (gone_free m li ne) (sym (chains_count g.edges.items)) (gone_small m li lj)) joined)
    where
      gone : Meeting → List (Option Current)
      gone m = set (set rows m.key None) m.other_key None

      gone_length : (m : Meeting) → m.key < length rows → m.key < length (gone m)
      gone_length m l = omega (arith, l, length-set (set rows m.key None) m.other_key None, length-set rows m.key None)

      gone_free : (m : Meeting) → m.key < length rows → m.key ≢ m.other_key → row_at (gone m) m.key ≡ None
      gone_free m l ne = get_or-set_other (set rows m.key None) m.other_key m.key None None ne ∙ get_or-set_same rows m.key None None l

      gone_small : (m : Meeting) → m.key < length rows → m.other_key < length rows → (j : ℕ) (r : Current) → row_at (gone m) j ≡ Some r → r.id < length chains
      gone_small m li lj j r e = elim (set_reads (set rows m.key None) m.other_key j None None (omega (arith, lj, length-set rows m.key None))) [
        | inl u ↦ absurd (none_some (sym u.1 ∙ e))
        | inr u ↦ elim (set_reads rows m.key j None None li) [
          | inl v ↦ absurd (none_some (sym v.1 ∙ sym u.1 ∙ e))
          | inr v ↦ (w.rows j r (sym v.1 ∙ sym u.1 ∙ e)).id
        ]
      ]

  -- after the join the node is a junction too
  pub joined_there : IsJoinedAt g n g' → AreJoined (merged g.base) k (λ q. J q ⊎ (q ≡ p)) (stored.family_of g')
  joined_there j = elim j.change [
    | inl u ↦ rw (u.rows, u.chains) (alone_joined u.alone)
    | inr u ↦ meeting_joined u.0 u.1
  ]
