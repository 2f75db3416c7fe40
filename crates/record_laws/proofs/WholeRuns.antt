-- A chain that does not border the new face is one run: where runs are joined, an arc between loser and winner ends.
use Rattle.std.proofs.Common.{◌≡◌, ◌≢◌, ◌⊎◌, inl, inr, ⊎_elim, ℕ, ◌+◌, ◌<◌, ◌≤◌, ◌==◌, Bool, true, false, not, cond, List, [], ◌∷◌, ◌++◌, length, sum_by, eq-eqb, ne_eqb, refl, sym, ap, ◌∙◌, subst, arith}
use Rattle.std.specs.Prelude.{flat_map}
use Rattle.std.proofs.lemmas.Bool.{cases_lt, true≢false}
use Rattle.std.proofs.lemmas.List.{append-nil}
use Rattle.std.proofs.lemmas.List.Sums.{sum_by-cons}
use Rattle.tgap_model.specs.declared.geometry.Point.{Point}
use Rattle.tgap_model.specs.declared.base.BaseArc.{BaseArc}
use Rattle.tgap_model.specs.Base.{BaseMap, is_base, same_point}
use Rattle.tgap_model.specs.Partition.{IsPartition, base_segments}
use Rattle.tgap_model.specs.History.{history_of}
use Rattle.tgap_model.specs.Merged.{MergedMap, merged, step_number, is_border}
use Rattle.tgap_model.specs.Chains.{Link, Chain, arc_number, first_point, last_point, ends_at, degree, link_start, link_end, key, has_links, chains_at}
use Rattle.tgap_model.specs.Removals.{edge_of}
use Rattle.tgap_model.specs.Records.{chain_of, runs}
use Rattle.tgap_model.specs.Slice.{left_of, right_of}
use Rattle.tgap_model.proofs.Points.{same_point-true}
use Rattle.map_laws.specs.ChainLaws.{IsEven}
use Rattle.map_laws.proofs.ChainMembers.{Among, among_left, among_right}
use Rattle.map_laws.proofs.ChainWalks.{IsRow, last_of, last_among, next_among, prev_among}
use Rattle.map_laws.proofs.ChainLinks.{IsWholeChain, chains_whole}
use Rattle.map_laws.proofs.ChainEnds.{turn, turn_twice, turn_start, turn_border, IsBorderLink, IsWayOn, way_on_only, way_on_turned, way_on_back}
use Rattle.map_laws.proofs.ChainsExist.{chains_exist}
use Rattle.map_laws.proofs.JoinPaths.{turned_among, among_turned}
use Rattle.map_laws.proofs.JoinTests.{key_of, turned_key}
use Rattle.map_laws.proofs.Lists.{members_all, among_kept}
use Rattle.map_laws.proofs.StepDegrees.{border_before, degree_less}
use Rattle.slice_laws.proofs.Coverage.{among_number}
use Rattle.slice_laws.proofs.EvenSides.{borders_at, border_faces}
use Rattle.slice_laws.proofs.Members.{two_members}
use Rattle.slice_laws.proofs.NodeLinks.{links_at, link_listed, ends_are_links, numbers_lead_all}
use Rattle.removal_laws.proofs.ChainEnds.{chain_links}
use Rattle.step_laws.proofs.EdgesAlong.{even_sides}
use Rattle.record_laws.proofs.Cutting.{AreCut}
use Rattle.record_laws.proofs.Holders.{holder}
use Rattle.record_laws.proofs.MapFacts.{numbered, based, even}
use Rattle.record_laws.proofs.Merging.{merged_label, turn_faces, inside_faces, left_up, right_up}
use Rattle.record_laws.proofs.NodeLabels.{links_same}
use Rattle.record_laws.proofs.StepRuns.{IsStepPart, part_member, part_held, run_part, runs_joined, runs_cut}

-- ---- lists

-- where a sum is greater, it is so at some member
sum_more : {A : Type 0} (f g : A → ℕ) (xs : List A) → sum_by g xs < sum_by f xs → (x : A) × Among x xs × (g x < f x)
sum_more f g [] l = absurd (omega arith)
sum_more {A} f g (x ∷ xs) l = by (cases_lt (g x) (f x)) (λ m. sum_more f g xs m)
  where
    by : (g x < f x) ⊎ (f x ≤ g x) → (sum_by g xs < sum_by f xs → (y : A) × Among y xs × (g y < f y)) → (y : A) × Among y (x ∷ xs) × (g y < f y)
    by (inl m) rest = (x, inl refl, m)
    by (inr m) rest = let n = rest (omega (arith, l, m, sum_by-cons f x xs, sum_by-cons g x xs)) in (n.0, inr n.1, n.2)

-- the members of a row at the seam of two
row_seam : {A : Type 0} (R : A → A → Type 0) (x : A) (xs : List A) (y : A) (ys : List A) → IsRow R ((x ∷ xs) ++ y ∷ ys) → R (last_of x xs) y
row_seam R x [] y ys r = r.0
row_seam R x (z ∷ xs) y ys r = row_seam R z xs y ys r.1

-- ---- one chain

module _ (h : MergedMap) (k : ℕ) where
  -- a whole chain holds the way on of each of its links
  way_on_in : (d : Link) (chain : Chain) → IsWholeChain h k d chain → (x e : Link) → Among x (d ∷ chain) → IsWayOn h k x e → Among e (d ∷ chain)
  way_on_in d chain w x e m u = elim (next_among (IsWayOn h k) d chain x w.row m) [
    | inl last ↦ elim w.ends [
      | inl back ↦ inl (way_on_only (subst (λ (y : Link). IsWayOn h k y d) last back) u)
      | inr free ↦ absurd (free.1 (ap (λ (y : Link). degree h k (link_end h.base.arcs y)) last ∙ u.two))
    ]
    | inr next ↦ subst (λ (y : Link). Among y (d ∷ chain)) (way_on_only next.2 u) next.1
  ]

  -- and the link of which it is the way on
  way_back_in : (d : Link) (chain : Chain) → IsWholeChain h k d chain → (x e : Link) → Among x (d ∷ chain) → IsWayOn h k e x → Among e (d ∷ chain)
  way_back_in d chain w x e m u = elim (prev_among (IsWayOn h k) d chain x w.row m) [
    | inl first ↦ elim w.ends [
      | inl back ↦ subst (λ (y : Link). Among y (d ∷ chain)) (way_on_back (subst (IsWayOn h k (last_of d chain)) first back) u) (last_among d chain)
      | inr free ↦ absurd (free.0 (ap (λ (y : Link). degree h k (link_start h.base.arcs y)) first ∙ ap (degree h k) (sym u.meets) ∙ u.two))
    ]
    | inr prev ↦ subst (λ (y : Link). Among y (d ∷ chain)) (way_on_back prev.2 u) prev.1
  ]

  -- a chain after k steps holds the way on and the way back of each of its links
  chain_way_on : (f : Chain) → Among f (chains_at h k) → (x e : Link) → Among x f → IsWayOn h k x e → Among e f
  chain_way_on f m x e n u =
      let w = chains_whole h k (chains_at h k) (chains_exist h k) f m in
      subst (Among e) (sym w.2) (way_on_in w.0 w.1 w.3 x e (subst (Among x) w.2 n) u)

  chain_way_back : (f : Chain) → Among f (chains_at h k) → (x e : Link) → Among x f → IsWayOn h k e x → Among e f
  chain_way_back f m x e n u =
      let w = chains_whole h k (chains_at h k) (chains_exist h k) f m in
      subst (Among e) (sym w.2) (way_back_in w.0 w.1 w.3 x e (subst (Among x) w.2 n) u)

  -- its least arc has its direction
  pub key_ahead : (f : Chain) → Among f (chains_at h k) → (e : Link) → Among e f → e.arc ≡ key f → e.turned ≡ false
  key_ahead f m e n s =
      let w = chains_whole h k (chains_at h k) (chains_exist h k) f m in
      w.3.directed e (subst (Among e) w.2 n) (s ∙ ap key w.2)

-- what an arc counts more before a step than after it
gone : (b c : Bool) (n : ℕ) → cond {A = ℕ} c n 0 < cond b n 0 → (b ≡ true) × ((c ≡ false) × (1 ≤ n))
gone true true n l = absurd (omega arith)
gone true false n l = (refl, (refl, omega arith))
gone false true n l = absurd (omega arith)
gone false false n l = absurd (omega arith)

-- an arc that ends at a point has a link that starts there
end_link : (arcs : List BaseArc) (p : Point) (i : ℕ) → 1 ≤ ends_at p (arc_number arcs i) → (d : Link) × (d.arc ≡ i) × (link_start arcs d ≡ p)
end_link arcs p i l = by (same_point (first_point (arc_number arcs i).points) p) refl (same_point (last_point (arc_number arcs i).points) p) refl l
  where
    by : (s : Bool) → same_point (first_point (arc_number arcs i).points) p ≡ s → (t : Bool) → same_point (last_point (arc_number arcs i).points) p ≡ t
        → 1 ≤ cond {A = ℕ} s 1 0 + cond {A = ℕ} t 1 0 → (d : Link) × (d.arc ≡ i) × (link_start arcs d ≡ p)
    by true e t f m = (record { arc = i; turned = false }, refl, same_point-true _ _ e)
    by false e true f m = (record { arc = i; turned = true }, refl, same_point-true _ _ f)
    by false e false f m = absurd (omega arith)

module _ (m : BaseMap) (base : is_base m ≡ true) (planar : IsPartition (base_segments m)) (k : ℕ) (small : k < length (history_of m)) where
  abbrev h : MergedMap
  h = merged m

  abbrev made : ℕ
  made = (step_number h (k + 1)).made

  abbrev IsOnePart : Chain → Type 0
  IsOnePart r = IsStepPart h k (numbered m base planar) small (based m base planar) (even m base planar k) r

  -- ---- the way on of a link of a part before the step is in the part's chain

  part_way_on : (r : Chain) (p : IsOnePart r) (x e : Link) → Among x r → IsWayOn h k x e → chain_of (chains_at h k) e.arc ≡ p.chain
  part_way_on r p x e n u =
      let f = part_member h k (numbered m base planar) small (based m base planar) (even m base planar k) r p in
      elim p.same [
        | inl s ↦ holder h k p.chain f e (chain_way_on h k p.chain f x e (subst (Among x) s n) u)
        | inr s ↦
            (let g = turned_among p.chain x (subst (Among x) s n) in
            let back : turn x ≡ g.0 = ap turn (sym g.2) ∙ turn_twice g.0 in
            holder h k p.chain f (turn e) (chain_way_back h k p.chain f g.0 (turn e) g.1 (subst (IsWayOn h k (turn e)) back (way_on_turned u))))
      ]

  -- ---- round a node of degree two at which a new joint is

  module _ (x e : Link) (way : IsWayOn h (k + 1) x e) where
    abbrev node : Point
    node = link_end m.arcs x

    listed : (d : Link) → d.arc < length m.arcs → link_start m.arcs d ≡ node → Among d (links_at node 0 m.arcs)
    listed d within s = link_listed node (arc_number m.arcs) 0 m.arcs (numbers_lead_all m.arcs) d (omega arith) (omega (arith, within)) s

    border_listed : (d : Link) → IsBorderLink h (k + 1) d → link_start m.arcs d ≡ node → Among d (borders_at m (k + 1) node)
    border_listed d b s =
        among_kept (λ (d : Link). is_border h (k + 1) (arc_number m.arcs d.arc)) (links_at node 0 m.arcs) d (listed d b.within s) b.border

    two_there : length (borders_at m (k + 1) node) ≡ 2
    two_there = sym (ends_are_links node (is_border h (k + 1)) (arc_number m.arcs) 0 m.arcs (numbers_lead_all m.arcs)) ∙ way.two

    -- the border links there are these two
    only_two : (d : Link) → Among d (borders_at m (k + 1) node) → (turn x ≡ d) ⊎ (e ≡ d)
    only_two d n =
        ⊎_elim
        (λ s. of_two (turn x) e (subst (Among d) s n))
        (λ s. elim (of_two e (turn x) (subst (Among d) s n)) [ inl a ↦ inr a | inr a ↦ inl a ])
        (two_members (borders_at m (k + 1) node) (turn x) e two_there (border_listed (turn x) (turn_border way.from) (turn_start m.arcs x))
        (border_listed e way.to (sym way.meets)) way.apart)
      where
        of_two : (a b : Link) → Among d (a ∷ b ∷ []) → (a ≡ d) ⊎ (b ≡ d)
        of_two a b (inl s) = inl s
        of_two a b (inr (inl s)) = inr s
        of_two a b (inr (inr o)) = absurd o

    -- where neither borders the new face, no arc vanishes there
    module _ (left_x : left_of h (k + 1) x ≢ made) (right_x : right_of h (k + 1) x ≢ made)
        (left_e : left_of h (k + 1) e ≢ made) (right_e : right_of h (k + 1) e ≢ made) where
      abbrev is_new : ℕ → Bool
      is_new f = f == made

      not_new : (f : ℕ) → f ≢ made → is_new f ≡ false
      not_new f ne = ne_eqb f made ne

      keeps : (d : Link) → Among d (links_at node 0 m.arcs) → is_new (left_of h (k + 1) d) ≡ is_new (right_of h (k + 1) d)
      keeps d n = by (is_border h (k + 1) (arc_number m.arcs d.arc)) refl
        where
          by : (b : Bool) → is_border h (k + 1) (arc_number m.arcs d.arc) ≡ b → is_new (left_of h (k + 1) d) ≡ is_new (right_of h (k + 1) d)
          by false f = ap is_new (inside_faces h (k + 1) d f)
          by true f =
              ⊎_elim
              (λ s. subst (λ (d : Link). is_new (left_of h (k + 1) d) ≡ is_new (right_of h (k + 1) d)) s
              (ap is_new (turn_faces h (k + 1) x).0 ∙ not_new _ right_x ∙ sym (not_new _ left_x) ∙ ap is_new (sym (turn_faces h (k + 1) x).1)))
              (λ s. subst (λ (d : Link). is_new (left_of h (k + 1) d) ≡ is_new (right_of h (k + 1) d)) s (not_new _ left_e ∙ sym (not_new _ right_e)))
              (only_two d (among_kept (λ (d : Link). is_border h (k + 1) (arc_number m.arcs d.arc)) (links_at node 0 m.arcs) d n f))

      none_new : (v : Link) → v.arc < length m.arcs → link_start m.arcs v ≡ node → left_of h (k + 1) v ≢ made
      none_new v within s new =
          true≢false (sym (eq-eqb (left_of h (k + 1) v) made new)
          ∙ links_same m base (k + 1) is_new node (planar.arcs.nodes node) keeps v e (listed v within s) (listed e way.to.within (sym way.meets))
          ∙ not_new _ left_e)

      -- so the degree was two before
      degree_stays : degree h k node ≡ 2
      degree_stays = elim (cases_lt (degree h (k + 1) node) (degree h k node)) [
        | inr l ↦ omega (arith, l, way.two, degree_less h k small node)
        | inl l ↦
            (let a = sum_more (λ (a : BaseArc). cond {A = ℕ} (is_border h k a) (ends_at node a) 0)
            (λ (a : BaseArc). cond {A = ℕ} (is_border h (k + 1) a) (ends_at node a) 0) m.arcs l in
            let g = gone (is_border h k a.0) (is_border h (k + 1) a.0) (ends_at node a.0) a.2 in
            let i = among_number m.arcs a.0 a.1 in
            let v = end_link m.arcs node i.0 (subst (λ (b : BaseArc). 1 ≤ ends_at node b) (sym i.2) g.1.1) in
            let is : arc_number m.arcs v.0.arc ≡ a.0 = ap (arc_number m.arcs) v.1 ∙ i.2 in
            let within : v.0.arc < length m.arcs = subst (λ (n : ℕ). n < length m.arcs) (sym v.1) i.1 in
            let differ = border_faces h k v.0 (ap (is_border h k) is ∙ g.0) in
            let same = inside_faces h (k + 1) v.0 (ap (is_border h (k + 1)) is ∙ g.1.0) in
            absurd (none_new v.0 within v.2 (left_up h k small v.0
            ∙ merged_label (step_number h (k + 1)) (left_of h k v.0) (right_of h k v.0) differ (sym (left_up h k small v.0) ∙ same ∙ right_up h k small v.0))))
      ]

      -- and the one link was the way on of the other
      way_before : IsWayOn h k x e
      way_before = record {
        from = record { within = way.from.within; border = border_before h k small (arc_number m.arcs x.arc) way.from.border };
        to = record { within = way.to.within; border = border_before h k small (arc_number m.arcs e.arc) way.to.border };
        meets = way.meets;
        two = degree_stays;
        apart = way.apart;
      }

  -- ---- chains that do not border the new face

  module _ (c : Chain) (n : Among c (chains_at h (k + 1))) where
    sides : (d : Link) → Among d c → (left_of h (k + 1) d ≡ (edge_of h (k + 1) [] c).left) × (right_of h (k + 1) d ≡ (edge_of h (k + 1) [] c).right)
    sides = even_sides h (k + 1) c (members_all (IsEven h (k + 1)) (chains_at h (k + 1)) c (even m base planar (k + 1)) n)

    module _ (left : (edge_of h (k + 1) [] c).left ≢ made) (right : (edge_of h (k + 1) [] c).right ≢ made) where
      -- it has no run with another one behind it
      no_seam : (d : Link) (r : Chain) (f : Link) (more : Chain) → IsOnePart (d ∷ r) → (d ∷ r) ++ f ∷ more ≡ c
          → (n : ℕ) → ((x : Link) → Among x (d ∷ r) → key (chain_of (chains_at h k) x.arc) ≡ n) → (key (chain_of (chains_at h k) f.arc) ≡ n → ⊥) → ⊥
      no_seam d r f more p joined one held apart =
          let w = chains_whole h (k + 1) (chains_at h (k + 1)) (chains_exist h (k + 1)) c n in
          let row : IsRow (IsWayOn h (k + 1)) ((d ∷ r) ++ f ∷ more) = subst (IsRow (IsWayOn h (k + 1))) (sym (joined ∙ w.2)) w.3.row in
          let x : Link = last_of d r in
          let way : IsWayOn h (k + 1) x f = row_seam (IsWayOn h (k + 1)) d r f more row in
          let in_r : Among x (d ∷ r) = last_among d r in
          let in_x : Among x c = subst (Among x) joined (among_left (d ∷ r) (f ∷ more) x in_r) in
          let in_f : Among f c = subst (Among f) joined (among_right (d ∷ r) (f ∷ more) f (inl refl)) in
          let sx = sides x in_x in
          let sf = sides f in_f in
          let before : IsWayOn h k x f = way_before x f way (λ s. left (sym sx.0 ∙ s)) (λ s. right (sym sx.1 ∙ s)) (λ s. left (sym sf.0 ∙ s)) (λ s. right (sym sf.1 ∙ s)) in
          apart (ap key (part_way_on (d ∷ r) p x f in_r before)
          ∙ sym (ap key (part_held h k (numbered m base planar) small (based m base planar) (even m base planar k) (d ∷ r) p x in_r)) ∙ held x in_r)

      -- such a chain is one run
      pub one_run : runs (chains_at h k) c ≡ c ∷ []
      one_run = by (runs (chains_at h k) c)
          (runs_joined h k (numbered m base planar) small (based m base planar) (even m base planar k) c n)
          (runs_cut h k (numbered m base planar) small (based m base planar) (even m base planar k) c n)
          (λ r o. run_part h k (numbered m base planar) small (based m base planar) (even m base planar k) c n r o)
        where
          by : (rs : List Chain) → flat_map (λ r. r) rs ≡ c → AreCut (chains_at h k) rs → ((r : Chain) → Among r rs → IsOnePart r) → rs ≡ c ∷ []
          by [] joined cut each = let some = ap has_links joined ∙ chain_links h (k + 1) c n in absurd cc
          by (r ∷ []) joined cut each = ap (λ (q : Chain). q ∷ []) (sym (append-nil r) ∙ joined)
          by ([] ∷ q ∷ more) joined cut each = let none = cut.0.links in absurd cc
          by ((d ∷ r) ∷ [] ∷ more) joined cut each = let none = cut.1.0.links in absurd cc
          by ((d ∷ r) ∷ (f ∷ q) ∷ more) joined cut each =
              absurd (no_seam d r f (q ++ flat_map (λ r. r) more) (each (d ∷ r) (inl refl)) joined cut.0.one cut.0.held_by cut.0.apart)

    -- ---- a chain of one run is the chain before the step

    pub one_chain : runs (chains_at h k) c ≡ c ∷ [] → (p : IsOnePart c) → p.chain ≡ c
    one_chain one p = elim p.same [
      | inl s ↦ sym s
      | inr s ↦
          (let f = part_member h k (numbered m base planar) small (based m base planar) (even m base planar k) c p in
          let low = key_of p.chain (chain_links h k p.chain f) in
          let ahead = key_ahead h k p.chain f low.0 low.1 low.2 in
          let turned : Among (turn low.0) c = subst (Among (turn low.0)) (sym s) (among_turned p.chain low.0 low.1) in
          let again = key_ahead h (k + 1) c n (turn low.0) turned (low.2 ∙ sym (ap key s ∙ turned_key p.chain (chain_links h k p.chain f))) in
          absurd (true≢false (sym (ap not ahead) ∙ again)))
    ]
