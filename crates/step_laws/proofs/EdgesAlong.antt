-- The edge of a chain in the chain's own direction, of chains that are turned round or put together.
use Rattle.std.proofs.Common.{◌≡◌, inl, inr, ℕ, ◌≤◌, min, Bool, true, false, not, cond, List, [], ◌∷◌, ◌++◌, drop, length, refl, sym, ap, ◌∙◌, subst, arith}
use Rattle.tgap_model.specs.declared.geometry.Point.{Point}
use Rattle.tgap_model.specs.declared.slice.Edge.{Edge}
use Rattle.tgap_model.specs.declared.slice.Removal.{Removal}
use Rattle.tgap_model.specs.Merged.{MergedMap, label_at}
use Rattle.tgap_model.specs.Removals.{is_removed, without, edge_of}
use Rattle.tgap_model.specs.Slice.{left_of, right_of}
use Rattle.tgap_model.specs.Chains.{Link, Chain, first_point, last_point, arc_number, chain_start, chain_end, chain_points, has_links, key, turned_round}
use Rattle.map_laws.specs.ChainLaws.{IsEven}
use Rattle.map_laws.proofs.ChainMembers.{Among, append_among, among_left, among_right}
use Rattle.map_laws.proofs.ChainEnds.{turn}
use Rattle.map_laws.proofs.Lists.{members_all}
use Rattle.map_laws.proofs.JoinPaths.{turned_links, turned_among, among_turned, append_links, append_start, append_end, turned_start, turned_end, IsPath, path_append, path_turned}
use Rattle.map_laws.proofs.SlicesUnique.{edge_same}
use Rattle.map_laws.proofs.JoinTests.{key_low, key_of, turned_key}
use Rattle.removal_laws.proofs.Less.{without_append}
use Rattle.removal_laws.proofs.ChainEnds.{AreLong, chain_length, chain_first, chain_last}
use Rattle.step_laws.proofs.StepEdges.{turned_edge, joined_edge}
use Rattle.step_laws.proofs.ChainPoints.{without_reversed, without_first, without_last, without_drop, turned_long, append_long, append_points, turned_points}

-- any point
abbrev pub Anywhere : Point → Type 0
Anywhere p = Unit {0}

-- the key of two chains in a row
append_key : (c e : Chain) → has_links c ≡ true → has_links e ≡ true → key (c ++ e) ≡ min (key c) (key e)
append_key c e h k =
    let one = key_of c h in
    let other = key_of e k in
    let both = key_of (c ++ e) (append_links c e h) in
    let low = key_low (c ++ e) one.0 (among_left c e one.0 one.1) in
    let under = key_low (c ++ e) other.0 (among_right c e other.0 other.1) in
    elim (append_among c e both.0 both.1) [
      | inl m ↦ omega (arith, key_low c both.0 m, both.2, one.2, other.2, low, under)
      | inr m ↦ omega (arith, key_low e both.0 m, both.2, one.2, other.2, low, under)
    ]

module _ (h : MergedMap) (k : ℕ) where
  -- a link turned round has its faces exchanged
  turned_faces : (d : Link) → (left_of h k (turn d) ≡ right_of h k d) × (right_of h k (turn d) ≡ left_of h k d)
  turned_faces d = (
    by d.turned (arc_number h.base.arcs d.arc).right (arc_number h.base.arcs d.arc).left,
    by d.turned (arc_number h.base.arcs d.arc).left (arc_number h.base.arcs d.arc).right,
  )
    where
      by : (t : Bool) (m n : ℕ) → label_at h k (cond (not t) m n) ≡ label_at h k (cond t n m)
      by true m n = refl
      by false m n = refl

  -- the faces at the sides of the first link
  abbrev pub first_left : Chain → ℕ
  first_left [] = 0
  first_left (d ∷ c) = left_of h k d

  abbrev pub first_right : Chain → ℕ
  first_right [] = 0
  first_right (d ∷ c) = right_of h k d

  -- each link has the same faces at its sides
  abbrev pub HasSides : ℕ → ℕ → Chain → Type 0
  HasSides l r c = (d : Link) → Among d c → (left_of h k d ≡ l) × (right_of h k d ≡ r)

  abbrev pub KeepsSides : Chain → Type 0
  KeepsSides c = HasSides (first_left c) (first_right c) c

  pub sides_keep : (l r : ℕ) (c : Chain) → HasSides l r c → KeepsSides c
  sides_keep l r [] s d m = absurd m
  sides_keep l r (e ∷ c) s d m =
      let here = s d m in
      let first = s e (inl refl) in
      (here.0 ∙ sym first.0, here.1 ∙ sym first.1)

  pub sides_first : (l r : ℕ) (c : Chain) → has_links c ≡ true → HasSides l r c → (first_left c ≡ l) × (first_right c ≡ r)
  sides_first l r [] links s = absurd cc
  sides_first l r (e ∷ c) links s = s e (inl refl)

  -- turned round they are exchanged
  pub turned_sides : (l r : ℕ) (c : Chain) → HasSides l r c → HasSides r l (turned_round c)
  turned_sides l r c s d m =
      let old = turned_among c d m in
      let here = s old.0 old.1 in
      let faces = turned_faces old.0 in
      subst (λ (e : Link). (left_of h k e ≡ r) × (right_of h k e ≡ l)) old.2 (faces.0 ∙ here.1, faces.1 ∙ here.0)

  -- and the other way
  pub sides_turned : (l r : ℕ) (c : Chain) → HasSides l r (turned_round c) → HasSides r l c
  sides_turned l r c s d m =
      let here = s (turn d) (among_turned c d m) in
      let faces = turned_faces d in
      (sym faces.1 ∙ here.1, sym faces.0 ∙ here.0)

  -- a chain whose links have the faces of its edge
  pub even_sides : (c : Chain) → IsEven h k c → HasSides (edge_of h k [] c).left (edge_of h k [] c).right c
  even_sides c e d m = (
    members_all (λ (d : Link). left_of h k d ≡ (edge_of h k [] c).left) c d e.left m,
    members_all (λ (d : Link). right_of h k d ≡ (edge_of h k [] c).right) c d e.right m,
  )

module _ (h : MergedMap) (k : ℕ) (rs : List Removal) where
  -- the edge of a chain in the chain's direction, less the listed vertices
  abbrev pub edge_along : Chain → Edge
  edge_along c = record {
    key = key c;
    left = first_left h k c;
    right = first_right h k c;
    points = without rs (chain_points h.base.arcs c);
  }

  -- a chain whose links have the faces of its edge
  pub along_sides : (c : Chain) → has_links c ≡ true → HasSides h k (edge_of h k [] c).left (edge_of h k [] c).right c → edge_along c ≡ edge_of h k rs c
  along_sides c links s =
      let first = sides_first h k (edge_of h k [] c).left (edge_of h k [] c).right c links s in
      edge_same (edge_along c) (edge_of h k rs c) refl first.0 first.1 refl

  pub along_even : (c : Chain) → has_links c ≡ true → IsEven h k c → edge_along c ≡ edge_of h k rs c
  along_even c links e = along_sides c links (even_sides h k c e)

  -- A path of arcs with two points at least, whose faces stay the same, and whose ends are not listed.
  pub record IsPlain (c : Chain) : Type 0 where
    pub path : IsPath h.base.arcs Anywhere c
    pub long : AreLong h.base.arcs c
    pub sides : KeepsSides h k c
    pub start : is_removed rs (chain_start h.base.arcs c) ≡ false
    pub end : is_removed rs (chain_end h.base.arcs c) ≡ false

  -- ---- its points

  some_points : (c : Chain) → IsPlain c → 1 ≤ length (chain_points h.base.arcs c)
  some_points c p = omega (arith, chain_length h.base.arcs c p.path.links p.long)

  start_listed : (c : Chain) → IsPlain c → is_removed rs (first_point (chain_points h.base.arcs c)) ≡ false
  start_listed c p = ap (is_removed rs) (chain_first h.base.arcs c p.path.links p.long) ∙ p.start

  pub along_first : (c : Chain) → IsPlain c → first_point (edge_along c).points ≡ chain_start h.base.arcs c
  along_first c p =
      without_first rs (chain_points h.base.arcs c) (some_points c p) (start_listed c p) ∙ chain_first h.base.arcs c p.path.links p.long

  pub along_last : (c : Chain) → IsPlain c → last_point (edge_along c).points ≡ chain_end h.base.arcs c
  along_last c p =
      let last = chain_last h.base.arcs c p.path.links p.long in
      (without_last rs (chain_points h.base.arcs c) (some_points c p) (ap (is_removed rs) last ∙ p.end)).1 ∙ last

  -- ---- turned round

  pub plain_turned : (c : Chain) → IsPlain c → IsPlain (turned_round c)
  plain_turned c p = record {
    path = path_turned h.base.arcs Anywhere c p.path;
    long = turned_long h.base.arcs c p.long;
    sides = sides_keep h k (first_right h k c) (first_left h k c) (turned_round c) (turned_sides h k (first_left h k c) (first_right h k c) c p.sides);
    start = ap (is_removed rs) (turned_start h.base.arcs c) ∙ p.end;
    end = ap (is_removed rs) (turned_end h.base.arcs c) ∙ p.start;
  }

  pub along_turned : (c : Chain) → IsPlain c → edge_along (turned_round c) ≡ turned_edge (edge_along c)
  along_turned c p =
      let first = sides_first h k (first_right h k c) (first_left h k c) (turned_round c) (turned_links c p.path.links)
      (turned_sides h k (first_left h k c) (first_right h k c) c p.sides) in
      edge_same (edge_along (turned_round c)) (turned_edge (edge_along c)) (turned_key c p.path.links) first.0 first.1
      (ap (without rs) (turned_points h.base.arcs Anywhere c p.path p.long) ∙ without_reversed rs (chain_points h.base.arcs c))

  -- ---- put together

  pub plain_append : (c e : Chain) → IsPlain c → IsPlain e → chain_end h.base.arcs c ≡ chain_start h.base.arcs e
      → KeepsSides h k (c ++ e) → IsPlain (c ++ e)
  plain_append c e p q meets sides = record {
    path = path_append h.base.arcs Anywhere c e p.path q.path meets tt;
    long = append_long h.base.arcs c e p.long q.long;
    sides = sides;
    start = ap (is_removed rs) (append_start h.base.arcs c e p.path.links) ∙ p.start;
    end = ap (is_removed rs) (append_end h.base.arcs c e q.path.links) ∙ q.end;
  }

  first_append : (c e : Chain) → has_links c ≡ true → (first_left h k (c ++ e) ≡ first_left h k c) × (first_right h k (c ++ e) ≡ first_right h k c)
  first_append [] e links = absurd cc
  first_append (d ∷ c) e links = (refl, refl)

  -- both have the faces of all
  pub append_faces : (c e : Chain) → has_links c ≡ true → has_links e ≡ true → KeepsSides h k (c ++ e)
      → (first_left h k c ≡ first_left h k e) × (first_right h k c ≡ first_right h k e)
  append_faces c e links other sides =
      let whole = first_append c e links in
      let second = sides_first h k (first_left h k (c ++ e)) (first_right h k (c ++ e)) e other (λ d m. sides d (among_right c e d m)) in
      (sym whole.0 ∙ sym second.0, sym whole.1 ∙ sym second.1)

  pub along_append : (c e : Chain) → IsPlain c → IsPlain e → edge_along (c ++ e) ≡ joined_edge (edge_along c) (edge_along e)
  along_append c e p q =
      let whole = first_append c e p.path.links in
      edge_same (edge_along (c ++ e)) (joined_edge (edge_along c) (edge_along e)) (append_key c e p.path.links q.path.links) whole.0 whole.1
      (ap (without rs) (append_points h.base.arcs c e p.path.links q.path.links p.long)
      ∙ without_append rs (chain_points h.base.arcs c) (drop 1 (chain_points h.base.arcs e))
      ∙ ap (λ (ps : List Point). without rs (chain_points h.base.arcs c) ++ ps)
      (without_drop rs (chain_points h.base.arcs e) (some_points e q) (start_listed e q)))
