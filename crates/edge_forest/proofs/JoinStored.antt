-- What is stored after a join.
use Rattle.std.proofs.Common.{◌≡◌, ◌≢◌, ◌⊎◌, inl, inr, ℕ, ◌+◌, ◌<◌, ◌≤◌, ◌&&◌, nat_le, nat_lt, Bool, true, false, not, cond, List, [], ◌∷◌, ◌++◌, length, get_or, set, Option, Some, None, refl, sym, ap, ap₂, ◌∙◌, subst, arith}
use Rattle.std.specs.List.{All}
use Rattle.std.proofs.lemmas.Bool.{cases_eq, cases_lt, lt-ltb, lt-leb}
use Rattle.std.proofs.lemmas.List.{get_or-set_same, get_or-set_other, get_or_append_left, length-set, append-nil}
use Rattle.std.proofs.Math.Seq.{get_or-append_seam}
use Rattle.std.proofs.lemmas.List.Elements.{All-cons, All-nil}
use Rattle.tgap_model.specs.Merged.{merged, label_at}
use Rattle.tgap_model.specs.Chains.{Chain, arc_number, key, has_links}
use Rattle.edge_forest.specs.declared.edge.Part.{Part}
use Rattle.edge_forest.specs.declared.edge.ForestEdge.{ForestEdge}
use Rattle.edge_forest.specs.declared.net.Current.{Current}
use Rattle.edge_forest.specs.declared.net.Meeting.{Meeting}
use Rattle.edge_forest.specs.declared.growth.Growth.{Growth}
use Rattle.edge_forest.specs.Edges.{edge_at, chains_of, chain_of, parts_chain, is_alive, IsPart, IsForestEdge}
use Rattle.edge_forest.specs.FaceLabels.{face_of}
use Rattle.edge_forest.specs.Forest.{never}
use Rattle.edge_forest.specs.Nodes.{places_at}
use Rattle.edge_forest.specs.Net.{row_at, IsNetOf, IsMeeting}
use Rattle.edge_forest.specs.Rows.{IsRow, turned_if, attached, joined_row}
use Rattle.edge_forest.specs.Growth.{ended, edge_part, meeting_parts, IsLabelled, IsOfEdge, IsStoredOf, IsStored, IsJoinOf, IsJoinedAt}
use Rattle.edge_forest.proofs.Attached.{attached_longer, new_links, new_key, new_row, row_stays}
use Rattle.edge_forest.proofs.Nets.{some_same, none_some, read_within, set_reads}
use Rattle.edge_forest.proofs.Chains.{set_chains, push_chains, chains_count}
use Rattle.edge_forest.proofs.AliveSame.{IsLonger, longer_chains}
use Rattle.edge_forest.specs.Continued.{AreContinued, IsJoinedPart, AreJoined}
use Rattle.edge_forest.proofs.Continued.{continued}

-- the chain of the parts is the attached chain
parts_attached : (chains : List Chain) (m : Meeting)
    → parts_chain chains (meeting_parts m) ≡ attached m.one_ends m.other_ends (get_or chains m.one.id []) (get_or chains m.other.id [])
parts_attached chains m = by m.one_ends
  where
    a : Chain
    a = get_or chains m.one.id []

    b : Chain
    b = get_or chains m.other.id []

    by : (e : Bool) → parts_chain chains (cond e (edge_part m.one false ∷ edge_part m.other m.other_ends ∷ []) (edge_part m.other (not m.other_ends) ∷ edge_part m.one false ∷ []))
        ≡ cond e (a ++ turned_if m.other_ends b) (turned_if (not m.other_ends) b ++ a)
    by true = ap (λ (c : Chain). a ++ c) (append-nil (turned_if m.other_ends b))
    by false = ap (λ (c : Chain). turned_if (not m.other_ends) b ++ c) (append-nil a)

-- an edge that has ended reads as before but for its high step
ended_reads : (edges : List ForestEdge) (k a i : ℕ) → a < length edges
    → ((i ≡ a) × (edge_at (set edges a (ended k (edge_at edges a))) i ≡ ended k (edge_at edges i)))
    ⊎ ((i ≢ a) × (edge_at (set edges a (ended k (edge_at edges a))) i ≡ edge_at edges i))
ended_reads edges k a i l = elim (set_reads edges a i (ended k (edge_at edges a)) (record { key = 0; low = 0; high = 0; left = 0; right = 0; parts = [] }) l) [
  | inl u ↦ inl (u.0, u.1 ∙ ap (λ (n : ℕ). ended k (edge_at edges n)) (sym u.0))
  | inr u ↦ inr u
]

module _ (k : ℕ) (g : Growth) (w : IsStored k g) (places : List ℕ) (m : Meeting) (t : IsMeeting g.net places m) (less : k < never) where
  abbrev old : List ForestEdge
  old = g.edges.items

  abbrev a : ℕ
  a = m.one.id

  abbrev b : ℕ
  b = m.other.id

  -- both edges are there, and differ
  of_one : IsOfEdge g.edges.items m.key m.one
  of_one = w.of_edges m.key m.one t.one

  of_other : IsOfEdge g.edges.items m.other_key m.other
  of_other = w.of_edges m.other_key m.other t.other

  pub one_there : m.one.id < length g.edges.items
  one_there = of_one.id

  pub other_there : m.other.id < length g.edges.items
  other_there = of_other.id

  ids_differ : a ≢ b
  ids_differ e = absurd (omega (arith, of_one.key, of_other.key, t.less, ap (λ (n : ℕ). (edge_at old n).key) e))

  abbrev once : List ForestEdge
  once = set g.edges.items m.one.id (ended k (edge_at g.edges.items m.one.id))

  abbrev twice : List ForestEdge
  twice = set once m.other.id (ended k (edge_at once m.other.id))

  abbrev new_edge : ForestEdge
  new_edge = record { key = m.key; low = k; high = never; left = face_of g.labels m.one.left; right = face_of g.labels m.one.right; parts = meeting_parts m }

  abbrev new : List ForestEdge
  new = twice ++ new_edge ∷ []

  once_length : length once ≡ length old
  once_length = length-set old a (ended k (edge_at old a))

  twice_length : length twice ≡ length old
  twice_length = omega (arith, length-set once b (ended k (edge_at once b)), once_length)

  new_length : length new ≡ length old + 1
  new_length = omega (arith, push_length twice new_edge, twice_length)
    where
      push_length : (es : List ForestEdge) (e : ForestEdge) → length (es ++ e ∷ []) ≡ length es + 1
      push_length [] e = refl
      push_length (f ∷ es) e = omega (arith, push_length es e)

  -- an edge of before: one of the two that are joined, or as it was
  kept : (i : ℕ) → i < length old
      → (((i ≡ a) ⊎ (i ≡ b)) × (edge_at new i ≡ ended k (edge_at old i))) ⊎ ((i ≢ a) × (i ≢ b) × (edge_at new i ≡ edge_at old i))
  kept i l = elim (ended_reads once k b i (omega (arith, of_other.id, once_length))) [
    | inl u ↦ elim (ended_reads old k a i of_one.id) [
      | inl v ↦ inl (inl v.0, front ∙ u.1 ∙ ap (ended k) v.1)
      | inr v ↦ inl (inr u.0, front ∙ u.1 ∙ ap (ended k) v.1)
    ]
    | inr u ↦ elim (ended_reads old k a i of_one.id) [
      | inl v ↦ inl (inl v.0, front ∙ u.1 ∙ v.1)
      | inr v ↦ inr (v.0, u.0, front ∙ u.1 ∙ v.1)
    ]
  ]
    where
      front : edge_at new i ≡ edge_at twice i
      front = get_or_append_left twice (new_edge ∷ []) _ i (omega (arith, l, twice_length))

  last_is : (i : ℕ) → i ≡ length old → edge_at new i ≡ new_edge
  last_is i e =
      ap (λ (n : ℕ). edge_at new n) (e ∙ sym twice_length) ∙ get_or-append_seam twice new_edge [] _

  -- an edge from before keeps all but its high step
  keeps : {A : Type 0} (f : ForestEdge → A) → ((e : ForestEdge) → f (ended k e) ≡ f e) → (i : ℕ) → i < length old → f (edge_at new i) ≡ f (edge_at old i)
  keeps f same i l = elim (kept i l) [ inl u ↦ ap f u.1 ∙ same (edge_at old i) | inr u ↦ ap f u.2 ]

  -- ---- chains

  abbrev joined : Chain
  joined = attached m.one_ends m.other_ends (chain_of g.edges.items m.one.id) (chain_of g.edges.items m.other.id)

  pub new_chains : chains_of (set (set g.edges.items m.one.id (ended k (edge_at g.edges.items m.one.id))) m.other.id
      (ended k (edge_at (set g.edges.items m.one.id (ended k (edge_at g.edges.items m.one.id))) m.other.id))
      ++ record { key = m.key; low = k; high = never; left = face_of g.labels m.one.left; right = face_of g.labels m.one.right; parts = meeting_parts m } ∷ [])
      ≡ chains_of g.edges.items ++ attached m.one_ends m.other_ends (chain_of g.edges.items m.one.id) (chain_of g.edges.items m.other.id) ∷ []
  new_chains =
      push_chains twice new_edge
      ∙ ap (λ (cs : List Chain). cs ++ parts_chain cs (meeting_parts m) ∷ []) (set_chains once b (ended k (edge_at once b)) refl ∙ set_chains old a (ended k (edge_at old a)) refl)
      ∙ ap (λ (c : Chain). chains_of old ++ c ∷ []) (parts_attached (chains_of old) m)

  old_chain : (i : ℕ) → i < length old → chain_of new i ≡ chain_of old i
  old_chain i l =
      ap (λ (cs : List Chain). get_or cs i []) new_chains ∙ get_or_append_left (chains_of old) (joined ∷ []) [] i (omega (arith, l, chains_count old))

  last_chain : (i : ℕ) → i ≡ length old → chain_of new i ≡ joined
  last_chain i e =
      ap (λ (cs : List Chain). get_or cs i []) new_chains
      ∙ ap (λ (n : ℕ). get_or (chains_of old ++ joined ∷ []) n []) (e ∙ sym (chains_count old))
      ∙ get_or-append_seam (chains_of old) joined [] []

  -- ---- the edges alive before

  longer : (j : ℕ) → j < k → IsLonger j old new
  longer j l = record {
    count = omega (arith, new_length);
    key = λ i s. keeps (λ (e : ForestEdge). e.key) (λ e. refl) i s;
    chain = old_chain;
    alive = λ i s. elim (kept i s) [
      | inl u ↦ ap (is_alive j) u.1 ∙ ap (λ (b : Bool). nat_le (edge_at old i).low j && b) (late i u.0)
      | inr u ↦ ap (is_alive j) u.2
    ];
    later = λ i s z. let e = last_is i (omega (arith, s, z, new_length)) in
        ap (is_alive j) e ∙ ap (λ (b : Bool). b && nat_lt j never) (lt-leb k j l);
  }
    where
      late : (i : ℕ) → (i ≡ a) ⊎ (i ≡ b) → nat_lt j k ≡ nat_lt j (edge_at old i).high
      late i e =
          let high : (edge_at old i).high ≡ never = elim e [
            | inl s ↦ ap (λ (n : ℕ). (edge_at old n).high) s ∙ of_one.high
            | inr s ↦ ap (λ (n : ℕ). (edge_at old n).high) s ∙ of_other.high
          ] in
          lt-ltb j k l ∙ sym (lt-ltb j (edge_at old i).high (omega (arith, high, less, l)))

  -- ---- edges

  chains_of_rows : (IsRow (chains_of old) m.key m.one) × (IsRow (chains_of old) m.other_key m.other)
  chains_of_rows = (w.rows m.key m.one t.one, w.rows m.other_key m.other t.other)

  parts_earlier : All (IsPart (length g.base.arcs) (length old)) (meeting_parts m)
  parts_earlier = by m.one_ends
    where
      P : Part → Type 0
      P = IsPart (length g.base.arcs) (length old)

      one_part : (b : Bool) → IsPart (length g.base.arcs) (length old) (edge_part m.one b)
      one_part b = record { arc = λ e. absurd cc; edge = λ e. of_one.id }

      other_part : (b : Bool) → IsPart (length g.base.arcs) (length old) (edge_part m.other b)
      other_part b = record { arc = λ e. absurd cc; edge = λ e. of_other.id }

      two : (p q : Part) → IsPart (length g.base.arcs) (length old) p → IsPart (length g.base.arcs) (length old) q → All (IsPart (length g.base.arcs) (length old)) (p ∷ q ∷ [])
      two p q u v = All-cons (IsPart (length g.base.arcs) (length old)) p (q ∷ []) u
          (All-cons (IsPart (length g.base.arcs) (length old)) q [] v (All-nil (IsPart (length g.base.arcs) (length old))))

      by : (e : Bool) → All (IsPart (length g.base.arcs) (length old))
          (cond e (edge_part m.one false ∷ edge_part m.other m.other_ends ∷ []) (edge_part m.other (not m.other_ends) ∷ edge_part m.one false ∷ []))
      by true = two (edge_part m.one false) (edge_part m.other m.other_ends) (one_part false) (other_part m.other_ends)
      by false = two (edge_part m.other (not m.other_ends)) (edge_part m.one false) (other_part (not m.other_ends)) (one_part false)

  old_edge : (i : ℕ) → i < length old → IsForestEdge (merged g.base) new i
  old_edge i l =
      let e = w.edges i l in
      let same_low = keeps (λ (e : ForestEdge). e.low) (λ e. refl) i l in
      let same_key = keeps (λ (e : ForestEdge). e.key) (λ e. refl) i l in
      record {
        parts = subst (All (IsPart (length g.base.arcs) i)) (sym (keeps (λ (e : ForestEdge). e.parts) (λ e. refl) i l)) e.parts;
        links = ap has_links (old_chain i l) ∙ e.links;
        key = same_key ∙ e.key ∙ sym (ap key (old_chain i l));
        left = keeps (λ (e : ForestEdge). e.left) (λ e. refl) i l ∙ e.left
            ∙ sym (ap₂ (λ (n m : ℕ). label_at (merged g.base) n (arc_number g.base.arcs m).left) same_low same_key);
        right = keeps (λ (e : ForestEdge). e.right) (λ e. refl) i l ∙ e.right
            ∙ sym (ap₂ (λ (n m : ℕ). label_at (merged g.base) n (arc_number g.base.arcs m).right) same_low same_key);
      }

  last_edge : (i : ℕ) → i ≡ length old → IsForestEdge (merged g.base) new i
  last_edge i e =
      let is = last_is i e in
      let chain = last_chain i e in
      let r = chains_of_rows in
      let labels = w.labels m.key m.one t.one in
      record {
        parts = rw (is, e) parts_earlier;
        links = ap has_links chain ∙ new_links (chains_of old) m.key m.other_key m.one m.other r.0 r.1 t.less m.one_ends m.other_ends;
        key = ap (λ (e : ForestEdge). e.key) is ∙ sym (ap key chain ∙ new_key (chains_of old) m.key m.other_key m.one m.other r.0 r.1 t.less m.one_ends m.other_ends);
        left = rw is labels.left;
        right = rw is labels.right;
      }

  edge_cases : (i : ℕ) → i < length new → (i < length old) ⊎ (i ≡ length old)
  edge_cases i l = elim (cases_eq i (length old)) [ inl e ↦ inr e | inr ne ↦ inl (omega (arith, l, new_length, ne)) ]

  -- ---- rows

  abbrev rows : List (Option Current)
  rows = g.net.rows.items

  abbrev row : Current
  row = joined_row m.one_ends m.other_ends (length g.edges.items) m.one m.other

  abbrev new_rows : List (Option Current)
  new_rows = set (set (set g.net.rows.items m.key None) m.other_key None) m.key (Some row)

  li : m.key < length rows
  li = read_within rows m.key m.one t.one

  lj : m.other_key < length rows
  lj = read_within rows m.other_key m.other t.other

  length_once : length (set rows m.key None) ≡ length rows
  length_once = length-set rows m.key None

  length_twice : length (set (set rows m.key None) m.other_key None) ≡ length rows
  length_twice = omega (arith, length-set (set rows m.key None) m.other_key None, length_once)

  row_cases : (i : ℕ) (r : Current) → row_at new_rows i ≡ Some r
      → ((i ≡ m.key) × (row ≡ r)) ⊎ ((i ≢ m.key) × (i ≢ m.other_key) × (row_at rows i ≡ Some r))
  row_cases i r e = elim (set_reads (set (set rows m.key None) m.other_key None) m.key i (Some row) None (omega (arith, li, length_twice))) [
    | inl u ↦ inl (u.0, some_same (sym u.1 ∙ e))
    | inr u ↦ elim (set_reads (set rows m.key None) m.other_key i None None (omega (arith, lj, length_once))) [
      | inl v ↦ absurd (none_some (sym v.1 ∙ sym u.1 ∙ e))
      | inr v ↦ elim (set_reads rows m.key i None None li) [
        | inl x ↦ absurd (u.0 x.0)
        | inr x ↦ inr (u.0, v.0, sym x.1 ∙ sym v.1 ∙ sym u.1 ∙ e)
      ]
    ]
  ]

  row_there : row_at new_rows m.key ≡ Some row
  row_there = get_or-set_same (set (set rows m.key None) m.other_key None) m.key (Some row) None (omega (arith, li, length_twice))

  row_kept : (i : ℕ) → i ≢ m.key → i ≢ m.other_key → row_at new_rows i ≡ row_at rows i
  row_kept i ni nj =
      get_or-set_other (set (set rows m.key None) m.other_key None) m.key i (Some row) None ni
      ∙ get_or-set_other (set rows m.key None) m.other_key i None None nj
      ∙ get_or-set_other rows m.key i None None ni

  of_edges : (i : ℕ) (r : Current) → row_at new_rows i ≡ Some r → IsOfEdge new i r
  of_edges i r e = elim (row_cases i r e) [
    | inl u ↦
        let is : edge_at new r.id ≡ new_edge = last_is r.id (ap (λ (c : Current). c.id) (sym u.1)) in
        record {
          id = omega (arith, new_length, ap (λ (c : Current). c.id) u.1);
          key = ap (λ (e : ForestEdge). e.key) is ∙ sym u.0;
          high = ap (λ (e : ForestEdge). e.high) is;
        }
    | inr u ↦
        let o = w.of_edges i r u.2 in
        record {
          id = omega (arith, new_length, o.id);
          key = keeps (λ (e : ForestEdge). e.key) (λ e. refl) r.id o.id ∙ o.key;
          high = elim (kept r.id o.id) [
            | inl v ↦ absurd (elim v.0 [
              | inl s ↦ u.0 (sym o.key ∙ ap (λ (n : ℕ). (edge_at old n).key) s ∙ of_one.key)
              | inr s ↦ u.1 (sym o.key ∙ ap (λ (n : ℕ). (edge_at old n).key) s ∙ of_other.key)
            ])
            | inr v ↦ ap (λ (e : ForestEdge). e.high) v.2 ∙ o.high
          ];
        }
  ]

  of_rows : (i : ℕ) → i < length new → (edge_at new i).high ≡ never → (r : Current) × (row_at new_rows (edge_at new i).key ≡ Some r) × (r.id ≡ i)
  of_rows i l high = elim (edge_cases i l) [
    | inr e ↦ (row, ap (λ (e : ForestEdge). row_at new_rows e.key) (last_is i e) ∙ row_there, sym e)
    | inl s ↦ elim (kept i s) [
      | inl u ↦ absurd (omega (arith, less, high, ap (λ (e : ForestEdge). e.high) u.1))
      | inr u ↦
          let h = w.of_rows i s (sym (ap (λ (e : ForestEdge). e.high) u.2) ∙ high) in
          let there : row_at rows (edge_at old i).key ≡ Some h.0 = h.1 in
          let ni : (edge_at old i).key ≢ m.key = λ e. u.0 (sym h.2 ∙ ap (λ (c : Current). c.id) (some_same (sym there ∙ ap (row_at rows) e ∙ t.one))) in
          let nj : (edge_at old i).key ≢ m.other_key = λ e. u.1 (sym h.2 ∙ ap (λ (c : Current). c.id) (some_same (sym there ∙ ap (row_at rows) e ∙ t.other))) in
          (h.0, ap (λ (e : ForestEdge). row_at new_rows e.key) u.2 ∙ row_kept (edge_at old i).key ni nj ∙ there, h.2)
    ]
  ]

  -- ---- the edges with one key

  same_key : (i : ℕ) → i < length old → (edge_at new i).key ≡ (edge_at old i).key
  same_key = keeps (λ (e : ForestEdge). e.key) (λ e. refl)

  last_key : (i : ℕ) → i ≡ length old → (edge_at new i).key ≡ m.key
  last_key i e = ap (λ (e : ForestEdge). e.key) (last_is i e)

  -- an edge with the key of the new one is shorter
  shorter : (i : ℕ) → i < length old → (edge_at old i).key ≡ m.key → length (chain_of old i) < length joined
  shorter i l e =
      let more = attached_longer m.one_ends m.other_ends (chain_of old a) (chain_of old b) (w.rows m.other_key m.other t.other).links in
      elim (cases_eq i a) [
        | inl s ↦ omega (arith, more, ap (λ (n : ℕ). length (chain_of old n)) s)
        | inr ne ↦ omega (arith, more, w.longer i a (omega (arith, ne, w.latest m.key m.one t.one i l e)) of_one.id (e ∙ sym of_one.key))
      ]

  new_longer : (i j : ℕ) → i < j → j < length new → (edge_at new i).key ≡ (edge_at new j).key → length (chain_of new i) < length (chain_of new j)
  new_longer i j below l e = elim (edge_cases j l) [
    | inl s ↦
        let i_in : i < length old = omega (arith, below, s) in
        rw (old_chain i i_in, old_chain j s) (w.longer i j below s (sym (same_key i i_in) ∙ e ∙ same_key j s))
    | inr s ↦
        let i_in : i < length old = omega (arith, below, s) in
        rw (old_chain i i_in, last_chain j s) (shorter i i_in (sym (same_key i i_in) ∙ e ∙ last_key j s))
  ]

  new_latest : (i : ℕ) (r : Current) → row_at new_rows i ≡ Some r → (j : ℕ) → j < length new → (edge_at new j).key ≡ i → j ≤ r.id
  new_latest i r e j l k = elim (row_cases i r e) [
    | inl u ↦ omega (arith, ap (λ (c : Current). c.id) u.1, l, new_length)
    | inr u ↦ elim (edge_cases j l) [
      | inl s ↦ w.latest i r u.2 j s (sym (same_key j s) ∙ k)
      | inr s ↦ absurd (u.0 (sym k ∙ last_key j s))
    ]
  ]

  -- ---- all

  new_row_of : (i : ℕ) (r : Current) → row_at new_rows i ≡ Some r → IsRow (chains_of new) i r
  new_row_of i r e = subst (λ (cs : List Chain). IsRow cs i r) (sym new_chains) (elim (row_cases i r e) [
    | inl u ↦
        let o = chains_of_rows in
        let n : IsRow (chains_of old ++ joined ∷ []) m.key (joined_row m.one_ends m.other_ends (length (chains_of old)) m.one m.other)
        = new_row (chains_of old) m.key m.other_key m.one m.other o.0 o.1 t.less m.one_ends m.other_ends in
        subst (λ (j : ℕ). IsRow (chains_of old ++ joined ∷ []) j r) (sym u.0)
        (subst (IsRow (chains_of old ++ joined ∷ []) m.key) (ap (λ (n : ℕ). joined_row m.one_ends m.other_ends n m.one m.other) (chains_count old) ∙ u.1) n)
    | inr u ↦ row_stays (chains_of old) (joined ∷ []) i r (w.rows i r u.2)
  ])

  new_labels : (i : ℕ) (r : Current) → row_at new_rows i ≡ Some r → IsLabelled (merged g.base) k g.labels g.keys.items i r
  new_labels i r e = elim (row_cases i r e) [
    | inl u ↦
        let o = w.labels m.key m.one t.one in
        let labels : IsLabelled (merged g.base) k g.labels g.keys.items m.key row = record { left = o.left; right = o.right; left_current = o.left_current; right_current = o.right_current; left_listed = o.left_listed; right_listed = o.right_listed } in
        subst (λ (j : ℕ). IsLabelled (merged g.base) k g.labels g.keys.items j r) (sym u.0) (subst (IsLabelled (merged g.base) k g.labels g.keys.items m.key) u.1 labels)
    | inr u ↦ w.labels i r u.2
  ]

  pub join_stored : (ends : List (Option ℕ)) (counts : List ℕ) (rows' : List (Option Current)) (edges' : List ForestEdge)
      → rows' ≡ set (set (set g.net.rows.items m.key None) m.other_key None) m.key (Some (joined_row m.one_ends m.other_ends (length g.edges.items) m.one m.other))
      → IsNetOf g.nodes rows' ends counts
      → edges' ≡ set (set g.edges.items m.one.id (ended k (edge_at g.edges.items m.one.id))) m.other.id
      (ended k (edge_at (set g.edges.items m.one.id (ended k (edge_at g.edges.items m.one.id))) m.other.id))
      ++ record { key = m.key; low = k; high = never; left = face_of g.labels m.one.left; right = face_of g.labels m.one.right; parts = meeting_parts m } ∷ []
      → IsStoredOf k g.base g.nodes rows' ends counts g.keys.items g.labels edges'
  join_stored ends counts rows' edges' er net ee = rw (er, ee) (record {
    base = w.base;
    partition = w.partition;
    steps = w.steps;
    nodes = w.nodes;
    net = subst (λ (rows : List (Option Current)). IsNetOf g.nodes rows ends counts) er net;
    count = omega (arith, length-set (set (set rows m.key None) m.other_key None) m.key (Some row), length_twice, w.count);
    faces = w.faces;
    edges = λ i l. elim (edge_cases i l) [ inl s ↦ old_edge i s | inr e ↦ last_edge i e ];
    low = λ i l. elim (edge_cases i l) [
      | inl s ↦ omega (arith, w.low i s, keeps (λ (e : ForestEdge). e.low) (λ e. refl) i s)
      | inr e ↦ omega (arith, ap (λ (e : ForestEdge). e.low) (last_is i e))
    ];
    high = λ i l. elim (edge_cases i l) [
      | inl s ↦ elim (kept i s) [
        | inl u ↦ inl (omega (arith, ap (λ (e : ForestEdge). e.high) u.1))
        | inr u ↦ elim (w.high i s) [ inl v ↦ inl (omega (arith, v, ap (λ (e : ForestEdge). e.high) u.2)) | inr v ↦ inr (ap (λ (e : ForestEdge). e.high) u.2 ∙ v) ]
      ]
      | inr e ↦ inr (ap (λ (e : ForestEdge). e.high) (last_is i e))
    ];
    order = λ i l. elim (edge_cases i l) [
      | inl s ↦ elim (kept i s) [
        | inl u ↦ omega (arith, w.low i s, ap (λ (e : ForestEdge). e.low) u.1, ap (λ (e : ForestEdge). e.high) u.1)
        | inr u ↦ omega (arith, w.order i s, ap (λ (e : ForestEdge). e.low) u.2, ap (λ (e : ForestEdge). e.high) u.2)
      ]
      | inr e ↦ omega (arith, less, ap (λ (e : ForestEdge). e.low) (last_is i e), ap (λ (e : ForestEdge). e.high) (last_is i e))
    ];
    longer = new_longer;
    latest = new_latest;
    rows = new_row_of;
    labels = new_labels;
    of_edges = of_edges;
    of_rows = of_rows;
    past = λ j l. longer_chains j old new (longer j l) ∙ w.past j l;
  })

  -- the labels of the first are labels
  pub labels_there : (m.one.left < length g.labels.faces.items) × (m.one.right < length g.labels.faces.items)
  labels_there = let labels = w.labels m.key m.one t.one in (labels.left_current.label, labels.right_current.label)

  -- the second is there too when the first has ended
  pub other_there_once : (edges : List ForestEdge) → edges ≡ set g.edges.items m.one.id (ended k (edge_at g.edges.items m.one.id)) → m.other.id < length edges
  other_there_once edges e = omega (arith, ap length e, once_length, of_other.id)

  -- what the join made
  pub joined_at : (g' : Growth) (n : ℕ) → places ≡ places_at g.nodes n → g'.base ≡ g.base → g'.nodes ≡ g.nodes
      → g'.net.rows.items ≡ set (set (set g.net.rows.items m.key None) m.other_key None) m.key (Some (joined_row m.one_ends m.other_ends (length g.edges.items) m.one m.other))
      → g'.edges.items ≡ set (set g.edges.items m.one.id (ended k (edge_at g.edges.items m.one.id))) m.other.id
      (ended k (edge_at (set g.edges.items m.one.id (ended k (edge_at g.edges.items m.one.id))) m.other.id))
      ++ record { key = m.key; low = k; high = never; left = face_of g.labels m.one.left; right = face_of g.labels m.one.right; parts = meeting_parts m } ∷ []
      → IsJoinedAt g n g'
  joined_at g' n at eb en er ee = record {
    base = eb;
    nodes = en;
    change = inr (m, subst (λ (ps : List ℕ). IsJoinOf g g' ps m) at (record { meeting = t; rows = er; chains = ap chains_of ee ∙ new_chains }));
  }

  -- the rows and the edges, as they are computed
  pub rows_by : (id : ℕ) (rows' : List (Option Current)) → id ≡ length g.edges.items
      → rows' ≡ set (set (set g.net.rows.items m.key None) m.other_key None) m.key (Some (joined_row m.one_ends m.other_ends id m.one m.other))
      → rows' ≡ set (set (set g.net.rows.items m.key None) m.other_key None) m.key (Some (joined_row m.one_ends m.other_ends (length g.edges.items) m.one m.other))
  rows_by id rows' e r = rw (sym e) r

  pub edges_by : (one two three : List ForestEdge) (left right : ℕ) (parts : List Part) → left ≡ face_of g.labels m.one.left → right ≡ face_of g.labels m.one.right → one ≡ set g.edges.items m.one.id (ended k (edge_at g.edges.items m.one.id))
      → two ≡ set one m.other.id (ended k (edge_at one m.other.id)) → parts ≡ meeting_parts m
      → three ≡ two ++ record { key = m.key; low = k; high = never; left = left; right = right; parts = parts } ∷ []
      → three ≡ set (set g.edges.items m.one.id (ended k (edge_at g.edges.items m.one.id))) m.other.id
      (ended k (edge_at (set g.edges.items m.one.id (ended k (edge_at g.edges.items m.one.id))) m.other.id))
      ++ record { key = m.key; low = k; high = never; left = face_of g.labels m.one.left; right = face_of g.labels m.one.right; parts = meeting_parts m } ∷ []
  edges_by one two three left right parts el er e1 e2 ep e3 = rw (sym el, sym er, sym e1, sym e2, sym ep) e3

  -- the edges go on
  pub join_continued : (edges' : List ForestEdge)
      → edges' ≡ set (set g.edges.items m.one.id (ended k (edge_at g.edges.items m.one.id))) m.other.id
      (ended k (edge_at (set g.edges.items m.one.id (ended k (edge_at g.edges.items m.one.id))) m.other.id))
      ++ record { key = m.key; low = k; high = never; left = face_of g.labels m.one.left; right = face_of g.labels m.one.right; parts = meeting_parts m } ∷ []
      → AreContinued g.edges.items edges'
  join_continued edges' e = rw e (record {
    count = omega (arith, new_length);
    each = λ i l. continued k less old new i (elim (kept i l) [
      | inl u ↦ inr (
        elim u.0 [
          | inl s ↦ ap (λ (n : ℕ). (edge_at old n).high) s ∙ of_one.high
          | inr s ↦ ap (λ (n : ℕ). (edge_at old n).high) s ∙ of_other.high
        ],
        u.1,
      )
      | inr u ↦ inl u.2
    ]) (old_chain i l);
  })

  -- an edge that had not ended before the step ends at it at the earliest
  high_kept : (i : ℕ) → i < length old → k ≤ (edge_at old i).high → k ≤ (edge_at new i).high
  high_kept i l h = elim (kept i l) [
    | inl u ↦ omega (arith, ap (λ (e : ForestEdge). e.high) u.1)
    | inr u ↦ omega (arith, h, ap (λ (e : ForestEdge). e.high) u.2)
  ]

  high_joined : (i : ℕ) → i < length old → (edge_at old i).high ≡ never → k ≤ (edge_at new i).high
  high_joined i l h = high_kept i l (omega (arith, h, less))

  joined_parts : (first : ℕ) → All (IsJoinedPart k first new) (meeting_parts m)
  joined_parts first = by m.one_ends
    where
      one : (turned : Bool) → IsJoinedPart k first new (edge_part m.one turned)
      one turned = record { edge = refl; there = λ q. high_joined a of_one.id of_one.high }

      other : (turned : Bool) → IsJoinedPart k first new (edge_part m.other turned)
      other turned = record { edge = refl; there = λ q. high_joined b of_other.id of_other.high }

      by : (e : Bool) → All (IsJoinedPart k first new) (cond e (edge_part m.one false ∷ edge_part m.other m.other_ends ∷ []) (edge_part m.other (not m.other_ends) ∷ edge_part m.one false ∷ []))
      by true = All-cons (IsJoinedPart k first new) (edge_part m.one false) (edge_part m.other m.other_ends ∷ []) (one false)
          (All-cons (IsJoinedPart k first new) (edge_part m.other m.other_ends) [] (other m.other_ends) (All-nil (IsJoinedPart k first new)))
      by false = All-cons (IsJoinedPart k first new) (edge_part m.other (not m.other_ends)) (edge_part m.one false ∷ []) (other (not m.other_ends))
          (All-cons (IsJoinedPart k first new) (edge_part m.one false) [] (one false) (All-nil (IsJoinedPart k first new)))

  -- the parts of the edges that the step made are edges that had not ended before it
  pub join_joined : (edges' : List ForestEdge)
      → edges' ≡ set (set g.edges.items m.one.id (ended k (edge_at g.edges.items m.one.id))) m.other.id
      (ended k (edge_at (set g.edges.items m.one.id (ended k (edge_at g.edges.items m.one.id))) m.other.id))
      ++ record { key = m.key; low = k; high = never; left = face_of g.labels m.one.left; right = face_of g.labels m.one.right; parts = meeting_parts m } ∷ []
      → (first : ℕ) → first ≤ length g.edges.items → AreJoined k first g.edges.items → AreJoined k first edges'
  join_joined edges' e first few before = rw e (λ i ge l. elim (cases_lt i (length old)) [
    | inl s ↦ subst (All (IsJoinedPart k first new)) (sym (keeps (λ (e : ForestEdge). e.parts) (λ e. refl) i s)) (λ n d q.
        let p = before i ge s n d q in
        record { edge = p.edge; there = λ q. high_kept (get_or (edge_at old i).parts n d).id (omega (arith, q, few)) (p.there q) })
    | inr z ↦ subst (All (IsJoinedPart k first new)) (sym (ap (λ (e : ForestEdge). e.parts) (last_is i (omega (arith, l, z, new_length))))) (joined_parts first)
  ])
