-- The walk along an edge that writes the points that are left, from the last one to the first.
use Rattle.std.proofs.Common.{◌≡◌, ℕ, ◌<◌, ◌≤◌, Bool, true, false, cond, ◌||◌, List, All, [], ◌∷◌, ◌++◌, flat_map, filter, reverse, sum_by, drop, length, get_or, append_assoc, refl, sym, ap, ap₂, ◌∙◌, subst, arith}
use Rattle.std.proofs.lemmas.List.{append-nil, reverse-append, reverse-reverse}
use Rattle.std.proofs.lemmas.List.Concat.{flat_map-append}
use Rattle.std.proofs.lemmas.List.Elements.{filter-append, All-append, All-weaker, All-map}
use Rattle.std.proofs.lemmas.List.Sums.{sum_by-append, sum_by-cons}
use Rattle.std.proofs.lemmas.List.Sorted.{IsPermutation-reverse, All-permutation}
use Rattle.tgap_model.specs.declared.geometry.Point.{Point}
use Rattle.tgap_model.specs.declared.base.BaseArc.{BaseArc}
use Rattle.tgap_model.specs.Chains.{Chain, link_points, link_start, link_end, chain_start, chain_end, chain_points, turned_round}
use Rattle.edge_forest.specs.declared.edge.Part.{Part}
use Rattle.edge_forest.specs.declared.edge.ForestEdge.{ForestEdge}
use Rattle.edge_forest.specs.declared.span.Span.{Span}
use Rattle.edge_forest.specs.Edges.{IsPart, edge_at, part_chain, parts_chain, chains_of, chain_of}
use Rattle.edge_forest.specs.Removed.{PointSteps}
use Rattle.edge_forest.specs.declared.spent.Spent.{Spent}
use Rattle.edge_forest.specs.Spent.{is_left, left_points, is_past, turned_span, IsSpan, part_span, AreSpent}
use Rattle.edge_forest.specs.Walks.{chain_link, IsMadeOfEarlier, turned_part, turned_parts, inner_parts}
use Rattle.edge_forest.proofs.BareChains.{filter_reverse, chain_starts, append_points}
use Rattle.edge_forest.proofs.PartSpans.{no_span, part_is_span}
use Rattle.edge_forest.proofs.Walks.{part_size, sizes_of, size_step, popped_known, visit_edge}

-- the first of the points is left
abbrev pub starts_left : (Point → Bool) → List Point → Bool
starts_left L [] = false
starts_left L (p ∷ ps) = L p

-- What is written so far: the parts in the stack are still to come, and the points of the arcs behind them that are left stand in the
-- row, the last one first.
pub record IsWritten (arcs : List BaseArc) (t : PointSteps) (k : ℕ) (edges : List ForestEdge) (id : ℕ) (stack : List Part) (row : List Point) (start : Bool) : Type 0 where
  pub known : All (IsPart (length arcs) (length edges)) stack
  pub done : Chain
  pub chain : parts_chain (chains_of edges) stack ++ done ≡ chain_of edges id
  pub points : reverse row ≡ filter (is_left t k) (chain_points arcs done)
  pub first : start ≡ starts_left (is_left t k) (chain_points arcs done)

-- the points behind the first one that are left
dropped_left : (L : Point → Bool) (ps : List Point) → cond (starts_left L ps) (drop 1 (filter L ps)) (filter L ps) ≡ filter L (drop 1 ps)
dropped_left L [] = refl
dropped_left L (p ∷ ps) = by (L p)
  where
    by : (v : Bool) → cond v (drop 1 (cond v (p ∷ filter L ps) (filter L ps))) (cond v (p ∷ filter L ps) (filter L ps)) ≡ filter L ps
    by true = refl
    by false = refl

-- a row that begins with this point and goes on
starts_with : (L : Point → Bool) (s : Point) (ps qs rs : List Point) → ps ≡ s ∷ qs → starts_left L (ps ++ rs) ≡ L s
starts_with L s ps qs rs e = ap (λ (ps : List Point). starts_left L (ps ++ rs)) e

-- ---- the parts of a part

parts_further : (arcs n m : ℕ) → n ≤ m → (parts : List Part) → All (IsPart arcs n) parts → All (IsPart arcs m) parts
parts_further arcs n m l parts all =
    All-weaker (IsPart arcs n) (IsPart arcs m) (λ p h. record { arc = h.arc; edge = λ e. let less = h.edge e in omega (arith, less, l) }) parts all

pub inner_are_parts : (arcs : ℕ) (edges : List ForestEdge) → ((i : ℕ) → i < length edges → All (IsPart arcs i) (edge_at edges i).parts) → (p : Part) → p.id < length edges
    → All (IsPart arcs (length edges)) (inner_parts edges p)
inner_are_parts arcs edges each p l = by p.turned
  where
    parts : List Part
    parts = (edge_at edges p.id).parts

    all : All (IsPart arcs (length edges)) parts
    all = parts_further arcs p.id (length edges) (omega (arith, l)) parts (each p.id l)

    by : (b : Bool) → All (IsPart arcs (length edges)) (cond b (turned_parts parts) parts)
    by true =
        All-map (IsPart arcs (length edges)) turned_part (reverse parts)
        (All-weaker (IsPart arcs (length edges)) (λ q. IsPart arcs (length edges) (turned_part q)) (λ q h. record { arc = h.arc; edge = h.edge }) (reverse parts)
        (All-permutation (IsPart arcs (length edges)) parts (reverse parts) (IsPermutation-reverse parts) all))
    by false = all

-- a part that is an arc
pub alone : (chains : List Chain) (steps : List ℕ) (spans : List Span) (p : Part) (s : Span) → p.leaf ≡ true → s ≡ part_span steps spans p
    → part_chain chains p ≡ chain_link s.first ∷ []
alone chains steps spans p s leaf same = by p.leaf p.turned leaf ∙ ap (λ (s : Span). chain_link s.first ∷ []) (sym same)
  where
    arc_span : Span
    arc_span = record { step = get_or steps p.id 0; first = record { arc = p.id; turned = false }; last = record { arc = p.id; turned = false } }

    arc : Chain
    arc = record { arc = p.id; turned = false } ∷ []

    by : (b v : Bool) → b ≡ true → cond v (turned_round (cond b arc (get_or chains p.id []))) (cond b arc (get_or chains p.id []))
        ≡ chain_link (cond v (turned_span (cond b arc_span (get_or spans p.id no_span))) (cond b arc_span (get_or spans p.id no_span))).first ∷ []
    by true true e = refl
    by true false e = refl
    by false v e = absurd cc

-- one of two
pub other_true : (a b : Bool) → (a || b) ≡ true → b ≡ false → a ≡ true
other_true true b e f = refl
other_true false b e f = absurd cc

-- ---- a part is written

module _ (arcs : List BaseArc) (long : All (λ a. 2 ≤ length a.points) arcs) (t : PointSteps) (k : ℕ) where
  -- an arc, or a part of which only the ends can be left
  pub part_points : (c : Chain) (s : Span) → IsSpan arcs t c s → (is_past s.step k ≡ false → c ≡ chain_link s.first ∷ [])
      → filter (is_left t k) (cond (is_past s.step k) (link_end arcs (chain_link s.last) ∷ link_start arcs (chain_link s.first) ∷ []) (reverse (link_points arcs (chain_link s.first))))
      ≡ reverse (left_points arcs t k c)
  part_points c s w alone = by (is_past s.step k) refl
    where
      by : (b : Bool) → is_past s.step k ≡ b
          → filter (is_left t k) (cond b (link_end arcs (chain_link s.last) ∷ link_start arcs (chain_link s.first) ∷ []) (reverse (link_points arcs (chain_link s.first))))
          ≡ reverse (left_points arcs t k c)
      by true e =
          ap₂ (λ (p q : Point). filter (is_left t k) (p ∷ q ∷ [])) w.last w.first
          ∙ filter_reverse (is_left t k) (chain_start arcs c ∷ chain_end arcs c ∷ [])
          ∙ ap reverse (sym (w.bare k e).along)
      by false e =
          filter_reverse (is_left t k) (link_points arcs (chain_link s.first))
          ∙ ap (λ (c : Chain). reverse (left_points arcs t k c)) (sym (alone e))

  -- the span of the part at the end of the stack
  pub popped_span : (edges : List ForestEdge) (spent : Spent) (old stack : List Part) (p : Part) (s : Span) → AreSpent arcs t edges spent → old ≡ stack ++ p ∷ []
      → All (IsPart (length arcs) (length edges)) old → s ≡ part_span spent.arcs.items spent.edges.items p → IsSpan arcs t (part_chain (chains_of edges) p) s
  popped_span edges spent old stack p s w popped known same =
      let part = (popped_known (IsPart (length arcs) (length edges)) old stack p popped known).1 in
      subst (IsSpan arcs t (part_chain (chains_of edges) p)) (sym same)
      (part_is_span arcs long t (chains_of edges) spent.arcs.items spent.edges.items p w.arcs_count w.arc_steps w.edge_spans
      (λ e. omega (arith, part.arc e, w.arcs_count)) (λ e. omega (arith, part.edge e, w.edges_count)))

  module _ (edges : List ForestEdge) (id : ℕ) (old stack : List Part) (p : Part) (popped : old ≡ stack ++ p ∷ []) where
    -- the part is written, and the point at which the one behind it starts is taken out
    pub part_written : (s : Span) (row mid new : List Point) (start start' : Bool) → IsWritten arcs t k edges id old row start
        → IsSpan arcs t (part_chain (chains_of edges) p) s → reverse mid ≡ cond start (drop 1 (reverse row)) (reverse row)
        → new ≡ mid ++ reverse (left_points arcs t k (part_chain (chains_of edges) p)) → start' ≡ is_left t k (link_start arcs (chain_link s.first))
        → IsWritten arcs t k edges id stack new start'
    part_written s row mid new start start' w span taken pushed first =
        let L = is_left t k in
        let f = part_chain (chains_of edges) in
        let c = f p in
        let more = append_points arcs long c w.done span.links span.known in
        let starts = chain_starts arcs long c span.links span.known in
        record {
          known = (popped_known (IsPart (length arcs) (length edges)) old stack p popped w.known).0;
          done = c ++ w.done;
          chain = sym (append_assoc (parts_chain (chains_of edges) stack) c w.done)
              ∙ ap (λ (e : Chain). e ++ w.done)
              (ap (λ (e : Chain). flat_map f stack ++ e) (sym (append-nil c)) ∙ sym (flat_map-append f stack (p ∷ [])) ∙ ap (flat_map f) (sym popped))
              ∙ w.chain;
          points = ap reverse pushed
              ∙ reverse-append mid (reverse (left_points arcs t k c))
              ∙ ap₂ (λ (ps qs : List Point). ps ++ qs) (reverse-reverse (left_points arcs t k c))
              (taken
              ∙ ap (λ (ps : List Point). cond start (drop 1 ps) ps) w.points
              ∙ ap (λ (b : Bool). cond b (drop 1 (filter L (chain_points arcs w.done))) (filter L (chain_points arcs w.done))) w.first
              ∙ dropped_left L (chain_points arcs w.done))
              ∙ sym (filter-append L (chain_points arcs c) (drop 1 (chain_points arcs w.done)))
              ∙ ap (filter L) (sym more);
          first = first ∙ ap L span.first
              ∙ sym (ap (starts_left L) more ∙ starts_with L (chain_start arcs c) (chain_points arcs c) starts.0 (drop 1 (chain_points arcs w.done)) starts.1);
        }

    -- the parts of the part go to the stack
    pub part_opened : (row : List Point) (start : Bool) → ((i : ℕ) → i < length edges → All (IsPart (length arcs) i) (edge_at edges i).parts) → IsMadeOfEarlier edges
        → IsWritten arcs t k edges id old row start → p.leaf ≡ false → p.id < length edges → IsWritten arcs t k edges id (stack ++ inner_parts edges p) row start
    part_opened row start each made w edge l = record {
      known = All-append (IsPart (length arcs) (length edges)) stack (inner_parts edges p)
          (popped_known (IsPart (length arcs) (length edges)) old stack p popped w.known).0 (inner_are_parts (length arcs) edges each p l);
      done = w.done;
      chain = visit_edge edges made old stack p popped edge l w.done (chain_of edges id) w.chain;
      points = w.points;
      first = w.first;
    }

-- fewer parts are left when one is taken
pub taken_smaller : (edges : List ForestEdge) → IsMadeOfEarlier edges → (old stack : List Part) (p : Part) → old ≡ stack ++ p ∷ [] → (p.leaf ≡ false → p.id < length edges)
    → sum_by (part_size (sizes_of edges)) stack < sum_by (part_size (sizes_of edges)) old
taken_smaller edges made old stack p popped of_edge =
    let f = part_size (sizes_of edges) in
    omega (arith, ap (sum_by f) popped, sum_by-append f stack (p ∷ []), sum_by-cons f p [], some p.leaf refl)
  where
    some : (b : Bool) → p.leaf ≡ b → 1 ≤ cond b 1 (get_or (sizes_of edges) p.id 1)
    some true e = omega arith
    some false e = omega (arith, size_step edges made p.id (of_edge e))
