-- The spans of parts, of the parts of an edge one after the other, and of the edges of a table.
use Rattle.std.proofs.Common.{◌≡◌, ⊎_elim, ℕ, suc, ◌+◌, ◌-◌, ◌<◌, ◌≤◌, max, Bool, true, false, cond, List, All, [], ◌∷◌, ◌++◌, take, length, get_or, refl, sym, ap, ◌∙◌, subst, arith}
use Rattle.std.proofs.Math.Nat.{le-max_left, le-max_right}
use Rattle.std.proofs.lemmas.Bool.{cases_lt}
use Rattle.std.proofs.lemmas.List.{append-nil, take_more, get_or_append_left, get_or_push, get_or_read, length_push}
use Rattle.std.proofs.lemmas.List.Concat.{flat_map-append}
use Rattle.std.proofs.lemmas.List.Elements.{All-nil, All-cons}
use Rattle.tgap_model.specs.declared.base.BaseArc.{BaseArc}
use Rattle.tgap_model.specs.declared.geometry.Point.{Point}
use Rattle.tgap_model.specs.Chains.{Link, Chain, last_point, turned_round, has_links}
use Rattle.edge_forest.specs.declared.edge.Part.{Part}
use Rattle.edge_forest.specs.declared.edge.ForestEdge.{ForestEdge}
use Rattle.edge_forest.specs.declared.span.Span.{Span}
use Rattle.edge_forest.specs.Edges.{IsPart, edge_at, whole_part, part_chain, parts_chain, chains_of, chain_of}
use Rattle.edge_forest.specs.Removed.{PointSteps}
use Rattle.edge_forest.specs.Spent.{is_left, IsBare, gone_step, is_past, turned_span, joined_span, IsSpan, whole_span, part_span, AreArcSteps, AreSpans}
use Rattle.edge_forest.specs.Walks.{IsMadeOfEarlier}
use Rattle.edge_forest.proofs.BareChains.{past_before, gone_is_past, span_turned, span_joined}
use Rattle.edge_forest.proofs.Walks.{chain_step}

abbrev pub no_span : Span
no_span = record { step = 0; first = record { arc = 0; turned = false }; last = record { arc = 0; turned = false } }

-- the last point of a row stands at its last place
pub last_at : (ps : List Point) (d : Point) → 1 ≤ length ps → get_or ps (length ps - 1) d ≡ last_point ps
last_at [] d l = absurd (omega arith)
last_at (p ∷ []) d l = refl
last_at (p ∷ q ∷ ps) d l =
    let next : length (p ∷ q ∷ ps) - 1 ≡ suc (length (q ∷ ps) - 1) = omega arith in
    ap (λ (n : ℕ). get_or (p ∷ q ∷ ps) n d) next ∙ last_at (q ∷ ps) d (omega arith)

-- ---- the step of an arc

-- after the step none of the points of a row is left, from the second one on and before this place
abbrev pub AreGone : PointSteps → List Point → ℕ → ℕ → Type 0
AreGone t ps i step = (k : ℕ) → is_past step k ≡ true → (j : ℕ) (d : Point) → 0 < j → j < i → is_left t k (get_or ps j d) ≡ false

pub gone_next : (t : PointSteps) (ps : List Point) (i step : ℕ) (p : Point) → i < length ps → p ≡ get_or ps i p → AreGone t ps i step
    → AreGone t ps (i + 1) (max step (gone_step t p))
gone_next t ps i step p l read old k past j d positive less = ⊎_elim before here (cases_lt j i)
  where
    before : j < i → is_left t k (get_or ps j d) ≡ false
    before lt = old k (past_before step (max step (gone_step t p)) k (le-max_left step (gone_step t p)) past) j d positive lt

    here : i ≤ j → is_left t k (get_or ps j d) ≡ false
    here le =
        let same : j ≡ i = omega (arith, le, less) in
        ap (is_left t k) (ap (λ (n : ℕ). get_or ps n d) same ∙ sym (get_or_read ps i p l read d))
        ∙ gone_is_past t p k (past_before (gone_step t p) (max step (gone_step t p)) k (le-max_right step (gone_step t p)) past)

module _ (arcs : List BaseArc) (long : All (λ a. 2 ≤ length a.points) arcs) (t : PointSteps) where
  -- the span of a part by the tables
  pub part_is_span : (chains : List Chain) (steps : List ℕ) (spans : List Span) (p : Part) → length steps ≡ length arcs
      → AreArcSteps arcs t steps → AreSpans arcs t chains spans → (p.leaf ≡ true → p.id < length steps) → (p.leaf ≡ false → p.id < length spans)
      → IsSpan arcs t (part_chain chains p) (part_span steps spans p)
  part_is_span chains steps spans p count arc_steps edge_spans of_arc of_edge = by_turned p.turned
    where
      alone : Chain
      alone = record { arc = p.id; turned = false } ∷ []

      arc_span : Span
      arc_span = record { step = get_or steps p.id 0; first = record { arc = p.id; turned = false }; last = record { arc = p.id; turned = false } }

      by_leaf : (b : Bool) → p.leaf ≡ b → IsSpan arcs t (cond b alone (get_or chains p.id [])) (cond b arc_span (get_or spans p.id no_span))
      by_leaf true e =
          let within = of_arc e in
          let small : p.id < length arcs = omega (arith, within, count) in
          record {
            links = refl;
            known = All-cons (λ (d : Link). d.arc < length arcs) (record { arc = p.id; turned = false }) [] small (All-nil (λ (d : Link). d.arc < length arcs));
            first_arc = small;
            last_arc = small;
            first = refl;
            last = refl;
            bare = λ k past. arc_steps p.id within k past;
          }
      by_leaf false e = edge_spans p.id (of_edge e)

      whole : IsSpan arcs t (whole_part chains p) (whole_span steps spans p)
      whole = by_leaf p.leaf refl

      by_turned : (b : Bool) → IsSpan arcs t (cond b (turned_round (whole_part chains p)) (whole_part chains p)) (cond b (turned_span (whole_span steps spans p)) (whole_span steps spans p))
      by_turned true = span_turned arcs long t (whole_part chains p) (whole_span steps spans p) whole
      by_turned false = whole

  pub listed_part : (edges : List ForestEdge) (steps : List ℕ) (spans : List Span) (id : ℕ) (parts : List Part) → parts ≡ (edge_at edges id).parts
      → All (IsPart (length arcs) id) (edge_at edges id).parts → length steps ≡ length arcs → length spans ≡ id
      → AreArcSteps arcs t steps → AreSpans arcs t (chains_of edges) spans → (i : ℕ) (d : Part) → i < length parts
      → IsSpan arcs t (part_chain (chains_of edges) (get_or parts i d)) (part_span steps spans (get_or parts i d))
  listed_part edges steps spans id parts same known count before arc_steps edge_spans i d l =
      let p = get_or parts i d in
      let part = subst (All (IsPart (length arcs) id)) (sym same) known i d l in
      part_is_span (chains_of edges) steps spans p count arc_steps edge_spans (λ e. omega (arith, part.arc e, count)) (λ e. omega (arith, part.edge e, before))

  -- the first part of an edge, and each next one
  pub first_part : (chains : List Chain) (parts : List Part) (d : Part) (s : Span) → 0 < length parts → IsSpan arcs t (part_chain chains (get_or parts 0 d)) s
      → IsSpan arcs t (parts_chain chains (take 1 parts)) s
  first_part chains [] d s l w = absurd (omega arith)
  first_part chains (p ∷ parts) d s l w = subst (λ (c : Chain). IsSpan arcs t c s) (sym (append-nil (part_chain chains p))) w

  pub next_part : (chains : List Chain) (parts : List Part) (i : ℕ) (d : Part) (a b : Span) → i < length parts
      → IsSpan arcs t (parts_chain chains (take i parts)) a → IsSpan arcs t (part_chain chains (get_or parts i d)) b
      → IsSpan arcs t (parts_chain chains (take (i + 1) parts)) (joined_span arcs t a b)
  next_part chains parts i d a b l v w =
      let p = get_or parts i d in
      let before = parts_chain chains (take i parts) in
      subst (λ (c : Chain). IsSpan arcs t c (joined_span arcs t a b))
      (sym (ap (parts_chain chains) (take_more parts i d l)
      ∙ flat_map-append (part_chain chains) (take i parts) (p ∷ [])
      ∙ ap (λ (c : Chain). before ++ c) (append-nil (part_chain chains p))))
      (span_joined arcs long t before (part_chain chains p) a b v w)

  -- ---- tables

  pub steps_pushed : (steps : List ℕ) (s : ℕ) → AreArcSteps arcs t steps
      → ((k : ℕ) → is_past s k ≡ true → IsBare arcs t k (record { arc = length steps; turned = false } ∷ [])) → AreArcSteps arcs t (steps ++ s ∷ [])
  steps_pushed steps s old new i l k past = ⊎_elim before here (cases_lt i (length steps))
    where
      before : i < length steps → IsBare arcs t k (record { arc = i; turned = false } ∷ [])
      before less = old i less k (subst (λ (n : ℕ). is_past n k ≡ true) (get_or_append_left steps (s ∷ []) 0 i less) past)

      here : length steps ≤ i → IsBare arcs t k (record { arc = i; turned = false } ∷ [])
      here le =
          let same : i ≡ length steps = omega (arith, le, l, length_push steps s) in
          subst (λ (n : ℕ). IsBare arcs t k (record { arc = n; turned = false } ∷ [])) (sym same)
          (new k (subst (λ (n : ℕ). is_past n k ≡ true) (get_or_push steps s 0 i (sym same)) past))

  pub spans_pushed : (chains : List Chain) (spans : List Span) (s : Span) → AreSpans arcs t chains spans → IsSpan arcs t (get_or chains (length spans) []) s
      → AreSpans arcs t chains (spans ++ s ∷ [])
  spans_pushed chains spans s old new i l = ⊎_elim before here (cases_lt i (length spans))
    where
      before : i < length spans → IsSpan arcs t (get_or chains i []) (get_or (spans ++ s ∷ []) i no_span)
      before less = subst (IsSpan arcs t (get_or chains i [])) (sym (get_or_append_left spans (s ∷ []) no_span i less)) (old i less)

      here : length spans ≤ i → IsSpan arcs t (get_or chains i []) (get_or (spans ++ s ∷ []) i no_span)
      here le =
          let same : i ≡ length spans = omega (arith, le, l, length_push spans s) in
          subst (IsSpan arcs t (get_or chains i [])) (sym (get_or_push spans s no_span i (sym same)))
          (subst (λ (n : ℕ). IsSpan arcs t (get_or chains n []) s) (sym same) new)

-- an edge whose chain has arcs has parts
pub some_parts : (edges : List ForestEdge) → IsMadeOfEarlier edges → (i : ℕ) → i < length edges → has_links (chain_of edges i) ≡ true → 0 < length (edge_at edges i).parts
some_parts edges made i l h = by (edge_at edges i).parts (sym (ap has_links (chain_step edges made i l)) ∙ h)
  where
    by : (parts : List Part) → has_links (parts_chain (chains_of edges) parts) ≡ true → 0 < length parts
    by [] e = absurd cc
    by (p ∷ parts) e = omega arith
