-- What the queues of the labels tell of the edges, as entries come and go.
use Rattle.std.proofs.Common.{◌≡◌, ◌≢◌, ◌⊎◌, inl, inr, ℕ, ◌+◌, ◌<◌, ◌≤◌, ◌==◌, ◌||◌, nat_le, Bool, true, false, cond, List, [], filter, set, length, get_or, All, AllPairs, Contains, Option, Some, None, refl, sym, ap, ◌∙◌, subst, true≢false, arith}
use Rattle.std.specs.declared.cmp.Reverse.{Reverse}
use Rattle.std.proofs.lemmas.Bool.{cases_eq, cases_lt, eq-eqb, ne_eqb, le-leb}
use Rattle.std.proofs.lemmas.List.{get_or-set_same, get_or-set_other, get_or_default}
use Rattle.std.proofs.lemmas.List.Kept.{AllPairs-filter}
use Rattle.tgap_model.specs.declared.slice.Edge.{Edge}
use Rattle.tgap_model.specs.Removals.{has_side}
use Rattle.map_laws.proofs.ChainMembers.{Among, filter_among}
use Rattle.map_laws.proofs.Lists.{all_members, members_all, among_kept}
use Rattle.removal_laws.proofs.ChainEnds.{contained, among_contained}
use Rattle.grid_index.specs.Keyed.{edge_in, edges_in, AreAtKeys}
use Rattle.vertex_drop.specs.Corners.{least_corner}
use Rattle.tgap_build.specs.declared.corner_queue.Entry.{Entry}
use Rattle.tgap_build.specs.Queue.{is_queued}
use Rattle.tgap_build.specs.Queues.{queue_at, TellAsMuch, IsQueued, IsQueuedAt, IsQueuedBeside, corner_at, is_candidate, IsBeside}
use Rattle.tgap_build.proofs.EdgeTables.{at_among}
use Rattle.tgap_build.proofs.Tables.{place_among}

abbrev Queue : Type 0
Queue = List (Reverse Entry)

-- ---- queues that tell as much

pub tell_more : (a b c : List (List (Reverse Entry))) → TellAsMuch a b → TellAsMuch b c → TellAsMuch a c
tell_more a b c f g l k n h = g l k n (f l k n h)

-- one queue comes in the place of another
module _ (queues : List (List (Reverse Entry))) (label : ℕ) (queue : List (Reverse Entry)) where
  pub set_here : label < length queues → queue_at (set queues label queue) label ≡ queue
  set_here within = get_or-set_same queues label queue [] within

  pub set_others : (l : ℕ) → l ≢ label → queue_at (set queues label queue) l ≡ queue_at queues l
  set_others l ne = get_or-set_other queues label l queue [] ne

  pub set_tells : label < length queues → ((k n : ℕ) → is_queued (queue_at queues label) k n ≡ true → is_queued queue k n ≡ true)
      → TellAsMuch queues (set queues label queue)
  set_tells within more l k n h = elim (cases_eq l label) [
    | inl e ↦
        subst (λ (q : Queue). is_queued q k n ≡ true) (sym (ap (queue_at (set queues label queue)) e ∙ set_here within))
        (more k n (subst (λ (i : ℕ). is_queued (queue_at queues i) k n ≡ true) e h))
    | inr ne ↦ subst (λ (q : Queue). is_queued q k n ≡ true) (sym (set_others l ne)) h
  ]

pub queued_on : (before after : List (List (Reverse Entry))) → TellAsMuch before after → (e : Edge) → IsQueued before e → IsQueued after e
queued_on before after more e h n is = let both = h n is in (more e.left e.key n both.0, more e.right e.key n both.1)

-- ---- one key more

-- what holds at each place below one
pub all_below : (P : ℕ → Type 0) (keys : List ℕ) (i : ℕ) → length keys ≤ i → ((j : ℕ) → j < i → j < length keys → P (get_or keys j 0)) → All P keys
all_below P keys i done h j d l = subst P (get_or_default keys j 0 d l) (h j (omega (arith, l, done)) l)

pub one_below : (P : ℕ → Type 0) (keys : List ℕ) (i : ℕ) → ((j : ℕ) → j < i → j < length keys → P (get_or keys j 0)) → P (get_or keys i 0)
    → (j : ℕ) → j < i + 1 → j < length keys → P (get_or keys j 0)
one_below P keys i h new j l s = elim (cases_lt j i) [
  | inl less ↦ h j less s
  | inr more ↦ (let e : i ≡ j = omega (arith, l, more) in subst (λ (n : ℕ). P (get_or keys n 0)) e new)
]

-- ---- the corners of the edges with a label

abbrev corner_of : ℕ → Option Edge → Option ℕ
corner_of label o = elim o [ None ↦ None | Some e ↦ cond (has_side label e) (least_corner e.points) None ]

abbrev is_within : ℕ → Option ℕ → Bool
is_within limit o = elim o [ None ↦ false | Some n ↦ nat_le n limit ]

module _ (places : List (Option Edge)) (keyed : AreAtKeys places) (label limit : ℕ) where
  -- the least corner at the key of an edge with the label is that of the edge
  corner_is : (e : Edge) → Among e (edges_in places) → has_side label e ≡ true → corner_at places label e.key ≡ least_corner e.points
  corner_is e m side = ap (corner_of label) (place_among places keyed e m) ∙ ap (λ (b : Bool). cond b (least_corner e.points) None) side

  candidate_is : (e : Edge) → Among e (edges_in places) → has_side label e ≡ true → (n : ℕ) → least_corner e.points ≡ Some n → n ≤ limit → is_candidate places label limit e.key ≡ true
  candidate_is e m side n is le = ap (is_within limit) (corner_is e m side ∙ is) ∙ le-leb n limit le

  beside_from : (k : ℕ) → is_candidate places label limit k ≡ true → IsBeside (edges_in places) label k
  beside_from k h = by (edge_in places k) refl h
    where
      by : (o : Option Edge) → edge_in places k ≡ o → is_within limit (corner_of label o) ≡ true → IsBeside (edges_in places) label k
      by None is t = absurd (true≢false (sym t))
      by (Some e) is t = (e, contained (edges_in places) e (at_among places k e is), keyed k e is, side (has_side label e) refl t)
        where
          side : (b : Bool) → has_side label e ≡ b → is_within limit (cond b (least_corner e.points) None) ≡ true → has_side label e ≡ true
          side true is u = is
          side false is u = absurd (true≢false (sym u))

  module _ (taken : List ℕ) where
    pub candidates_ascend : AllPairs (λ j k. j < k) taken → AllPairs (λ j k. j < k) (filter (is_candidate places label limit) taken)
    candidates_ascend up = AllPairs-filter (λ (j k : ℕ). j < k) (is_candidate places label limit) taken up

    pub candidates_beside : All (IsBeside (edges_in places) label) (filter (is_candidate places label limit) taken)
    candidates_beside = all_members (IsBeside (edges_in places) label) (filter (is_candidate places label limit) taken) (λ k m. beside_from k (filter_among (is_candidate places label limit) taken k m))

    pub candidate_among : (e : Edge) → Contains (edges_in places) e → has_side label e ≡ true → (n : ℕ) → least_corner e.points ≡ Some n → n ≤ limit → Contains taken e.key
        → Contains (filter (is_candidate places label limit) taken) e.key
    candidate_among e c side n is le t =
        contained (filter (is_candidate places label limit) taken) e.key
        (among_kept (is_candidate places label limit) taken e.key (among_contained taken e.key t) (candidate_is e (among_contained (edges_in places) e c) side n is le))

  -- the queue of the label gives some keys, and what it told of them is put back
  module _ (queues after : List (List (Reverse Entry))) (queue : List (Reverse Entry)) (taken : List ℕ) (within : label < length queues)
      (others : (k n : ℕ) → is_queued (queue_at queues label) k n ≡ true → Contains taken k ⊎ (is_queued queue k n ≡ true))
      (back : All (IsQueuedBeside places after label) taken) (more : TellAsMuch (set queues label queue) after) where
    side_kept : (e : Edge) → Among e (edges_in places) → (n : ℕ) → least_corner e.points ≡ Some n → (l : ℕ) → has_side l e ≡ true
        → is_queued (queue_at queues l) e.key n ≡ true → is_queued (queue_at after l) e.key n ≡ true
    side_kept e m n is l side h = elim (cases_eq l label) [
      | inl s ↦
          (let here : is_queued (queue_at after label) e.key n ≡ true = elim (others e.key n (subst (λ (i : ℕ). is_queued (queue_at queues i) e.key n ≡ true) s h)) [
            | inl gone ↦ members_all (IsQueuedBeside places after label) taken e.key back (among_contained taken e.key gone) n (corner_is e m (subst (λ (i : ℕ). has_side i e ≡ true) s side) ∙ is)
            | inr left ↦ more label e.key n (subst (λ (q : Queue). is_queued q e.key n ≡ true) (sym (set_here queues label queue within)) left)
          ] in
          subst (λ (i : ℕ). is_queued (queue_at after i) e.key n ≡ true) (sym s) here)
      | inr ne ↦ more l e.key n (subst (λ (q : Queue). is_queued q e.key n ≡ true) (sym (set_others queues label queue l ne)) h)
    ]

    left_side : (e : Edge) → has_side e.left e ≡ true
    left_side e = ap (λ (b : Bool). b || (e.right == e.left)) (eq-eqb e.left e.left refl)

    right_side : (e : Edge) → has_side e.right e ≡ true
    right_side e = or_true (e.left == e.right) (eq-eqb e.right e.right refl)
      where
        or_true : (b : Bool) → (e.right == e.right) ≡ true → (b || (e.right == e.right)) ≡ true
        or_true true h = refl
        or_true false h = h

    pub all_put_back : All (IsQueued queues) (edges_in places) → All (IsQueued after) (edges_in places)
    all_put_back each = all_members (IsQueued after) (edges_in places) (λ e m n is.
        let both = members_all (IsQueued queues) (edges_in places) e each m n is in
        (side_kept e m n is e.left (left_side e) both.0, side_kept e m n is e.right (right_side e) both.1))

-- what the queue of a label that an edge has tells of the edge
pub told_beside : (queues : List (List (Reverse Entry))) (e : Edge) (label n : ℕ) → IsQueued queues e → has_side label e ≡ true → least_corner e.points ≡ Some n
    → is_queued (queue_at queues label) e.key n ≡ true
told_beside queues e label n h side is = elim (cases_eq e.left label) [
  | inl s ↦ subst (λ (l : ℕ). is_queued (queue_at queues l) e.key n ≡ true) s (h n is).0
  | inr ne ↦ elim (cases_eq e.right label) [
    | inl s ↦ subst (λ (l : ℕ). is_queued (queue_at queues l) e.key n ≡ true) s (h n is).1
    | inr other ↦ absurd (true≢false (sym side ∙ ap (λ (a : Bool). a || (e.right == label)) (ne_eqb e.left label ne) ∙ ne_eqb e.right label other))
  ]
]

-- ---- other edges than before

pub kept_but_queued : (places : List (Option Edge)) → AreAtKeys places → (before : List Edge) (keys : List ℕ) (queues after : List (List (Reverse Entry)))
    → All (IsQueued queues) before → TellAsMuch queues after → All (IsQueuedAt places after) keys → All (λ e. Contains before e ⊎ Contains keys e.key) (edges_in places)
    → All (IsQueued after) (edges_in places)
kept_but_queued places keyed before keys queues after each more put kept = all_members (IsQueued after) (edges_in places) (λ e m.
    elim (members_all (λ (f : Edge). Contains before f ⊎ Contains keys f.key) (edges_in places) e kept m) [
      | inl old ↦ queued_on queues after more e (members_all (IsQueued queues) before e each (among_contained before e old))
      | inr new ↦ members_all (IsQueuedAt places after) keys e.key put (among_contained keys e.key new) e (place_among places keyed e m)
    ])
