-- One step of the history after the other: the forest is at rest again.
use Rattle.std.proofs.Common.{◌≡◌, ◌≢◌, ◌↔◌, inl, inr, ℕ, ◌+◌, ◌-◌, ◌<◌, ◌≤◌, List, [], ◌++◌, map, filter, length, get_or, set, count_by, Option, refl, sym, ap, ap₂, ◌∙◌, subst, arith}
use Rattle.std.specs.Prelude.{Contains}
use Rattle.std.specs.List.{All, range_with_len}
use Rattle.std.specs.List.Sorted.{IsStrictlyIncreasing}
use Rattle.std.proofs.lemmas.List.{get_or_default, get_or-set_other}
use Rattle.lemmas.proofs.Members.{All-from_members}
use Rattle.tgap_model.specs.declared.merge.MergeStep.{MergeStep}
use Rattle.tgap_model.specs.Base.{BaseMap}
use Rattle.tgap_model.specs.History.{history_of}
use Rattle.tgap_model.specs.Merged.{merged, step_number}
use Rattle.tgap_model.specs.Chains.{degree}
use Rattle.map_laws.proofs.JoinSteps.{AreJoined}
use Rattle.map_laws.proofs.ChainsStep.{Both}
use Rattle.edge_forest.specs.declared.face_labels.FaceLabels.{FaceLabels}
use Rattle.edge_forest.specs.declared.face_labels.Sides.{Sides}
use Rattle.edge_forest.specs.declared.growth.Growth.{Growth}
use Rattle.edge_forest.specs.declared.net.Current.{Current}
use Rattle.edge_forest.specs.declared.net.Net.{Net}
use Rattle.edge_forest.specs.declared.nodes.Nodes.{Nodes}
use Rattle.edge_forest.specs.FaceLabels.{label_of, sides_of}
use Rattle.edge_forest.specs.Nodes.{node_at}
use Rattle.edge_forest.specs.Forest.{never}
use Rattle.edge_forest.specs.Settle.{is_ending}
use Rattle.edge_forest.specs.Start.{single}
use Rattle.edge_forest.specs.Growth.{rows_of, keys_at, keys_with, has_row, IsStored, IsAtRest, IsFew, IsTouched, IsSettled, IsJoinedInTurn}
use Rattle.edge_forest.specs.Growth as stored
use Rattle.edge_forest.proofs.InTurn.{turn_same, turn_joined}
use Rattle.edge_forest.proofs.KeyLists.{HasLists, lists_more}
use Rattle.edge_forest.proofs.StepJoints as step
use Rattle.edge_forest.proofs.StartJoints as start
use Rattle.edge_forest.proofs.Rested.{at_rest}

-- from single arcs
pub rest_after_start : (g g' : Growth) → IsStored 0 g → stored.family_of g ≡ map single (range_with_len 0 (length g.base.arcs)) → (joints : List ℕ) → IsStrictlyIncreasing joints
    → ((n : ℕ) → Contains joints n ↔ (Contains g.nodes.node_of.items n × (get_or g.net.counts.items n 0 ≡ 2)))
    → IsJoinedInTurn 0 g joints g' → IsStored 0 g' → IsAtRest 0 g'
rest_after_start g g' w singles joints ascend members turn w' =
    let next = start.start_next g w singles joints ascend members in
    let a = turn_joined 0 g.base g.nodes joints (start.points g w singles joints ascend members).points g g' refl refl turn w (λ q. ⊥)
    (start.start_joined g w singles) next (start.start_points g w singles joints ascend members) in
    at_rest 0 g' w' (omega arith) (subst (λ (m : BaseMap). AreJoined (merged m) 0 (λ q. degree (merged m) 0 q ≡ 2) (stored.family_of g')) (sym (turn_same 0 g g' joints turn).0) a)

-- from one step to the next
pub rest_after_step : (k : ℕ) (g g' g'' : Growth) (s : MergeStep) (touched joints : List ℕ) → IsAtRest k g → k < length (history_of g.base) → s ≡ step_number (merged g.base) (k + 1)
    → IsSettled s g g' touched → IsStored (k + 1) g' → IsStrictlyIncreasing joints
    → ((n : ℕ) → Contains joints n ↔ (Contains touched n × (get_or g'.net.counts.items n 0 ≡ 2)))
    → IsJoinedInTurn (k + 1) g' joints g'' → IsStored (k + 1) g'' → k + 1 < never → IsAtRest (k + 1) g''
rest_after_step k g g' g'' s touched joints rest more is settled w' ascend members turn w'' small =
    let a = turn_joined (k + 1) g.base g.nodes joints (step.points k g g' rest more s is touched settled w' joints ascend members).points g' g'' settled.base settled.nodes turn w'
    (Both (merged g.base) k (step.numbered k g g' rest more s is touched settled w') more (step.based k g g' rest more s is touched settled w') (step.even k g g' rest more s is touched settled w'))
    (step.settled_joined k g g' rest more s is touched settled w') (step.step_next k g g' rest more s is touched settled w' joints ascend members)
    (step.step_points k g g' rest more s is touched settled w' joints ascend members) in
    at_rest (k + 1) g'' w'' small
    (subst (λ (m : BaseMap). AreJoined (merged m) (k + 1) (λ q. degree (merged m) (k + 1) q ≡ 2) (stored.family_of g'')) (sym ((turn_same (k + 1) g' g'' joints turn).0 ∙ settled.base)) a)

-- ---- as it is made

-- The same forest, but that more keys may be listed, and for the room that is taken.
pub record IsMoreListed (g g' : Growth) : Type 0 where
  pub base : g'.base ≡ g.base
  pub nodes : g'.nodes ≡ g.nodes
  pub net : g'.net ≡ g.net
  pub labels : g'.labels ≡ g.labels
  pub edges : g'.edges.items ≡ g.edges.items
  pub lists : HasLists g.keys.items g'.keys.items

-- a forest is at rest also where more keys are listed
pub rest_listed : (k : ℕ) (g g' : Growth) → IsAtRest k g → IsMoreListed g g' → IsAtRest k g'
rest_listed k g g' w more = record {
  stored = rw (more.base, more.nodes, more.net, more.labels, more.edges) (record {
    base = w.stored.base;
    partition = w.stored.partition;
    steps = w.stored.steps;
    nodes = w.stored.nodes;
    net = w.stored.net;
    count = w.stored.count;
    faces = record {
      lists_count = more.lists.count ∙ w.stored.faces.lists_count;
      faces_count = w.stored.faces.faces_count;
      labels_count = w.stored.faces.labels_count;
      each = w.stored.faces.each;
    };
    edges = w.stored.edges;
    low = w.stored.low;
    high = w.stored.high;
    order = w.stored.order;
    longer = w.stored.longer;
    latest = w.stored.latest;
    rows = w.stored.rows;
    labels = λ i r e.
        let l = w.stored.labels i r e in
        record {
          left = l.left;
          right = l.right;
          left_current = l.left_current;
          right_current = l.right_current;
          left_listed = more.lists.keys r.left i l.left_listed;
          right_listed = more.lists.keys r.right i l.right_listed;
        };
    of_edges = w.stored.of_edges;
    of_rows = w.stored.of_rows;
    past = w.stored.past;
  });
  chains = rw (more.base, more.net, more.edges) w.chains;
  alive = rw (more.base, more.edges) w.alive;
}

-- the keys of the loser are listed for the winner too
module _ (g g' : Growth) (s : MergeStep) (sides : Sides) (keys : List ℕ) (is : sides ≡ sides_of g.labels s) (inside : label_of g.labels s.winner < length g.keys.items)
    (more : g'.keys.items ≡ set g.keys.items sides.winner (keys_at g.keys.items sides.winner ++ keys)) where
  winner : sides.winner ≡ label_of g.labels s.winner
  winner = ap (λ (x : Sides). x.winner) is

  loser : sides.loser ≡ label_of g.labels s.loser
  loser = ap (λ (x : Sides). x.loser) is

  has_more : HasLists g.keys.items g'.keys.items × ((i : ℕ) → Contains keys i → Contains (keys_at g'.keys.items sides.winner) i)
  has_more = lists_more g.keys.items g'.keys.items sides.winner keys more (omega (arith, inside, winner))

  pub more_listed : g'.base ≡ g.base → g'.nodes ≡ g.nodes → g'.net ≡ g.net → g'.labels ≡ g.labels → g'.edges.items ≡ g.edges.items → IsMoreListed g g'
  more_listed base nodes net labels edges = record { base = base; nodes = nodes; net = net; labels = labels; edges = edges; lists = has_more.0 }

  pub winner_lists : (i : ℕ) → Contains keys i → Contains (keys_at g'.keys.items (label_of g.labels s.winner)) i
  winner_lists i c = subst (λ (l : ℕ). Contains (keys_at g'.keys.items l) i) winner (has_more.1 i c)

  pub loser_lists : label_of g.labels s.winner ≢ label_of g.labels s.loser → g'.net ≡ g.net → keys ≡ keys_with g sides.loser → keys ≡ keys_with g' (label_of g.labels s.loser)
  loser_lists differ net e =
      e ∙ ap (λ (ls : List ℕ). filter (has_row (rows_of g)) ls) (sym same) ∙ ap (λ (n : Net). filter (has_row n.rows.items) (keys_at g'.keys.items sides.loser)) (sym net)
      ∙ ap (λ (l : ℕ). keys_with g' l) loser
    where
      same : keys_at g'.keys.items sides.loser ≡ keys_at g.keys.items sides.loser
      same = ap (λ (ls : List (List ℕ)). keys_at ls sides.loser) more
          ∙ get_or-set_other g.keys.items sides.winner sides.loser (keys_at g.keys.items sides.winner ++ keys) [] (λ f. differ (sym winner ∙ sym f ∙ loser))

-- the keys that end edges are counted by the labels of the step
pub ending_counted : (t : FaceLabels) (s : MergeStep) (sides : Sides) (rows : List (Option Current)) (keys keys' : List ℕ) (n : ℕ) → sides ≡ sides_of t s → keys ≡ keys'
    → n ≡ count_by (is_ending sides rows) keys → n ≡ count_by (is_ending (sides_of t s) rows) keys'
ending_counted t s sides rows keys keys' n is same e = e ∙ ap₂ (λ (x : Sides) (ks : List ℕ). count_by (is_ending x rows) ks) is same

pub few_listed : (g g' : Growth) → IsFew g → IsMoreListed g g' → IsFew g'
few_listed g g' w more = rw (more.base, more.net, more.edges) w

-- the joints are nodes
pub joints_within : (k : ℕ) (g g' : Growth) (s : MergeStep) (touched joints : List ℕ) → IsAtRest k g → IsSettled s g g' touched
    → ((n : ℕ) → Contains joints n ↔ (Contains touched n × (get_or g'.net.counts.items n 0 ≡ 2))) → All (λ n. n < length g'.nodes.places.items) joints
joints_within k g g' s touched joints rest settled members =
    All-from_members (λ n. n < length g'.nodes.places.items) joints
    (λ n c. subst (λ (x : Nodes). n < length x.places.items) (sym settled.nodes) (within n ((settled.nodes_touched n).0 ((members n).0 c).0)))
  where
    w : IsStored k g
    w = rest.stored

    place : (x : ℕ) → x < length g.net.ends.items → node_at g.nodes x < length g.nodes.places.items
    place x l = w.nodes.below x (omega (arith, l, w.net.nodes_count, w.nodes.count))

    within : (n : ℕ) → IsTouched s g n → n < length g.nodes.places.items
    within n t = elim t.4 [
      | inl e ↦ omega (arith, place t.1.first (w.net.first t.0 t.1 t.2).0, e)
      | inr e ↦ omega (arith, place t.1.last (w.net.last t.0 t.1 t.2).0, e)
    ]

pub start_within : (g : Growth) (joints : List ℕ) → IsStored 0 g → ((n : ℕ) → Contains joints n ↔ (Contains g.nodes.node_of.items n × (get_or g.net.counts.items n 0 ≡ 2)))
    → All (λ n. n < length g.nodes.places.items) joints
start_within g joints w members = All-from_members (λ n. n < length g.nodes.places.items) joints (λ n c. within n ((members n).0 c).0)
  where
    within : (n : ℕ) → Contains g.nodes.node_of.items n → n < length g.nodes.places.items
    within n (x, l, e) =
        subst (λ (m : ℕ). m < length g.nodes.places.items) (get_or_default g.nodes.node_of.items x 0 n l ∙ e) (w.nodes.below x (omega (arith, l, w.nodes.count)))

-- step number `low`
pub step_made : (low : ℕ) (g g' g'' : Growth) (s : MergeStep) (touched joints : List ℕ) → 0 < low → low ≤ length (history_of g.base) → s ≡ step_number (merged g.base) low
    → IsAtRest (low - 1) g → IsSettled s g g' touched → IsStored low g' → IsStrictlyIncreasing joints
    → ((n : ℕ) → Contains joints n ↔ (Contains touched n × (get_or g'.net.counts.items n 0 ≡ 2)))
    → IsJoinedInTurn low g' joints g'' → IsStored low g'' → low < never → IsAtRest low g''
step_made low g g' g'' s touched joints some most is rest settled w' ascend members turn w'' small =
    let next : low - 1 + 1 ≡ low = omega arith in
    subst (λ (n : ℕ). IsAtRest n g'') next
    (rest_after_step (low - 1) g g' g'' s touched joints rest (omega arith) (is ∙ ap (step_number (merged g.base)) (sym next)) settled
    (subst (λ (n : ℕ). IsStored n g') (sym next) w') ascend members (subst (λ (n : ℕ). IsJoinedInTurn n g' joints g'') (sym next) turn)
    (subst (λ (n : ℕ). IsStored n g'') (sym next) w'') (omega arith))
