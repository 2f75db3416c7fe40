-- The edges are those of the chains before the first step, and each face is its own label.
use Rattle.std.proofs.Common.{◌≡◌, ◌<◌, ◌+◌, ◌^◌, ℕ, map, length, All, refl, sym, ap, ◌∙◌, subst, arith}
use Rattle.tgap_model.specs.declared.slice.Edge.{Edge}
use Rattle.tgap_model.specs.Base.{BaseMap}
use Rattle.tgap_model.specs.History.{history_of}
use Rattle.tgap_model.specs.Merged.{merged}
use Rattle.tgap_model.specs.Chains.{chains_at}
use Rattle.tgap_model.specs.Removals.{edges_of, removals_to}
use Rattle.grid_index.specs.Live.{AreLive}
use Rattle.face_tree.specs.Tree.{FaceHistory}
use Rattle.edge_forest.specs.Edges.{chain_of}
use Rattle.tgap_build.proofs.EachLive.{after_live}
use Rattle.tgap_build.proofs.StartTable.{start_keys, start_sides, start_live, faces_few}
use Rattle.tgap_build.proofs.live_edges.LiveEdges.of.Goals.{After-steps}
use Rattle.tgap_build.proofs.live_edges.LiveEdges.of.Goals as goal

-- how many arcs, faces and steps there are
arcs_are : (c : goal.After-steps) → c.len-arcs.result ≡ length c.args.forest.now.base.arcs
arcs_are c = c.len-arcs.ensures ∙ ap length c.arcs.ensures.value ∙ ap (λ (m : BaseMap). length m.arcs) c.base.ensures.value

classes_are : (c : goal.After-steps) → c.len-classes.result ≡ length c.args.forest.now.base.classes
classes_are c = c.len-classes.ensures ∙ ap length c.classes.ensures.value ∙ ap (λ (m : BaseMap). length m.classes) c.base-2.ensures.value

steps_are : (c : goal.After-steps) → c.steps.result ≡ length (history_of c.args.forest.now.base)
steps_are c = c.steps.ensures ∙ ap (λ (t : FaceHistory). length t.steps) c.requires.history

few : (c : goal.After-steps) → c.len-classes.result + c.steps.result + 1 < 2 ^ 32
few c = let m = c.args.forest.now.base in let n = faces_few m c.requires.forest.base (length (history_of m)) refl in omega (arith, n, classes_are c, steps_are c)

edges_are : (c : goal.After-steps) → c.in_ok-edges.edges
    ≡ edges_of (merged c.args.forest.now.base) 0 (removals_to (merged c.args.forest.now.base) 0) (chains_at (merged c.args.forest.now.base) 0)
edges_are c =
    let f = c.args.forest.now in
    let removals = removals_to (merged f.base) 0 in
    let chains = ap (map (chain_of f.edges)) c.as_slice.ensures ∙ c.in_ok-ids.ensures.chains ∙ ap (chains_at (merged f.base)) c.requires.made in
    c.in_ok-edges.ensures removals (c.requires.removed.by_then 0 (omega arith)) ∙ ap (edges_of (merged f.base) 0 removals) chains

pub overflow_cast-classes : goal.overflow_cast-classes
overflow_cast-classes c =
    let m = c.args.forest.now.base in
    let n = faces_few m c.requires.forest.base (length (history_of m)) refl in
    let classes = c.len-classes.ensures ∙ ap length c.classes.ensures.value ∙ ap (λ (m : BaseMap). length m.classes) c.base-2.ensures.value in
    omega (arith, n, classes)

pub overflow_add-faces : goal.overflow_add-faces
overflow_add-faces c = let n = few c in omega (arith, n)

pub overflow_add-faces-2 : goal.overflow_add-faces-2
overflow_add-faces-2 c = let n = few c in omega (arith, n)

pub of-requires-clause-ascending : goal.of-requires-clause-ascending
of-requires-clause-ascending c =
    let m = c.args.forest.now.base in
    (subst AreLive (sym (edges_are c)) (after_live m c.requires.forest.base c.requires.forest.partition 0 (omega arith))).ascending

pub of-requires-clause-keys : goal.of-requires-clause-keys
of-requires-clause-keys c =
    let m = c.args.forest.now.base in
    subst (λ (n : ℕ). All (λ (e : Edge). e.key < n) c.in_ok-edges.edges) (sym (arcs_are c))
    (subst (All (λ (e : Edge). e.key < length m.arcs)) (sym (edges_are c)) (start_keys m c.requires.forest.base (removals_to (merged m) 0)))

pub of-requires-clause-sides : goal.of-requires-clause-sides
of-requires-clause-sides c =
    let m = c.args.forest.now.base in
    let faces = c.len-classes.result + c.steps.result + 1 in
    subst (All (λ (e : Edge). (e.left < faces) × (e.right < faces))) (sym (edges_are c))
    (start_sides m c.requires.forest.base (removals_to (merged m) 0) faces (omega (arith, classes_are c)))

pub of-requires-clause-near : goal.of-requires-clause-near
of-requires-clause-near c =
    let m = c.args.forest.now.base in
    let live = subst AreLive (sym (edges_are c)) (after_live m c.requires.forest.base c.requires.forest.partition 0 (omega arith)) in
    λ i d l. (live.each i d l).limits

pub returns-clause-running : goal.returns-clause-running
returns-clause-running c =
    let m = c.args.forest.now.base in
    let d = (goal.at.returns-clause-running c).After-steps in
    record {
      forest = c.requires.forest;
      table = c.in_ok-of.ensures.table;
      edges = c.in_ok-of.ensures.edges ∙ edges_are d;
      places = c.in_ok-of.ensures.places ∙ arcs_are d;
      lists = let n = c.in_ok-of.ensures.lists in omega (arith, n, classes_are d, steps_are d);
      outside = c.in_ok-of.ensures.labels 0 (omega arith);
      labels = λ g live. c.in_ok-of.ensures.labels g (let n = start_live m c.requires.forest.base g live in omega (arith, n, classes_are d));
    }
