-- The faces at the sides of the arc are those of the base map, and these have become the faces of the edge.
use Rattle.std.proofs.Common.{◌≡◌, ◌<◌, ◌≤◌, ℕ, List, [], true, length, get_or, take, ap, ap₂, ◌∙◌, arith}
use Rattle.std.proofs.lemmas.List.{get_or_default}
use Rattle.tgap_model.specs.declared.base.BaseArc.{BaseArc}
use Rattle.tgap_model.specs.declared.geometry.Point.{Point}
use Rattle.tgap_model.specs.Base.{BaseMap, is_base}
use Rattle.tgap_model.specs.History.{label_after}
use Rattle.tgap_model.specs.Merged.{merged}
use Rattle.tgap_model.specs.Chains.{arc_number}
use Rattle.face_tree.specs.Tree.{FaceHistory, face_history}
use Rattle.tgap_build.proofs.Sides.{arc_sides}
use Rattle.refine_packets.proofs.changes.bare_at.Goals as goal

-- the arc that is lent
arc_is : (arcs lent : List BaseArc) (i : ℕ) (a : BaseArc) → lent ≡ arcs → i < length arcs → a ≡ get_or lent i a → a ≡ arc_number arcs i
arc_is arcs lent i a same within is =
    is ∙ ap (λ (all : List BaseArc). get_or all i a) same ∙ get_or_default arcs i a (record { left = 0; right = 0; points = [] }) within

-- its faces are of the base map
module _ (m : BaseMap) (base : is_base m ≡ true) (t : FaceHistory) (tree : t ≡ face_history (merged m)) (i : ℕ) (a : BaseArc) (is : a ≡ arc_number m.arcs i) where
  left_face : a.left ≤ t.faces
  left_face = omega (arith, ap (λ (u : FaceHistory). u.faces) tree, ap (λ (b : BaseArc). b.left) is, (arc_sides m base i).0)

  right_face : a.right ≤ t.faces
  right_face = omega (arith, ap (λ (u : FaceHistory). u.faces) tree, ap (λ (b : BaseArc). b.right) is, (arc_sides m base i).1)

pub ancestor-requires-clause-made : goal.ancestor-requires-clause-made
ancestor-requires-clause-made c =
    let m = c.args.forest.now.base in
    let a = c.index-as_slice-key.result in
    let is = arc_is m.arcs c.as_slice.result.now c.args.key a (c.as_slice.ensures ∙ c.arcs.ensures.value ∙ ap (λ (b : BaseMap). b.arcs) c.base.ensures.value) c.requires.key c.index-as_slice-key.is in
    omega (arith, left_face m c.requires.base c.args.tree.now c.requires.tree c.args.key a is)

pub ancestor-requires-2-clause-made : goal.ancestor-requires-2-clause-made
ancestor-requires-2-clause-made c =
    let m = c.args.forest.now.base in
    let a = c.index-as_slice-key.result in
    let is = arc_is m.arcs c.as_slice.result.now c.args.key a (c.as_slice.ensures ∙ c.arcs.ensures.value ∙ ap (λ (b : BaseMap). b.arcs) c.base.ensures.value) c.requires.key c.index-as_slice-key.is in
    omega (arith, right_face m c.requires.base c.args.tree.now c.requires.tree c.args.key a is)

pub returns : goal.returns
returns c =
    let m = c.args.forest.now.base in
    let a = c.index-as_slice-key.result in
    let k = c.args.k in
    let is = arc_is m.arcs c.as_slice.result.now c.args.key a (c.as_slice.ensures ∙ c.arcs.ensures.value ∙ ap (λ (b : BaseMap). b.arcs) c.base.ensures.value) c.requires.key c.index-as_slice-key.is in
    let left = c.ancestor.ensures.base (left_face m c.requires.base c.args.tree.now c.requires.tree c.args.key a is)
    ∙ ap₂ (λ (t : FaceHistory) (f : ℕ). label_after (take k t.steps) f) c.requires.tree (ap (λ (b : BaseArc). b.left) is) in
    let right = c.ancestor-2.ensures.base (right_face m c.requires.base c.args.tree.now c.requires.tree c.args.key a is)
    ∙ ap₂ (λ (t : FaceHistory) (f : ℕ). label_after (take k t.steps) f) c.requires.tree (ap (λ (b : BaseArc). b.right) is) in
    ap₂ (λ (l r : ℕ). record { key = c.args.key; left = l; right = r; points = c.new.result }) left right
    ∙ ap (λ (ps : List Point). record {
      key = c.args.key;
      left = label_after (take k (merged m).steps) (arc_number m.arcs c.args.key).left;
      right = label_after (take k (merged m).steps) (arc_number m.arcs c.args.key).right;
      points = ps;
    }) c.new.ensures
