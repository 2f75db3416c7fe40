-- One more key in two lists.
use Rattle.std.proofs.Common.{◌≡◌, ◌<◌, ◌++◌, ◌∷◌, [], length, get_or, ap, ◌∙◌, arith}
use Rattle.std.proofs.lemmas.List.{get_or_default, length-set}
use Rattle.std.proofs.lemmas.List.Elements.{All-get_or}
use Rattle.tgap_model.specs.declared.base.BaseArc.{BaseArc}
use Rattle.edge_forest.proofs.StartLists.{listed_more}
use Rattle.edge_forest.proofs.start.face_keys.Goals as goal

pub loop-i-preserved : goal.loop-i-preserved
loop-i-preserved c =
    let i = c.loop-i.i in
    let arcs = c.args.arcs.now in
    let count = c.args.count in
    let inv = c.loop-i.invariant in
    let no_arc : BaseArc = record { left = 0; right = 0; points = [] } in
    let a = get_or arcs i c.index-arcs-i.result in
    let b = get_or arcs i c.index-arcs-i-in-loop-i.result in
    let left = get_or_default arcs i c.index-arcs-i.result no_arc c.loop-i-test.true in
    let right = get_or_default arcs i c.index-arcs-i-in-loop-i.result no_arc c.loop-i-test.true in
    let below = λ (d : BaseArc). All-get_or (λ (a : BaseArc). (a.left < count) × (a.right < count)) arcs i d c.loop-i-test.true c.requires.below in
    let faces = c.loop-i.faces.items in
    let one = c.list_key.new.faces.items in
    let two = c.list_key-in-loop-i.new.faces.items in
    let left_within : a.left < length faces = omega (arith, (below c.index-arcs-i.result).0, inv.count) in
    let right_within : b.right < length faces = omega (arith, (below c.index-arcs-i-in-loop-i.result).1, inv.count) in
    let kept : length one ≡ length faces = ap length c.in_ok-list_key.ensures ∙ length-set faces a.left (get_or faces a.left [] ++ i ∷ []) in
    let kept_too : length two ≡ length one = ap length c.in_ok-list_key-2.ensures ∙ length-set one b.right (get_or one b.right [] ++ i ∷ []) in
    record {
      count = kept_too ∙ kept ∙ inv.count;
      listed = listed_more arcs i a b faces one two left right left_within right_within c.in_ok-list_key.ensures c.in_ok-list_key-2.ensures inv.listed;
    }
