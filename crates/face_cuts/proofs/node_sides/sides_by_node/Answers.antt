use Rattle.std.proofs.Common.{◌≡◌, ◌∙◌, ◌*◌, ◌++◌, [], ◌∷◌, ℕ, List, length, map, sym, ap, subst, rules, arith}
use Rattle.std.specs.List.{range_with_len}
use Rattle.std.specs.List.Sorted.{IsStableBy}
use Rattle.std.proofs.lemmas.Fn.{always_returns_same}
use Rattle.std.proofs.lemmas.List.{map-append}
use Rattle.std.proofs.lemmas.List.FromFn.{map-range_with_len_more}
use Rattle.ring_walk.specs.Sides.{numbered, sides}
use Rattle.face_cuts.specs.declared.node_sides.NodeSide.{NodeSide}
use Rattle.face_cuts.specs.NodeTables.{node_before, node_side}
use Rattle.face_cuts.proofs.node_sides.sides_by_node.Goals as goal

pub loop-number-init : goal.loop-number-init
loop-number-init c = c.in_ok-rows.ensures.items

pub loop-number-preserved : goal.loop-number-preserved
loop-number-preserved c =
    let spans = c.args.spans.now in
    let i = c.loop-number.number in
    c.in_ok-push.ensures.items
    ∙ ap (λ (rows : List NodeSide). rows ++ c.node_side.result ∷ []) c.loop-number.invariant
    ∙ ap (λ (row : NodeSide). map (node_side spans) (map numbered (range_with_len 0 i)) ++ row ∷ []) (c.node_side.ensures ∙ ap (node_side spans) c.numbered.ensures)
    ∙ sym (map-append (node_side spans) (map numbered (range_with_len 0 i)) (numbered i ∷ []))
    ∙ ap (map (node_side spans)) (sym (map-range_with_len_more numbered 0 i i (omega arith)))

pub returns : goal.returns
returns c =
    let spans = c.args.spans.now in
    let all : c.loop-number.number ≡ 2 * length spans = omega arith in
    let pushed : c.loop-number.rows.items ≡ map (node_side spans) (sides (length spans)) = c.loop-number.invariant ∙ ap (λ (n : ℕ). map (node_side spans) (map numbered (range_with_len 0 n))) all in
    let rows = c.sort_by_key.new.self.items in
    record {
      ascend = c.in_ok-sort_by_key.ensures.sorted (λ r. r.node) (always_returns_same _ _ _ (λ a r f q. search rules));
      stable = subst (λ (xs : List NodeSide). IsStableBy node_before xs rows) pushed (c.sort_by_key.ensures.stable (λ r. r.node) (always_returns_same _ _ _ (λ a r f q. search rules)));
    }
