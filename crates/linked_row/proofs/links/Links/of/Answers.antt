use Rattle.std.proofs.Common.{◌≡◌, ◌+◌, ◌<◌, ◌^◌, [], ◌∷◌, ◌++◌, List, map, length, refl, sym, ap, ◌∙◌, subst, arith, rules}
use Rattle.std.specs.List.{range_with_len}
use Rattle.std.specs.Option.{SomeIff}
use Rattle.std.proofs.lemmas.List.FromFn.{map-range_with_len_more, length-map-range_with_len}
use Rattle.linked_row.specs.declared.links.Node.{Node}
use Rattle.linked_row.specs.Linked.{AreLinks, lone, aboves, belows}
use Rattle.linked_row.proofs.Nodes.{empty_links, linked_is}
use Rattle.linked_row.proofs.Changes.{shown}
use Rattle.linked_row.proofs.links.Links.of.Goals as goal

pub push_reserved-requires : goal.push_reserved-requires
push_reserved-requires c =
    omega (arith, c.loop-number.nodes.ok.0, ap length c.loop-number.invariant.nodes, length-map-range_with_len (lone c.args.count) 0 c.loop-number.number, c.loop-number.invariant.room, c.loop-number-test.true)

pub loop-number-preserved : goal.loop-number-preserved
loop-number-preserved c = record {
  nodes = c.push_reserved.ensures.items ∙ ap (λ (ns : List Node). ns ++ lone c.args.count c.loop-number.number ∷ []) c.loop-number.invariant.nodes
      ∙ sym (map-range_with_len_more (lone c.args.count) 0 c.loop-number.number c.loop-number.number (omega arith));
  room = search rules;
}

empty : (c : goal.After-loop-number) → AreLinks (aboves c.loop-number.nodes.items) (belows c.loop-number.nodes.items) (record { count = c.args.count; row = [] })
empty c =
    let entries : c.in_ok-entries.entries ≡ c.args.count + 1
    = (subst (λ o. SomeIff o (c.args.count + 1 < 2 ^ 32) (c.args.count + 1)) c.in_ok-entries.ensures.ok_part c.checked_add.ensures).1 in
    let all : c.loop-number.number ≡ c.args.count + 1 = omega (arith, c.loop-number-test.false, c.loop-number.auto.number-end, entries) in
    empty_links c.loop-number.nodes.items c.args.count (omega (arith, c.ranges.count.fits))
    (c.loop-number.invariant.nodes ∙ ap (λ k. map (lone c.args.count) (range_with_len 0 k)) all)

pub invariant_of-result : goal.invariant_of-result
invariant_of-result c = shown (aboves c.loop-number.nodes.items) (belows c.loop-number.nodes.items) (record { count = c.args.count; row = [] }) 0 (empty c) refl

pub returns : goal.returns
returns c = linked_is (aboves c.loop-number.nodes.items) (belows c.loop-number.nodes.items) (record { count = c.args.count; row = [] }) (empty c) 0 refl
