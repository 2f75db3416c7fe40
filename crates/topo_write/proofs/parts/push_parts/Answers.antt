use Rattle.std.proofs.Common.{◌≡◌, ◌<◌, ◌++◌, ◌∷◌, ◌∙◌, [], List, length, map, get_or, append_assoc, sym, ap, arith}
use Rattle.std.specs.List.{range_with_len}
use Rattle.std.proofs.lemmas.List.{get_or_default}
use Rattle.std.proofs.lemmas.List.FromFn.{map-range_with_len_more}
use Rattle.topo_write.specs.declared.part.Part.{Part}
use Rattle.topo_write.specs.Building.{part_at, part_with}
use Rattle.topo_write.proofs.parts.push_parts.Goals as goal

pub loop-place-preserved : goal.loop-place-preserved
loop-place-preserved c =
    let i = c.loop-place.place in
    let f = part_at c.args.row c.args.outer.now c.args.inner.now c.args.held.now in
    let inside : i < length c.args.held.now = omega (arith, c.loop-place-test.true, c.requires.each) in
    let part = c.in_ok-part_with.field-0 in
    let is : part ≡ f i =
    c.in_ok-part_with.ensures
    ∙ ap (part_with c.args.row c.args.inner.now (get_or c.args.outer.now i 0)) (c.as_slice.ensures ∙ c.index-held-place.is ∙ get_or_default c.args.held.now i c.index-held-place.result [] inside) in
    c.in_ok-push.ensures.items
    ∙ ap (λ (ps : List Part). ps ++ part ∷ []) c.loop-place.invariant
    ∙ append_assoc c.args.parts.now.items (map f (range_with_len 0 i)) (part ∷ [])
    ∙ ap (λ (p : Part). c.args.parts.now.items ++ (map f (range_with_len 0 i) ++ p ∷ [])) is
    ∙ ap (λ (ps : List Part). c.args.parts.now.items ++ ps) (sym (map-range_with_len_more f 0 i i (omega arith)))
