-- What is written part after part is the text of the slice.
use Rattle.std.proofs.Common.{◌+◌, ◌∙◌, map, length, ap, sym, arith}
use Rattle.tgap_model.specs.declared.slice.Slice.{Slice}
use Rattle.tgap_model.specs.Merged.{merged}
use Rattle.tgap_model.specs.Removals.{removals_to}
use Rattle.edge_forest.specs.Edges.{chain_of}
use Rattle.wire_text.specs.SliceTexts.{slice_text}
use Rattle.slice_read.specs.Reading.{live_rows}
use Rattle.built_text.proofs.SliceParts.{text_put, edges_left, slice_is, count_left, gone_by}
use Rattle.built_text.proofs.slice.slice_text_at.Goals as goal

pub returns-clause-exact : goal.returns-clause-exact
returns-clause-exact c =
    let m = c.args.built.now in
    let k = c.args.k in
    let f = c.forest-forest.result.now in
    let t = c.tree-tree.result.now in
    let ids = c.as_slice.result.now in
    let s : Slice = record { step = k; faces = live_rows t k (t.faces + k); edges = edges_left f k ids } in
    let gone = gone_by f m k c.forest-forest.ensures.base (omega (arith, c.steps-made.ensures, c.if-k-made.false)) c.forest-forest.ensures.removed in
    text_put c.new-text.result c.put_count_line.new.out c.put_faces_at.new.out c.put_count_line-2.new.out c.put_edges_at.new.out c.push_slice.new.self s _
    c.new-text.ensures c.in_ok-put_count_line.ensures c.in_ok-put_faces_at.ensures
    (c.len.ensures ∙ sym (ap length c.as_slice.ensures) ∙ count_left f k ids) c.in_ok-put_count_line-2.ensures
    (c.in_ok-put_edges_at.ensures (removals_to (merged f.base) k) gone) c.in_ok-push_slice.ensures
    ∙ ap slice_text (slice_is f m t k ids c.forest-forest.ensures.base c.tree-tree.ensures (ap (map (chain_of f.edges)) c.as_slice.ensures ∙ c.in_ok-ids.ensures.chains))
