use Rattle.std.proofs.Common.{◌++◌, List, AllPairs, IsPermutation, sym, ap, ap₂, subst, ◌∙◌}
use Rattle.tgap_model.specs.declared.slice.Edge.{Edge}
use Rattle.client_replay.specs.Working.{edges_of, DifferInKey}
use Rattle.client_replay.proofs.Form.{slice_parts}
use Rattle.client_replay.proofs.Changing.{in_order_apart, same_in_order, slice_with}
use Rattle.client_replay.proofs.working.Working.of.Goals as goal

pub put_all-requires-clause-apart : goal.put_all-requires-clause-apart
put_all-requires-clause-apart c =
    let s = c.args.slice.now in
    let copies = c.in_ok-add_copies.ensures ∙ ap₂ (λ (xs ys : List Edge). xs ++ ys) c.new-edges.ensures.items c.as_slice-2.ensures in
    let all = ap₂ (λ (xs ys : List Edge). xs ++ ys) (ap (edges_of c.new-labels.result) c.new-lines.ensures.empty) copies in
    subst (AllPairs DifferInKey) (sym all) (in_order_apart s.edges (slice_parts s c.requires).edge_order)

pub returns-clause-same : goal.returns-clause-same
returns-clause-same c =
    let s = c.args.slice.now in
    let copies = c.in_ok-add_copies.ensures ∙ ap₂ (λ (xs ys : List Edge). xs ++ ys) c.new-edges.ensures.items c.as_slice-2.ensures in
    let all = ap₂ (λ (xs ys : List Edge). xs ++ ys) (ap (edges_of c.new-labels.result) c.new-lines.ensures.empty) copies in
    let put = subst (λ (zs : List Edge). IsPermutation zs (edges_of c.put_all.new.labels c.put_all.new.lines.entries)) all c.in_ok-put_all.ensures.put in
    ap₂ (slice_with s.step) (c.in_ok-faces.ensures.rows ∙ c.as_slice.ensures)
    (same_in_order c.put_all.new.labels s.edges c.put_all.new.lines.entries (slice_parts s c.requires).edge_order c.in_ok-put_all.ensures.ordered put)
