use Rattle.std.proofs.Common.{◌≡◌, Some, None, option_map, sym, ap, ◌∙◌}
use Rattle.base_check.specs.Faults.{first_node_fault}
use Rattle.base_check.specs.Spokes.{disagrees, gap_of}
use Rattle.base_check.proofs.Faults.{pass_finds, no_fault}
use Rattle.base_check.proofs.Evidence.{first_node_gap_is}
use Rattle.base_check.proofs.node_gap_of.Goals as goal

pub returns-clause-exact : goal.returns-clause-exact
returns-clause-exact c =
    let finds : option_map disagrees c.first_gap.result ≡ first_node_fault c.args.segments.now = ap (option_map disagrees) (c.first_gap.ensures ∙ ap gap_of c.deref.ensures.value)
    ∙ pass_finds c.args.segments.now c.in_ok-spokes.spokes.items c.requires.proper c.requires.apart c.in_ok-spokes.ensures.same c.in_ok-spokes.ensures.sorted in
    finds

pub returns-clause-found : goal.returns-clause-found
returns-clause-found c = λ g e.
    let finds : option_map disagrees c.first_gap.result ≡ first_node_fault c.args.segments.now = ap (option_map disagrees) (c.first_gap.ensures ∙ ap gap_of c.deref.ensures.value)
    ∙ pass_finds c.args.segments.now c.in_ok-spokes.spokes.items c.requires.proper c.requires.apart c.in_ok-spokes.ensures.same c.in_ok-spokes.ensures.sorted in
    let found : c.first_gap.result ≡ Some g = cc in
    first_node_gap_is c.args.segments.now g.node g.spoke g.next g.left g.right (sym finds ∙ ap (option_map disagrees) found)

pub returns-clause-agree : goal.returns-clause-agree
returns-clause-agree c = λ e v.
    let finds : option_map disagrees c.first_gap.result ≡ first_node_fault c.args.segments.now = ap (option_map disagrees) (c.first_gap.ensures ∙ ap gap_of c.deref.ensures.value)
    ∙ pass_finds c.args.segments.now c.in_ok-spokes.spokes.items c.requires.proper c.requires.apart c.in_ok-spokes.ensures.same c.in_ok-spokes.ensures.sorted in
    let none : c.first_gap.result ≡ None = cc in
    no_fault c.args.segments.now (sym finds ∙ ap (option_map disagrees) none) v
