-- The edge is put back less the points.
use Rattle.std.proofs.Common.{None, Option, Some, set, sym, ap, ◌∙◌, subst}
use Rattle.std.specs.Prelude.{option_map}
use Rattle.tgap_model.specs.declared.slice.Edge.{Edge}
use Rattle.grid_index.specs.Keyed.{edges_in}
use Rattle.tgap_build.specs.Running.{less}
use Rattle.tgap_build.specs.Table.{IsTableOf}
use Rattle.tgap_build.proofs.TableChanges.{place_read, set_again, less_edges, less_table}
use Rattle.tgap_build.proofs.edge_table.EdgeTable.take_points.Goals as goal

pub returns-in-Some-clause-table : goal.returns-in-Some-clause-table
returns-in-Some-clause-table c =
    let places = c.args.self.now.places.items in
    let k = c.args.key in
    let gone = c.args.gone.now in
    let at = place_read places k c.requires.key c.index_mut.result.now c.take.result (Some c.in-Some.edge) c.index_mut.ensures.value c.take.ensures.value c.in-Some.is in
    let there = set_again places k c.take.new.self (Some c.remove.new.self) ∙ ap (λ (e : Edge). set places k (Some e)) c.remove.ensures
    ∙ ap (λ (o : Option Edge). set places k (option_map (less gone) o)) (sym at) in
    subst (IsTableOf c.args.self.now.labels c.args.self.now.beside.items) (sym there)
    (less_table places c.requires.table.keyed k c.requires.key gone c.args.self.now.labels c.args.self.now.beside.items c.requires.table)

pub returns-in-Some-clause-edges : goal.returns-in-Some-clause-edges
returns-in-Some-clause-edges c =
    let places = c.args.self.now.places.items in
    let k = c.args.key in
    let gone = c.args.gone.now in
    let at = place_read places k c.requires.key c.index_mut.result.now c.take.result (Some c.in-Some.edge) c.index_mut.ensures.value c.take.ensures.value c.in-Some.is in
    let there = set_again places k c.take.new.self (Some c.remove.new.self) ∙ ap (λ (e : Edge). set places k (Some e)) c.remove.ensures
    ∙ ap (λ (o : Option Edge). set places k (option_map (less gone) o)) (sym at) in
    ap edges_in there ∙ less_edges places c.requires.table.keyed k c.requires.key gone

pub returns-in_default-clause-edges : goal.returns-in_default-clause-edges
returns-in_default-clause-edges c =
    let places = c.args.self.now.places.items in
    let k = c.args.key in
    let gone = c.args.gone.now in
    let at = place_read places k c.requires.key c.index_mut.result.now c.take.result None c.index_mut.ensures.value c.take.ensures.value c.in_default.is in
    let none = ap (set places k) c.take.ensures.after ∙ ap (λ (o : Option Edge). set places k (option_map (less gone) o)) (sym at) in
    ap edges_in none ∙ less_edges places c.requires.table.keyed k c.requires.key gone
