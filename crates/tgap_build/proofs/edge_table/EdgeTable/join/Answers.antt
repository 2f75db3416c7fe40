-- The new edge has the key of one of those of which it is made, and its sides.
use Rattle.std.proofs.Common.{◌≡◌, ◌∷◌, ◌++◌, [], ℕ, List, set, IsPermutation, Option, Some, sym, ap, ap₂, ◌∙◌, subst, arith}
use Rattle.tgap_model.specs.declared.geometry.Point.{Point}
use Rattle.tgap_model.specs.declared.slice.Edge.{Edge}
use Rattle.grid_index.specs.Keyed.{edges_in}
use Rattle.grid_index.specs.Live.{without_keys}
use Rattle.tgap_build.specs.Table.{edge_with, joined_edge, old_keys, IsTableOf}
use Rattle.tgap_build.proofs.TableChanges.{joined_table, joined_moved}
use Rattle.tgap_build.proofs.TakenRows.{joined_there, key_within, with_read}
use Rattle.tgap_build.proofs.edge_table.EdgeTable.join.Goals as goal

pub sides-left-requires : goal.sides-left-requires
sides-left-requires c = key_within c.args.self.now.places.items c.requires.table.keyed c.args.parts.now c.requires.there c.args.key c.requires.key

pub index_mut-requires : goal.index_mut-requires
index_mut-requires c =
    let l = key_within c.args.self.now.places.items c.requires.table.keyed c.args.parts.now c.requires.there c.args.key c.requires.key in
    omega (arith, l, c.in_ok-row.ensures.room, c.take_row.new.places.ok.0)

made : (c : goal.Joined-index_mut)
    → set c.take_row.new.places.items c.args.key (Some c.new.result)
    ≡ set c.take_row.new.places.items c.args.key (Some (joined_edge c.args.self.now.places.items c.args.key c.args.parts.now))
made c =
    ap (λ (e : Edge). set c.take_row.new.places.items c.args.key (Some e))
    (c.new.ensures
    ∙ ap₂ (λ (a b : ℕ). record { key = c.args.key; left = a; right = b; points = c.in_ok-row.row }) c.sides-left.ensures.left c.sides-left.ensures.right
    ∙ ap (λ (ps : List Point). record {
      key = c.args.key;
      left = (edge_with c.args.self.now.places.items c.args.key).left;
      right = (edge_with c.args.self.now.places.items c.args.key).right;
      points = ps;
    }) c.in_ok-row.ensures.row)

pub returns-clause-table : goal.returns-clause-table
returns-clause-table c =
    let t = c.args.self.now.labels in
    let lists = c.args.self.now.beside.items in
    let places = c.args.self.now.places.items in
    let k = c.args.key in
    let parts = c.args.parts.now in
    let old = joined_there places c.requires.table.keyed parts c.requires.there k c.requires.key in
    let same = with_read places k old.0 old.1 in
    subst (IsTableOf t lists) (sym (made c))
    (joined_table t lists places c.requires.table (old_keys parts) c.take_row.new.places.items c.in_ok-row.ensures.keyed c.in_ok-row.ensures.left c.in_ok-row.ensures.room
    (joined_edge places k parts) old.0 old.1 c.requires.key (ap (λ (e : Edge). e.left) same) (ap (λ (e : Edge). e.right) same))

pub returns-clause-edges : goal.returns-clause-edges
returns-clause-edges c =
    let t = c.args.self.now.labels in
    let lists = c.args.self.now.beside.items in
    let places = c.args.self.now.places.items in
    let k = c.args.key in
    let parts = c.args.parts.now in
    let old = joined_there places c.requires.table.keyed parts c.requires.there k c.requires.key in
    let same = with_read places k old.0 old.1 in
    subst (λ (ps : List (Option Edge)). IsPermutation (without_keys (old_keys parts) (edges_in places) ++ joined_edge places k parts ∷ []) (edges_in ps)) (sym (made c))
    (joined_moved t lists places c.requires.table (old_keys parts) c.take_row.new.places.items c.in_ok-row.ensures.keyed c.in_ok-row.ensures.left c.in_ok-row.ensures.room
    (joined_edge places k parts) old.0 old.1 c.requires.key (ap (λ (e : Edge). e.left) same) (ap (λ (e : Edge). e.right) same))
