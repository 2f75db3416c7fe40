-- The key is listed at both labels, and the edge stands at its place.
use Rattle.std.proofs.Common.{◌≡◌, ◌∷◌, ◌++◌, [], ℕ, ◌<◌, List, Option, Some, set, length, sym, ap, ap₂, ◌∙◌, subst, subst₂, arith}
use Rattle.std.specs.Prelude.{IsPermutation}
use Rattle.std.proofs.lemmas.List.{get_or_default, length-set}
use Rattle.tgap_model.specs.declared.slice.Edge.{Edge}
use Rattle.grid_index.specs.Keyed.{edges_in}
use Rattle.grid_index.specs.Live.{without_keys}
use Rattle.tgap_build.specs.Table.{listed_at, IsTableOf}
use Rattle.tgap_build.proofs.EdgeTables.{put_there}
use Rattle.tgap_build.proofs.TableChanges.{put_table}
use Rattle.tgap_build.proofs.edge_table.EdgeTable.put.Goals as goal

pub returns-clause-table : goal.returns-clause-table
returns-clause-table c =
    let e = c.args.edge in
    let lists = c.args.self.now.beside.items in
    let once : List ℕ = listed_at lists e.left ++ e.key ∷ [] in
    let first : c.left.result < length lists = omega (arith, c.requires.left.0, c.left.ensures) in
    let left : c.push.new.self ≡ once
    = c.in_ok-push.ensures
    ∙ ap₂ (λ (ks : List ℕ) (k : ℕ). ks ++ k ∷ []) (c.index_mut.ensures.value ∙ get_or_default lists c.left.result c.index_mut.result.now [] first ∙ ap (listed_at lists) c.left.ensures) c.key-key.ensures in
    let there : set lists c.left.result c.push.new.self ≡ set lists e.left once = ap₂ (set lists) c.left.ensures left in
    let second : c.right.result < length (set lists c.left.result c.push.new.self) = omega (arith, c.requires.right.0, c.right.ensures, length-set lists c.left.result c.push.new.self) in
    let right : c.push-2.new.self ≡ listed_at (set lists e.left once) e.right ++ e.key ∷ []
    = c.in_ok-push-2.ensures
    ∙ ap₂ (λ (ks : List ℕ) (k : ℕ). ks ++ k ∷ [])
    (c.index_mut-2.ensures.value ∙ get_or_default (set lists c.left.result c.push.new.self) c.right.result c.index_mut-2.result.now [] second ∙ ap₂ listed_at there c.right.ensures) c.key-key.ensures in
    let both : set (set lists c.left.result c.push.new.self) c.right.result c.push-2.new.self ≡ set (set lists e.left once) e.right (listed_at (set lists e.left once) e.right ++ e.key ∷ [])
    = ap (λ (ls : List (List ℕ)). set ls c.right.result c.push-2.new.self) there ∙ ap₂ (set (set lists e.left once)) c.right.ensures right in
    let place = ap (λ (k : ℕ). set c.args.self.now.places.items k (Some e)) c.key-key.ensures in
    subst₂ (IsTableOf c.args.self.now.labels) (sym both) (sym place)
    (put_table c.args.self.now.labels lists c.args.self.now.places.items c.requires.table e c.requires.key c.requires.left c.requires.right)

pub returns-clause-moved : goal.returns-clause-moved
returns-clause-moved c =
    let e = c.args.edge in
    let places = c.args.self.now.places.items in
    subst (λ (ps : List (Option Edge)). IsPermutation (without_keys (e.key ∷ []) (edges_in places) ++ e ∷ []) (edges_in ps))
    (sym (ap (λ (k : ℕ). set places k (Some e)) c.key-key.ensures)) (put_there places e c.requires.key c.requires.table.keyed)
