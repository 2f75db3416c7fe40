-- Either way the same edges are looked up.
use Rattle.std.proofs.Common.{◌≡◌, ℕ, ◌<◌, List, Option, Some, Result, Ok, Err, filter, length, All, IfOk, IfSome, IsPermutation, sym, ap, ◌∙◌, subst, subst₂}
use Rattle.tgap_model.specs.declared.geometry.Window.{Window}
use Rattle.grid_index.specs.Boxes.{meets}
use Rattle.grid_index.specs.Near.{near_boxes}
use Rattle.grid_index.specs.Picked.{box_at}
use Rattle.edge_forest.specs.Edges.{edge_at, is_alive, alive_edges}
use Rattle.edge_forest.specs.Forest.{EdgeForest}
use Rattle.tgap_build.specs.Boxes.{boxes_of}
use Rattle.slice_read.proofs.WindowIds.{box_count, found_within, ids_by_boxes, ids_by_ranges}
use Rattle.slice_read.proofs.near.ids_near.Goals as goal

-- what is told of a list that is given, told of it in other words
told : {E : Type 0} (P Q : List ℕ → Type 0) (r : Result (List ℕ) E) → ((ids : List ℕ) → P ids → Q ids) → IfOk r P → IfOk r Q
told P Q (Ok ids) h p = h ids p
told P Q (Err e) h p = tt

-- the places that the boxes give, as they are lent
lent_places : (boxed : EdgeForest) (boxes : List Window) (area : Window) (found : Option (List ℕ)) (near lent : List ℕ) → boxes ≡ boxes_of boxed
    → IfSome found (λ places. IsPermutation (near_boxes area boxes) places) → found ≡ Some near → lent ≡ near → IsPermutation (near_boxes area (boxes_of boxed)) lent
lent_places boxed boxes area found near lent same few is lends =
    subst₂ (λ (bs : List Window) (places : List ℕ). IsPermutation (near_boxes area bs) places) same (sym lends)
    (subst (λ (o : Option (List ℕ)). IfSome o (λ places. IsPermutation (near_boxes area boxes) places)) is few)

pub alive_of-requires : goal.alive_of-requires
alive_of-requires c =
    let boxed = c.args.boxed.now in
    let area = c.args.area.now in
    subst (λ (f : EdgeForest). All (λ i. i < length f.edges) c.as_slice.result.now) (sym c.forest-forest.ensures)
    (found_within boxed c.args.k area c.as_slice.result.now
    (lent_places boxed c.boxes-boxes.result.now area c.in_ok-found.found c.in-Some.near c.as_slice.result.now c.boxes-boxes.ensures c.in_ok-found.ensures.few c.in-Some.is c.as_slice.ensures))

pub returns-in-Some : goal.returns-in-Some
returns-in-Some c =
    let boxed = c.args.boxed.now in
    let area = c.args.area.now in
    let k = c.args.k in
    let lent = c.as_slice.result.now in
    told (λ ids. ids ≡ filter (λ i. is_alive k (edge_at c.forest-forest.result.now.edges i)) lent) _ c.alive_of.result
    (λ ids is. ids_by_boxes boxed k area lent ids
    (lent_places boxed c.boxes-boxes.result.now area c.in_ok-found.found c.in-Some.near lent c.boxes-boxes.ensures c.in_ok-found.ensures.few c.in-Some.is c.as_slice.ensures)
    (is ∙ ap (λ (f : EdgeForest). filter (λ i. is_alive k (edge_at f.edges i)) lent) c.forest-forest.ensures))
    c.alive_of.ensures

pub met_of-requires : goal.met_of-requires
met_of-requires c =
    let count : length c.boxes-boxes.result.now ≡ length c.forest-forest.result.now.edges =
    ap length c.boxes-boxes.ensures ∙ box_count c.args.boxed.now c.args.k c.args.area.now ∙ ap (λ (f : EdgeForest). length f.edges) (sym c.forest-forest.ensures) in
    subst₂ (λ (n : ℕ) (ids : List ℕ). All (λ i. i < n) ids) (sym count) (sym c.as_slice-in-None.ensures) c.in_ok-there-in-None.ensures.within

pub returns-in_ok-there-in-None : goal.returns-in_ok-there-in-None
returns-in_ok-there-in-None c =
    let boxed = c.args.boxed.now in
    let area = c.args.area.now in
    let k = c.args.k in
    let lent = c.as_slice-in-None.result.now in
    let there = c.as_slice-in-None.ensures ∙ c.in_ok-there-in-None.ensures.value ∙ ap (λ (f : EdgeForest). alive_edges f.edges k) c.forest-forest.ensures in
    told (λ ids. ids ≡ filter (λ i. meets area (box_at c.boxes-boxes.result.now i)) lent) _ c.met_of.result
    (λ ids is. ids_by_ranges boxed k area lent ids there (is ∙ ap (λ (bs : List Window). filter (λ i. meets area (box_at bs i)) lent) c.boxes-boxes.ensures))
    c.met_of.ensures
