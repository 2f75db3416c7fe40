-- The edges before the first step fit into a table.
use Rattle.std.proofs.Common.{◌≡◌, ℕ, ◌+◌, ◌<◌, ◌≤◌, ◌^◌, ◌==◌, true, List, length, All, subst, arith}
use Rattle.std.specs.List.{range_with_len}
use Rattle.std.proofs.lemmas.Bool.{eqb-true}
use Rattle.tgap_model.specs.declared.slice.Edge.{Edge}
use Rattle.tgap_model.specs.declared.slice.Removal.{Removal}
use Rattle.tgap_model.specs.Base.{BaseMap, is_base}
use Rattle.tgap_model.specs.Merged.{merged, label_at, is_live}
use Rattle.tgap_model.specs.Chains.{Chain, key, chains_at, arc_number}
use Rattle.tgap_model.specs.Removals.{edge_of, edges_of}
use Rattle.tgap_model.proofs.BaseFacts.{base_facts}
use Rattle.face_merge.proofs.Steps.{length-history_of}
use Rattle.map_laws.proofs.ChainMembers.{any_among}
use Rattle.map_laws.proofs.Lists.{all_members, map_among, among_range}
use Rattle.tgap_build.proofs.Alive.{key_within}
use Rattle.tgap_build.proofs.Sides.{arc_sides}

module _ (m : BaseMap) (base : is_base m ≡ true) where
  -- each key is the number of an arc
  pub start_keys : (removals : List Removal) → All (λ e. e.key < length m.arcs) (edges_of (merged m) 0 removals (chains_at (merged m) 0))
  start_keys removals = all_members (λ (e : Edge). e.key < length m.arcs) (edges_of (merged m) 0 removals (chains_at (merged m) 0)) (λ e n.
      let c = map_among (edge_of (merged m) 0 removals) (chains_at (merged m) 0) e n in
      subst (λ (e : Edge). e.key < length m.arcs) c.2 (key_within (merged m) 0 c.0 c.1))

  -- each side is a face of the map, or the outside
  pub start_sides : (removals : List Removal) (faces : ℕ) → length m.classes < faces
      → All (λ e. (e.left < faces) × (e.right < faces)) (edges_of (merged m) 0 removals (chains_at (merged m) 0))
  start_sides removals faces many = all_members (λ (e : Edge). (e.left < faces) × (e.right < faces)) (edges_of (merged m) 0 removals (chains_at (merged m) 0)) (λ e n.
      let c = map_among (edge_of (merged m) 0 removals) (chains_at (merged m) 0) e n in
      subst (λ (e : Edge). (e.left < faces) × (e.right < faces)) c.2 (sides c.0))
    where
      sides : (c : Chain) → ((arc_number m.arcs (key c)).left < faces) × ((arc_number m.arcs (key c)).right < faces)
      sides c = let s = arc_sides m base (key c) in (omega (arith, s.0, many), omega (arith, s.1, many))

  -- and so is each face that is live
  pub start_live : (g : ℕ) → is_live (merged m) 0 g ≡ true → g ≤ length m.classes
  start_live g live =
      let f = any_among (λ f. label_at (merged m) 0 f == g) (range_with_len 1 (length m.classes)) live in
      let same : f.0 ≡ g = eqb-true f.0 g f.2 in
      let within = among_range 1 (length m.classes) f.0 f.1 in
      omega (arith, same, within.1)

  -- all faces of the history can be counted
  pub faces_few : (steps : ℕ) → steps ≡ length (merged m).steps → length m.classes + steps + 1 < 2 ^ 32
  faces_few steps is = let facts = base_facts m base in omega (arith, is, length-history_of m, facts.few_arcs, facts.few_faces)
