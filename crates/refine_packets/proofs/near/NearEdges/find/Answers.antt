-- The last entry whose place is not after the wanted one is that of the edge, if any is.
use Rattle.std.proofs.Common.{rules, ◌≡◌, ◌<◌, ℕ, ◌-◌, true, false, nat_le, List, length, get_or, sym, ap, ◌∙◌, subst, subst₂, true≢false, arith}
use Rattle.std.specs.List.Sorted.{IsPartitionPoint, IsNonDecreasingBy}
use Rattle.std.proofs.lemmas.List.Elements.{All-contains}
use Rattle.std.proofs.lemmas.List.Sorted.{IsPartitionedBy-leb, IsPartitionPoint-from_clause}
use Rattle.edge_forest.specs.declared.edge.ForestEdge.{ForestEdge}
use Rattle.edge_forest.specs.Forest.{EdgeForest}
use Rattle.refine_packets.specs.declared.near.NearEdge.{NearEdge}
use Rattle.refine_packets.specs.declared.near.NearEdges.{NearEdges}
use Rattle.refine_packets.specs.Near.{AreNear}
use Rattle.refine_packets.proofs.NearEdges.{IsEntry, each_entry, none_before, last_before}
use Rattle.refine_packets.proofs.near.NearEdges.find.Goals as goal
use Rattle.refine_packets.proofs.near.NearEdges.find.Goals.{else-edge-key-via-then-edge-key+else-is_alive, else-edge-key-via-else-edge-key}

-- the entry at a place is one
entry_at : (f : EdgeForest) (n : NearEdges) (near : AreNear f n) (e : NearEdge) (i : ℕ) → i < length n.entries.items → e ≡ get_or n.entries.items i e → IsEntry f n near e
entry_at f n near e i l is = All-contains (IsEntry f n near) n.entries.items e (each_entry f n near) (i, l, sym is)

pub returns-then-count-eq0 : goal.returns-then-count-eq0
returns-then-count-eq0 c =
    none_before c.args.forest.now c.args.self.now c.requires.near c.requires.forest c.requires.made c.args.key c.args.k c.requires.step c.partition_point-count.result
    (subst₂ (λ (xs : List NearEdge) (w : ℕ). IsPartitionPoint (λ (e : NearEdge). nat_le e.place w ≡ true) (λ (e : NearEdge). nat_le e.place w ≡ false) xs c.partition_point-count.result)
    c.deref.ensures.value c.place_of-wanted.ensures
    (IsPartitionPoint-from_clause (λ (e : NearEdge). nat_le e.place c.place_of-wanted.result) c.deref.result.now c.partition_point-count.result c.partition_point-count.ensures.partitioned
    (IsPartitionedBy-leb (λ (e : NearEdge). e.place) c.deref.result.now c.place_of-wanted.result
    (subst (λ (xs : List NearEdge). IsNonDecreasingBy (λ e. e.place) xs) (sym c.deref.ensures.value) c.requires.near.order)) (λ a r f' k. search rules)))
    c.if-count-eq0.true

pub edge-requires : goal.edge-requires
edge-requires c =
    (entry_at c.args.forest.now c.args.self.now c.requires.near c.index.result.now (c.partition_point-count.result - 1)
    (omega (arith, c.partition_point-count.ensures.bound, ap length c.deref.ensures.value, c.if-count-eq0.false)) c.index.ensures).within

pub is_alive-requires : goal.is_alive-requires
is_alive-requires c =
    (entry_at c.args.forest.now c.args.self.now c.requires.near c.index.result.now (c.partition_point-count.result - 1)
    (omega (arith, c.partition_point-count.ensures.bound, ap length c.deref.ensures.value, c.if-count-eq0.false)) c.index.ensures).within

pub returns-else-edge-key : goal.returns-else-edge-key
returns-else-edge-key c =
    last_before c.args.forest.now c.args.self.now c.requires.near c.requires.forest c.requires.made c.args.key c.args.k c.requires.step c.partition_point-count.result
    (subst₂ (λ (xs : List NearEdge) (w : ℕ). IsPartitionPoint (λ (e : NearEdge). nat_le e.place w ≡ true) (λ (e : NearEdge). nat_le e.place w ≡ false) xs c.partition_point-count.result)
    c.deref.ensures.value c.place_of-wanted.ensures
    (IsPartitionPoint-from_clause (λ (e : NearEdge). nat_le e.place c.place_of-wanted.result) c.deref.result.now c.partition_point-count.result c.partition_point-count.ensures.partitioned
    (IsPartitionedBy-leb (λ (e : NearEdge). e.place) c.deref.result.now c.place_of-wanted.result
    (subst (λ (xs : List NearEdge). IsNonDecreasingBy (λ e. e.place) xs) (sym c.deref.ensures.value) c.requires.near.order)) (λ a r f' k. search rules)))
    c.index.result.now (omega (arith, c.if-count-eq0.false)) (omega (arith, c.partition_point-count.ensures.bound, ap length c.deref.ensures.value)) (sym c.index.ensures)
    (λ same alive. elim c.else-edge-key.branch [
      | else-edge-key-via-then-edge-key+else-is_alive w ↦ true≢false (sym alive ∙ sym w.is_alive.ensures ∙ w.if-is_alive.false)
      | else-edge-key-via-else-edge-key w ↦ w.if-edge-key.false (ap (λ (e : ForestEdge). e.key) c.edge.ensures.value ∙ same)
    ])
