-- Entries of two neighbours each, seen as the list of those above and the list of those below.
use Rattle.std.proofs.Common.{◌≡◌, ℕ, List, set, get_or, sym, ap, ◌∙◌}
use Rattle.std.proofs.lemmas.List.{map-set}
use Rattle.std.proofs.Math.ListN.{get_or-map}
use Rattle.std.proofs.Math.Seq.{map-set_same}
use Rattle.linked_row.specs.declared.links.Node.{Node}
use Rattle.linked_row.specs.Linked.{aboves, belows}

module _ (nodes : List Node) (k : ℕ) (n : Node) (read : n ≡ get_or nodes k n) where
  -- what is read at an entry
  pub above_read : n.above ≡ get_or (aboves nodes) k n.above
  above_read = ap (λ (m : Node). m.above) read ∙ sym (get_or-map (λ (m : Node). m.above) nodes k n)

  pub below_read : n.below ≡ get_or (belows nodes) k n.below
  below_read = ap (λ (m : Node). m.below) read ∙ sym (get_or-map (λ (m : Node). m.below) nodes k n)

  -- a write of one neighbour, which changes one list
  pub above_written : (upper : ℕ) → let written = set nodes k (record { above = upper; below = n.below }) in (aboves written ≡ set (aboves nodes) k upper) × (belows written ≡ belows nodes)
  above_written upper =
      let entry : Node = record { above = upper; below = n.below } in
      (map-set (λ (m : Node). m.above) nodes k entry, map-set_same (λ (m : Node). m.below) nodes k entry n (ap (λ (m : Node). m.below) read))

  pub below_written : (lower : ℕ) → let written = set nodes k (record { above = n.above; below = lower }) in (aboves written ≡ aboves nodes) × (belows written ≡ set (belows nodes) k lower)
  below_written lower =
      let entry : Node = record { above = n.above; below = lower } in
      (map-set_same (λ (m : Node). m.above) nodes k entry n (ap (λ (m : Node). m.above) read), map-set (λ (m : Node). m.below) nodes k entry)
