-- The law of pieces, at every step of the history of a planar partition.
use Rattle.std.proofs.Common.{◌≡◌, ℕ, ◌+◌, ◌-◌, ◌<◌, ◌≤◌, length, subst, arith}
use Rattle.tgap_model.specs.History.{history_of}
use Rattle.tgap_model.specs.Merged.{merged}
use Rattle.tgap_model.specs.Chains.{chains_at}
use Rattle.tgap_model.specs.Removals.{removals_to}
use Rattle.map_laws.proofs.ChainMembers.{Among}
use Rattle.map_laws.proofs.Lists.{all_members}
use Rattle.record_laws.specs.PieceLaws.{CutsIntoEdges, PiecesAreEdges}
use Rattle.record_laws.proofs.MapFacts.{numbered, based, long, even, ends_stay}
use Rattle.record_laws.proofs.PieceCuts.{chain_cut, chain_keys, chain_turned, chain_places_ascend, chain_places_end}

pub pieces_are_edges : PiecesAreEdges
pieces_are_edges m base planar j one last at_left = all_members (CutsIntoEdges (merged m) j at_left) (chains_at (merged m) j) (λ c n.
    let o : Among c (chains_at (merged m) (k + 1)) = subst (λ (i : ℕ). Among c (chains_at (merged m) i)) back n in
    record {
      keys = chain_keys (merged m) k (numbered m base planar) small (based m base planar) (even m base planar k) (long m base planar)
          (removals_to (merged m) k) (ends_stay m base planar k within) j at_left c o;
      turned = chain_turned (merged m) k (numbered m base planar) small (based m base planar) (even m base planar k) (long m base planar)
          (removals_to (merged m) k) (ends_stay m base planar k within) j at_left c o;
      points = chain_cut (merged m) k (numbered m base planar) small (based m base planar) (even m base planar k) (long m base planar)
          (removals_to (merged m) k) (ends_stay m base planar k within) j at_left c o;
      ascend = chain_places_ascend (merged m) k (numbered m base planar) small (based m base planar) (even m base planar k) (long m base planar)
          (removals_to (merged m) k) (ends_stay m base planar k within) j at_left c o;
      ends = chain_places_end (merged m) k (numbered m base planar) small (based m base planar) (even m base planar k) (long m base planar)
          (removals_to (merged m) k) (ends_stay m base planar k within) j at_left c o;
    })
  where
    k : ℕ
    k = j - 1

    back : j ≡ k + 1
    back = omega (arith, one)

    small : k < length (history_of m)
    small = omega (arith, one, last)

    within : k ≤ length (history_of m)
    within = omega (arith, small)
