-- What is known of a planar partition at every step of its history.
use Rattle.std.proofs.Common.{◌≡◌, ℕ, ◌≤◌, true, false, [], length, All}
use Rattle.std.proofs.lemmas.Bool.{and_from, le-leb}
use Rattle.std.proofs.lemmas.List.Elements.{All-weaker}
use Rattle.tgap_model.specs.declared.geometry.Point.{Point}
use Rattle.tgap_model.specs.declared.base.BaseArc.{BaseArc}
use Rattle.tgap_model.specs.Base.{BaseMap, is_base}
use Rattle.tgap_model.specs.Partition.{base_segments, IsPartition}
use Rattle.tgap_model.specs.History.{AreNumbered, history_of}
use Rattle.tgap_model.specs.Merged.{merged}
use Rattle.tgap_model.specs.Chains.{chains_at}
use Rattle.tgap_model.specs.Removals.{is_removed, removals_to}
use Rattle.tgap_model.proofs.BaseFacts.{ArcFacts, base_facts, each_arc}
use Rattle.map_laws.specs.ChainLaws.{has_base_faces, IsEven, HasEvenSides}
use Rattle.map_laws.proofs.Lists.{all_members, members_all}
use Rattle.face_merge.proofs.Start.{history_numbered}
use Rattle.slice_laws.specs.SliceLaws.{KeepsFaces}
use Rattle.slice_laws.proofs.EvenSides.{chains_keep_faces}
use Rattle.removal_laws.specs.EndLaws.{IsChainEnd}
use Rattle.removal_laws.proofs.EndsStay.{ends_are_not_listed}
use Rattle.removal_laws.proofs.StandOnce.{chains_stand_once}

module _ (m : BaseMap) (base : is_base m ≡ true) (planar : IsPartition (base_segments m)) where
  pub numbered : AreNumbered (length m.classes) (history_of m)
  numbered = history_numbered m base

  pub based : All (λ a. has_base_faces (merged m) a ≡ true) m.arcs
  based = All-weaker (λ a. ArcFacts (length m.classes) a) (λ a. has_base_faces (merged m) a ≡ true) (λ a f. both a f) m.arcs (each_arc m (base_facts m base))
    where
      both : (a : BaseArc) → ArcFacts (length m.classes) a → has_base_faces (merged m) a ≡ true
      both a f = and_from _ _ (le-leb a.left (length m.classes) f.left) (le-leb a.right (length m.classes) f.right)

  pub long : All (λ a. 2 ≤ length a.points) m.arcs
  long = All-weaker (λ a. ArcFacts (length m.classes) a) (λ a. 2 ≤ length a.points) (λ a f. f.two_points) m.arcs (each_arc m (base_facts m base))

  -- along chains the faces stay the same
  pub even : (k : ℕ) → HasEvenSides (merged m) k
  even k =
      all_members (IsEven (merged m) k) (chains_at (merged m) k) (λ c n.
      let f : KeepsFaces (merged m) k [] c = members_all (KeepsFaces (merged m) k []) (chains_at (merged m) k) c (chains_keep_faces m base planar k []) n in
      record { left = f.left; right = f.right })

  -- no end of a chain is removed
  pub ends_stay : (k : ℕ) → k ≤ length (history_of m) → (p : Point) → IsChainEnd m.arcs (chains_at (merged m) k) p → is_removed (removals_to (merged m) k) p ≡ false
  ends_stay k l =
      ends_are_not_listed (merged m) k (record { numbered = numbered; within = l; faces = based; even = λ j less. even j }) long
      (λ j one last. chains_stand_once (merged m) base planar.arcs.apart j)
