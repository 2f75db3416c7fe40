use Rattle.std.proofs.Common.{◌≡◌, ◌++◌, ◌<◌, List, length, All}
use Rattle.std.specs.Prelude.{flat_map}
use Rattle.tgap_model.specs.declared.geometry.Point.{Point}
use Rattle.tgap_model.specs.declared.slice.Removal.{Removal}
use Rattle.tgap_model.specs.Removals.{is_removed}
use Rattle.tgap_build.specs.Changes.{made_mends}
use Rattle.tgap_build.specs.Running.{has_point}
use Rattle.tgap_build.proofs.mends.mends_of.Given as goal

-- the mends so far, and those of the rest
abbrev pub invariant-loop-one : goal.invariant-loop-one
invariant-loop-one l = record {
  mends : (now : List Removal) → ((p : Point) → has_point l.gone p ≡ is_removed now p)
      → l.mends ++ flat_map (made_mends l.edges.places.items l.step.loser now) l.one-iterator.rest.items ≡ flat_map (made_mends l.edges.places.items l.step.loser now) l.fn.made.items;
  inside : All (λ one. one.key < length l.edges.places.items) l.one-iterator.rest.items;
}
