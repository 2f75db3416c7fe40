-- The keys are those of all edges that border the face and have a small corner.
use Rattle.std.proofs.Common.{◌≡◌, ◌<◌, ℕ, ℤ, true, List, All, AllPairs, Contains, to_z, of_z, sym, ap, ◌∙◌, subst}
use Rattle.std.specs.Int.{w128}
use Rattle.std.proofs.lemmas.Int.{to_z-of_z}
use Rattle.tgap_model.specs.declared.slice.Edge.{Edge}
use Rattle.tgap_model.specs.Removals.{has_side}
use Rattle.vertex_drop.specs.Corners.{has_small_corner}
use Rattle.vertex_drop.proofs.Candidates.{some_keys_are, some_ascend, some_there, some_are_all}
use Rattle.vertex_drop_tests.proofs.keys.swept_by_keys.Goals as goal

pub sweep_some-requires-clause-ascending : goal.sweep_some-requires-clause-ascending
sweep_some-requires-clause-ascending c =
    let ratio = c.args.ratio in
    let bound = c.args.loser_area in
    let made = c.args.made in
    let live = c.args.live.now in
    let area = to_z-of_z w128 bound c.ranges.loser_area in
    let is =
    some_keys_are ratio bound (to_z w128 (of_z w128 bound)) made c.as_slice-edges.result.now live c.deref.result.now
    (c.deref.ensures.value ∙ c.in_ok-keys.ensures) area (c.as_slice-edges.ensures ∙ c.edges.ensures.value) in
    subst (λ (keys : List ℕ). AllPairs (λ j k. j < k) keys) (sym is) (some_ascend ratio bound made live c.edges.ensures.live.ascending)

pub sweep_some-requires-clause-there : goal.sweep_some-requires-clause-there
sweep_some-requires-clause-there c =
    let ratio = c.args.ratio in
    let bound = c.args.loser_area in
    let made = c.args.made in
    let live = c.args.live.now in
    let area = to_z-of_z w128 bound c.ranges.loser_area in
    let is =
    some_keys_are ratio bound (to_z w128 (of_z w128 bound)) made c.as_slice-edges.result.now live c.deref.result.now
    (c.deref.ensures.value ∙ c.in_ok-keys.ensures) area (c.as_slice-edges.ensures ∙ c.edges.ensures.value) in
    subst (λ (keys : List ℕ). All (λ k. (e : Edge) × Contains live e × (e.key ≡ k) × (has_side made e ≡ true)) keys) (sym is) (some_there ratio bound made live)

pub sweep_some-requires-clause-corners : goal.sweep_some-requires-clause-corners
sweep_some-requires-clause-corners c e there side small =
    let ratio = c.args.ratio in
    let bound = c.args.loser_area in
    let made = c.args.made in
    let live = c.args.live.now in
    let area = to_z-of_z w128 bound c.ranges.loser_area in
    let is =
    some_keys_are ratio bound (to_z w128 (of_z w128 bound)) made c.as_slice-edges.result.now live c.deref.result.now
    (c.deref.ensures.value ∙ c.in_ok-keys.ensures) area (c.as_slice-edges.ensures ∙ c.edges.ensures.value) in
    subst (λ (keys : List ℕ). Contains keys e.key) (sym is)
    (some_are_all ratio bound made live e there side (ap (λ (z : ℤ). has_small_corner ratio z e.points) (sym area) ∙ small))
