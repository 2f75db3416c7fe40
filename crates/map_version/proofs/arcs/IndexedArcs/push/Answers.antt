use Rattle.std.proofs.Common.{◌≡◌, ◌∙◌, ◌+◌, ◌++◌, ◌∷◌, ◌&&◌, ◌||◌, ◌==◌, ℕ, [], List, length, sym, ap, subst, arith}
use Rattle.std.specs.List.{list_any}
use Rattle.std.specs.Vec.{vec_len}
use Rattle.tgap_model.specs.declared.geometry.Point.{Point}
use Rattle.tgap_model.specs.declared.base.BaseArc.{BaseArc}
use Rattle.tgap_model.specs.Base.{same_point, borders_face}
use Rattle.arc_places.specs.Places.{is_among, listed}
use Rattle.arc_places.specs.Borders.{bordering}
use Rattle.map_version.specs.Indexed.{AreCounted, AreIndexed}
use Rattle.map_version.proofs.Counting.{counted_more}
use Rattle.map_version.proofs.Relisting.{pushed_borders, pushed_places}
use Rattle.map_version.proofs.arcs.IndexedArcs.push.Goals as goal

pub invariant_of-result : goal.invariant_of-result
invariant_of-result c =
    let slots = c.self.inside.slots.items in
    let a = c.args.arc in
    let counts = c.self.inside.counts in
    let long : vec_len c.self.inside.slots ≡ length slots = omega (arith, c.self.inside.slots.ok.0) in
    subst (λ (xs : List BaseArc). AreIndexed xs c.list_points.new.self c.list_sides.new.self (record { arcs = counts.arcs + 1; points = counts.points + c.len.result })) (sym c.in_ok-push.ensures.items)
    (record {
      by_point = pushed_places (listed c.self.inside.places) (listed c.list_points.new.self) slots a
          (λ p i. c.in_ok-list_points.ensures p i
          ∙ (ap (λ (n : ℕ). is_among i (listed c.self.inside.places p) || ((n == i) && list_any (same_point p) c.as_slice.result.now)) (c.len-3.ensures ∙ long)
          ∙ ap (λ (points : List Point). is_among i (listed c.self.inside.places p) || ((length slots == i) && list_any (same_point p) points)) c.as_slice.ensures))
          c.self.invariant.by_point;
      by_face = pushed_borders (bordering c.self.inside.borders) (bordering c.list_sides.new.self) slots a
          (λ f i. c.in_ok-list_sides.ensures.listed f i
          ∙ ap (λ (n : ℕ). is_among i (bordering c.self.inside.borders f) || ((n == i) && borders_face f a)) (c.len-4.ensures ∙ long))
          c.self.invariant.by_face;
      counted = subst (λ (n : ℕ). AreCounted (slots ++ a ∷ []) (record { arcs = counts.arcs + 1; points = counts.points + n })) (sym c.len.ensures) (counted_more slots a counts c.requires.some c.self.invariant.counted);
    })
