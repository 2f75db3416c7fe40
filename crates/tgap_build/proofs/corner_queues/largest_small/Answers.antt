-- The area of a small corner times the ratio is at most that of the loser.
use Rattle.std.proofs.Common.{ℕ, ◌≤◌, ◌/◌, unsigned_abs, sym, ap, ◌∙◌, subst}
use Rattle.std.specs.Int.{w128}
use Rattle.std.proofs.lemmas.Int.{to_z-of_z}
use Rattle.tgap_build.proofs.SmallAreas.{largest_small}
use Rattle.tgap_build.proofs.corner_queues.largest_small.Goals as goal

pub returns : goal.returns
returns c = λ n h.
    let area = c.unsigned_abs.ensures.value ∙ ap unsigned_abs (to_z-of_z w128 c.args.loser_area c.ranges.loser_area) in
    subst (λ (d : ℕ). n ≤ c.unsigned_abs.result / d) (sym c.from.ensures)
    (subst (λ (a : ℕ). n ≤ a / c.args.ratio) (sym area) (largest_small c.args.ratio c.args.loser_area n c.requires h))
